-- Rows written one behind the other: none, one, and others behind them; what stays of the bytes before.
use Rattle.std.specs.Prelude.{◌≡◌, refl, List, [], ◌∷◌, ◌++◌, true, ℕ, ◌+◌, ◌*◌, ◌≤◌, ◌<◌, length, take, drop}
use Rattle.std.proofs.Common.{sym, ◌∙◌, ap, append_assoc, append-nil, arith, length-append, take_all, eqb-true, eq-eqb}
use Rattle.std.proofs.Math.Seq.{paste, paste-zero}
use Rattle.std.proofs.lemmas.List.Edits.{length-paste}
use Rattle.buffers.specs.Text.{every}
use Rattle.buffers.specs.TextLaws.{every_append}
use Rattle.buffers.specs.Fields.{all_bytes}
use Rattle.buffers.specs.TableLaws.{all_bytes_append, length_all_bytes}
use Rattle.buffers.specs.PasteLaws.{paste_join}
use Rattle.tree.specs.Layout.{row_width, row_start}
use Rattle.tree.specs.Node.{Node}
use Rattle.tree.specs.Rows.{Row}
use Rattle.tree.specs.Encoding.{row_bytes}
use Rattle.tree.specs.RowAt.{row_at, tag_text_at}
use Rattle.copying.specs.CopyRows.{row_put, is_wide, Written}
use Rattle.copying.proofs.CopyBytesLaws.{tag_beside, depth_beside}

-- the same rows under another name
pub written_as : {o z : List ℕ} {to r : ℕ} {xs ys : List (Row Node)} → xs ≡ ys → Written o to xs r z → Written o to ys r z
written_as q v = rw q at v

-- a row that is as wide as rows are
pub row_is_wide : (r : Row Node) → is_wide r ≡ true → length (row_bytes r) ≡ row_width
unfolding is_wide
row_is_wide r h = eqb-true (length (row_bytes r)) row_width h

-- rows written take their widths
pub written_width : {o z : List ℕ} {to r : ℕ} {rs : List (Row Node)} → Written o to rs r z → length (all_bytes row_bytes rs) ≡ row_width * length rs
written_width {rs = rs} v = length_all_bytes row_width is_wide row_bytes row_is_wide rs v.wide ∙ omega arith

-- no rows
pub written_nothing : (o : List ℕ) (to : ℕ) → Written o to [] to o
unfolding all_bytes every
written_nothing o to = record { next = omega arith; bytes = paste-zero o (row_start to) []; wide = refl }

-- one row
pub written_one : (o z : List ℕ) (to : ℕ) (r : Row Node) → length (row_bytes r) ≡ row_width → z ≡ row_put o to r → Written o to (r ∷ []) (to + 1) z
unfolding all_bytes every is_wide
written_one o z to r l e =
    let q = append-nil (row_bytes r) in
    record { next = omega arith; bytes = e ∙ ap (λ (s : List ℕ). paste o (row_start to) s row_width) (sym q); wide = rw (eq-eqb (length (row_bytes r)) row_width l) }

module _ {o z : List ℕ} {to r : ℕ} {xs : List (Row Node)} (v : Written o to xs r z) where
  -- and others behind them
  pub written_join : {y : List ℕ} {q : ℕ} {ys : List (Row Node)} → Written z r ys q y → row_start (to + length xs + length ys) ≤ length o → Written o to (xs ++ ys) q y
  written_join {y} {q} {ys} w fits =
      let X = all_bytes row_bytes xs in
      let Y = all_bytes row_bytes ys in
      let l = length-append xs ys in
      let a = all_bytes_append row_bytes xs ys in
      let i : row_start r ≡ row_start to + row_width * length xs = omega (arith, v.next) in
      let s : row_width * length xs + row_width * length ys ≡ row_width * length (xs ++ ys) = omega arith in
      record {
        next = omega (arith, v.next, w.next);
        bytes =
            w.bytes
            ∙ ap (λ (b : List ℕ). paste b (row_start r) Y (row_width * length ys)) v.bytes
            ∙ ap (λ (j : ℕ). paste (paste o (row_start to) X (row_width * length xs)) j Y (row_width * length ys)) i
            ∙ paste_join o X Y (row_start to) (row_width * length xs) (row_width * length ys) (written_width v) (written_width w) (omega arith)
            ∙ ap (paste o (row_start to) (X ++ Y)) s
            ∙ ap (λ (b : List ℕ). paste o (row_start to) b (row_width * length (xs ++ ys))) (sym a);
        wide = every_append is_wide xs ys ∙ rw (v.wide, w.wide);
      }

  -- they stand between the bytes before and behind
  pub written_pieces : z ≡ take (row_start to) o ++ (all_bytes row_bytes xs ++ drop (row_start to + row_width * length xs) o)
  written_pieces =
      let X = all_bytes row_bytes xs in
      let D = drop (row_start to + row_width * length xs) o in
      v.bytes
      ∙ ap (λ (x : List ℕ). take (row_start to) o ++ x ++ D) (take_all (row_width * length xs) X (omega (arith, written_width v)))
      ∙ append_assoc (take (row_start to) o) X D

  -- as many bytes are left
  pub written_length : row_start (to + length xs) ≤ length o → length z ≡ length o
  written_length fits =
      let X = all_bytes row_bytes xs in
      ap length v.bytes ∙ length-paste o (row_start to) X (row_width * length xs) (omega arith) (omega (arith, written_width v))

  module _ (i : ℕ) (h : i < to) (fits : row_start to ≤ length o) where
    -- the tags of the rows before them stay
    pub tag_kept : tag_text_at z i ≡ tag_text_at o i
    tag_kept = ap (λ (s : List ℕ). tag_text_at s i) v.bytes ∙ tag_beside o (all_bytes row_bytes xs) (row_width * length xs) i to h fits

    -- and so do their depths
    pub depth_kept : (row_at z i).depth ≡ (row_at o i).depth
    depth_kept = ap (λ (s : List ℕ). (row_at s i).depth) v.bytes ∙ depth_beside o (all_bytes row_bytes xs) (row_width * length xs) i to h fits
