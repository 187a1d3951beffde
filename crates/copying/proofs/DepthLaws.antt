-- The greatest depth among copies: row by row, and among the rows of a place as they are written.
use Rattle.std.specs.Prelude.{◌≡◌, refl, List, [], ◌∷◌, ◌++◌, true, ℕ, suc, ◌+◌, ◌-◌, ◌*◌, ◌≤◌, ◌<◌, length, take, drop}
use Rattle.std.proofs.Common.{sym, ◌∙◌, ap, append_assoc, arith, add-one, length-append, length-take-le, take_at, drop_at}
use Rattle.buffers.specs.Cases.{and_both}
use Rattle.buffers.specs.Text.{every}
use Rattle.buffers.specs.Fields.{all_bytes}
use Rattle.syntax.specs.Path.{Name}
use Rattle.tree.specs.Layout.{row_width, row_start}
use Rattle.tree.specs.Forest.{Place, larger, height}
use Rattle.tree.specs.Node.{Node}
use Rattle.tree.specs.Rows.{Row}
use Rattle.tree.specs.RowPlaces.{place_rows}
use Rattle.tree.specs.Encoding.{row_bytes, read_row}
use Rattle.tree.specs.RowAt.{row_bytes_at, row_at}
use Rattle.walks.specs.RowBelow.{deepest_in}
use Rattle.walks.specs.RowBelowLaws.{deepest_place}
use Rattle.copying.specs.CopyRows.{is_wide, Written, deepest_from}
use Rattle.copying.proofs.CopyBytesLaws.{depth_of_bytes}
use Rattle.copying.proofs.RowsWrittenLaws.{row_is_wide, written_pieces}

-- ---- row by row

-- one row more
pub deepest_again : (b : List ℕ) (m i n : ℕ) → i < n
    → deepest_from b (larger m (row_at b i).depth) (i + 1) (n - (i + 1)) ≡ deepest_from b m i (n - i)
unfolding deepest_from
deepest_again b m i n h = let g : n - i ≡ suc (n - suc i) = omega arith in rw (add-one i, g)

-- no row left
pub deepest_done : (b : List ℕ) (m i n : ℕ) → n ≤ i → m ≡ deepest_from b m i (n - i)
unfolding deepest_from
deepest_done b m i n h = let g : n - i ≡ 0 = omega arith in rw g

-- ---- rows that were written

-- a row between other bytes has its depth
depth_between : (P R Q : List ℕ) (r : Row Node) (i : ℕ) → R ≡ row_bytes r → length P ≡ row_start i → length R ≡ row_width → (row_at (P ++ (R ++ Q)) i).depth ≡ r.depth
unfolding row_at row_bytes_at
depth_between P R Q r i e l w =
    ap (λ (s : List ℕ). (read_row (take row_width s)).depth) (drop_at P (R ++ Q) (row_start i) l)
    ∙ ap (λ (s : List ℕ). (read_row s).depth) (take_at R Q row_width w ∙ e)
    ∙ depth_of_bytes r

-- and so have all rows between other bytes
deepest_between : (rs : List (Row Node)) (P Q : List ℕ) (m i : ℕ) → length P ≡ row_start i → every is_wide rs ≡ true
    → deepest_from (P ++ (all_bytes row_bytes rs ++ Q)) m i (length rs) ≡ deepest_in m rs
unfolding deepest_from deepest_in all_bytes every
deepest_between [] P Q m i l h = refl
deepest_between (r ∷ rs) P Q m i l h =
    let w = and_both (is_wide r) (every is_wide rs) h in
    let R = row_bytes r in
    let B = all_bytes row_bytes rs in
    let v = row_is_wide r w.0 in
    let one : P ++ ((R ++ B) ++ Q) ≡ P ++ (R ++ (B ++ Q)) = ap (λ (s : List ℕ). P ++ s) (append_assoc R B Q) in
    let d : (row_at (P ++ ((R ++ B) ++ Q)) i).depth ≡ r.depth = ap (λ (s : List ℕ). (row_at s i).depth) one ∙ depth_between P R (B ++ Q) r i refl l v in
    ap (λ (k : ℕ). deepest_from (P ++ ((R ++ B) ++ Q)) (larger m k) (suc i) (length rs)) d
    ∙ ap (λ (s : List ℕ). deepest_from s (larger m r.depth) (suc i) (length rs)) (one ∙ sym (append_assoc P R (B ++ Q)))
    ∙ deepest_between rs (P ++ R) Q (larger m r.depth) (suc i) (length-append P R ∙ omega arith) w.1

-- the greatest depth among rows that were written
deepest_written : {o z : List ℕ} {r : ℕ} {rs : List (Row Node)} → Written o 0 rs r z → row_start 0 ≤ length o → deepest_from z 0 0 r ≡ deepest_in 0 rs
deepest_written {o} {z} {r} {rs} v room =
    let P = take (row_start 0) o in
    let D = drop (row_start 0 + row_width * length rs) o in
    let k : r ≡ length rs = omega (arith, v.next) in
    ap (λ (s : List ℕ). deepest_from s 0 0 r) (written_pieces v)
    ∙ ap (deepest_from (P ++ (all_bytes row_bytes rs ++ D)) 0 0) k
    ∙ deepest_between rs P D 0 0 (length-take-le (row_start 0) o room) v.wide

-- among those of a place at depth k
pub deepest_of_place : {o z : List ℕ} {r : ℕ} (k : ℕ) (n : Name) (d : Place Node) → Written o 0 (place_rows k n d) r z → row_start 0 ≤ length o
    → deepest_from z 0 0 r ≡ k + height d.below
deepest_of_place k n d v room = deepest_written v room ∙ deepest_place k n d
