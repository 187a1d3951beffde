-- The loop that counts depths anew, and what it makes of the rows of a place.
use Rattle.std.specs.Prelude.{◌≡◌, true, get_or, replicate}
use Rattle.std.proofs.Math.Path.{refl, sym, ap}
use Rattle.std.proofs.Common.{◌∙◌, add-one}
use mathlib.Core.List.{List, [], ◌∷◌, ◌++◌, map, map-append, append_assoc}
use Prim.Native.Nat.{ℕ, suc, ◌+◌, ◌-◌, ◌*◌, ◌≤◌, ◌<◌}
use native.Mathlib.Omega.{arith}
use Rattle.std.proofs.Math.ListN.{length, set, length-append}
use Rattle.std.proofs.Math.Seq.{paste}
use Rattle.std.proofs.lemmas.List.{set_at, get_or_at}
use Rattle.buffers.specs.Cases.{and_both}
use Rattle.buffers.specs.Text.{every}
use Rattle.buffers.specs.Fields.{two_bytes, padded, all_bytes}
use Rattle.buffers.specs.FieldsLaws.{length_padded}
use Rattle.buffers.specs.PasteLaws.{paste_piece}
use Rattle.syntax.specs.Path.{Name}
use Rattle.tree.specs.Layout.{row_width, name_offset, name_width, content_width, base_width}
use Rattle.tree.specs.Forest.{Forest, nil, node, Place, size, height}
use Rattle.tree.proofs.ForestLaws.{height_node}
use Rattle.tree.specs.Node.{Node}
use Rattle.tree.specs.Rows.{Row, flatten}
use Rattle.tree.specs.RowPlaces.{place_rows}
use Rattle.tree.proofs.RowPlacesLaws.{length_place_rows}
use Rattle.tree.specs.Encoding.{kind_byte, tag_bytes, row_bytes}
use Rattle.tree.proofs.EncodingLaws.{fits, fits_parts, fits_of, length_fitting}
use Rattle.moving.specs.Relabel.{shifted, depths_shifted, relabelled}

-- ---- the loop

pub shift_again : (old new i n : ℕ) (b : List ℕ) → i < n
    → depths_shifted old new (i + 1) (n - (i + 1)) (set b (row_width * i) (shifted old new (get_or b (row_width * i) 0))) ≡ depths_shifted old new i (n - i) b
unfolding depths_shifted
shift_again old new i n b h = let g : n - i ≡ suc (n - suc i) = omega arith in rw (add-one i, g)

pub shift_end : (old new i n : ℕ) (b : List ℕ) → n ≤ i → b ≡ depths_shifted old new i (n - i) b
unfolding depths_shifted
shift_end old new i n b h = let g : n - i ≡ 0 = omega arith in rw g

-- ---- rows

one_row_on : (i : ℕ) {a b : ℕ} → b ≡ row_width → a ≡ row_width * i → a + b ≡ row_width * suc i
one_row_on i e f = omega arith

rows_regrouped : (P L R Q : List ℕ) → (P ++ L) ++ (R ++ Q) ≡ P ++ ((L ++ R) ++ Q)
rows_regrouped P L R Q = simp append_assoc

module _ (old new : ℕ) where
  -- a row at its new depth
  lifted : Row Node → Row Node
  lifted r = record { depth = shifted old new r.depth; name = r.name; here = r.here }

  -- as far from the new depth as it was from the old one
  shifted_to : (k j : ℕ) → k + new ≡ j + old → j < 256 → shifted old new k ≡ j
  unfolding shifted
  shifted_to k j e h = omega arith

  -- the rows of siblings
  lifted_forest : (k j : ℕ) (F : Forest Node) → k + new ≡ j + old → j + height F ≤ 256 → map lifted (flatten k F) ≡ flatten j F
  unfolding flatten lifted
  lifted_forest k j nil e h = refl
  lifted_forest k j (node n x cs rest) e h =
      let l = height_node n x cs rest in
      let A = flatten (suc k) cs in
      let B = flatten k rest in
      ap (λ (i : ℕ). record { depth = i; name = n; here = x } ∷ map lifted (A ++ B)) (shifted_to k j e (omega arith))
      ∙ ap (λ (l : List (Row Node)). record { depth = j; name = n; here = x } ∷ l)
      (map-append lifted A B
      ∙ ap (λ (l : List (Row Node)). l ++ map lifted B) (lifted_forest (suc k) (suc j) cs (omega arith) (omega arith))
      ∙ ap (λ (l : List (Row Node)). flatten (suc j) cs ++ l) (lifted_forest k j rest e (omega arith)))

  -- and of a place
  lifted_place : (m : Name) (d : Place Node) → new + height d.below < 256 → map lifted (place_rows old m d) ≡ place_rows new m d
  unfolding place_rows lifted
  lifted_place m d h =
      ap (λ (i : ℕ). record { depth = i; name = m; here = d.here } ∷ map lifted (flatten (suc old) d.below)) (shifted_to old new (omega arith) (omega arith))
      ∙ ap (λ (l : List (Row Node)). record { depth = new; name = m; here = d.here } ∷ l)
      (lifted_forest (suc old) (suc new) d.below (omega arith) (omega arith))

  -- ---- bytes

  -- the bytes of a row behind its depth
  body : Row Node → List ℕ
  body r =
      let n = r.here in
      (kind_byte n.kind ∷ n.owner.0 ∷ n.group.0 ∷ [])
      ++ (two_bytes n.mode ++ (two_bytes n.revision ++ (padded name_width r.name ++ (tag_bytes n.tag ++ (padded content_width n.content ++ replicate base_width 0)))))

  depth_first : (r : Row Node) → (row_bytes r ≡ r.depth ∷ body r) × (row_bytes (lifted r) ≡ shifted old new r.depth ∷ body r)
  unfolding row_bytes body lifted
  depth_first r = (refl, refl)

  -- one depth changed
  one_shifted : (P T : List ℕ) (i v : ℕ) → length P ≡ row_width * i
      → set (P ++ v ∷ T) (row_width * i) (shifted old new (get_or (P ++ v ∷ T) (row_width * i) 0)) ≡ P ++ shifted old new v ∷ T
  one_shifted P T i v l = rw (get_or_at P v T 0 (row_width * i) l) (set_at P v T (shifted old new v) (row_width * i) l)

  length_lifted : (r : Row Node) → fits r ≡ true → length (row_bytes (lifted r)) ≡ row_width
  unfolding lifted
  length_lifted r h = let w = fits_parts r h in length_fitting (lifted r) (fits_of (shifted old new r.depth) r.name r.here w.0 w.1)

  -- the depths of all rows changed
  all_shifted : (rs : List (Row Node)) (P Q : List ℕ) (i : ℕ) → length P ≡ row_width * i → every fits rs ≡ true
      → depths_shifted old new i (length rs) (P ++ (all_bytes row_bytes rs ++ Q)) ≡ P ++ (all_bytes row_bytes (map lifted rs) ++ Q)
  unfolding depths_shifted all_bytes every
  all_shifted [] P Q i l h = refl
  all_shifted (r ∷ rs) P Q i l h =
      let w = and_both (fits r) (every fits rs) h in
      let k = length_lifted r w.0 in
      let z = depth_first r in
      let v = r.depth in
      let B = all_bytes row_bytes rs ++ Q in
      let T = body r ++ B in
      let L = row_bytes (lifted r) in
      let R = all_bytes row_bytes (map lifted rs) in
      let A = P ++ ((row_bytes r ++ all_bytes row_bytes rs) ++ Q) in
      let was : A ≡ P ++ v ∷ T =
      ap (λ (s : List ℕ). P ++ ((s ++ all_bytes row_bytes rs) ++ Q)) z.0
      ∙ ap (λ (s : List ℕ). P ++ v ∷ s) (append_assoc (body r) (all_bytes row_bytes rs) Q) in
      let is : P ++ shifted old new v ∷ T ≡ (P ++ L) ++ B =
      ap (λ (s : List ℕ). P ++ (s ++ B)) (sym z.1) ∙ sym (append_assoc P L B) in
      let step : set A (row_width * i) (shifted old new (get_or A (row_width * i) 0)) ≡ (P ++ L) ++ B =
      ap (λ (s : List ℕ). set s (row_width * i) (shifted old new (get_or s (row_width * i) 0))) was ∙ one_shifted P T i v l ∙ is in
      let lP : length (P ++ L) ≡ row_width * suc i = length-append P L ∙ one_row_on i k l in
      ap (depths_shifted old new (suc i) (length rs)) step
      ∙ all_shifted rs (P ++ L) Q (suc i) lP w.1
      ∙ rows_regrouped P L R Q

-- ---- the name

-- the bytes of a place's rows before the name of the first, and those behind it
module _ (k : ℕ) (d : Place Node) where
  head : List ℕ
  head =
      let x = d.here in
      (k ∷ kind_byte x.kind ∷ x.owner.0 ∷ x.group.0 ∷ []) ++ (two_bytes x.mode ++ two_bytes x.revision)

  tail : List ℕ
  tail =
      let x = d.here in
      tag_bytes x.tag ++ (padded content_width x.content ++ (replicate base_width 0 ++ all_bytes row_bytes (flatten (suc k) d.below)))

  length_head : length head ≡ name_offset
  unfolding head two_bytes
  length_head = refl

  first_byte : (R : List ℕ) → get_or (head ++ R) 0 0 ≡ k
  unfolding head
  first_byte R = refl

  -- the name stands between them
  name_between : (n : Name) (Q : List ℕ) → all_bytes row_bytes (place_rows k n d) ++ Q ≡ head ++ (padded name_width n ++ (tail ++ Q))
  unfolding head tail all_bytes place_rows row_bytes two_bytes
  name_between n Q = simp append_assoc

  -- and is written there
  renamed : (m n : Name) (Q : List ℕ) → length m ≤ name_width → length n ≤ name_width
      → paste (all_bytes row_bytes (place_rows k m d) ++ Q) name_offset (padded name_width n) name_width ≡ all_bytes row_bytes (place_rows k n d) ++ Q
  renamed m n Q a b =
      ap (λ (s : List ℕ). paste s name_offset (padded name_width n) name_width) (name_between m Q)
      ∙ paste_piece head (tail ++ Q) (padded name_width m) (padded name_width n) name_offset name_width length_head (length_padded name_width m a) (length_padded name_width n b)
      ∙ sym (name_between n Q)

name_fitting : (k : ℕ) (m : Name) (d : Place Node) → every fits (place_rows k m d) ≡ true → length m ≤ name_width
unfolding place_rows every
name_fitting k m d f =
    let r : Row Node = record { depth = k; name = m; here = d.here } in
    (fits_parts r (and_both (fits r) (every fits (flatten (suc k) d.below)) f).0).1.0

-- the rows of a well-formed place at another depth and under another name
pub relabelled_place : (k k' : ℕ) (m n : Name) (d : Place Node) (Q : List ℕ) → every fits (place_rows k m d) ≡ true → length n ≤ name_width
    → k' + height d.below < 256
    → relabelled (suc (size d.below)) k' n (all_bytes row_bytes (place_rows k m d) ++ Q) ≡ all_bytes row_bytes (place_rows k' n d) ++ Q
unfolding relabelled
relabelled_place k k' m n d Q f b h =
    let rs = place_rows k m d in
    let B = all_bytes row_bytes rs ++ Q in
    let first : get_or B 0 0 ≡ k = ap (λ (s : List ℕ). get_or s 0 0) (name_between k d m Q) ∙ first_byte k d (padded name_width m ++ (tail k d ++ Q)) in
    let l : suc (size d.below) ≡ length rs = sym (length_place_rows k m d) in
    ap (λ (o : ℕ). paste (depths_shifted o k' 0 (suc (size d.below)) B) name_offset (padded name_width n) name_width) first
    ∙ ap (λ (j : ℕ). paste (depths_shifted k k' 0 j B) name_offset (padded name_width n) name_width) l
    ∙ ap (λ (s : List ℕ). paste s name_offset (padded name_width n) name_width) (all_shifted k k' rs [] Q 0 (omega arith) f)
    ∙ ap (λ (s : List (Row Node)). paste (all_bytes row_bytes s ++ Q) name_offset (padded name_width n) name_width) (lifted_place k k' m d h)
    ∙ renamed k' d m n Q (name_fitting k m d f) b
