-- Bytes pass the test row by row just if they are those of a well-formed tree.
use Rattle.std.specs.Prelude.{◌≡◌, true, ◌&&◌, eqb, leb, take}
use Rattle.std.proofs.Math.Path.{refl, sym, ap, ap₂}
use Rattle.std.proofs.Common.{◌∙◌, arith, suc-mul, add_comm, take-append-drop, length-drop, take-add, take_at, drop-drop, leb-true, le-leb, eqb-true, eq-eqb}
use mathlib.Core.List.{List, [], ◌∷◌, ◌++◌, append_assoc}
use Rattle.std.proofs.Math.Option.{Option, none, some}
use Prim.Native.Nat.{ℕ, zero, suc, ◌+◌, ◌-◌, ◌*◌, ◌≤◌}
use Rattle.std.proofs.Math.ListN.{length, drop, replicate}
use Rattle.std.proofs.Math.Seq.{drop_at}
use Rattle.buffers.specs.Cases.{case, and_both, contra}
use Rattle.buffers.specs.Text.{same_text, every}
use Rattle.buffers.specs.TextLaws.{no_bytes, same_text_refl, same_text_sound}
use Rattle.buffers.specs.Fields.{two_bytes, all_bytes, all_from, all_zero}
use Rattle.buffers.specs.TableLaws.{length_all_bytes}
use Rattle.syntax.specs.Form.{is_some}
use Rattle.syntax.proofs.FormLaws.{no_answer}
use Rattle.tree.specs.Layout.{row_width, tree_width, row_start}
use Rattle.tree.specs.Forest.{Place}
use Rattle.tree.specs.Node.{is_directory, Node}
use Rattle.tree.specs.Rows.{Row, rows}
use Rattle.tree.proofs.RowLaws.{length_rows}
use Rattle.tree.specs.WellFormed.{most_nodes, is_node, is_tree}
use Rattle.tree.proofs.WellFormedLaws.{place_parts, place_of_parts, tree_parts, tree_of_parts, most_nodes_is}
use Rattle.tree.specs.Encoding.{row_bytes, read_row, encode_rows, encode_tree, decode_tree}
use Rattle.tree.proofs.EncodingLaws.{fits, fits_parts, tree_fits, length_fitting, fitting_back, length_encode_tree, decode_encode_tree, encode_decode_tree}
use Rattle.tree.specs.RowAt.{row_count, all_rows}
use Rattle.tree.proofs.RowAtLaws.{length_all_rows, all_rows_of_tree, row_count_of_tree}
use Rattle.soundness.specs.Sound.{is_row, row_stretches, in_order, is_top_row, form_tree, is_count, is_sound}
use Rattle.soundness.specs.OrderLaws.{forest_of_rows, forest_in_order}

-- ---- zeros

zeros_are : (l : List ℕ) → all_zero l ≡ true → l ≡ replicate (length l) 0
unfolding all_zero every
zeros_are [] h = refl
zeros_are (b ∷ l) h = let i = and_both (eqb b 0) (all_zero l) h in ap₂ ◌∷◌ (eqb-true b 0 i.0) (zeros_are l i.1)

all_zero_zeros : (n : ℕ) → all_zero (replicate n 0) ≡ true
unfolding all_zero every
all_zero_zeros zero = refl
all_zero_zeros (suc n) = all_zero_zeros n

-- ---- the bytes of rows

-- rows that are read from their own bytes are in range, and their bytes are these
stretches_are : (n : ℕ) (x : List ℕ) → every is_row (all_from row_width (λ s. s) n x) ≡ true
    → (every (λ r. is_node r.here) (all_from row_width read_row n x) ≡ true) × (all_bytes row_bytes (all_from row_width read_row n x) ≡ take (n * row_width) x)
unfolding all_from all_bytes every is_row
stretches_are zero x h = (refl, refl)
stretches_are (suc n) x h =
    let s = take row_width x in
    let i = and_both (is_row s) (every is_row (all_from row_width (λ s. s) n (drop row_width x))) h in
    let j = and_both (is_node (read_row s).here) (same_text (row_bytes (read_row s)) s) i.0 in
    let k = stretches_are n (drop row_width x) i.1 in (
      rw j.0 k.0,
      ap₂ ◌++◌ (same_text_sound (row_bytes (read_row s)) s j.1) k.1 ∙ sym (take-add row_width (n * row_width) x) ∙ ap (λ (k : ℕ). take k x) (add_comm row_width (n * row_width) ∙ sym (suc-mul n row_width)),
    )

-- the bytes of rows in range, one after another, are those of each
stretches_of : (rs : List (Row Node)) (Q : List ℕ) → every fits rs ≡ true
    → every is_row (all_from row_width (λ s. s) (length rs) (all_bytes row_bytes rs ++ Q)) ≡ true
unfolding all_from all_bytes every is_row
stretches_of [] Q h = refl
stretches_of (r ∷ rs) Q h =
    let i = and_both (fits r) (every fits rs) h in
    let l = length_fitting r i.0 in
    let B = all_bytes row_bytes rs ++ Q in
    rw (append_assoc (row_bytes r) (all_bytes row_bytes rs) Q, take_at (row_bytes r) B row_width l, drop_at (row_bytes r) B row_width l)
    (rw (fitting_back r i.0, (fits_parts r i.0).0, same_text_refl (row_bytes r)) (stretches_of rs Q i.1))

-- ---- the rows of a tree

-- rows that form a tree are those of a well-formed one
tree_of_form : (rs : List (Row Node)) → form_tree rs ≡ true → every (λ r. is_node r.here) rs ≡ true → length rs ≤ 256
    → (t : Place Node) × ((is_tree t ≡ true) × (rows t ≡ rs))
unfolding form_tree is_top_row every rows
tree_of_form [] h v l = contra {b = true} refl (sym h)
tree_of_form (r ∷ rs) h v l =
    let k = r.here.kind in
    let i = and_both (is_top_row r) (in_order [] k rs) h in
    let j = and_both (eqb r.depth 0 && eqb (length r.name) 0) (is_directory k) i.0 in
    let m = and_both (eqb r.depth 0) (eqb (length r.name) 0) j.0 in
    let w = and_both (is_node r.here) (every (λ r. is_node r.here) rs) v in
    let f = forest_of_rows k rs w.1 i.1 in
    let t : Place Node = record { here = r.here; below = f.0 } in
    let d = eqb-true r.depth 0 m.0 in
    let n = no_bytes r.name (eqb-true (length r.name) 0 m.1) in
    let e : rows t ≡ r ∷ rs = ap₂ ◌∷◌ (λ i. record { depth = sym d i; name = sym n i; here = r.here }) (sym f.1.0) in
    let q = length_rows t in
    let c : length (rows t) ≡ length (r ∷ rs) = ap length e in (
      t,
      (
        tree_of_parts t (record {
          directory = j.1;
          whole = place_of_parts t (record { own = w.0; childless = λ x. contra j.1 x; forest = f.1.1.0 });
          low = f.1.1.1;
          few = omega arith;
        }),
        e,
      ),
    )

-- the rows of a well-formed tree form one
form_of_tree : (t : Place Node) → is_tree t ≡ true → form_tree (rows t) ≡ true
unfolding form_tree is_top_row rows
form_of_tree t h =
    let p = tree_parts t h in
    rw p.directory (forest_in_order t.here.kind t.below p.directory (place_parts t p.whole).forest p.low)

-- ---- all bytes

-- what passes the test, by its parts
record Sound (b : List ℕ) : Type 0 where
  long : length b ≡ tree_width
  few : row_count b ≤ 256
  count : two_bytes (row_count b) ≡ take 2 b
  each : every is_row (row_stretches b) ≡ true
  form : form_tree (all_rows b) ≡ true
  rest : all_zero (drop (row_start (row_count b)) b) ≡ true

sound_parts : (b : List ℕ) → is_sound b ≡ true → Sound b
unfolding is_sound is_count most_nodes
sound_parts b h =
    let z = all_zero (drop (row_start (row_count b)) b) in
    let r = every is_row (row_stretches b) && form_tree (all_rows b) in
    let i = and_both (eqb (length b) tree_width && is_count b) (r && z) h in
    let j = and_both (eqb (length b) tree_width) (is_count b) i.0 in
    let k = and_both (leb (row_count b) 256) (same_text (two_bytes (row_count b)) (take 2 b)) j.1 in
    let l = and_both r z i.1 in
    let m = and_both (every is_row (row_stretches b)) (form_tree (all_rows b)) l.0 in
    record {
      long = eqb-true (length b) tree_width j.0;
      few = leb-true (row_count b) 256 k.0;
      count = same_text_sound (two_bytes (row_count b)) (take 2 b) k.1;
      each = m.0;
      form = m.1;
      rest = l.1;
    }

-- with these parts it passes
sound_of_parts : (b : List ℕ) → Sound b → is_sound b ≡ true
unfolding is_sound is_count most_nodes
sound_of_parts b s =
    rw (eq-eqb (length b) tree_width s.long, le-leb (row_count b) 256 s.few, ← s.count, same_text_refl (two_bytes (row_count b)), s.each, s.form) s.rest

-- unused bytes that are all zero
unused : (b : List ℕ) (n : ℕ) → length b ≡ tree_width → n ≤ 256 → all_zero (drop (row_start n) b) ≡ true → drop (row_start n) b ≡ replicate ((256 - n) * row_width) 0
unused b n l f z =
    let e : length (drop (row_start n) b) ≡ (256 - n) * row_width = length-drop (row_start n) b ∙ omega arith in
    zeros_are (drop (row_start n) b) z ∙ ap (λ (k : ℕ). replicate k 0) e

-- the number of rows, the rows and the unused bytes are all bytes
assembled : (b Z : List ℕ) (n : ℕ) → two_bytes n ≡ take 2 b → drop (row_start n) b ≡ Z → two_bytes n ++ (take (n * row_width) (drop 2 b) ++ Z) ≡ b
assembled b Z n c z =
    let q : 2 + n * row_width ≡ row_start n = omega arith in
    let d : drop (n * row_width) (drop 2 b) ≡ Z = drop-drop (n * row_width) 2 b ∙ ap (λ (k : ℕ). drop k b) q ∙ z in
    let e : take (n * row_width) (drop 2 b) ++ Z ≡ drop 2 b = rw (← d) (take-append-drop (n * row_width) (drop 2 b)) in
    ap₂ ◌++◌ c e ∙ take-append-drop 2 b

-- bytes that pass are those of a well-formed tree
sound_encodes : (b : List ℕ) → is_sound b ≡ true → (t : Place Node) × ((is_tree t ≡ true) × (encode_tree t ≡ b))
unfolding encode_tree encode_rows most_nodes row_stretches all_rows
sound_encodes b h =
    let s = sound_parts b h in
    let n = row_count b in
    let i = stretches_are n (drop 2 b) s.each in
    let c = length_all_rows b in
    let t = tree_of_form (all_rows b) s.form i.0 (omega (arith, s.few)) in
    let E : ℕ → List ℕ → List ℕ = λ k B. two_bytes k ++ (B ++ replicate ((256 - k) * row_width) 0) in (
      t.0,
      (
        t.1.0,
        ap (λ (rs : List (Row Node)). E (length rs) (all_bytes row_bytes rs)) t.1.1
            ∙ ap₂ E c i.1
            ∙ assembled b (replicate ((256 - n) * row_width) 0) n s.count (unused b n s.long s.few s.rest),
      ),
    )

module _ (t : Place Node) (h : is_tree t ≡ true) where
  -- the bytes of a well-formed tree begin with the number of its rows
  encoded_count : take 2 (encode_tree t) ≡ two_bytes (length (rows t))
  unfolding encode_tree encode_rows two_bytes
  encoded_count = refl

  -- then come its rows and zeros
  encoded_rows : drop 2 (encode_tree t) ≡ all_bytes row_bytes (rows t) ++ replicate ((256 - length (rows t)) * row_width) 0
  unfolding encode_tree encode_rows two_bytes most_nodes
  encoded_rows = refl

  -- so they pass
  pub encoding_is_sound : is_sound (encode_tree t) ≡ true
  unfolding row_stretches
  encoding_is_sound =
      let b = encode_tree t in
      let rs = rows t in
      let n = row_count_of_tree t h in
      let w = tree_fits t h in
      let Z : List ℕ = replicate ((256 - length rs) * row_width) 0 in
      let l : length (all_bytes row_bytes rs) ≡ length rs * row_width = length_all_bytes row_width fits row_bytes length_fitting rs w.0 in
      let r : drop (row_start (row_count b)) b ≡ Z =
      sym (drop-drop (row_width * row_count b) 2 b) ∙ ap (drop (row_width * row_count b)) encoded_rows ∙ drop_at (all_bytes row_bytes rs) Z (row_width * row_count b) (omega arith) in
      sound_of_parts b (record {
        long = length_encode_tree t h;
        few = omega (arith, w.1, most_nodes_is);
        count = ap two_bytes n ∙ sym encoded_count;
        each = ap₂ (λ (k : ℕ) (x : List ℕ). every is_row (all_from row_width (λ s. s) k x)) n encoded_rows ∙ stretches_of rs Z w.0;
        form = ap form_tree (all_rows_of_tree t h) ∙ form_of_tree t h;
        rest = ap all_zero r ∙ all_zero_zeros ((256 - length rs) * row_width);
      })

-- bytes that pass are read as a tree, and no others
sound_read : (b : List ℕ) (o : Option (Place Node)) → decode_tree b ≡ o → is_sound b ≡ is_some o
unfolding is_some
sound_read b none e = case (is_sound b)
    (λ s. let t = sound_encodes b s in no_answer (sym e ∙ ap decode_tree (sym t.1.1) ∙ decode_encode_tree t.0 t.1.0))
    (λ s. s)
sound_read b (some t) e = let i = encode_decode_tree b t e in ap is_sound (sym i.0) ∙ encoding_is_sound t i.1

-- so the test is whether bytes are read as a tree
pub sound_is : (b : List ℕ) → is_sound b ≡ is_some (decode_tree b)
sound_is b = sound_read b (decode_tree b) refl
