-- The listing by rows: line n is that of row n, with the path of the names last seen up to it; and what the code goes by that finds
-- this path and writes the fields behind it.
--
-- In order:
--   the lines of a tree's rows are its listing: path-same to listing-is, line-of-row;
--   the rows last seen at each depth: last_none, last_more, told-path, last-told, last-next;
--   their names written: names-none, names_more, path-of-names;
--   the fields behind the path, and the whole line: writes-both to line_wrote.
use Rattle.std.specs.Prelude.{◌≡◌, ℕ, zero, suc, ◌+◌, ◌≤◌, ◌<◌, eqb, length, set, take, drop, replicate}
use Rattle.std.proofs.Math.Path.{refl, sym, ap, ap₂}
use Rattle.std.proofs.Common.{◌∙◌, arith, add-one, zero-add, take-suc, get_or-set_other}
use mathlib.Core.List.{List, [], ◌∷◌, ◌++◌, append_assoc}
use Rattle.std.proofs.Math.Option.{Option, some}
use Rattle.std.proofs.Math.ListN.{get_or, get_elem?, length-set}
use Rattle.std.proofs.lemmas.List.{get_or-replicate}
use Rattle.std.proofs.Math.Seq.{get_or-set_same}
use borrow.Author.Tests.{eq-eqb, ne_eqb, eqb-true, eqb-false}
use Rattle.buffers.specs.Cases.{case}
use Rattle.buffers.specs.Text.{Text}
use Rattle.buffers.specs.Over.{Wrote}
use Rattle.buffers.specs.OverLaws.{over_front, wrote_both}
use Rattle.syntax.specs.Pieces.{bytes, comma, joined}
use Rattle.syntax.specs.Number.{digits_before, decimal_text, mode_text}
use Rattle.syntax.specs.Path.{Path, root, ◌▹◌, last, names_text, path_text, entry_text}
use Rattle.syntax.proofs.PathLaws.{entry_text_some}
use Rattle.tree.specs.Forest.{Forest, Place}
use Rattle.tree.proofs.ForestLaws.{forest_induction}
use Rattle.tree.specs.Node.{Tag, Node}
use Rattle.tree.specs.Rows.{Row, flatten, rows}
use Rattle.tree.proofs.RowLaws.{flatten_nil, flatten_node, rows_are}
use Rattle.tree.specs.Encoding.{TagTold, told_none, told_tag}
use Rattle.tree.specs.RowAt.{row_count, row_at, all_rows, tag_text_at, tag_number_at}
use Rattle.tree.proofs.RowAtLaws.{length_all_rows, row_in_rows}
use Rattle.tree.specs.TreeBytes.{HasRow, Encodes, Whole}
use Rattle.tree.proofs.TreeBytesLaws.{has_row, used_row, encoded_rows, encoded_tag, at_root, at_row, encoded_depth}
use Rattle.listing.specs.Listing.{kind_text, tag_fields, node_line, forest_lines, listing, LineWritten}
use Rattle.listing.specs.RowListing.{NamesSeen, none_seen, row_seen, rows_seen, path_seen, lines_behind, lines_in, names_among, row_path, names_told, LastRows, WroteMost, or_dash, owner_fields, number_fields, tag_fields_at, fields_at, last_among}

-- ---- the lines of a tree's rows

-- names that are the same at depths 1 to k make the same path
path_same : (m m' : NamesSeen) (k : ℕ) → ((j : ℕ) → 1 ≤ j → j ≤ k → m j ≡ m' j) → path_seen m k ≡ path_seen m' k
unfolding path_seen
path_same m m' zero h = refl
path_same m m' (suc k) h = ap₂ ◌▹◌ (path_same m m' k (λ j o l. h j o (omega arith))) (h (suc k) (omega arith) (omega arith))

module _ (m : NamesSeen) (r : Row Node) where
  -- a row leaves the names above it
  seen_above : (k : ℕ) → k < r.depth → path_seen (row_seen m r) k ≡ path_seen m k
  unfolding row_seen
  seen_above k h = path_same (row_seen m r) m k (λ j o l. rw (ne_eqb j r.depth (λ e. omega arith)))

  -- and its own is the last
  own_seen : (k : ℕ) → r.depth ≡ suc k → path_seen (row_seen m r) (suc k) ≡ path_seen m k ▹ r.name
  unfolding row_seen path_seen
  own_seen k e = ap₂ ◌▹◌ (seen_above k (omega arith)) (rw (eq-eqb (suc k) r.depth (sym e)))

-- rows seen behind others
rows_seen_append : (m : NamesSeen) (xs ys : List (Row Node)) → rows_seen m (xs ++ ys) ≡ rows_seen (rows_seen m xs) ys
unfolding rows_seen
rows_seen_append m [] ys = refl
rows_seen_append m (r ∷ xs) ys = rows_seen_append (row_seen m r) xs ys

lines_append : (m : NamesSeen) (xs ys : List (Row Node)) → lines_behind m (xs ++ ys) ≡ lines_behind m xs ++ lines_behind (rows_seen m xs) ys
unfolding lines_behind rows_seen
lines_append m [] ys = refl
lines_append m (r ∷ xs) ys = ap (λ (l : List Text). node_line (path_seen (row_seen m r) r.depth) r.here ∷ l) (lines_append (row_seen m r) xs ys)

-- the rows of siblings leave the names above them
abbrev LeavesAbove : Forest Node → Type 0
LeavesAbove F = (k j : ℕ) (m : NamesSeen) → k < j → path_seen (rows_seen m (flatten j F)) k ≡ path_seen m k

flatten_above : (F : Forest Node) → LeavesAbove F
unfolding rows_seen
flatten_above = forest_induction LeavesAbove (λ k j m h. rw (flatten_nil Node j)) λ n x cs rest below beside k j m h.
    let r : Row Node = record { depth = j; name = n; here = x } in
    let xs = flatten (suc j) cs in
    ap (λ (l : List (Row Node)). path_seen (rows_seen m l) k) (flatten_node j n x cs rest)
    ∙ ap (λ (s : NamesSeen). path_seen s k) (rows_seen_append (row_seen m r) xs (flatten j rest))
    ∙ beside k j (rows_seen (row_seen m r) xs) h
    ∙ below k (suc j) (row_seen m r) (omega arith)
    ∙ seen_above m r k h

-- the lines of siblings
abbrev SameLines : Forest Node → Type 0
SameLines F = (k : ℕ) (m : NamesSeen) → lines_behind m (flatten (suc k) F) ≡ forest_lines (path_seen m k) F

flatten_lines : (F : Forest Node) → SameLines F
unfolding lines_behind forest_lines
flatten_lines = forest_induction SameLines (λ k m. rw (flatten_nil Node (suc k))) λ n x cs rest below beside k m.
    let r : Row Node = record { depth = suc k; name = n; here = x } in
    let s = row_seen m r in
    let xs = flatten (suc (suc k)) cs in
    let here : path_seen s (suc k) ≡ path_seen m k ▹ n = own_seen m r k refl in
    let above : path_seen (rows_seen s xs) k ≡ path_seen m k = flatten_above cs k (suc (suc k)) s (omega arith) ∙ seen_above m r k (omega arith) in
    ap (lines_behind m) (flatten_node (suc k) n x cs rest)
    ∙ ap (λ (l : List Text). node_line (path_seen s (suc k)) x ∷ l)
    (lines_append s xs (flatten (suc k) rest) ∙ ap₂ ◌++◌ (below (suc k) s) (beside k (rows_seen s xs)))
    ∙ ap₂ (λ (p q : Path). node_line p x ∷ (forest_lines p cs ++ forest_lines q rest)) here above

-- the listing is the lines of the rows
listing_is : (t : Place Node) → listing t ≡ lines_in (rows t)
unfolding listing lines_in lines_behind path_seen
listing_is t =
    let r : Row Node = record { depth = 0; name = []; here = t.here } in
    sym (ap (lines_behind none_seen) (rows_are t) ∙ ap (λ (l : List Text). node_line root t.here ∷ l) (flatten_lines t.below 0 (row_seen none_seen r)))

-- the line at an index is that of the row there
line_behind : (m : NamesSeen) (rs : List (Row Node)) (n : ℕ) (z : Row Node) → n < length rs
    → get_elem? (lines_behind m rs) n ≡ some (node_line (path_seen (rows_seen m (take (suc n) rs)) (get_or rs n z).depth) (get_or rs n z).here)
unfolding lines_behind rows_seen
line_behind m [] n z h = let x : ⊥ = omega arith in absurd x
line_behind m (r ∷ rs) zero z h = refl
line_behind m (r ∷ rs) (suc n) z h = line_behind (row_seen m r) rs n z (omega arith)

-- so in a tree's bytes
line_of_row : {b : List ℕ} {t : Place Node} → Encodes b t → (n : ℕ) → n < row_count b → get_elem? (listing t) n ≡ some (node_line (row_path b n) (row_at b n).here)
unfolding lines_in row_path names_among
line_of_row {b} {t} e n h =
    let z = row_at b n in
    ap (λ (l : List Text). get_elem? l n) (listing_is t ∙ ap lines_in (sym (encoded_rows e)))
    ∙ line_behind none_seen (all_rows b) n z (omega (arith, length_all_rows b))
    ∙ ap (λ (r : Row Node). some (node_line (path_seen (rows_seen none_seen (take (suc n) (all_rows b))) r.depth) r.here)) (row_in_rows b n z h)

-- ---- the rows last seen

-- before the first row that of `/` stands for all: it has no name
last_none : {b : List ℕ} {t : Place Node} → Encodes b t → LastRows b 0 (replicate 7 0)
unfolding names_among rows_seen last
last_none {b} e = record {
  told = record { size = refl; there = λ k h. rw (get_or-replicate {A = ℕ} 7 k 0 0 h) (has_row e.sized.wide (omega arith)) };
  same = λ k h. ap (λ (i : ℕ). (row_at b i).name) (get_or-replicate {A = ℕ} 7 k 0 0 h) ∙ ap (λ (r : Row Node). r.name) (at_row (at_root e));
}

-- one name more
names_next : (b : List ℕ) (n : ℕ) → n < row_count b → names_among b (n + 1) ≡ row_seen (names_among b n) (row_at b n)
unfolding names_among rows_seen
names_next b n h =
    let z = row_at b n in
    rw (add-one, take-suc (all_rows b) n z (omega (arith, length_all_rows b)))
    (rows_seen_append none_seen (take n (all_rows b)) (get_or (all_rows b) n z ∷ [])
    ∙ ap (row_seen (rows_seen none_seen (take n (all_rows b)))) (row_in_rows b n z h))

module _ {b : List ℕ} {n : ℕ} {rs : List ℕ} (v : LastRows b n rs) (d : ℕ) where
  -- a row more stands for its depth
  last_more : n < row_count b → HasRow b n → d ≡ (row_at b n).depth → d < 7 → LastRows b (n + 1) (set rs d n)
  unfolding row_seen
  last_more h u e l =
      let s = v.told.size in
      record {
        told = record {
          size = length-set rs d n ∙ s;
          there = λ k j. case (eqb k d)
              (λ t. rw (eqb-true k d t, get_or-set_same rs d n 0 (omega arith)) u)
              (λ t. rw (get_or-set_other rs d k n 0 (eqb-false k d t)) (v.told.there k j));
        };
        same = λ k j.
            let more : names_among b (n + 1) k ≡ row_seen (names_among b n) (row_at b n) k = ap (λ (m : NamesSeen). m k) (names_next b n h) in
            case (eqb k d)
            (λ t.
            let q = eqb-true k d t in
            ap (λ (i : ℕ). (row_at b i).name) (ap (λ (i : ℕ). get_or (set rs d n) i 0) q ∙ get_or-set_same rs d n 0 (omega arith))
            ∙ sym (more ∙ rw (eq-eqb k (row_at b n).depth (q ∙ e))))
            (λ t.
            let q = eqb-false k d t in
            ap (λ (i : ℕ). (row_at b i).name) (get_or-set_other rs d k n 0 q)
            ∙ v.same k j
            ∙ sym (more ∙ rw (ne_eqb k (row_at b n).depth (λ z. q (z ∙ sym e)))));
      }

-- the names of the rows that stand for the depths up to a row's own make its path
pub told_path : {b rs : List ℕ} (n : ℕ) → LastRows b (n + 1) rs → (d : ℕ) → d ≡ (row_at b n).depth → d < 7 → path_seen (names_told b rs) d ≡ row_path b n
unfolding row_path
told_path {b} {rs} n v d e l =
    path_same (names_told b rs) (names_among b (n + 1)) d (λ j o k. v.same j (omega arith))
    ∙ ap₂ (λ (m k : ℕ). path_seen (names_among b m) k) (add-one n) e

-- `/` has no name
pub top_path : (b : List ℕ) (n : ℕ) → (row_at b n).depth ≡ 0 → path_text (row_path b n) ≡ 47 ∷ []
unfolding row_path path_seen path_text bytes
top_path b n e = rw e

-- a row of a tree has room
pub whole_row : {b : List ℕ} (n : ℕ) → Whole b → n < row_count b → HasRow b n
whole_row n w h = used_row (record { sized = w.1.sized; used = h })

-- the rows last seen are such
last_rows_are : {b : List ℕ} → Whole b → (n : ℕ) → n ≤ row_count b → LastRows b n (last_among b n)
unfolding last_among
last_rows_are w zero h = last_none w.1
last_rows_are {b} w (suc n) h =
    let low = encoded_depth w.1 {i = n} (omega arith) in
    let v = last_more (last_rows_are w n (omega arith)) (row_at b n).depth (omega arith) (whole_row n w (omega arith)) refl (omega arith) in
    rw add-one at v

pub last_told : {b rs : List ℕ} → Whole b → (n : ℕ) → n < row_count b → rs ≡ last_among b (n + 1) → LastRows b (n + 1) rs
last_told w n h e = rw e (last_rows_are w (n + 1) (omega arith))

-- each takes the place of the one last seen at its depth
pub last_next : (b : List ℕ) (n d : ℕ) {rs : List ℕ} → rs ≡ last_among b n → d ≡ (row_at b n).depth → set rs d n ≡ last_among b (n + 1)
unfolding last_among
last_next b n d e q = rw (e, q, add-one n)

-- ---- names written

-- no name
pub names_none : (m : NamesSeen) → names_text (path_seen m 0) ≡ []
unfolding path_seen names_text
names_none m = refl

-- one more
pub names_more : (m : NamesSeen) (k : ℕ) → names_text (path_seen m (k + 1)) ≡ names_text (path_seen m k) ++ (47 ∷ m (k + 1))
unfolding path_seen names_text
names_more m k = rw add-one

-- a path that has some is their text
pub path_of_names : (m : NamesSeen) (d : ℕ) → (d ≡ 0 → ⊥) → path_text (path_seen m d) ≡ names_text (path_seen m d)
unfolding path_seen path_text
path_of_names m zero h = absurd (h refl)
path_of_names m (suc k) h = refl

-- ---- fields written

-- a text behind another
pub writes_both : {k l : ℕ} {s t : Text} {b c d : List ℕ} {at m r : ℕ} → WroteMost k s b at c m → WroteMost l t c m d r → at + k + l ≤ length b
    → WroteMost (k + l) (s ++ t) b at d r
writes_both v w h = record { wrote = wrote_both v.wrote w.wrote (omega (arith, v.short, w.short)); short = omega (arith, v.short, w.short) }

-- the same text
pub writes_as : {k : ℕ} {s t : Text} {b c : List ℕ} {at r : ℕ} → s ≡ t → WroteMost k s b at c r → WroteMost k t b at c r
writes_as e v = rw (← e) v

-- a text behind a byte
pub writes_behind : {k : ℕ} {x : ℕ} {t : Text} {b c : List ℕ} {at r : ℕ} → Wrote (x ∷ t) b at c r → length t ≤ k → WroteMost (k + 1) (x ∷ t) b at c r
writes_behind v h = record { wrote = v; short = omega (arith, v.ends) }

-- no tag
pub dash_none : (t : Text) → length t ≡ 0 → or_dash t ≡ 45 ∷ []
unfolding or_dash bytes
dash_none [] h = refl
dash_none (c ∷ t) h = let z : ⊥ = omega arith in absurd z

-- the path of one
pub dash_there : (t : Text) → (length t ≡ 0 → ⊥) → or_dash t ≡ t
unfolding or_dash
dash_there [] h = absurd (h refl)
dash_there (c ∷ t) h = refl

-- the fields of a tag by its text and its number
tag_is_told : {o : Option Tag} {s : Text} {v : ℕ} → TagTold o s v → tag_fields o ≡ or_dash s ∷ decimal_text v ∷ []
unfolding tag_fields
tag_is_told told_none = unfold or_dash decimal_text digits_before bytes in refl
tag_is_told (told_tag t) = ap (λ (u : Text). u ∷ decimal_text t.revision ∷ []) (sym (dash_there (entry_text t.path) (entry_text_some t.path)))

-- nine texts, as the code writes them
regroup_nine : (a b c d e f g h i : Text) → a ++ ((((b ++ (c ++ d)) ++ (e ++ f)) ++ (g ++ h)) ++ i) ≡ a ++ (b ++ (c ++ (d ++ (e ++ (f ++ (g ++ (h ++ i)))))))
regroup_nine a b c d e f g h i = simp append_assoc

-- and joined
nine_joined : (a b c d e f g h i : Text) → joined comma (a ∷ b ∷ c ∷ d ∷ e ∷ f ∷ g ∷ h ∷ i ∷ [])
    ≡ a ++ (((((comma ∷ b) ++ ((comma ∷ c) ++ (comma ∷ d))) ++ ((comma ∷ e) ++ (comma ∷ f))) ++ ((comma ∷ g) ++ (comma ∷ h))) ++ (comma ∷ i))
unfolding joined
nine_joined a b c d e f g h i =
    sym (regroup_nine a (comma ∷ b) (comma ∷ c) (comma ∷ d) (comma ∷ e) (comma ∷ f) (comma ∷ g) (comma ∷ h) (comma ∷ i))

module _ {b : List ℕ} {t : Place Node} (e : Encodes b t) (i : ℕ) (h : i < row_count b) where
  -- the line of a row is its path and the fields behind it
  line_is : (p : Path) → node_line p (row_at b i).here ≡ path_text p ++ fields_at b i
  unfolding node_line fields_at owner_fields number_fields tag_fields_at
  line_is p =
      let n = (row_at b i).here in
      ap (λ (l : List Text).
      joined comma
      ((path_text p ∷ kind_text n.kind ∷ decimal_text n.owner.0 ∷ decimal_text n.group.0 ∷ mode_text n.mode ∷ decimal_text n.revision ∷ [])
      ++ (l ++ (n.content ∷ []))))
      (tag_is_told (encoded_tag e h))
      ∙ nine_joined (path_text p) (kind_text n.kind) (decimal_text n.owner.0) (decimal_text n.group.0) (mode_text n.mode) (decimal_text n.revision)
      (or_dash (tag_text_at b i)) (decimal_text (tag_number_at b i)) n.content

  -- both written in front of an answer are the line
  pub line_wrote : {a c : List ℕ} {r : ℕ} → Wrote (path_text (row_path b i) ++ fields_at b i) a 0 c r → LineWritten (get_elem? (listing t) i) a r c
  line_wrote {a} v =
      let p = row_path b i in
      let q = line_is p in
      record {
        text = node_line p (row_at b i).here;
        there = line_of_row e i h;
        size = v.ends ∙ zero-add (length (path_text p ++ fields_at b i)) ∙ ap length (sym q);
        holds = v.holds ∙ over_front (path_text p ++ fields_at b i) a ∙ ap (λ (l : Text). l ++ drop (length l) a) (sym q);
      }
