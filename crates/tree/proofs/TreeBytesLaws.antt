-- What the code reads in a tree's bytes: the tree's rows, and at a place its row, where its subtree ends, and its children.
use Rattle.std.specs.Prelude.{◌≡◌, refl, Bool, true, leb, get_or, drop}
use Rattle.std.proofs.Common.{sym, ◌∙◌, arith, drop-drop, leb-true}
use Rattle.std.proofs.Math.Path.{ap}
use mathlib.Core.List.{List}
use Rattle.std.proofs.Math.Option.{none, some}
use Prim.Native.Nat.{ℕ, suc, ◌+◌, ◌-◌, ◌*◌, ◌≤◌, ◌<◌}
use Rattle.std.proofs.Math.ListN.{length, take, replicate}
use Rattle.buffers.specs.Text.{every}
use Rattle.buffers.specs.TextLaws.{every_there}
use Rattle.buffers.specs.Fields.{two_bytes}
use Rattle.buffers.specs.TableLaws.{all_bytes_at}
use Rattle.syntax.specs.Path.{Name, Path, root, ◌▹◌, last, depth}
use Rattle.std.specs.Prelude.{Ok, Err}
use Rattle.tree.specs.Layout.{row_width, most_rows, row_start}
use Rattle.tree.specs.Forest.{Place, get, place_at, size}
use Rattle.tree.specs.Node.{Node}
use Rattle.tree.specs.WellFormed.{most_nodes, is_tree, nodes}
use Rattle.tree.proofs.UpdateLaws.{by_option, place_at_root, place_at_child}
use Rattle.tree.proofs.WellFormedLaws.{tree_parts}
use Rattle.tree.specs.Rows.{Row, rows}
use Rattle.tree.proofs.RowLaws.{length_rows, rows_low}
use Rattle.tree.specs.RowScan.{end_of_subtree, child_in}
use Rattle.tree.specs.RowPlaces.{index_of, Around, lesser}
use Rattle.tree.proofs.RowPlacesLaws.{around}
use Rattle.tree.proofs.RowChangesLaws.{tree_sorted}
use Rattle.tree.proofs.RowScanLaws.{row_of_place, depth_of_place, index_bound, subtree_span, child_in_rows, no_child_in_rows, missing_not_found}
use Rattle.tree.specs.Search.{steps_among, search_in}
use Rattle.tree.proofs.TriedLaws.{steps_are}
use Rattle.tree.specs.Encoding.{TagTold, row_bytes, encode_rows, encode_tree}
use Rattle.tree.proofs.RowBytesLaws.{tag_in_bytes}
use Rattle.tree.proofs.EncodingLaws.{fits, fits_parts, tree_fits, length_fitting, length_encode_tree}
use Rattle.tree.specs.RowAt.{row_count, row_bytes_at, row_at, all_rows, tag_text_at, tag_number_at}
use Rattle.tree.specs.TreeBytes.{Wide, HasRow, Used, Encodes, At}
use Rattle.tree.proofs.RowAtLaws.{row_in_rows, all_rows_of_tree, row_count_of_tree}

-- ---- room for a row

-- in as many bytes as a tree has there is room for each of its rows
pub has_row : {b : List ℕ} {i : ℕ} → Wide b → i < most_rows → HasRow b i
has_row wide low = record { room = omega arith }

-- so there is for one in use
pub used_row : {b : List ℕ} {i : ℕ} → Used b i → HasRow b i
used_row u = has_row u.sized.wide (omega (arith, u.used, u.sized.few_rows))

-- ---- a tree's bytes

-- the encoding of a well-formed tree is its bytes
pub encodes : {t : Place Node} → is_tree t ≡ true → Encodes (encode_tree t) t
unfolding nodes
encodes {t} h =
    let c = row_count_of_tree t h ∙ length_rows t in
    record {
      sized = record { wide = length_encode_tree t h; some_rows = omega arith; few_rows = omega (arith, (tree_parts t h).few) };
      whole = h;
      bytes = refl;
    }

module _ {b : List ℕ} {t : Place Node} (e : Encodes b t) where
  -- their rows are the tree's
  pub encoded_rows : all_rows b ≡ rows t
  encoded_rows = ap all_rows e.bytes ∙ all_rows_of_tree t e.whole

  -- one for each node
  pub encoded_count : row_count b ≡ nodes t
  encoded_count = ap row_count e.bytes ∙ row_count_of_tree t e.whole ∙ length_rows t

  module _ {i : ℕ} (h : i < row_count b) where
    -- the row at an index is one of the tree's
    encoded_row : (z : Row Node) → get_or (rows t) i z ≡ row_at b i
    encoded_row z = ap (λ (rs : List (Row Node)). get_or rs i z) (sym encoded_rows) ∙ row_in_rows b i z h

    there_are : i < length (rows t)
    there_are = omega (arith, encoded_count, length_rows t)

    -- what holds of each of these holds of it
    encoded_every : (f : Row Node → Bool) → every f (rows t) ≡ true → f (row_at b i) ≡ true
    encoded_every f k = let z = row_at b i in ap f (sym (encoded_row z)) ∙ every_there f (rows t) i z k there_are

    -- it lies no deeper than a path has names
    pub encoded_depth : (row_at b i).depth ≤ 6
    encoded_depth = leb-true (row_at b i).depth 6 (encoded_every (λ r. leb r.depth 6) (rows_low 6 t (tree_parts t e.whole).low))

    -- its node is in range, and its name fits
    pub encoded_fits : fits (row_at b i) ≡ true
    encoded_fits = encoded_every fits (tree_fits t e.whole).0

    -- its bytes are those of the row that is read
    pub encoded_row_bytes : row_bytes_at b i ≡ row_bytes (row_at b i)
    unfolding row_bytes_at encode_tree encode_rows two_bytes
    encoded_row_bytes =
        let z = row_at b i in
        let rs = rows t in
        let Z : List ℕ = replicate ((most_nodes - length rs) * row_width) 0 in
        ap (λ (s : List ℕ). take row_width (drop (row_start i) s)) e.bytes
        ∙ ap (take row_width) (sym (drop-drop (row_width * i) 2 (encode_rows rs)))
        ∙ all_bytes_at row_width fits row_bytes length_fitting rs i Z z (tree_fits t e.whole).0 there_are
        ∙ ap row_bytes (encoded_row z)

    -- so its tag is told by the text and the number there
    pub encoded_tag : TagTold (row_at b i).here.tag (tag_text_at b i) (tag_number_at b i)
    unfolding tag_text_at tag_number_at
    encoded_tag = let w = fits_parts (row_at b i) encoded_fits in rw encoded_row_bytes (tag_in_bytes (row_at b i) w.0 w.1)

  -- a place has a row
  pub at_index : {p : Path} {d : Place Node} → place_at t p ≡ some d → At b t p (index_of t p) d
  at_index f = record { tree = e; there = f; row = refl }

  -- the first is that of `/`
  pub at_root : At b t root 0 t
  unfolding index_of
  at_root = at_index (place_at_root t)

-- ---- at a place

module _ {b : List ℕ} {t : Place Node} {p : Path} {i : ℕ} {d : Place Node} (a : At b t p i d) where
  -- where it stands among the rows
  abbrev stands : Around t p d
  stands = around t p d a.there

  -- its row and all below it are there
  pub at_within : suc (i + size d.below) ≤ row_count b
  at_within = omega (arith, a.row, index_bound stands, encoded_count a.tree, length_rows t)

  pub at_used : Used b i
  at_used = record { sized = a.tree.sized; used = omega (arith, at_within) }

  -- its row holds its depth, name and node
  pub at_row : row_at b i ≡ record { depth = depth p; name = last p; here = d.here }
  at_row =
      let z = row_at b i in
      sym (row_in_rows b i z at_used.used)
      ∙ ap (λ (rs : List (Row Node)). get_or rs i z) (encoded_rows a.tree)
      ∙ ap (λ (j : ℕ). get_or (rows t) j z) a.row
      ∙ row_of_place stands z

  pub at_here : (row_at b i).here ≡ d.here
  at_here = ap (λ (r : Row Node). r.here) at_row

  -- its subtree ends behind all below it
  pub at_end : end_of_subtree (all_rows b) i ≡ suc (i + size d.below)
  unfolding end_of_subtree
  at_end = rw (encoded_rows a.tree, a.row, depth_of_place stands, subtree_span stands)

  module _ (n : Name) where
    -- a child is found, and its row is the one found
    pub at_child : {c : Place Node} → get n d.below ≡ some c → (child_in (all_rows b) i n ≡ Ok (index_of t (p ▹ n))) × At b t (p ▹ n) (index_of t (p ▹ n)) c
    at_child {c} g = (
      rw (encoded_rows a.tree, a.row) (child_in_rows stands n c (tree_sorted t p d a.tree.whole a.there) g),
      at_index a.tree (place_at_child t p n d a.there ∙ g),
    )

    -- one that is not there would stand behind the lesser ones
    pub at_no_child : get n d.below ≡ none → child_in (all_rows b) i n ≡ Err (suc (i + size (lesser n d.below)))
    at_no_child g = rw (encoded_rows a.tree, a.row) (no_child_in_rows stands n g)

    -- the steps of the search are those among its children
    pub at_steps : (search_in (all_rows b) i n).steps ≡ steps_among n d.below
    unfolding search_in
    at_steps = rw (encoded_rows a.tree, a.row) (steps_are stands n)

    -- what is found is a child
    pub at_found : {j : ℕ} → Ok j ≡ child_in (all_rows b) i n → (c : Place Node) × (get n d.below ≡ some c) × At b t (p ▹ n) j c
    at_found {j} f = by_option (get n d.below)
        (λ g. missing_not_found (sym (at_no_child g) ∙ sym f))
        (λ c g. let k = at_child g in let q : j ≡ index_of t (p ▹ n) = cc (f ∙ k.0) in (c, g, rw q k.1))

    -- what is missing is none, and the place told is where it would stand
    pub at_missing : {j : ℕ} → Err j ≡ child_in (all_rows b) i n → (get n d.below ≡ none) × (j ≡ suc (i + size (lesser n d.below)))
    at_missing {j} f = by_option (get n d.below)
        (λ g. let q : Err j ≡ Err (suc (i + size (lesser n d.below))) = f ∙ at_no_child g in (g, cc))
        (λ c g. missing_not_found (f ∙ (at_child g).0))
