-- A place that may be moved: its rows taken out, and put in where it is to stand, give the tree with the place moved.
use Rattle.std.specs.Prelude.{◌≡◌, refl, true, false, ℕ, suc, ◌+◌, ◌-◌, ◌*◌, ◌≤◌}
use Rattle.std.proofs.Common.{sym, ◌∙◌, arith}
use Rattle.std.proofs.Math.Path.{ap}
use mathlib.Core.List.{List, ◌++◌}
use Rattle.std.proofs.Math.Option.{none, some}
use Rattle.std.proofs.Math.ListN.{take}
use Rattle.std.proofs.Math.ListN as L
use Rattle.std.proofs.Math.Seq.{paste}
use Rattle.buffers.specs.Cases.{case}
use Rattle.buffers.specs.Text.{Text}
use Rattle.buffers.specs.Fields.{all_bytes}
use Rattle.accounts.specs.Access.{is_root}
use Rattle.syntax.specs.Path.{Path, ◌▹◌, parent, last, depth, is_top, within, most_names}
use Rattle.syntax.proofs.PathLaws.{name_fits, parent_and_last}
use Rattle.syntax.proofs.WithinLaws.{deeper, lies, lies_outside}
use Rattle.tree.specs.Layout.{row_width, row_start, most_rows}
use Rattle.tree.specs.Forest.{Place, get, place_at, update, put, drop, size}
use Rattle.tree.specs.Node.{Node, is_directory}
use Rattle.tree.specs.WellFormed.{nodes, is_tree}
use Rattle.tree.specs.Result.{done}
use Rattle.tree.specs.Walk.{by_modes, room}
use Rattle.tree.proofs.UpdateLaws.{place_at_child, place_at_parent, walked_at}
use Rattle.tree.specs.Room.{Roomed}
use Rattle.tree.proofs.RoomLaws.{room_found, root_room}
use Rattle.tree.proofs.WellFormedLaws.{tree_parts, place_below}
use Rattle.tree.proofs.ChangeLaws.{keep_drop, nodes_drop}
use Rattle.tree.proofs.OtherPathLaws.{drop_none, drop_some}
use Rattle.tree.specs.RowScan.{end_of_subtree}
use Rattle.tree.specs.RowPlaces.{index_of, place_rows}
use Rattle.tree.specs.Encoding.{row_bytes, encode_tree}
use Rattle.tree.specs.RowAt.{row_count, all_rows}
use Rattle.tree.specs.TreeBytes.{Stretch, At}
use Rattle.tree.proofs.TreeBytesLaws.{encodes, encoded_count, at_index, at_used, at_end, at_within}
use Rattle.edits.specs.Changes.{rows_put, rows_taken}
use Rattle.edits.specs.EditLaws.{take_law, place_fits, place_law}
use Rattle.gaps.specs.Gaps.{gap_of}
use Rattle.gaps.specs.GapsLaws.{last_named, found_stands, stands_place}
use Rattle.moving.specs.Relabel.{relabelled}
use Rattle.moving.specs.RelabelLaws.{relabelled_place}
use Rattle.moving.specs.Moving.{superuser, Vacant, relabelled_for, filled, Movable, remaining, moved, moved_rows, buffer_after}

is_superuser : is_root superuser.uid ≡ true
unfolding is_root
is_superuser = refl

-- the room that root finds at a vacant path
pub vacant_room : {b : List ℕ} {to : Text} (v : Vacant b to) → Roomed superuser v.tree v.path v.directory
vacant_room v = room_found superuser v.tree v.path v.found

-- root finds one in every directory where the name is not used
pub superuser_room : (t : Place Node) (p : Path) {d : Place Node} → is_tree t ≡ true → place_at t (parent p) ≡ some d → is_directory d.here.kind ≡ true
    → get (last p) d.below ≡ none → is_top p ≡ false → room (by_modes superuser) t p ≡ done d
superuser_room t p h there directory free below = root_room superuser t p is_superuser h there directory free below

module _ {b : List ℕ} {at : ℕ} {to : Text} (m : Movable b at to) where
  abbrev tree : Place Node
  tree = m.vacant.tree

  abbrev whole : is_tree tree ≡ true
  whole = m.stands.tree.whole

  -- where the place stood, and where it is to stand
  abbrev old_parent : Path
  old_parent = parent m.from

  abbrev new_parent : Path
  new_parent = parent m.vacant.path

  abbrev new_name : Text
  new_name = last m.vacant.path

  abbrev count : ℕ
  count = suc (size m.place.below)

  from_parent : place_at tree (old_parent ▹ last m.from) ≡ some m.place
  from_parent = ap (place_at tree) (sym (parent_and_last m.from m.from_below_top)) ∙ m.stands.there

  outside_path : within (old_parent ▹ last m.from) (new_parent ▹ new_name) ≡ false
  outside_path = rw (← parent_and_last m.from m.from_below_top, ← parent_and_last m.vacant.path (vacant_room m.vacant).below_top) m.outside

  outside_parent : within (old_parent ▹ last m.from) new_parent ≡ false
  outside_parent =
      let a = old_parent ▹ last m.from in
      case (within a new_parent) (λ l. lies_outside outside_path (deeper (lies a new_parent l))) (λ l. l)

  -- the directory where it is to stand
  directory_there : place_at tree new_parent ≡ some m.vacant.directory
  directory_there = walked_at tree (by_modes superuser) new_parent m.vacant.directory (vacant_room m.vacant).led

  -- ---- the tree without the place

  remaining_whole : is_tree (remaining m) ≡ true
  unfolding remaining
  remaining_whole = keep_drop tree old_parent (last m.from) whole

  -- where it is to stand, nothing stands
  remaining_none : place_at (remaining m) (new_parent ▹ new_name) ≡ none
  unfolding remaining
  remaining_none =
      drop_none tree (new_parent ▹ new_name) old_parent (last m.from) outside_path
      (place_at_child tree new_parent new_name m.vacant.directory directory_there ∙ (vacant_room m.vacant).free)

  -- and the directory above is there
  remaining_parent : (g : Place Node) × (place_at (remaining m) new_parent ≡ some g) × (g.here ≡ m.vacant.directory.here)
  unfolding remaining
  remaining_parent = drop_some tree new_parent m.vacant.directory old_parent (last m.from) outside_parent directory_there

  -- there is room for the place
  remaining_room : nodes (remaining m) + count ≤ most_rows
  unfolding remaining
  remaining_room = omega (arith, nodes_drop tree old_parent (last m.from) m.place from_parent, (tree_parts tree whole).few)

  -- how many rows there are up to the end of the subtree
  pub movable_span : (r : ℕ) → r ≡ end_of_subtree (all_rows b) at → (at ≤ r) × ((at + (r - at) ≡ end_of_subtree (all_rows b) at) × (r - at ≤ most_rows))
  movable_span r e =
      let z = at_end m.stands in
      (omega arith, (omega arith, omega (arith, at_within m.stands, m.stands.tree.sized.few_rows)))

  module _ (n : ℕ) (ends : at + n ≡ end_of_subtree (all_rows b) at) where
    -- the rows of the place are its own and those below it
    pub movable_count : n ≡ count
    movable_count = omega (arith, ends, at_end m.stands)

    pub movable_rows : Stretch b at n
    movable_rows =
        let z = (at_used m.stands).sized in
        record { wide = z.wide; few_rows = z.few_rows; inside = omega (arith, ends, at_end m.stands, at_within m.stands) }

    -- ---- the bytes without them

    module _ (u : List ℕ) (taken : u ≡ rows_taken b at n) where
      remaining_bytes : u ≡ encode_tree (remaining m)
      unfolding remaining
      remaining_bytes =
          let p = parent_and_last m.from m.from_below_top in
          let up = place_at_parent tree old_parent (last m.from) m.place from_parent in
          let above : At b tree old_parent (index_of tree old_parent) up.0 = at_index m.stands.tree up.1 in
          let stands : At b tree (old_parent ▹ last m.from) at m.place = record { tree = m.stands.tree; there = from_parent; row = m.stands.row ∙ ap (index_of tree) p } in
          taken ∙ ap (rows_taken b at) movable_count ∙ take_law above (last m.from) stands

      -- the path is vacant still
      pub remaining_vacant : Vacant u to
      remaining_vacant =
          let g = remaining_parent in
          let f = vacant_room m.vacant in
          record {
            tree = remaining m;
            path = m.vacant.path;
            directory = g.0;
            encoded = record { sized = rw remaining_bytes (encodes remaining_whole).sized; whole = remaining_whole; bytes = remaining_bytes };
            reads = m.vacant.reads;
            found =
                superuser_room (remaining m) m.vacant.path remaining_whole g.1 (ap (λ (x : Node). is_directory x.kind) g.2 ∙ f.enterable)
                (sym (place_at_child (remaining m) new_parent new_name g.0 g.1) ∙ remaining_none) f.below_top;
          }

      -- the rows, held in a buffer, get the new name and depth
      pub held_law : (Z h w : List ℕ) → h ≡ paste Z 0 (L.drop (row_start at) b) (row_width * n)
          → w ≡ relabelled_for remaining_vacant n h → w ≡ buffer_after m Z
      unfolding remaining_vacant relabelled_for buffer_after moved_rows most_names
      held_law Z h w held is =
          let k = depth m.vacant.path in
          let old = all_bytes row_bytes (place_rows (depth m.from) (last m.from) m.place) in
          let Q = L.drop (0 + row_width * n) Z in
          let read : take (row_width * n) (L.drop (row_start at) b) ≡ old = rw movable_count (place_law m.stands) in
          let i : 0 + row_width * n ≡ row_width * count = omega (arith, movable_count) in
          is
          ∙ ap (relabelled n k new_name) (held ∙ ap (λ (l : List ℕ). l ++ Q) read)
          ∙ ap (λ (j : ℕ). relabelled j k new_name (old ++ Q)) movable_count
          ∙ relabelled_place (depth m.from) k (last m.from) new_name m.place Q
          (place_fits m.stands) (name_fits new_name (last_named to m.vacant.reads (vacant_room m.vacant).below_top)).0 (omega (arith, m.low))
          ∙ ap (λ (j : ℕ). moved_rows m ++ L.drop j Z) i

      -- there is room for the rows
      pub remaining_rows : row_count u + n ≤ most_rows
      unfolding remaining_vacant
      remaining_rows =
          let c : row_count u ≡ nodes (remaining m) = encoded_count remaining_vacant.encoded in
          omega (arith, remaining_room, movable_count)

      -- and put in there they make the tree with the place moved
      pub move_law : (Z w : List ℕ) → w ≡ buffer_after m Z → filled remaining_vacant n w ≡ encode_tree (moved m)
      unfolding remaining_vacant filled gap_of moved moved_rows buffer_after
      move_law Z w is =
          let v = remaining_vacant in
          let j = (gap_of v.tree v.path v.directory).at in
          let Q = L.drop (row_width * count) Z in
          let rows_there = all_bytes row_bytes (place_rows (depth m.vacant.path) new_name m.place) ++ Q in
          ap (rows_put u j n) is
          ∙ ap (λ (x : ℕ). rows_put u j x rows_there) movable_count
          ∙ stands_place (found_stands v.encoded superuser v.path v.found) to m.vacant.reads m.place
          (place_below tree m.from m.place (tree_parts tree whole).whole m.stands.there) remaining_room Q

-- the tree with the place moved: taken out where it stood, then put in
pub moved_is : {b : List ℕ} {at : ℕ} {to : Text} (m : Movable b at to)
    → moved m ≡ update (parent m.vacant.path) (put (last m.vacant.path) m.place) (update (parent m.from) (drop (last m.from)) m.vacant.tree)
unfolding moved remaining
moved_is m = refl
