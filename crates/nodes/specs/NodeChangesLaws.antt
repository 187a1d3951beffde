-- What the commands' changes of the bytes make of the tree, where their checks have passed.
use Rattle.std.specs.Prelude.{◌≡◌, refl, List, true, false, ℕ, suc, ◌+◌, ◌≤◌}
use Rattle.std.proofs.Common.{sym, ◌∙◌, arith}
use Rattle.std.proofs.Math.Path.{ap}
use Rattle.std.proofs.Math.Option.{none, some}
use Rattle.buffers.specs.Text.{Text}
use Rattle.accounts.specs.declared.Account.{Account}
use Rattle.accounts.specs.declared.Caller.{Caller}
use Rattle.accounts.specs.declared.Gid.{Gid}
use Rattle.syntax.specs.Path.{Name, Path, ◌▹◌, parent, last, is_top, same_path, path}
use Rattle.syntax.proofs.PathLaws.{parent_and_last}
use Rattle.syntax.proofs.WithinLaws.{apart_below}
use Rattle.tree.specs.declared.Kind.{Kind}
use Rattle.tree.specs.Layout.{most_rows}
use Rattle.tree.specs.Forest.{Place, is_empty, update, alter, put, drop, leaf, place_at}
use Rattle.tree.specs.Node.{is_directory, Node, new_group, new_node}
use Rattle.tree.specs.Walk.{by_modes}
use Rattle.tree.proofs.NodeLaws.{new_node_is}
use Rattle.tree.proofs.PlaceLaws.{empty_size}
use Rattle.tree.proofs.UpdateLaws.{place_at_last, place_at_parent, walked_at}
use Rattle.tree.specs.WellFormed.{nodes}
use Rattle.tree.proofs.WellFormedLaws.{place_parts, place_node}
use Rattle.tree.proofs.SizeLaws.{tree_place}
use Rattle.tree.proofs.AlterLaws.{AlteredPlace, altered_at, kept_part}
use Rattle.tree.specs.RowPlaces.{index_of}
use Rattle.tree.specs.Encoding.{row_bytes, encode_tree}
use Rattle.tree.specs.RowAt.{row_at}
use Rattle.tree.specs.TreeBytes.{Stretch, Encodes, At}
use Rattle.tree.proofs.TreeBytesLaws.{at_index, at_within, at_here}
use Rattle.edits.specs.Changes.{rows_put, rows_taken, fresh_node, fresh_row}
use Rattle.edits.specs.EditLaws.{take_law}
use Rattle.edits.specs.WrittenLaws.{fresh_node_is}
use Rattle.node_fields.specs.NodeCopy.{node_copied}
use Rattle.node_fields.specs.NodeCopyLaws.{node_law}
use Rattle.gaps.specs.GapsLaws.{Standing, stands_child}
use Rattle.moving.specs.Moving.{Movable, moved as moved_there}
use Rattle.moving.specs.MovingLaws.{superuser_room, moved_is}
use Rattle.shell.specs.Steps.{moved}
use Rattle.shell.proofs.ReplacingLaws.{both_files, same_files, no_same}
use Rattle.nodes.specs.MoveChecksLaws.{Moves}

-- ---- `create`, `mkdir`

-- what is put in is the caller's new node
made_is : (c : Caller) (above : Node) (kind : Kind) (mode : ℕ) (group : Gid) → group ≡ new_group c above
    → fresh_node (record { kind = kind; owner = c.account.uid; group = group; mode = mode; revision = 0 }) ≡ new_node c above kind mode
made_is c above kind mode group e =
    fresh_node_is (record { kind = kind; owner = c.account.uid; group = group; mode = mode; revision = 0 }) ∙ rw (e, new_node_is c above kind mode)

pub create_law : (c : Caller) (kind : Kind) (mode : ℕ) {b : List ℕ} {t : Place Node} {p : Path} {row at k : ℕ} (g : Standing b t p c.account row at k)
    (s : Text) → path s ≡ some p → nodes t + 1 ≤ most_rows → (name : Name) (group : Gid) → name ≡ last p → group ≡ new_group c (row_at b row).here
    → rows_put b at 1 (row_bytes (fresh_row k name (record { kind = kind; owner = c.account.uid; group = group; mode = mode; revision = 0 })))
    ≡ encode_tree (update (parent p) (put (last p) (leaf (new_node c g.directory.here kind mode))) t)
create_law c kind mode {t = t} {p} g s reads few name group e h =
    let made = made_is c g.directory.here kind mode group (h ∙ ap (new_group c) (at_here g.above)) in
    rw e (stands_child g s reads (record { kind = kind; owner = c.account.uid; group = group; mode = mode; revision = 0 }) few
    ∙ ap (λ (x : Node). encode_tree (update (parent p) (put (last p) (leaf x)) t)) made)

-- ---- `rm`, `rmdir`

module _ {b : List ℕ} {t : Place Node} {p : Path} {row : ℕ} {d : Place Node} (a : At b t p row d) where
  pub rm_row : Stretch b row 1
  rm_row = let z = a.tree.sized in record { wide = z.wide; few_rows = z.few_rows; inside = omega (arith, at_within a) }

  pub rm_law : {above : ℕ} {e : Place Node} → At b t (parent p) above e → is_top p ≡ false → is_empty d.below ≡ true
      → rows_taken b row 1 ≡ encode_tree (update (parent p) (drop (last p)) t)
  rm_law up below z =
      let q = parent_and_last p below in
      let there : At b t (parent p ▹ last p) row d =
      record { tree = a.tree; there = ap (place_at t) (sym q) ∙ a.there; row = a.row ∙ ap (index_of t) q } in
      ap (λ (n : ℕ). rows_taken b row (suc n)) (sym (empty_size d.below z)) ∙ take_law up (last p) there

-- ---- `mv`

-- where nothing stands
module _ {b : List ℕ} {t : Place Node} {p q : Path} {row : ℕ} {d : Place Node} {a : Account} (tree : Encodes b t) (to : Text) (reads : path to ≡ some q)
    (stands : At b t p row d) (m : Moves a t p q d none) where
  -- what has passed the checks may be moved
  pub movable : Movable b row to
  movable =
      let above = walked_at t (by_modes a) (parent q) m.directory m.there in
      let missing = place_at_last t q m.directory m.target_below_top above ∙ m.found in
      record {
        vacant = record {
          tree = t;
          path = q;
          directory = m.directory;
          encoded = tree;
          reads = reads;
          found = superuser_room t q tree.whole above m.enterable m.found m.target_below_top;
        };
        from = p;
        place = d;
        stands = stands;
        from_below_top = m.below_top;
        outside = sym (apart_below p q (no_same t p q stands.there missing)) ∙ m.outside;
        low = m.low;
      }

  -- to the tree of the steps
  pub movable_moves : moved_there movable ≡ moved t p q d none
  unfolding movable moved
  movable_moves = moved_is movable

-- over another file: its row gets the node, and then the row of the one that is moved goes
module _ {b : List ℕ} {t : Place Node} {p q : Path} {row target : ℕ} {d g : Place Node} {a : Account} (from : At b t p row d) (onto : At b t q target g)
    (m : Moves a t p q d (some g)) where
  copied : AlteredPlace (node_copied b row target) q (λ n. d.here) t p row d
  copied =
      let files = both_files d.here.kind g m.fitting in
      let alike = same_files d.here.kind g.here.kind files.1 files.0 in
      altered_at from (λ n. d.here) onto.there (place_node d (tree_place t p d from.tree.whole from.there).0) alike (node_law from onto alike)

  pub copied_row : Stretch (node_copied b row target) row 1
  copied_row = rm_row copied.at

  pub replace_law : same_path p q ≡ false → rows_taken (node_copied b row target) row 1 ≡ encode_tree (moved t p q d (some g))
  unfolding moved
  replace_law other =
      let t₁ = update q (alter (λ n. d.here)) t in
      let c = copied in
      let file = ap is_directory (kept_part c (λ n. n.kind) refl) ∙ (both_files d.here.kind g m.fitting).1 in
      let bare = (place_parts c.place (tree_place t₁ p c.place c.at.tree.whole c.at.there).0).childless file in
      let up = place_at_parent t₁ (parent p) (last p) c.place (ap (place_at t₁) (sym (parent_and_last p m.below_top)) ∙ c.at.there) in
      rw other (rm_law c.at (at_index c.at.tree up.1) m.below_top bare)

-- onto itself
pub still_law : {b : List ℕ} {t : Place Node} → Encodes b t → (p q : Path) (d g : Place Node) → same_path p q ≡ true → b ≡ encode_tree (moved t p q d (some g))
unfolding moved
still_law tree p q d g one = rw one tree.bytes
