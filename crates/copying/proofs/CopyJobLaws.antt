-- The steps of copying: a node with all below it, and siblings one after another.
use Rattle.std.specs.Prelude.{◌≡◌, refl, true, false, ℕ, suc, ◌+◌, ◌-◌, ◌≤◌, ◌<◌, length}
use Rattle.std.proofs.Math.Path.{sym, ap}
use Rattle.std.proofs.Common.{◌∙◌, add-one}
use mathlib.Core.List.{List, [], ◌++◌, append_assoc, append-nil}
use native.Mathlib.Omega.{arith}
use Rattle.std.proofs.Math.ListN.{drop, length-append}
use Rattle.std.proofs.lemmas.List.Edits.{length-paste}
use Rattle.std.proofs.lemmas.Bool.{lt-leb}
use Rattle.accounts.specs.declared.Gid.{Gid}
use Rattle.syntax.specs.Path.{Name, EntryPath, depth, entry_location, is_entry_path, entry_text}
use Rattle.syntax.proofs.PathLaws.{name_fits}
use Rattle.syntax.proofs.FieldLaws.{content_fits}
use Rattle.tree.specs.Layout.{row_width, row_start, name_width, content_width}
use Rattle.tree.specs.Forest.{Forest, nil, node, Place, size, larger, height}
use Rattle.tree.proofs.ForestLaws.{height_node}
use Rattle.tree.specs.Node.{Node, new_node}
use Rattle.tree.specs.Walk.{by_modes}
use Rattle.tree.specs.WellFormed.{is_forest}
use Rattle.tree.proofs.WellFormedLaws.{ForestParts, place_parts, forest_parts, forest_of_parts, forest_nil, leads_nil}
use Rattle.tree.specs.Rows.{Row, flatten}
use Rattle.tree.specs.RowScan.{end_of_subtree}
use Rattle.tree.specs.RowPlaces.{place_rows}
use Rattle.tree.specs.Encoding.{row_bytes}
use Rattle.tree.proofs.RowBytesLaws.{node_parts}
use Rattle.tree.specs.RowAt.{row_count, row_at, all_rows, tag_text_at}
use Rattle.tree.specs.TreeBytes.{HasRow}
use Rattle.copying.specs.declared.Copier.{Copier}
use Rattle.copying.specs.Copying.{copy_mode, copied, copy}
use Rattle.copying.specs.CopyRows.{deepest, most_levels, HoldsRow, row_put, Spelled, child_entry, read_by, copy_rows, tagged_row, copy_of_row, children, alone, Below, Job, job_rows, Written}
use Rattle.copying.proofs.CopyRowLaws.{row_held, row_stands, children_stand, stands_end, first_stands, others_stand, primary_group, copied_plain, copy_place_rows, copy_rows_nil, copy_rows_few, copy_rows_more, copy_rows_read, copy_rows_skipped}
use Rattle.copying.proofs.CopyBytesLaws.{child_depth, child_valid, length_fitting_row, copy_fitting, tag_there, depth_there}
use Rattle.copying.proofs.RowsWrittenLaws.{written_as, written_nothing, written_one, written_join, written_length, tag_kept, depth_kept}

-- ---- one node

module _ (n : Name) (d : Place Node) where
  height_alone : height (alone n d) ≡ suc (height d.below)
  unfolding height larger
  height_alone = rw (lt-leb (suc (height d.below)) 0 (omega arith))

  size_alone : size (alone n d) ≡ suc (size d.below)
  unfolding size
  size_alone = omega arith

-- what the copy of a place asks for that goes to row `to` at depth k, named n, with a group
pub record Fits (w : Copier) (o : List ℕ) (to left k : ℕ) (n : Name) (group : Gid) (parent : Node) (e : EntryPath) (d : Place Node) : Type 0 where
  pub given : group ≡ (new_node w.caller parent d.here.kind (copy_mode d.here.kind)).group
  pub name : length n ≤ name_width
  pub content : length d.here.content ≤ content_width
  pub valid : is_entry_path e ≡ true
  pub whole : is_forest d.below ≡ true
  pub short : depth (entry_location e) + height d.below ≤ most_levels
  pub deep : height d.below ≤ left
  pub low : k + height d.below ≤ deepest
  pub room : row_start (to + suc (size d.below)) ≤ length o

-- its row is written
module _ {w : Copier} {o z : List ℕ} {to left k : ℕ} {n : Name} {group : Gid} {parent : Node} {e : EntryPath} {d : Place Node} (f : Fits w o to left k n group parent e d)
    (is : z ≡ row_put o to (tagged_row w k n group e d.here)) where
  start_fits : row_start to ≤ length o
  start_fits = omega (arith, f.room)

  tag_is : tag_text_at z to ≡ entry_text e
  tag_is = ap (λ (s : List ℕ). tag_text_at s to) is ∙ tag_there w k n group e d.here o to f.name f.content f.valid start_fits

  depth_is : (row_at z to).depth ≡ k
  depth_is = ap (λ (s : List ℕ). (row_at s to).depth) is ∙ depth_there w k n group e d.here o to f.name f.content f.valid start_fits

  row_wide : length (row_bytes (tagged_row w k n group e d.here)) ≡ row_width
  row_wide = length_fitting_row (tagged_row w k n group e d.here) (copy_fitting w k n group e d.here f.name f.content f.valid)

  -- the row leaves as many bytes
  pub copy_length : length z ≡ length o
  copy_length = ap length is ∙ length-paste o (row_start to) (row_bytes (tagged_row w k n group e d.here)) row_width (omega (arith, f.room)) (omega (arith, row_wide))

  -- its children go below it
  pub below_copy : Below z to (to + 1) left d.below
  below_copy = record {
    entry = e;
    parent = copied w.caller (read_by w) parent e d.here;
    tagged = tag_is;
    valid = f.valid;
    plain = copied_plain w parent e d.here;
    whole = f.whole;
    short = f.short;
    deep = f.deep;
    low = omega (arith, f.low, depth_is);
    room = omega (arith, f.room, copy_length);
  }

  -- and with their copies it is the place's
  pub place_written : {y : List ℕ} {r : ℕ} → Written z (to + 1) (copy_rows w (row_at z to).depth below_copy.parent below_copy.entry d.below) r y
      → Written o to (place_rows k n (copy w.caller (read_by w) parent e d)) r y
  unfolding below_copy
  place_written {y} {r} v =
      let p = copied w.caller (read_by w) parent e d.here in
      let row = tagged_row w k n group e d.here in
      let rest = copy_rows w k p e d.below in
      let few = copy_rows_few w k p e d.below in
      let v2 : Written z (to + 1) rest r y = written_as (ap (λ (m : ℕ). copy_rows w m p e d.below) depth_is) v in
      written_as (sym (copy_place_rows w parent e group k n d f.given))
      (written_join (written_one o z to row row_wide is) v2 (omega (arith, f.room)))

module _ (w : Copier) {b o : List ℕ} {at above to left : ℕ} (j : Job alone b o at above to (suc left)) where
  abbrev entry : EntryPath
  entry = child_entry j.below.entry j.name

  -- a node's row
  node_row : row_at b at ≡ record { depth = j.level; name = j.name; here = j.place.here }
  node_row = row_stands b j.used.used j.stands

  pub node_held : HoldsRow b at
  node_held = row_held b j.top at j.tree j.used.used

  -- what its copy asks for
  node_place : Fits w o to left (suc (row_at o above).depth) j.name w.caller.primary j.below.parent entry j.place
  node_place =
      let g = j.below in
      let n = j.name in
      let hi = height_alone n j.place in
      let si = size_alone n j.place in
      let v = forest_parts n j.place nil g.whole in
      let u = place_parts j.place v.first in
      record {
        given = primary_group w.caller g.parent j.place.here g.plain;
        name = (name_fits n v.name).0;
        content = (content_fits j.place.here.content (node_parts j.place.here u.own).1).0;
        valid = child_valid g.entry n g.valid v.name (omega (arith, g.short));
        whole = u.forest;
        short = omega (arith, g.short, child_depth g.entry n);
        deep = omega (arith, g.deep);
        low = omega (arith, g.low);
        room = omega (arith, g.room);
      }

  -- a node that may not be read
  pub node_skipped : (by_modes w.reader).readable (row_at b at).here ≡ false → Written o to (job_rows w j) to o
  unfolding job_rows
  node_skipped t =
      let g = j.below in
      let q = copy_rows_skipped w (row_at o above).depth g.parent g.entry j.name j.place (ap (λ (r : Row Node). (by_modes w.reader).readable r.here) (sym node_row) ∙ t) in
      written_as (sym q) (written_nothing o to)

  -- there is room for its copy
  pub node_room : HasRow o to
  node_room = record { room = omega (arith, node_place.room) }

  -- at the next depth
  pub node_low : (row_at o above).depth < deepest
  node_low = omega (arith, node_place.low)

  -- the entry path of its copy, by the name that is read
  pub node_valid : is_entry_path (child_entry j.below.entry (row_at b at).name) ≡ true
  node_valid = ap (λ (r : Row Node). is_entry_path (child_entry j.below.entry r.name)) node_row ∙ node_place.valid

  abbrev pub node_spelled : Spelled b at o above
  node_spelled = record { entry = j.below.entry; spells = j.below.tagged; valid = node_valid }

  module _ (z : List ℕ) (e : z ≡ row_put o to (copy_of_row w (row_at o above).depth j.below.entry (row_at b at))) where
    row_is : z ≡ row_put o to (copy_of_row w (row_at o above).depth j.below.entry (record { depth = j.level; name = j.name; here = j.place.here }))
    row_is = e ∙ ap (λ (r : Row Node). row_put o to (copy_of_row w (row_at o above).depth j.below.entry r)) node_row

    -- its children go below the copy
    pub node_children : Job children b z at to (to + 1) left
    node_children = record {
      top = j.top;
      tree = j.tree;
      used = j.used;
      order = omega arith;
      level = j.level;
      name = j.name;
      place = j.place;
      stands = j.stands;
      below = below_copy node_place row_is;
    }

    -- and the copies of both are the node's
    pub node_written : {y : List ℕ} {r : ℕ} → (by_modes w.reader).readable (row_at b at).here ≡ true → Written z (to + 1) (job_rows w node_children) r y
        → Written o to (job_rows w j) r y
    unfolding job_rows node_children
    node_written t v =
        let g = j.below in
        let m = (row_at o above).depth in
        let q = copy_rows_read w m g.parent g.entry j.name j.place (ap (λ (r : Row Node). (by_modes w.reader).readable r.here) (sym node_row) ∙ t) in
        written_as (sym q)
        (place_written node_place row_is v)

-- ---- siblings

-- the first of some siblings, and the others
record First (F : Forest Node) : Type 0 where
  pub name : Name
  pub place : Place Node
  pub others : Forest Node
  pub is : F ≡ node name place.here place.below others

first_of : (F : Forest Node) → (size F ≡ 0 → ⊥) → First F
unfolding size
first_of nil h = absurd (h refl)
first_of (node n x cs rest) h = record { name = n; place = record { here = x; below = cs }; others = rest; is = refl }

-- siblings of no height are none
no_siblings : (F : Forest Node) → height F ≤ 0 → F ≡ nil
no_siblings nil h = refl
no_siblings (node n x cs rest) h = let l = height_node n x cs rest in let z : ⊥ = omega arith in absurd z

no_siblings_left : (F : Forest Node) → size F ≡ 0 → F ≡ nil
unfolding size
no_siblings_left nil h = refl
no_siblings_left (node n x cs rest) h = let z : ⊥ = omega arith in absurd z

module _ (w : Copier) {b o : List ℕ} {at above to left : ℕ} (j : Job children b o at above to left) where
  abbrev siblings : Forest Node
  siblings = j.place.below

  -- the copies of some of the siblings
  abbrev rows_of : Forest Node → List (Row Node)
  rows_of F = copy_rows w (row_at o above).depth j.below.parent j.below.entry F

  -- where no level is left there are none
  pub no_level : left ≡ 0 → Written o to (job_rows w j) to o
  unfolding job_rows
  no_level h =
      let g = j.below in
      let q = ap rows_of (no_siblings siblings (omega (arith, g.deep))) ∙ copy_rows_nil w (row_at o above).depth g.parent g.entry in
      written_as (sym q) (written_nothing o to)

  -- the siblings from row i on are left, and the copies of those before are written
  pub record Turn (z : List ℕ) (i next : ℕ) : Type 0 where
    pub rest : Forest Node
    pub done : List (Row Node)
    pub here : drop i (all_rows b) ≡ flatten (suc j.level) rest ++ j.stands.post
    wrote : Written o to done next z
    pub goes : rows_of siblings ≡ done ++ rows_of rest
    pub whole : is_forest rest ≡ true
    pub high : height rest ≤ height siblings
    pub few : length done + size rest ≤ size siblings
    left_over : i + size rest ≡ suc (at + size siblings)

  pub turn_start : Turn o (at + 1) to
  turn_start = record {
    rest = siblings;
    done = [];
    here = ap (λ (i : ℕ). drop i (all_rows b)) (add-one at) ∙ children_stand j.stands;
    wrote = written_nothing o to;
    goes = refl;
    whole = j.below.whole;
    high = omega arith;
    few = omega arith;
    left_over = omega arith;
  }

  -- the siblings end where their directory does
  siblings_end : end_of_subtree (all_rows b) at ≡ suc (at + size siblings)
  siblings_end = stands_end j.stands

  module _ {z : List ℕ} {i next : ℕ} (t : Turn z i next) where
    -- the rows written leave as many bytes
    pub turn_length : length z ≡ length o
    turn_length = written_length t.wrote (omega (arith, j.below.room, t.few))

    -- behind the last sibling all is written
    pub turn_end : end_of_subtree (all_rows b) at ≤ i → Written o to (job_rows w j) next z
    unfolding job_rows size
    turn_end h =
        let s = siblings_end in
        let g = j.below in
        let q = no_siblings_left t.rest (omega (arith, t.left_over)) in
        let e : rows_of siblings ≡ t.done =
        t.goes ∙ ap (λ (F : Forest Node). t.done ++ rows_of F) q
        ∙ ap (λ (l : List (Row Node)). t.done ++ l) (copy_rows_nil w (row_at o above).depth g.parent g.entry) ∙ append-nil t.done in
        written_as (sym e) t.wrote

    module _ (used : i < row_count b) (h : i < end_of_subtree (all_rows b) at) (levels : left ≡ 0 → ⊥) where
      first : First t.rest
      first = first_of t.rest (λ e. omega (arith, t.left_over, siblings_end))

      -- how high and how many the first is
      first_small : (suc (height first.place.below) ≤ height t.rest) × ((height first.others ≤ height t.rest) × (size t.rest ≡ suc (size first.place.below + size first.others)))
      unfolding size
      first_small =
          let f = first in
          let l = height_node f.name f.place.here f.place.below f.others in
          let q = ap height f.is in
          (omega arith, (omega arith, ap size f.is))

      first_parts : ForestParts first.name first.place first.others
      first_parts = forest_parts first.name first.place first.others (ap is_forest (sym first.is) ∙ t.whole)

      first_here : drop i (all_rows b) ≡ flatten (suc j.level) (node first.name first.place.here first.place.below first.others) ++ j.stands.post
      first_here = t.here ∙ ap (λ (F : Forest Node). flatten (suc j.level) F ++ j.stands.post) first.is

      -- the next sibling is a node to copy
      pub turn_job : Job alone b z i above next (suc (left - 1))
      turn_job =
          let f = first in
          let g = j.below in
          let v = first_parts in
          let s = first_small in
          let hi = height_alone f.name f.place in
          let si = size_alone f.name f.place in
          record {
            top = j.top;
            tree = j.tree;
            used = record { sized = j.used.sized; used = used };
            order = omega (arith, j.order, t.wrote.next);
            level = suc j.level;
            name = f.name;
            place = f.place;
            stands = first_stands (all_rows b) i j.level f.name f.place.here f.place.below f.others j.stands.post first_here j.stands.stops;
            below = record {
              entry = g.entry;
              parent = g.parent;
              tagged = tag_kept t.wrote above j.order (omega (arith, g.room)) ∙ g.tagged;
              valid = g.valid;
              plain = g.plain;
              whole = forest_of_parts f.name f.place nil (record { name = v.name; first = v.first; leading = leads_nil f.name; others = forest_nil });
              short = omega (arith, g.short, t.high);
              deep = omega (arith, g.deep, t.high);
              low = omega (arith, g.low, t.high, depth_kept t.wrote above j.order (omega (arith, g.room)));
              room = omega (arith, g.room, t.few, t.wrote.next, turn_length);
            };
          }

      -- and then the others are left
      pub turn_again : {y : List ℕ} {r : ℕ} → Written z next (job_rows w turn_job) r y → Turn y (end_of_subtree (all_rows b) i) r
      unfolding job_rows turn_job
      turn_again {y} {r} v =
          let f = first in
          let g = j.below in
          let s = first_small in
          let m = (row_at o above).depth in
          let p = first_parts in
          let si = size_alone f.name f.place in
          let new = rows_of (alone f.name f.place) in
          let few = copy_rows_few w m g.parent g.entry (alone f.name f.place) in
          let q = ap (λ (k : ℕ). copy_rows w k g.parent g.entry (alone f.name f.place)) (depth_kept t.wrote above j.order (omega (arith, g.room))) in
          let v2 : Written z next new r y = written_as q v in
          let st = first_stands (all_rows b) i j.level f.name f.place.here f.place.below f.others j.stands.post first_here j.stands.stops in
          let e = stands_end st in
          let l = length-append t.done new in
          record {
            rest = f.others;
            done = t.done ++ new;
            here = ap (λ (k : ℕ). drop k (all_rows b)) e
                ∙ others_stand (all_rows b) i j.level f.name f.place.here f.place.below f.others j.stands.post first_here;
            wrote = written_join t.wrote v2 (omega (arith, g.room, t.few));
            goes = t.goes ∙ ap (λ (F : Forest Node). t.done ++ rows_of F) f.is
                ∙ ap (λ (k : List (Row Node)). t.done ++ k) (copy_rows_more w m g.parent g.entry f.name f.place f.others)
                ∙ sym (append_assoc t.done new (rows_of f.others));
            whole = p.others;
            high = omega (arith, t.high);
            few = omega (arith, t.few);
            left_over = omega (arith, t.left_over);
          }
