-- The copies of an entry: what a text that reads as its path gives, where it stands among the rows of its tree, what its copy asks for,
-- and what is written.
use Rattle.std.specs.Prelude.{◌≡◌, List, ℕ, suc, ◌+◌, ◌≤◌, length, drop}
use Rattle.std.proofs.Math.Path.{refl}
use Rattle.std.proofs.Common.{◌∙◌, ap, arith}
use Rattle.std.proofs.Math.Option.{some}
use Rattle.buffers.specs.Text.{Text}
use Rattle.accounts.specs.declared.Gid.{Gid}
use Rattle.syntax.specs.Path.{Name, EntryPath, depth, last, entry_location, entry_path, below_rep}
use Rattle.syntax.proofs.PathLaws.{entry_is_entry, entry_text_fits}
use Rattle.syntax.proofs.ParentLaws.{text_of_entry}
use Rattle.syntax.proofs.FieldLaws.{content_fits}
use Rattle.tree.specs.Layout.{most_rows, row_start, name_width, tag_width}
use Rattle.tree.specs.Forest.{Place, size}
use Rattle.tree.specs.Node.{Node, new_node}
use Rattle.tree.proofs.UpdateLaws.{height_below}
use Rattle.tree.proofs.WellFormedLaws.{PlaceParts, place_parts, place_below, tree_parts}
use Rattle.tree.specs.RowPlaces.{place_rows, index_of}
use Rattle.tree.proofs.RowPlacesLaws.{length_place_rows, around}
use Rattle.tree.proofs.RowScanLaws.{rows_from_place}
use Rattle.tree.specs.Encoding.{encode_tree}
use Rattle.tree.proofs.RowBytesLaws.{node_parts}
use Rattle.tree.specs.RowAt.{row_at, all_rows}
use Rattle.tree.specs.TreeBytes.{HasRow, Used, At}
use Rattle.tree.proofs.RowAtLaws.{all_rows_of_tree}
use Rattle.tree.proofs.TreeBytesLaws.{at_used, at_within, at_row, at_end}
use Rattle.copying.specs.declared.Copier.{Copier}
use Rattle.copying.specs.Copying.{copy_mode, copied, copy}
use Rattle.copying.specs.CopyRows.{deepest, most_levels, HoldsRow, row_put, Stands, read_by, tagged_row, children, Job, job_rows, Written, EntryJob, subtree_rows, entry_copy, first_row, entry_rows}
use Rattle.copying.proofs.CopyRowLaws.{row_held, copies_few}
use Rattle.copying.proofs.CopyJobLaws.{Fits, below_copy, place_written}

-- an entry is one to copy once the walk along its path has come to it: no path of the tree is too long for a tag
module _ (w : Copier) {b : List ℕ} {t : Place Node} {at : ℕ} {group : Gid} {d : Place Node} {e : EntryPath} (s : Text) (parent : Node) (reads : entry_path s ≡ some e)
    (a : At b t (entry_location e) at d) (given : group ≡ (new_node w.caller parent d.here.kind (copy_mode d.here.kind)).group) where
  pub entry_job : EntryJob w b at group s
  entry_job =
      let v = tree_parts t a.tree.whole in
      record {
        top = t;
        spot = entry_location e;
        place = d;
        found = a;
        entry = e;
        parent = parent;
        text = text_of_entry s e reads;
        valid = entry_is_entry s e reads;
        short = omega (arith, height_below t (entry_location e) d a.there, v.low);
        given = given;
      }

  -- its rows are those of its copy
  pub entry_job_rows : (k : ℕ) (n : Name) → entry_rows entry_job k n ≡ place_rows k n (copy w.caller (read_by w) parent e d)
  unfolding entry_rows entry_copy entry_job
  entry_job_rows k n = refl

module _ {w : Copier} {b : List ℕ} {at : ℕ} {group : Gid} {path : List ℕ} (j : EntryJob w b at group path) where
  entry_used : Used b at
  entry_used = at_used j.found

  -- its row is held
  pub entry_held : HoldsRow b at
  entry_held = row_held b j.top at j.found.tree entry_used.used

  -- its path fits a tag
  pub entry_path_fits : length path ≤ tag_width
  entry_path_fits = rw j.text (entry_text_fits j.entry j.valid).0

  entry_parts : PlaceParts j.place
  entry_parts = place_parts j.place (place_below j.top j.spot j.place (tree_parts j.top j.found.tree.whole).whole j.found.there)

  entry_stands : Stands (all_rows b) at (depth j.spot) (last j.spot) j.place
  entry_stands =
      let f = j.found in
      let c = around j.top j.spot j.place f.there in
      record {
        post = c.post;
        here = ap (λ (s : List ℕ). drop at (all_rows s)) f.tree.bytes ∙ ap (λ (i : ℕ). drop i (all_rows (encode_tree j.top))) f.row
            ∙ ap (drop (index_of j.top j.spot)) (all_rows_of_tree j.top f.tree.whole) ∙ rows_from_place c;
        stops = c.stops;
      }

  -- its rows are its own and those of all below it
  entry_span : subtree_rows b at ≡ suc (size j.place.below)
  entry_span = omega (arith, at_end j.found)

  -- no more than a tree has
  pub entry_within : subtree_rows b at ≤ most_rows
  entry_within = omega (arith, entry_span, at_within j.found, j.found.tree.sized.few_rows)

  -- there are no more copies
  pub entry_few : (k : ℕ) (n : Name) → length (entry_rows j k n) ≤ subtree_rows b at
  unfolding entry_rows entry_copy copy
  entry_few k n =
      let x = copied w.caller (read_by w) j.parent j.entry j.place.here in
      omega (arith, length_place_rows k n (entry_copy j), copies_few w x (below_rep j.entry) j.place.below, entry_span)

  -- it is that of its place
  pub entry_row : row_at b at ≡ record { depth = depth j.spot; name = last j.spot; here = j.place.here }
  entry_row = at_row j.found

  -- where there is room for them, there is for the first
  pub entry_first : {o : List ℕ} → row_start (subtree_rows b at) ≤ length o → HasRow o 0
  entry_first room = record { room = omega (arith, entry_span) }

  module _ (o z : List ℕ) (k : ℕ) (n : Name) (room : row_start (subtree_rows b at) ≤ length o) (low : k + most_levels ≤ deepest) (ln : length n ≤ name_width)
      (is : z ≡ row_put o 0 (first_row j k n)) where
    -- what its copy asks for
    entry_fits : Fits w o 0 most_levels k n group j.parent j.entry j.place
    entry_fits =
        record {
          given = j.given;
          name = ln;
          content = (content_fits j.place.here.content (node_parts j.place.here entry_parts.own).1).0;
          valid = j.valid;
          whole = entry_parts.forest;
          short = j.short;
          deep = omega (arith, j.short);
          low = omega (arith, j.short);
          room = omega (arith, entry_span);
        }

    row_is : z ≡ row_put o 0 (tagged_row w k n group j.entry j.place.here)
    unfolding first_row
    row_is = is

    -- its children go below the copy
    pub entry_children : Job children b z at 0 1 most_levels
    entry_children = record {
      top = j.top;
      tree = j.found.tree;
      used = entry_used;
      order = omega arith;
      level = depth j.spot;
      name = last j.spot;
      place = j.place;
      stands = entry_stands;
      below = below_copy entry_fits row_is;
    }

    -- and the copies of both are the entry's
    pub entry_written : {y : List ℕ} {r : ℕ} → Written z 1 (job_rows w entry_children) r y → Written o 0 (entry_rows j k n) r y
    unfolding job_rows entry_children entry_copy entry_rows
    entry_written v = place_written entry_fits row_is v
