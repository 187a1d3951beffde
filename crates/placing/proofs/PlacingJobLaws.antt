-- A checkout whose first checks have passed: what its copies ask for, and what is made of them once they are written.
use Rattle.std.specs.Prelude.{◌≡◌, List, ◌++◌, ℕ, suc, ◌+◌, ◌*◌, ◌≤◌, ◌<◌, length}
use Rattle.std.proofs.Common.{sym, ◌∙◌, arith, drop_at, length-take-le}
use Rattle.std.proofs.Math.Path.{ap}
use Rattle.std.proofs.Math.ListN.{take, drop}
use Rattle.buffers.specs.Text.{Text}
use Rattle.buffers.specs.Fields.{all_bytes}
use Rattle.buffers.specs.Over.{over}
use Rattle.accounts.specs.declared.Gid.{Gid}
use Rattle.syntax.specs.Path.{parent, last, depth}
use Rattle.syntax.proofs.PathLaws.{name_length, parent_depth}
use Rattle.tree.specs.declared.Cause.TheVariants.{Full, TooDeep}
use Rattle.tree.specs.Layout.{row_width, row_start, most_rows, name_width}
use Rattle.tree.specs.Forest.{Place, update, put, size, height}
use Rattle.tree.specs.Node.{Node, new_group, new_node}
use Rattle.tree.proofs.NodeLaws.{new_node_group}
use Rattle.tree.specs.WellFormed.{nodes}
use Rattle.tree.specs.RowPlaces.{place_rows, lesser}
use Rattle.tree.proofs.RowPlacesLaws.{length_place_rows}
use Rattle.tree.specs.Encoding.{row_bytes, encode_tree}
use Rattle.tree.specs.RowAt.{row_count, row_at}
use Rattle.tree.specs.TreeBytes.{HasRow}
use Rattle.tree.proofs.TreeBytesLaws.{encoded_count, at_here}
use Rattle.edits.specs.Changes.{rows_put}
use Rattle.edits.specs.EncodedRowsLaws.{RowsWide}
use Rattle.edits.specs.EditLaws.{rows_law}
use Rattle.gaps.specs.Gaps.{behind_slash}
use Rattle.gaps.specs.GapsLaws.{last_in_text, last_named, last_fits, place_row, stands_insertable, stands_low, slash_inside}
use Rattle.copying.specs.declared.Copier.{Copier}
use Rattle.copying.specs.Copying.{copy_mode}
use Rattle.copying.specs.CopyRows.{deepest, most_levels, Written, deepest_from, EntryJob, subtree_rows, entry_rows}
use Rattle.copying.proofs.CopyEntryLaws.{entry_job, entry_job_rows, entry_within, entry_few}
use Rattle.copying.proofs.RowsWrittenLaws.{written_as, written_width, written_pieces}
use Rattle.copying.proofs.DepthLaws.{deepest_of_place}
use Rattle.placing.specs.declared.Site.{Site}
use Rattle.std.specs.Prelude.{Ok, Err}
use Rattle.placing.specs.Placing.{Checkout, checkout_copies, copies_over, steps_left, Prepared}
use Rattle.placing.proofs.PlacingLaws.{place_too_deep, place_too_many, place_done, prepared_ready, prepared_not}

module _ {w : Copier} {b : List ℕ} {entry to : Text} {site : Site} (j : Checkout w b entry to site) where
  -- ---- what the copies ask for

  -- the directory's row is there
  pub job_row : HasRow b site.row
  job_row = place_row j.stands.above

  -- the path has a last name, and it fits
  pub job_text : 0 < length to
  job_text =
      slash_inside to
      (omega (arith, ap length (last_in_text to j.reads), (name_length (last j.target) (last_named to j.reads j.stands.roomed.below_top)).0))

  pub job_name : (n : Text) → n ≡ behind_slash to → length n ≤ name_width
  job_name n e = omega (arith, ap length e, last_fits to j.reads j.stands.roomed.below_top)

  -- no copy is as deep as a depth may be
  pub job_low : site.depth + most_levels ≤ deepest
  job_low = omega (arith, stands_low j.stands to j.reads)

  module _ (g : Gid) (given : g ≡ new_group w.caller (row_at b site.row).here) where
    -- the group is that of a new node in the directory
    checkout_group : g ≡ (new_node w.caller j.stands.directory.here j.place.here.kind (copy_mode j.place.here.kind)).group
    checkout_group =
        let n = j.stands.directory.here in
        given ∙ ap (new_group w.caller) (at_here j.stands.above) ∙ sym (new_node_group w.caller n j.place.here.kind (copy_mode j.place.here.kind))

    -- the entry is one to copy
    pub checkout_job : EntryJob w b site.filed g entry
    checkout_job = entry_job w entry j.stands.directory.here j.reads_entry j.found checkout_group

    -- ---- once they are written

    module _ (o z : List ℕ) (n : ℕ) (name : Text) (named : name ≡ behind_slash to) (room : row_start (subtree_rows b site.filed) ≤ length o)
        (all : (i : EntryJob w b site.filed g entry) → Written o 0 (entry_rows i site.depth name) n z) where
      abbrev copies : Place Node
      copies = checkout_copies j

      abbrev copy_rows_at : List ℕ
      copy_rows_at = all_bytes row_bytes (place_rows site.depth (last j.target) copies)

      -- they are the rows of the copies at the path
      copies_written : Written o 0 (place_rows site.depth (last j.target) copies) n z
      unfolding checkout_job checkout_copies
      copies_written =
          written_as
          (ap (entry_rows checkout_job site.depth) (named ∙ last_in_text to j.reads) ∙ entry_job_rows w entry j.stands.directory.here j.reads_entry j.found checkout_group site.depth (last j.target))
          (all checkout_job)

      -- and so they lie over the buffer
      pub copies_lie : z ≡ copies_over j o
      unfolding copies_over over
      copies_lie = written_pieces copies_written ∙ ap (λ (n : ℕ). take 2 o ++ (copy_rows_at ++ drop (2 + n) o)) (sym (written_width copies_written))

      copies_count : n ≡ suc (size copies.below)
      copies_count = omega (arith, copies_written.next, length_place_rows site.depth (last j.target) copies)

      -- no more than the entry has rows
      copies_within : n ≤ subtree_rows b site.filed
      copies_within = omega (arith, (all checkout_job).next, entry_few checkout_job site.depth name)

      -- nor than a tree
      pub copies_few : n ≤ most_rows
      copies_few = omega (arith, copies_within, entry_within checkout_job)

      -- all in the buffer
      pub copies_fit : length z ≡ length o → row_start n ≤ length z
      copies_fit same = omega (arith, copies_within)

      module _ (m : ℕ) (is : m ≡ deepest_from z 0 0 n) where
        depth_is : m ≡ depth j.target + height copies.below
        depth_is = is ∙ deepest_of_place site.depth (last j.target) copies copies_written (omega arith) ∙ omega (arith, j.stands.level)

        -- the deepest lies too deep
        pub copies_too_deep : 6 < m → Prepared (steps_left j) b z site.at (Err TooDeep)
        copies_too_deep h = prepared_not b z site.at (place_too_deep w.caller j.top j.target copies (omega (arith, h, depth_is)))

        module _ (low : m ≤ 6) (c : ℕ) (counts : c ≡ row_count b) where
          low_enough : depth j.target + height copies.below ≤ 6
          low_enough = omega (arith, low, depth_is)

          count_is : nodes j.top + suc (size copies.below) ≡ c + n
          count_is = omega (arith, counts, encoded_count j.found.tree, copies_count)

          -- there are too many
          pub copies_too_many : 256 < c + n → Prepared (steps_left j) b z site.at (Err Full)
          copies_too_many h = prepared_not b z site.at (place_too_many w.caller j.top j.target copies low_enough (omega (arith, h, count_is)))

          -- behind the first two bytes stand their rows, and put in they make the tree with them
          made : c + n ≤ 256 → rows_put b site.at n (drop 2 z) ≡ encode_tree (update (parent j.target) (put (last j.target) copies) j.top)
          made h =
              let d = j.target in
              let s = j.stands in
              let D = drop (row_start 0 + row_width * length (place_rows site.depth (last d) copies)) o in
              let behind : drop 2 z ≡ copy_rows_at ++ D = ap (drop 2) (written_pieces copies_written) ∙ drop_at (take 2 o) (copy_rows_at ++ D) 2 (length-take-le 2 o (omega arith)) in
              let level : site.depth ≡ suc (depth (parent d)) = s.level ∙ sym (parent_depth d s.roomed.below_top) in
              let width : RowsWide (place_rows site.depth (last d) copies) = omega (arith, written_width copies_written) in
              ap (rows_put b site.at n) behind
              ∙ ap (λ (i : ℕ). rows_put b i n (copy_rows_at ++ D)) s.index
              ∙ ap (λ (i : ℕ). rows_put b (suc (site.row + size (lesser (last d) s.directory.below))) i (copy_rows_at ++ D)) copies_count
              ∙ ap (λ (i : ℕ). rows_put b (suc (site.row + size (lesser (last d) s.directory.below))) (suc (size copies.below)) (all_bytes row_bytes (place_rows i (last d) copies) ++ D)) level
              ∙ rows_law s.above (last d) copies s.roomed.free (rw (← level) width) (omega (arith, count_is, h)) D

          -- so they are ready
          pub copies_ready : c + n ≤ 256 → length z ≡ length o → Prepared (steps_left j) b z site.at (Ok n)
          copies_ready h v = prepared_ready b z site.at (record {
            insertable = stands_insertable j.stands n (omega (arith, counts, encoded_count j.found.tree, h));
            room = copies_fit v;
            tree = update (parent j.target) (put (last j.target) copies) j.top;
            come = place_done w.caller j.top j.target copies low_enough (omega (arith, h, count_is));
            make = made h;
          })
