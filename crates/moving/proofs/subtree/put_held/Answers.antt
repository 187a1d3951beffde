-- `moving::subtree::put_held` meets its contract: root's room is found, and the rows come in there with the name and the depth of the path.
use mathlib.Core.Path.{sym, ap, refl, ◌∙◌}
use Prim.Native.Nat.{ℕ}
use native.Mathlib.Omega.{arith}
use lib.ListN.{length}
use Rattle.buffers.specs.Text.{Text}
use Rattle.syntax.specs.Path.{depth}
use Rattle.syntax.proofs.PathTextLaws.{text_begins}
use Rattle.tree.proofs.ResultLaws.{not_done}
use Rattle.tree.proofs.TreeBytesLaws.{encoded_count}
use Rattle.edits.specs.Changes.{rows_put}
use Rattle.gaps.specs.declared.Gap.{Gap}
use Rattle.gaps.specs.GapsLaws.{last_in_text, last_fits, room_to, room_gap, room_not, stands_insertable}
use Rattle.moving.specs.Relabel.{relabelled}
use Rattle.moving.specs.Moving.{superuser, relabelled_for, filled}
use Rattle.moving.specs.MovingLaws.{vacant_room}
use Rattle.moving.proofs.subtree.put_held.Goals as goal

pub last_name-requires : goal.last_name-requires
last_name-requires c =
    let v = c.requires.vacant in
    text_begins c.args.to.now v.path v.reads

pub relabel-requires : goal.relabel-requires
relabel-requires c =
    let fits = last_fits c.args.to.now c.requires.vacant.reads (vacant_room c.requires.vacant).below_top in
    record {
      n_nonzero = omega (arith, c.requires.n_nonzero);
      n_in_bounds = omega (arith, c.requires.n_nonzero, c.requires.n_in_bounds);
      name_len_bound = omega (arith, ap length c.last_name.ensures, fits);
    }

pub put_rows-requires : goal.put_rows-requires
put_rows-requires c =
    let v = c.requires.vacant in
    let told = c.in-Ok.ensures v.tree v.path v.encoded v.reads in
    let g = room_to v.encoded superuser v.path told refl in
    record {
      insertable = stands_insertable g _ (omega (arith, encoded_count v.encoded, c.requires.n_bound));
      n_in_bounds = omega (arith, c.relabel.auto.rows, c.requires.n_in_bounds);
    }

pub returns-in-Ok : goal.returns-in-Ok
unfolding relabelled_for filled
returns-in-Ok c =
    let a = c.args in
    let l = c.relabel in
    let name = c.last_name in
    let room = c.in-Ok in record {
      tree_after = λ v.
          let told = room.ensures v.tree v.path v.encoded v.reads in
          c.put_rows.ensures
          ∙ ap (λ (g : Gap). rows_put a.tree.now g.at a.n l.new.rows) (room_gap v.encoded superuser v.path told v.found refl);
      held_after = λ v.
          let told = room.ensures v.tree v.path v.encoded v.reads in
          l.ensures
          ∙ ap (λ (k : ℕ). relabelled a.n k name.result.now a.held.now) (room_to v.encoded superuser v.path told refl).level
          ∙ ap (λ (x : Text). relabelled a.n (depth v.path) x a.held.now) (name.ensures ∙ last_in_text a.to.now v.reads);
    }

pub returns-in_default : goal.returns-in_default
returns-in_default c =
    let refused = c.in_default.ensures in record {
      tree_after = λ v. not_done (sym (room_not v.encoded superuser v.path (refused v.tree v.path v.encoded v.reads) refl) ∙ v.found);
      held_after = λ v. not_done (sym (room_not v.encoded superuser v.path (refused v.tree v.path v.encoded v.reads) refl) ∙ v.found);
    }
