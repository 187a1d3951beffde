-- `moving::subtree::move_by` meets its contract: with the rows taken out the path is vacant still, and the rows come in there.
use mathlib.Core.Path.{◌∙◌}
use native.Mathlib.Omega.{arith}
use Rattle.moving.specs.MovingLaws.{movable_count, movable_rows, remaining_vacant, remaining_rows, held_law, move_law}
use Rattle.moving.proofs.subtree.move_by.Goals as goal

pub take_held-requires : goal.take_held-requires
take_held-requires c =
    record {
      stretch = movable_rows c.requires.movable c.args.n c.requires.n_value;
      n_in_bounds = c.requires.n_in_bounds;
    }

pub put_held-requires : goal.put_held-requires
put_held-requires c =
    let m = c.requires.movable in
    let n = c.args.n in
    let u = c.take_held.new.tree in record {
      vacant = remaining_vacant m n c.requires.n_value u c.take_held.ensures.tree_after;
      n_nonzero = omega (arith, movable_count m n c.requires.n_value);
      n_bound = remaining_rows m n c.requires.n_value u c.take_held.ensures.tree_after;
      n_in_bounds = omega (arith, c.take_held.auto.held, c.requires.n_in_bounds);
    }

pub returns : goal.returns
returns c =
    let n = c.args.n in
    let Z = c.args.held.now in
    let u = c.take_held.new.tree in
    let h = c.take_held.new.held in
    let w = c.put_held.new.held in
    let e = c.requires.n_value in
    let taken = c.take_held.ensures.tree_after in record {
      tree_after = λ m.
          let v = remaining_vacant m n e u taken in
          c.put_held.ensures.tree_after v ∙ move_law m n e u taken Z w (held_law m n e u taken Z h w c.take_held.ensures.held_after (c.put_held.ensures.held_after v));
      held_after = λ m.
          let v = remaining_vacant m n e u taken in
          held_law m n e u taken Z h w c.take_held.ensures.held_after (c.put_held.ensures.held_after v);
    }
