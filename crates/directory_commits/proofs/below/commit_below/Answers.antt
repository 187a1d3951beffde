-- `directory_commits::below::commit_below` meets its contract: at each turn the files left, committed from the store as it is, give all.
use mathlib.Core.Path.{refl}
use native.Mathlib.Omega.{arith}
use Rattle.directory_commits.specs.Steps.{SteppedIn}
use Rattle.directory_commits.specs.BelowLaws.{begins, turn_place, goes_on, rises, same_wide, comes_to_all, row_in}
use Rattle.directory_commits.proofs.below.commit_below.Goals as goal

pub end_in-end-requires : goal.end_in-end-requires
end_in-end-requires c = let x = c.requires in (_, _, _, row_in x.at)

-- where the rows end, for every directory that the row may be
pub overflow_add-at : goal.overflow_add-at
overflow_add-at c =
    let x = c.requires in
    let e = c.end_in-end.ensures _ _ _ (row_in x.at) in
    omega arith

pub loop-at-init : goal.loop-at-init
loop-at-init c k e x = begins x _ _ (c.end_in-end.ensures _ _ _ (row_in x.at)) refl

pub step_in-step-requires : goal.step_in-step-requires
step_in-step-requires c =
    turn_place c.requires (c.loop-at.invariant c.args.caller refl c.requires) (omega arith)

pub overflow_add-count : goal.overflow_add-count
overflow_add-count c =
    let g = c.loop-at.invariant c.args.caller refl c.requires in
    omega (arith, g.few, c.committed-count.ensures.1)

pub loop-at-smaller : goal.loop-at-smaller
loop-at-smaller c =
    let l = c.loop-at in
    let s = c.step_in-step in
    let r = rises c.requires (l.invariant c.args.caller refl c.requires) s.result s.new.store s.ensures (omega arith) in
    omega arith

pub loop-at-preserved : goal.loop-at-preserved
loop-at-preserved c k e x =
    let l = c.loop-at in
    let s = c.step_in-step in
    let f : SteppedIn k.account c.args.account l.store l.at s.result s.new.store = rw e at s.ensures in
    rw c.committed-count.ensures.0 (goes_on x (l.invariant k e x) s.result s.new.store f (omega arith))

pub shape_of-store : goal.shape_of-store
shape_of-store c =
    same_wide c.requires (c.loop-at.invariant c.args.caller refl c.requires)

pub returns : goal.returns
returns c x =
    comes_to_all x (c.loop-at.invariant c.args.caller refl x) (omega arith)
