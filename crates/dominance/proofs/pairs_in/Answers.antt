-- `dominance::pairs_in` meets its contract: after k turns the first k pairs stand in front of those that are not there.
use mathlib.Core.Path.{◌≡◌, refl, ap, ◌∙◌}
use mathlib.Core.List.{◌++◌}
use Prim.Native.Nat.{ℕ, ◌-◌}
use native.Mathlib.Omega.{arith}
use lib.ListN.{replicate}
use Rattle.buffers.specs.Fields.{all_from}
use Rattle.accounts.specs.PairBytes.{no_pair}
use Rattle.dominance.specs.PairsIn.{pairs_in}
use Rattle.dominance.proofs.PairsInLaws.{pair_stored}
use Rattle.dominance.proofs.pairs_in.Goals as goal

pub loop-k-init : goal.loop-k-init
unfolding all_from
loop-k-init c = record { le = omega arith; are = refl }

pub loop-k-preserved : goal.loop-k-preserved
loop-k-preserved c =
    let l = c.loop-k in
    let a = c.args in
    record { le = omega arith; are = pair_stored a.bytes.now l.k l.all (omega arith) l.invariant.are }

pub returns : goal.returns
returns c =
    let l = c.loop-k in
    let a = c.args in
    let e : l.k ≡ a.n = omega arith in
    l.invariant.are ∙ ap (λ (k : ℕ). pairs_in k a.bytes.now ++ replicate (28 - k) no_pair) e
