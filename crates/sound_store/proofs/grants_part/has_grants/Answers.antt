-- `sound_store::grants_part::has_grants` meets its contract: their number, each grant, and the zeros behind them.
use mathlib.Core.Path.{◌≡◌, refl, ◌∙◌}
use mathlib.Core.Bool.{◌&&◌, and_assoc}
use Prim.Native.Nat.{◌-◌}
use lib.Dec.{leb}
use lib.ListN.{get_or}
use Rattle.std.proofs.Common.{rules}
use borrow.Author.Tests.{le-leb, lt-leb}
use Rattle.buffers.specs.Fields.{zeros_at}
use Rattle.soundness.specs.BothLaws.{both, not_both}
use Rattle.store.specs.HeaderLayout.{grants_offset, grant_start, directories_offset}
use Rattle.sound_store.specs.HeaderTests.{passes_from, is_grant_at, has_grants}
use Rattle.sound_store.specs.PassesLaws.{all_passed}
use Rattle.sound_store.proofs.grants_part.has_grants.Goals as goal
use Rattle.sound_store.proofs.grants_part.has_grants.Goals.{Joined-n-le32, then-n-le32, else-n-le32}

front : (c : Joined-n-le32) → (let b = c.args.header.now in let n = get_or b grants_offset 0 in c.if-n-le32.value ≡ (leb n 32 && passes_from (is_grant_at b) 0 n))
front c =
    let b = c.args.header.now in
    let n = get_or b grants_offset 0 in
    elim c.if-n-le32.branch [
      | then-n-le32 w ↦ both refl (le-leb n 32 w.if-n-le32.true) (w.value-is ∙ all_passed n (is_grant_at b) _ _ _ w.all.ensures.ran (λ x r q k. search rules))
      | else-n-le32 w ↦ not_both _ refl (lt-leb n 32 w.if-n-le32.false) w.value-is
    ]

pub returns-then-all : goal.returns-then-all
unfolding has_grants
returns-then-all c =
    let b = c.args.header.now in
    let n = get_or b grants_offset 0 in
    both (front (goal.at.returns-then-all c).Joined-n-le32) c.if-all.true c.is_zero.ensures
    ∙ and_assoc (leb n 32) (passes_from (is_grant_at b) 0 n) (zeros_at (grant_start n) (directories_offset - grant_start n) b)

pub returns-else-all : goal.returns-else-all
unfolding has_grants
returns-else-all c =
    let b = c.args.header.now in
    let n = get_or b grants_offset 0 in
    not_both _ (front (goal.at.returns-else-all c).Joined-n-le32) c.if-all.false refl
    ∙ and_assoc (leb n 32) (passes_from (is_grant_at b) 0 n) (zeros_at (grant_start n) (directories_offset - grant_start n) b)
