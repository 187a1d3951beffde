-- `sound_store::pairs_part::has_pairs` meets its contract: their number, each pair, and the zeros behind them.
use mathlib.Core.Path.{◌≡◌, refl, ◌∙◌}
use mathlib.Core.Bool.{◌&&◌, and_assoc}
use Prim.Native.Nat.{◌-◌}
use lib.Dec.{leb}
use lib.ListN.{get_or}
use Rattle.std.proofs.Common.{rules}
use borrow.Author.Tests.{le-leb, lt-leb}
use Rattle.buffers.specs.Fields.{zeros_at}
use Rattle.soundness.specs.BothLaws.{both, not_both}
use Rattle.store.specs.HeaderLayout.{pairs_offset, pair_start, grants_offset}
use Rattle.sound_store.specs.HeaderTests.{passes_from, is_pair_at, has_pairs}
use Rattle.sound_store.specs.PassesLaws.{all_passed}
use Rattle.sound_store.proofs.pairs_part.has_pairs.Goals as goal
use Rattle.sound_store.proofs.pairs_part.has_pairs.Goals.{Joined-n-le28, then-n-le28, else-n-le28}

front : (c : Joined-n-le28) → (let b = c.args.header.now in let n = get_or b pairs_offset 0 in c.if-n-le28.value ≡ (leb n 28 && passes_from (is_pair_at b) 0 n))
front c =
    let b = c.args.header.now in
    let n = get_or b pairs_offset 0 in
    elim c.if-n-le28.branch [
      | then-n-le28 w ↦ both refl (le-leb n 28 w.if-n-le28.true) (w.value-is ∙ all_passed n (is_pair_at b) _ _ _ w.all.ensures.ran (λ x r q k. search rules))
      | else-n-le28 w ↦ not_both _ refl (lt-leb n 28 w.if-n-le28.false) w.value-is
    ]

pub returns-then-all : goal.returns-then-all
unfolding has_pairs
returns-then-all c =
    let b = c.args.header.now in
    let n = get_or b pairs_offset 0 in
    both (front (goal.at.returns-then-all c).Joined-n-le28) c.if-all.true c.is_zero.ensures
    ∙ and_assoc (leb n 28) (passes_from (is_pair_at b) 0 n) (zeros_at (pair_start n) (grants_offset - pair_start n) b)

pub returns-else-all : goal.returns-else-all
unfolding has_pairs
returns-else-all c =
    let b = c.args.header.now in
    let n = get_or b pairs_offset 0 in
    not_both _ (front (goal.at.returns-else-all c).Joined-n-le28) c.if-all.false refl
    ∙ and_assoc (leb n 28) (passes_from (is_pair_at b) 0 n) (zeros_at (pair_start n) (grants_offset - pair_start n) b)
