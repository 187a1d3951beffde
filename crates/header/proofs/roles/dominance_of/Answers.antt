-- `header::roles::dominance_of` meets its contract: the bytes behind the pairs' number say the setup's pairs.
use mathlib.Core.Path.{◌≡◌, sym, ap, ◌∙◌}
use mathlib.Core.List.{List}
use Prim.Native.Nat.{ℕ, ◌+◌, ◌-◌}
use native.Mathlib.Omega.{arith}
use lib.ListN.{length, get_or, take, drop, length-drop}
use lib.Seq.{take_all}
use Rattle.accounts.specs.Closure.{rows_of}
use Rattle.dominance.specs.PairsIn.{pairs_in}
use Rattle.header.specs.HeaderBytesLaws.{headed_wide, pairs_stand}
use Rattle.header.specs.PairRowsLaws.{few_paired, pairs_in_fall}
use Rattle.store.specs.HeaderLayout.{pairs_offset}
use Rattle.header.proofs.roles.dominance_of.Goals as goal

-- the bytes lent are all that stand there
behind-number : (b : List ℕ) → take (length b - (pairs_offset + 1)) (drop (pairs_offset + 1) b) ≡ drop (pairs_offset + 1) b
behind-number b = take_all (length b - (pairs_offset + 1)) (drop (pairs_offset + 1) b) (omega (arith, length-drop (pairs_offset + 1) b))

pub bounds-header-64 : goal.bounds-header-64
bounds-header-64 c = omega (arith, headed_wide c.requires)

pub overflow_cast-n : goal.overflow_cast-n
overflow_cast-n c = omega (arith, few_paired c.requires)

pub slice_bounds-closed_bytes-count : goal.slice_bounds-closed_bytes-count
slice_bounds-closed_bytes-count c = omega (arith, headed_wide c.requires)

pub slice_bounds-closed_bytes-start : goal.slice_bounds-closed_bytes-start
slice_bounds-closed_bytes-start c = omega (arith, headed_wide c.requires)

pub closed_bytes-requires : goal.closed_bytes-requires
closed_bytes-requires c =
    let b = c.args.header.now in
    let few = few_paired c.requires in
    record {
      n_bound = few;
      n_in_bounds = rw (behind-number b) (omega (arith, few, headed_wide c.requires, length-drop (pairs_offset + 1) b));
      bytes_value = rw (behind-number b) (pairs_in_fall c.requires);
    }

pub returns : goal.returns
returns c u z h =
    let b = c.args.header.now in
    c.closed_bytes.ensures ∙ ap (λ (l : List ℕ). rows_of (pairs_in (get_or b pairs_offset 0) l)) (behind-number b) ∙ ap rows_of (sym (pairs_stand h))
