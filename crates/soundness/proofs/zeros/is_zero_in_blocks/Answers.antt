-- `soundness::zeros::is_zero_in_blocks` meets its contract: what is left in front is all 0 just if the whole is.
use mathlib.Core.Path.{◌≡◌, refl, sym, ◌∙◌, ap}
use mathlib.Core.List.{List}
use mathlib.Core.Bool.{Bool, true, false, ◌&&◌, and-false, and-true}
use Prim.Native.Nat.{ℕ, ◌≤◌, ◌-◌, ◌+◌}
use native.Mathlib.Omega.{arith}
use lib.Dec.{eqb}
use lib.ListN.{take, drop}
use lib.Seq.{take-add, drop-drop}
use Rattle.buffers.specs.Cases.{answers_false, answers_true}
use Rattle.buffers.specs.TextLaws.{every_append}
use Rattle.buffers.specs.Fields.{all_zero, zeros_at}
use Rattle.soundness.proofs.zeros.is_zero_in_blocks.Goals as goal

module _ (s : List ℕ) (from end : ℕ) (h : from + 256 ≤ end) where
  -- the last block and what is before it
  by-block : zeros_at from (end - from) s ≡ (zeros_at from (end - 256 - from) s && zeros_at (end - 256) (end - 256 + 256 - (end - 256)) s)
  unfolding zeros_at all_zero
  by-block =
      let left = end - 256 - from in
      let q : end - from ≡ left + 256 = omega arith in
      let p : end - 256 + 256 - (end - 256) ≡ 256 = omega arith in
      let at : from + left ≡ end - 256 = omega arith in
      rw (q, p)
      (ap all_zero (take-add left 256 (drop from s))
      ∙ every_append (λ (b : ℕ). eqb b 0) (take left (drop from s)) (take 256 (drop left (drop from s)))
      ∙ ap (λ (l : List ℕ). all_zero (take left (drop from s)) && all_zero (take 256 l)) (drop-drop left from s ∙ ap (λ (n : ℕ). drop n s) at))

  misses : zeros_at (end - 256) (end - 256 + 256 - (end - 256)) s ≡ false → false ≡ zeros_at from (end - from) s
  misses e = sym (by-block ∙ ap (λ (b : Bool). zeros_at from (end - 256 - from) s && b) e ∙ and-false (zeros_at from (end - 256 - from) s))

  goes_on : zeros_at (end - 256) (end - 256 + 256 - (end - 256)) s ≡ true → zeros_at from (end - 256 - from) s ≡ zeros_at from (end - from) s
  goes_on e = sym (by-block ∙ ap (λ (b : Bool). zeros_at from (end - 256 - from) s && b) e ∙ and-true (zeros_at from (end - 256 - from) s))

pub loop-end-init : goal.loop-end-init
loop-end-init c = record { begun = omega arith; le = omega arith; goes = refl }

pub overflow_sub-end : goal.overflow_sub-end
overflow_sub-end c = omega arith

pub overflow_sub-end-in-loop-end : goal.overflow_sub-end-in-loop-end
overflow_sub-end-in-loop-end c = omega arith

pub overflow_add-end : goal.overflow_add-end
overflow_add-end c = omega arith

pub is_zero-requires : goal.is_zero-requires
is_zero-requires c = record {
  from_le_to = omega arith;
  to_in_bounds = omega arith;
}

pub returns-then-not-is_zero : goal.returns-then-not-is_zero
returns-then-not-is_zero c =
    let l = c.loop-end in
    let a = c.args in
    misses a.s.now a.from l.end (omega arith) (answers_false c.is_zero.ensures c.if-not-is_zero.true-raw) ∙ l.invariant.goes

pub loop-end-smaller : goal.loop-end-smaller
loop-end-smaller c = omega arith

pub loop-end-preserved : goal.loop-end-preserved
loop-end-preserved c =
    let l = c.loop-end in
    let a = c.args in
    record {
      begun = omega arith;
      le = omega arith;
      goes = goes_on a.s.now a.from l.end (omega arith) (answers_true c.is_zero.ensures c.if-not-is_zero.false-raw) ∙ l.invariant.goes;
    }

pub is_zero-requires-2 : goal.is_zero-requires-2
is_zero-requires-2 c = record {
  from_le_to = omega arith;
  to_in_bounds = omega arith;
}

pub returns : goal.returns
returns c = c.is_zero-2.ensures ∙ c.loop-end.invariant.goes
