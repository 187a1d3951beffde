-- `patterns::serve` meets its contract: the place stays in the window, all buffers keep their lengths, and the turns chain on.
use mathlib.Core.Path.{◌≡◌, refl, sym, ◌∙◌, subst}
use mathlib.Core.List.{List}
use Prim.Native.Nat.{ℕ, suc, ◌+◌, ◌-◌, ◌≤◌, ◌<◌}
use native.Mathlib.Omega.{arith}
use Rattle.store.specs.StoreBytes.{store_width}
use Rattle.setups.specs.LineRead.{BegunStore}
use Rattle.setups.specs.OpeningLaws.{nothing_begun}
use Rattle.agenda.specs.declared.Place.{Place}
use Rattle.agenda.specs.declared.Step.{Step}
use Rattle.agenda.specs.declared.Step.TheVariants as step
use Rattle.patterns.specs.Buffers.{Buffers, lent, lines_at, Held}
use Rattle.patterns.specs.Turns.{Turns, Serves, most_turns, spent, ended, failed, goes}
use Rattle.patterns.specs.TurnsLaws.{Leads, turn_leads}
use Rattle.patterns.proofs.serve.Invariants.{Serving}
use Rattle.patterns.proofs.serve.Goals as goal

-- so a turn may be made
holds_for : {s₀ s : Buffers} {at : Place} {turn : ℕ} → Serving s₀ s at turn → turn < most_turns → Held at s
holds_for i some_left =
    record { placed = i.placed; answering = i.answering; reporting = i.reporting; ready = i.ready; countable = omega (arith, i.counted, some_left) }

module _ (turn : ℕ) (some_left : turn < most_turns) (r : Step) (at : Place) (s s₁ : Buffers) (turned : Turns r at s s₁) where
  left : suc (most_turns - (turn + 1)) ≡ most_turns - turn
  left = omega arith

  -- one turn, and then those behind it
  on : (then : Place) → r ≡ step.On then → {s' : Buffers} → Serves (most_turns - (turn + 1)) then s₁ s' → Serves (most_turns - turn) at s s'
  on then e {s'} x = subst (λ (n : ℕ). Serves n at s s') left (goes (subst (λ (y : Step). Turns y at s s₁) e turned) x)

  -- or the last
  at_end : r ≡ step.Ended → Serves (most_turns - turn) at s s₁
  at_end e = subst (λ (n : ℕ). Serves n at s s₁) left (ended (subst (λ (y : Step). Turns y at s s₁) e turned))

  at_failure : r ≡ step.Failed → Serves (most_turns - turn) at s s₁
  at_failure e = subst (λ (n : ℕ). Serves n at s s₁) left (failed (subst (λ (y : Step). Turns y at s s₁) e turned))

-- no turns are left
none_left : (turn : ℕ) → most_turns ≤ turn → (at : Place) (s : Buffers) → Serves (most_turns - turn) at s s
none_left turn h at s = let z : 0 ≡ most_turns - turn = omega arith in subst (λ (n : ℕ). Serves n at s s) z spent

-- from a store that was begun
from_begun : {b₀ b₁ : List ℕ} → b₀ ≡ b₁ → {n : ℕ} {at : Place} {w a o : List ℕ} {s' : Buffers} → Serves n at (lent w b₀ a o) s' → Serves n at (lent w b₁ a o) s'
from_begun e {n} {at} {w} {a} {o} {s'} x = subst (λ (b : List ℕ). Serves n at (lent w b a o) s') e x

pub begin_store-requires : goal.begin_store-requires
unfolding store_width
begin_store-requires c = c.requires.stored

pub loop-turn-init : goal.loop-turn-init
unfolding lines_at
loop-turn-init c =
    let p = c.requires in
    record {
      long = record { stores = refl; windows = refl; answers = refl; outs = refl };
      placed = record { wide = p.windowed; ordered = omega arith; within = omega arith };
      answering = p.answering;
      reporting = p.reporting;
      ready = (subst BegunStore (sym c.begin_store.ensures) (nothing_begun c.args.store.now p.stored), omega arith);
      counted = omega arith;
      chain = λ x. x;
    }

pub loop-turn-preserved : goal.loop-turn-preserved
loop-turn-preserved c =
    let l = c.loop-turn in
    let i = l.invariant in
    let w = c.turn in
    let g = c.in-On in
    let some_left : l._turn < most_turns = omega (arith, c.loop-turn-test.true) in
    let b = lent l.window l.store l.answer l.out in
    let b₁ = lent w.new.window w.new.store w.new.answer w.new.out in
    let leaves = subst (λ (r : Step). Leads l.at.phase r b₁) g.is (turn_leads l.at b (holds_for i some_left) w.result b₁ w.ensures) in
    record {
      long = record {
        stores = w.auto.store ∙ i.long.stores;
        windows = w.auto.window ∙ i.long.windows;
        answers = w.auto.answer ∙ i.long.answers;
        outs = w.auto.out ∙ i.long.outs;
      };
      placed = leaves.0;
      answering = w.auto.answer ∙ i.answering;
      reporting = w.auto.out ∙ i.reporting;
      ready = leaves.1.0;
      counted = omega (arith, i.counted, leaves.1.1);
      chain = λ x. i.chain (on l._turn some_left w.result l.at b b₁ w.ensures g.then g.is x);
    }

pub returns-in-Ended : goal.returns-in-Ended
returns-in-Ended c =
    let l = c.loop-turn in
    let w = c.turn in
    let b = lent l.window l.store l.answer l.out in
    let b₁ = lent w.new.window w.new.store w.new.answer w.new.out in
    from_begun c.begin_store.ensures (l.invariant.chain (at_end l._turn (omega (arith, c.loop-turn-test.true)) w.result l.at b b₁ w.ensures c.in-Ended.is))

pub returns-in-Failed : goal.returns-in-Failed
returns-in-Failed c =
    let l = c.loop-turn in
    let w = c.turn in
    let b = lent l.window l.store l.answer l.out in
    let b₁ = lent w.new.window w.new.store w.new.answer w.new.out in
    from_begun c.begin_store.ensures (l.invariant.chain (at_failure l._turn (omega (arith, c.loop-turn-test.true)) w.result l.at b b₁ w.ensures c.in-Failed.is))

pub returns : goal.returns
returns c =
    let l = c.loop-turn in
    from_begun c.begin_store.ensures (l.invariant.chain (none_left l._turn c.loop-turn-test.false l.at (lent l.window l.store l.answer l.out)))
