-- `soundness::order::in_order` meets its contract: the rows that are left stand in order behind the row before, of which the names are
-- those of the rows last seen at each depth.
use Prim.Native.Nat.{ℕ, ◌≤◌, ◌<◌, ◌-◌, ◌+◌}
use native.Mathlib.Omega.{arith}
use native.Mathlib.Numerals.{add-one}
use mathlib.Core.Path.{◌≡◌, refl, sym, ◌∙◌}
use mathlib.Core.List.{List, []}
use mathlib.Core.Bool.{Bool, true, false, not}
use lib.Dec.{ltb}
use lib.ListN.{get_or, set, replicate, length-set}
use borrow.Author.Tests.{lt-ltb, ltb-true}
use Rattle.buffers.specs.Cases.{answers_false, answers_true}
use Rattle.buffers.specs.Text.{every}
use Rattle.buffers.specs.TextLaws.{every_get_or, every_set}
use Rattle.tree.specs.declared.Kind.{Kind}
use Rattle.tree.specs.RowAt.{row_count, row_bytes_at, row_at}
use Rattle.tree.proofs.TreeBytesLaws.{has_row}
use Rattle.soundness.specs.Sound.{is_row, may_follow}
use Rattle.soundness.specs.Tests.{rest_in_order}
use Rattle.soundness.specs.OrderTestLaws.{names_to, follow_low, rest_row, rest_follow, rest_next, rest_end}
use Rattle.soundness.specs.FieldTestLaws.{row_name_filled}
use Rattle.soundness.proofs.order.in_order.Invariants.{Going}
use Rattle.soundness.proofs.order.in_order.Goals as goal

begins : (b last : List ℕ) → (row_at b 0).depth ≡ 0 → last ≡ replicate 7 0 → Going b last 1
unfolding every names_to
begins b last d e = rw e (record { some = omega arith; size = refl; held = refl; goes = rw d })

module _ {b last : List ℕ} {i : ℕ} (g : Going b last i) where
  -- the row before, and what is to be answered
  abbrev before-depth : ℕ
  before-depth = (row_at b (i - 1)).depth

  abbrev before-kind : Kind
  before-kind = (row_at b (i - 1)).here.kind

  abbrev all : Bool
  all = rest_in_order b 1 [] (row_at b 0).here.kind

  -- the row last seen at a depth
  seen : (k : ℕ) → get_or last k 0 < 256
  seen k = ltb-true (get_or last k 0) 256 (every_get_or (λ j. ltb j 256) last k 0 g.held refl)

  -- whether the next row may follow, if the row last seen at its depth is given
  abbrev next-follows : ℕ → Bool
  next-follows k = may_follow before-depth before-kind (row_at b (get_or last k 0)).name (row_at b i)

  -- the next row is not one
  unsound : i < row_count b → is_row (row_bytes_at b i) ≡ false → false ≡ all
  unsound h e = sym (rest_row b last i before-depth before-kind h e) ∙ g.goes

  -- it may not follow
  astray : (k : ℕ) → k ≡ (row_at b i).depth → i < row_count b → {r : Bool} → r ≡ next-follows k → not r ≡ true → false ≡ all
  astray k e h f q = sym (rest_follow b last i before-depth before-kind h (rw e at (answers_false f q))) ∙ g.goes

  -- it lies too deep
  too-deep : i < row_count b → 6 < (row_at b i).depth → false ≡ all
  too-deep h l = astray (row_at b i).depth refl h (sym (follow_low before-depth before-kind (row_at b (get_or last (row_at b i).depth 0)).name (row_at b i) l)) refl

  -- it may
  one_more : (k : ℕ) → k ≡ (row_at b i).depth → i < row_count b → i < 256 → k ≤ 6 → is_row (row_bytes_at b i) ≡ true → {r : Bool} → r ≡ next-follows k → not r ≡ false → Going b (set last k i) (i + 1)
  one_more k e h l m s f q =
      let p : i + 1 - 1 ≡ i = omega arith in
      record {
        some = omega arith;
        size = length-set last k i ∙ g.size;
        held = every_set (λ j. ltb j 256) last k i g.held (lt-ltb i 256 l);
        goes = rw (p, add-one, e)
            (rest_next b last i before-depth before-kind h s (rw e at (answers_true f q)) (omega (arith, g.size))) ∙ g.goes;
      }

  -- there is none
  ends : row_count b ≤ i → true ≡ all
  ends h = sym (rest_end b i (names_to b last before-depth) before-kind h) ∙ g.goes

pub loop-i-init : goal.loop-i-init
loop-i-init c = begins c.args.tree.now (replicate 7 0) c.requires.tree_value refl

pub returns-then-not-is_row : goal.returns-then-not-is_row
returns-then-not-is_row c = unsound c.loop-i.invariant (omega arith) (answers_false c.is_row.ensures c.if-not-is_row.true-raw)

pub returns-then-depth-gt-MOST_NAMES : goal.returns-then-depth-gt-MOST_NAMES
returns-then-depth-gt-MOST_NAMES c = too-deep c.loop-i.invariant (omega arith) (omega arith)

pub may_follow-requires : goal.may_follow-requires
may_follow-requires c =
    let g = c.loop-i.invariant in
    let row = answers_true c.is_row.ensures c.if-not-is_row.false-raw in
    let filled = row_name_filled c.args.tree.now c.loop-i.i (omega arith) (λ j. omega (arith, c.shared_slice_known-1.given j)) row in
    record {
      has_row = omega arith;
      has_row_2 = has_row (omega arith) (seen g c.depth_at-depth.result);
      le_i = g.some;
      i_bound = omega arith;
      i_value = filled;
    }

pub returns-then-not-may_follow : goal.returns-then-not-may_follow
returns-then-not-may_follow c =
    let d = c.depth_at-depth in
    astray c.loop-i.invariant d.result d.ensures (omega arith) c.may_follow.ensures c.if-not-may_follow.true-raw

pub loop-i-preserved : goal.loop-i-preserved
loop-i-preserved c =
    let d = c.depth_at-depth in
    let row = answers_true c.is_row.ensures c.if-not-is_row.false-raw in
    one_more c.loop-i.invariant d.result d.ensures (omega arith) (omega arith) (omega arith) row c.may_follow.ensures c.if-not-may_follow.false-raw

pub returns : goal.returns
returns c = ends c.loop-i.invariant (omega arith)
