-- `walks::along::walk` meets its contract: the walk along the names left, from where it is now, is the walk along all.
use Rattle.std.specs.Prelude.{◌≡◌, ℕ, ◌<◌, List, ◌∷◌, Some, None, length}
use Rattle.std.specs.Borrow.{Bor}
use Rattle.std.proofs.Common.{arith, sym, ap, ◌∙◌}
use Rattle.accounts.specs.declared.Account.{Account}
use Rattle.syntax.specs.Path.{Name}
use Rattle.syntax.specs.Parts.{next_name, behind_name, names_from}
use Rattle.syntax.proofs.ParentLaws.{names_from_first, names_from_end, names_from_next}
use Rattle.tree.specs.declared.Cause.{Cause}
use Rattle.tree.specs.Result.{refused, done}
use Rattle.tree.specs.RowAt.{all_rows}
use Rattle.tree.proofs.ResultLaws.{outcome_ok, outcome_err, outcome_passed}
use Rattle.tree.proofs.RowAtLaws.{length_all_rows}
use Rattle.walks.specs.RowWalk.{Spot, spot, top_spot, step_in, walk_names_in, walk_in}
use Rattle.walks.specs.RowWalkLaws.{step_within, walk_none, walk_on, walk_stops}
use Rattle.walks.proofs.along.walk.Invariants.{Going}
use Rattle.walks.proofs.along.walk.Goals as goal

-- from `/` along all names
begins : (tree : List ℕ) (account : Account) (path : List ℕ)
    → walk_names_in account (all_rows tree) (spot 0 0) (names_from path 1) ≡ walk_in account (all_rows tree) path
unfolding walk_in top_spot
begins tree account path = rw (names_from_first path)

module _ {tree : List ℕ} {account : Account} {path : List ℕ} {at : ℕ} {here : Spot} {text : List ℕ} (g : Going tree account path here text at) where
  module _ {name : Name} (read : next_name text at ≡ Some name) where
    -- along the name that was read and those behind it
    goes_along : walk_names_in account (all_rows tree) here (name ∷ names_from text (behind_name text at)) ≡ walk_in account (all_rows tree) path
    goes_along = rw (← (names_from_next text at name read).follow) g.goes

    -- a step that is done
    goes_on : (s : Spot) → step_in account (all_rows tree) here name ≡ done s → Going tree account path s text (behind_name text at)
    goes_on s e =
        let rs = all_rows tree in
        let q = length_all_rows tree in
        let w = step_within account rs here s name (omega (arith, g.row_in)) e in
        record {
          row_in = omega (arith, w.row_in);
          above_in = omega (arith, w.above_in);
          goes = sym (walk_on account rs here s name (names_from text (behind_name text at)) e) ∙ goes_along;
        }

    -- one that is refused
    stops : (k : Cause) → step_in account (all_rows tree) here name ≡ refused k → refused k ≡ walk_in account (all_rows tree) path
    stops k e = sym (walk_stops account (all_rows tree) here k name (names_from text (behind_name text at)) e) ∙ goes_along

  -- the end of the names
  ends : next_name text at ≡ None → done here ≡ walk_in account (all_rows tree) path
  ends e =
      sym (walk_none account (all_rows tree) here)
      ∙ ap (walk_names_in account (all_rows tree) here) (sym (names_from_end text at e))
      ∙ g.goes

  -- a name more leaves fewer
  fewer : {name : Name} → next_name text at ≡ Some name → length (names_from text (behind_name text at)) < length (names_from text at)
  fewer read = omega (arith, ap length (names_from_next text at _ read).follow)

-- the text that a reader holds
held : {b d : Bor (List ℕ)} → b ≡ d → b.now ≡ d.now
held e = ap (λ (b : Bor (List ℕ)). b.now) e

pub loop-name-init : goal.loop-name-init
loop-name-init c =
    let a = c.args in
    let names = c.of-names.ensures in
    let text = held names.path in
    rw (names.first, text) (record { row_in = omega arith; above_in = omega arith; goes = begins a.tree.now a.account a.path.now })

pub returns-in_err-spot : goal.returns-in_err-spot
returns-in_err-spot c =
    let stepped = sym c.in_err-spot.ensures ∙ outcome_err _ in
    outcome_passed c.from_residual.result c.from_residual.ensures.1 ∙ stops c.loop-name.invariant (sym c.in-Some.ensures.name) _ stepped

pub loop-name-smaller : goal.loop-name-smaller
loop-name-smaller c =
    let names = c.in-Some.ensures in
    let text = held names.path in
    rw (names.rest, text) (fewer c.loop-name.invariant (sym names.name))

pub loop-name-preserved : goal.loop-name-preserved
loop-name-preserved c =
    let names = c.in-Some.ensures in
    let text = held names.path in
    let stepped = sym c.in_ok-spot.ensures ∙ outcome_ok _ in
    rw (names.rest, text) (goes_on c.loop-name.invariant (sym names.name) _ stepped)

pub returns : goal.returns
returns c = outcome_ok _ ∙ ends c.loop-name.invariant (sym c.in_default.ensures.name)
