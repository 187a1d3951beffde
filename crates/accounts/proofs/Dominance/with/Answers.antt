-- `accounts::Dominance::with` meets its contract. The loop's invariant: the rows below the place of this turn are grown.
-- Assumes nothing.
use Rattle.std.proofs.Common.{◌≡◌, ℕ, ◌≤◌, List, length, take, drop, map, get_or, ◌++◌, arith, rules, ◌∙◌, ap, append-nil, drop_of_length-le, take_all}
use Rattle.std.proofs.lemmas.List.{get_or_default}
use Rattle.std.proofs.lemmas.List.Edits.{map_over_more}
use Rattle.accounts.specs.Closure.{grown_row, grown_rows}
use Rattle.accounts.proofs.ClosureLaws.{none_grown}
use Rattle.accounts.proofs.Dominance.with.Goals as goal

-- past the last row all are grown
all_grown : (f : ℕ → ℕ) (rows : List ℕ) (i : ℕ) → length rows ≤ i → map f (take i rows) ++ drop i rows ≡ map f rows
all_grown f rows i h = rw (take_all i rows h, drop_of_length-le rows h, append-nil)

pub returns-in_default : goal.returns-in_default
returns-in_default c =
    let a = c.args in
    let n : length a.self.rows ≡ 8 = search rules in
    none_grown a.pair a.self.rows n (omega (arith, c.in_default.ensures.lookup.3))

pub loop-row-preserved : goal.loop-row-preserved
loop-row-preserved c =
    let a = c.args in
    let l = c.loop-row in
    let n : length a.self.rows ≡ 8 = search rules in
    let m : length l.row-items ≡ 8 = search rules in
    let x = get_or l.row-items l.row-index 0 in
    rw c.grown_row.ensures
    (map_over_more (grown_row a.pair.senior c.in-Some.field-0.now) a.self.rows l.row-items l.row-index x (omega arith) l.invariant
    (get_or_default l.row-items l.row-index 0 x (omega arith)))

pub returns : goal.returns
unfolding grown_rows
returns c =
    let a = c.args in
    let n : length a.self.rows ≡ 8 = search rules in
    c.loop-row.invariant
    ∙ all_grown (grown_row a.pair.senior c.in-Some.field-0.now) a.self.rows c.loop-row.row-index (omega arith)
    ∙ ap (λ (add : ℕ). map (grown_row a.pair.senior add) a.self.rows) (c.in-Some.ensures.lookup.3.1 0)
