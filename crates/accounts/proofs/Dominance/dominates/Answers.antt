-- `accounts::Dominance::dominates` meets its contract: past the last row no role dominates.
-- Assumes nothing.
use Rattle.std.proofs.Common.{◌≡◌, List, ℕ, false, length, ◌≤◌, ◌^◌, ◌∙◌, ap}
use Rattle.std.proofs.Math.Nat.{zero-div}
use Rattle.std.proofs.Math.ListN.{get_or-eq_default}
use Rattle.accounts.specs.declared.Role.{Role}
use Rattle.accounts.specs.Closure.{row_dominates, has_role}
use Rattle.accounts.proofs.Dominance.dominates.Goals as goal

-- past the last row no role dominates
past_rows : (rows : List ℕ) (s r : Role) → length rows ≤ s.0 → false ≡ row_dominates rows s r
unfolding row_dominates has_role
past_rows rows s r h = rw (get_or-eq_default rows 0 h, zero-div (2 ^ r.0))

pub returns-in-Some : goal.returns-in-Some
unfolding row_dominates
returns-in-Some c = c.has_role.ensures ∙ ap (λ (row : ℕ). has_role row c.args.r) (c.in-Some.ensures.lookup.3.1 0)

pub returns-in-None : goal.returns-in-None
returns-in-None c = past_rows c.args.self.rows c.args.s c.args.r c.in-None.ensures.lookup.3
