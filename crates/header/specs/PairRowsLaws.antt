-- The role pairs in a header's bytes are at most 28 and fall; the rows closed from them tell who dominates.
use Rattle.std.specs.Prelude.{◌≡◌, List, true, ℕ, ◌+◌, ◌≤◌, get_or, drop}
use Rattle.std.proofs.Common.{◌∙◌, arith}
use Rattle.std.proofs.Math.Option.{some}
use Rattle.accounts.specs.declared.Pair.{Pair}
use Rattle.accounts.specs.Dominance.{BoundedRole, dominates, all_fall}
use Rattle.accounts.specs.Service.{service}
use Rattle.accounts.specs.Closure.{rows_of, row_dominates, row_account, session_dominates}
use Rattle.accounts.proofs.ClosureLaws.{row_dominates_is, row_account_is, session_as}
use Rattle.dominance.specs.PairsIn.{pairs_in}
use Rattle.setup.proofs.SetupLaws.{apart, pairs_fall}
use Rattle.store.specs.HeaderLayout.{pairs_offset}
use Rattle.header.specs.HeaderBytes.{Headed, session_held}
use Rattle.header.specs.HeaderBytesLaws.{pairs_counted, pairs_stand}

-- a header has at most 28 pairs
pub few_paired : {b : List ℕ} → Headed b → get_or b pairs_offset 0 ≤ 28
few_paired h = omega (arith, pairs_counted h.2, (apart h.0 h.2.in_range).few_pairs)

-- they fall
pub pairs_in_fall : {b : List ℕ} → Headed b → all_fall (pairs_in (get_or b pairs_offset 0) (drop (pairs_offset + 1) b)) ≡ true
pairs_in_fall h = rw (pairs_stand h.2) at (pairs_fall h.0 h.2.in_range)

-- ---- what such rows tell

module _ (ps : List Pair) (rows : List ℕ) (e : rows ≡ rows_of ps) where
  -- which role dominates which
  pub rows_tell_dominance : (s r : BoundedRole) → row_dominates rows s.role r.role ≡ dominates ps s.role r.role
  rows_tell_dominance s r = rw e (row_dominates_is ps s r)

  -- also by a session
  pub rows_tell_session : (s r : BoundedRole) → session_dominates (session_held (some s)) rows r.role ≡ dominates ps s.role r.role
  unfolding session_held
  rows_tell_session s r = session_as rows s.role r.role ∙ rows_tell_dominance s r

  -- and the service account of a role
  pub rows_tell_account : (s : BoundedRole) → row_account rows s.role ≡ service ps s
  rows_tell_account s = rw e (row_account_is ps s)
