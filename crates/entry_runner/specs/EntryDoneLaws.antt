-- A command on entries that follows its steps on the lent tree is carried out on the store; what a session tells of dominance.
use Rattle.std.specs.Prelude.{◌≡◌, List, ℕ}
use Rattle.std.proofs.Math.Option.{some}
use Rattle.accounts.specs.declared.Account.{Account}
use Rattle.accounts.specs.declared.Caller.{Caller}
use Rattle.accounts.specs.declared.Role.{Role}
use Rattle.accounts.specs.declared.Session.{Session}
use Rattle.accounts.specs.Closure.{rows_of, session_dominates}
use Rattle.accounts.specs.Dominance.{BoundedRole, dominates}
use Rattle.commands.specs.Command.{EntryAction}
use Rattle.tree.specs.Result.{Result, Outcome}
use Rattle.tree.specs.Forest.{Place}
use Rattle.tree.specs.Node.{Node}
use Rattle.tree.specs.TreeBytes.{Encodes}
use Rattle.shell.specs.Replies.{Answer}
use Rattle.shell.specs.CommandBytes.{CarriesSilently, FollowsSilently}
use Rattle.store.specs.State.{state_of}
use Rattle.header.specs.HeaderBytes.{session_held}
use Rattle.header.specs.PairRowsLaws.{rows_tell_session}
use Rattle.machine.specs.Machine.{run_entry}
use Rattle.machine.specs.StoreMachine.{store}
use Rattle.machine.specs.Acting.{Acting, on_tree_steps}
use Rattle.machine.proofs.ActingLaws.{entry_keeps_registry}
use Rattle.stored_header.specs.Stored.{Stored, bytes_with}
use Rattle.stored_header.specs.StoredLaws.{lent_tree}
use Rattle.stored_header.specs.LentLaws.{tree_back, lent_carries}

-- since it keeps the registry, and its steps on the tree are in its session the machine's
pub lent_entry : {c : Caller} {account : Account} (j : Acting c account) {b : List ℕ} → Stored b (state_of j.setup j.state)
    → (k : EntryAction) {steps : Result (Outcome (Place Node))} → on_tree_steps (run_entry store j.setup j.state c k) ≡ steps
    → (r : Answer) (T : List ℕ) → (Encodes (lent_tree b) j.state.tree → FollowsSilently steps (lent_tree b) r T)
    → CarriesSilently (bytes_with j.setup) (run_entry store j.setup j.state c k) b r (tree_back b T)
lent_entry {c} j h k same r T f a =
    lent_carries h (run_entry store j.setup j.state c k) (λ o. entry_keeps_registry j.setup j.state c k) a a r T (λ e. rw same (f e a))

-- with the rows of the setup's pairs, the session in which a command acts tells which roles its own dominates
pub session_tells : {c : Caller} {account : Account} (j : Acting c account) {session : Session} {rows : List ℕ} {role : Role} (z : BoundedRole)
    → z.role ≡ role → session ≡ session_held (some j.role) → rows ≡ rows_of j.setup.pairs
    → session_dominates session rows role ≡ dominates j.setup.pairs j.role.role z.role
session_tells j {rows = rows} z is held e = rw (← is, held) (rows_tell_session j.setup.pairs rows e j.role z)
