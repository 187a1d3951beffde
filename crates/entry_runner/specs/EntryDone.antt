-- What the code of the commands on entries promises on a store's bytes, in the caller's session.
use Rattle.std.specs.Prelude.{◌≡◌, List, Bool, ℕ}
use Rattle.std.proofs.Math.Option.{some}
use Rattle.buffers.specs.Text.{Text}
use Rattle.accounts.specs.declared.Account.{Account}
use Rattle.accounts.specs.declared.Caller.{Caller}
use Rattle.accounts.specs.declared.Dominance.{Dominance}
use Rattle.accounts.specs.declared.Role.{Role}
use Rattle.accounts.specs.declared.Session.{Session}
use Rattle.accounts.specs.Closure.{rows_of}
use Rattle.accounts.specs.Dominance.{BoundedRole, dominates}
use Rattle.syntax.specs.Path.{Path, EntryPath, path, entry_path}
use Rattle.commands.specs.declared.EntryCommand.{EntryCommand as EntryParts}
use Rattle.commands.specs.Command.{EntryAction}
use Rattle.commands.specs.Meaning.{EntryMeans}
use Rattle.shell.specs.Replies.{Answer}
use Rattle.shell.specs.CommandBytes.{Carries, CarriesSilently}
use Rattle.store.specs.State.{state_of}
use Rattle.header.specs.HeaderBytes.{session_held}
use Rattle.machine.specs.Machine.{run_add, run_co, run_up, run_del, run_entry}
use Rattle.machine.specs.StoreMachine.{store}
use Rattle.machine.specs.Acting.{Acting}
use Rattle.stored_header.specs.Stored.{Stored, bytes_with, ActsIn, InSessionSilently}

-- ---- which inputs are let in, besides `ActsIn`

-- the account is that of anyone's session
abbrev pub ActsForSomeone : List ℕ → Account → Type 0
ActsForSomeone b account = (c : Caller) × ActsIn b c account

-- it is told rightly whether the session's role dominates another
abbrev pub ActsTold : List ℕ → Caller → Account → Bool → Role → Type 0
ActsTold b c account dominated role =
    (j : Acting c account) × Stored b (state_of j.setup j.state) × (dominated ≡ dominates j.setup.pairs j.role.role role)

-- the session and the rows of dominance are those of the session in which the account acts
abbrev pub ActsBy : List ℕ → Caller → Account → Session → Dominance → Type 0
ActsBy b c account session dominance =
    (j : Acting c account) × Stored b (state_of j.setup j.state) × (session ≡ session_held (some j.role)) × (dominance.rows ≡ rows_of j.setup.pairs)

-- ---- a command that works on the tree alone, whatever its texts read as

-- `add`, where it is told whether the session's role dominates the entry's
abbrev pub AddDone : Caller → Account → Bool → Text → Text → Role → List ℕ → Answer → List ℕ → Type 0
AddDone c account dominated working entry role b r b' =
    (w : Path) (e : EntryPath) (z : BoundedRole) → path working ≡ some w → entry_path entry ≡ some e → z.role ≡ role
    → (j : Acting c account) → Stored b (state_of j.setup j.state) → dominated ≡ dominates j.setup.pairs j.role.role z.role
    → CarriesSilently (bytes_with j.setup) (run_add store j.setup j.state c w e z) b r b'

abbrev pub CoDone : Caller → Account → Text → Text → List ℕ → Answer → List ℕ → Type 0
CoDone c account entry to b r b' = (e : EntryPath) (d : Path) → entry_path entry ≡ some e → path to ≡ some d
    → InSessionSilently c account (λ u s. run_co store u s c e d) b r b'

abbrev pub UpDone : Caller → Account → Text → List ℕ → Answer → List ℕ → Type 0
UpDone c account working b r b' = (w : Path) → path working ≡ some w → InSessionSilently c account (λ u s. run_up store u s c w) b r b'

-- `del`, whoever's session it is
abbrev pub DelDone : Account → Text → List ℕ → Answer → List ℕ → Type 0
DelDone account entry b r b' = (c : Caller) (e : EntryPath) → entry_path entry ≡ some e
    → InSessionSilently c account (λ u s. run_del store u s c e) b r b'

-- ---- any of them

-- the command that a line's parts mean, where the session and the rows of dominance are those of the session in which it acts
abbrev pub EntryDone : Caller → Text → EntryParts → Account → Session → Dominance → List ℕ → List ℕ → Answer → List ℕ → List ℕ → Type 0
EntryDone c line command account session dominance b a r b' a' =
    (j : Acting c account) (k : EntryAction) → Stored b (state_of j.setup j.state) → EntryMeans line command k
    → session ≡ session_held (some j.role) → dominance.rows ≡ rows_of j.setup.pairs
    → Carries (bytes_with j.setup) (run_entry store j.setup j.state c k) b a r b' a'
