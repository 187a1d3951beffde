-- The bytes of a store as one state, and what the code promises of its header: who calls, the sessions, the working directories,
-- the roles.
use Rattle.std.specs.Prelude.{◌≡◌, List, ℕ, length, take, drop, get_or}
use Rattle.std.specs.Prelude as code
use Rattle.std.proofs.Math.Option.{none, some}
use Rattle.buffers.specs.Text.{Text}
use Rattle.accounts.specs.declared.Account.{Account}
use Rattle.accounts.specs.declared.Caller.{Caller}
use Rattle.accounts.specs.declared.Dominance.{Dominance}
use Rattle.accounts.specs.declared.Role.{Role}
use Rattle.accounts.specs.declared.Session.{Session}
use Rattle.accounts.specs.declared.Uid.{Uid}
use Rattle.accounts.specs.Closure.{rows_of}
use Rattle.accounts.specs.Dominance.{BoundedRole}
use Rattle.syntax.specs.Path.{Path, path, path_text}
use Rattle.commands.specs.declared.AccountCommand.{AccountCommand as AccountParts}
use Rattle.commands.specs.Command.{AccountAction}
use Rattle.commands.specs.Meaning.{AccountMeans}
use Rattle.setup.specs.Setup.{Setup}
use Rattle.tree.specs.declared.Cause.{Cause}
use Rattle.tree.specs.Result.{Result, outcome, Outcome}
use Rattle.tree.specs.TreeBytes.{Encodes}
use Rattle.walks.specs.declared.Spot.{Spot}
use Rattle.attributes.specs.declared.Deed.TheVariants.{Enter}
use Rattle.attributes.specs.Checks.{may_do_at}
use Rattle.shell.specs.Replies.{Answer}
use Rattle.shell.specs.CommandBytes.{Carries, CarriesSilently}
use Rattle.store.specs.HeaderLayout.{header_width}
use Rattle.store.specs.State.{working_directory, set_directory, Store, State, state_of}
use Rattle.store.specs.StoreBytes.{store_width, encode}
use Rattle.store.specs.Callers.{caller}
use Rattle.header.specs.HeaderBytes.{Heads, known, session_held}
use Rattle.machine.specs.Machine.{run_login, run_logout, run_cd, run_account}
use Rattle.machine.specs.StoreMachine.{store}
use Rattle.machine.specs.Acting.{Acting}

-- ---- what is asked

-- the bytes of a store in the state s: those of a header, then those of a tree
pub record Stored (b : List ℕ) (s : State) : Type 0 where
  pub wide : length b ≡ store_width
  pub header : Heads (take header_width b) s.setup s.store.registry
  pub tree : Encodes (drop header_width b) s.store.tree

-- the bytes of some store
abbrev pub SomeStore : List ℕ → Type 0
SomeStore b = (s : State) × Stored b s

-- the bytes of a store in which the account is that of the caller's session
abbrev pub ActsIn : List ℕ → Caller → Account → Type 0
ActsIn b c account = (j : Acting c account) × Stored b (state_of j.setup j.state)

-- ---- what is promised

-- a store's bytes with its setup
abbrev pub bytes_with : Setup → Store → List ℕ
bytes_with u s = encode (state_of u s)

-- the answer and the bytes are those of a command's steps in the caller's session, whichever store's bytes these are
abbrev pub InSession : Caller → Account → (Setup → Store → Result (Outcome Store)) → List ℕ → List ℕ → Answer → List ℕ → List ℕ → Type 0
InSession c account steps b a r b' a' = (j : Acting c account) → Stored b (state_of j.setup j.state)
    → Carries (bytes_with j.setup) (steps j.setup j.state) b a r b' a'

-- and so of a command without a text, whatever the answer buffer holds
abbrev pub InSessionSilently : Caller → Account → (Setup → Store → Result (Outcome Store)) → List ℕ → Answer → List ℕ → Type 0
InSessionSilently c account steps b r b' = (j : Acting c account) → Stored b (state_of j.setup j.state)
    → CarriesSilently (bytes_with j.setup) (steps j.setup j.state) b r b'

-- the answer is whom the setup knows, whichever store's bytes these are
abbrev pub CallerTold : List ℕ → Uid → code.Option Caller → Type 0
CallerTold b uid r = (s : State) → Stored b s → known r ≡ caller s.setup uid

-- the session of an account, its working directory's text, and the rows of the setup's pairs, whichever store's bytes these are
abbrev pub SessionOf : List ℕ → Uid → Session → Type 0
SessionOf b uid r = (s : State) → Stored b s → r ≡ session_held (get_or s.store.registry.sessions uid.0 none)

abbrev pub DirectoryOf : List ℕ → Uid → Text → Type 0
DirectoryOf b uid r = (s : State) → Stored b s → r ≡ path_text (working_directory uid s.store.registry)

abbrev pub RowsOf : List ℕ → Dominance → Type 0
RowsOf b r = (s : State) → Stored b s → r.rows ≡ rows_of s.setup.pairs

-- whether an account may enter the directory at a path, whichever store's bytes these are and whatever path the text reads as
abbrev pub Entering : List ℕ → Account → Text → code.Result Spot Cause → Type 0
Entering b a t r = (s : State) (p : Path) → Stored b s → path t ≡ some p → outcome r ≡ may_do_at a Enter s.store.tree p

-- the store with another working directory for an account
abbrev pub moved_to : Uid → Path → Store → Store
moved_to uid p s = record { tree = s.tree; registry = set_directory uid p s.registry }

-- and its bytes
abbrev pub DirectoryPut : List ℕ → Uid → Text → List ℕ → Type 0
DirectoryPut b uid t b' = (s : State) (p : Path) → Stored b s → path t ≡ some p → b' ≡ bytes_with s.setup (moved_to uid p s.store)

module _ (c : Caller) where
  -- `login` and `logout`
  abbrev pub LoginDone : Role → Text → List ℕ → Answer → List ℕ → Type 0
  LoginDone role password b r b' = (s : State) (z : BoundedRole) → Stored b s → z.role ≡ role
      → CarriesSilently (bytes_with s.setup) (run_login store s.setup s.store c z password) b r b'

  abbrev pub LogoutDone : List ℕ → Answer → List ℕ → Type 0
  LogoutDone b r b' = (s : State) → Stored b s → CarriesSilently (bytes_with s.setup) (run_logout store s.setup s.store c) b r b'

  -- `cd`
  abbrev pub CdDone : Text → List ℕ → Answer → List ℕ → Type 0
  CdDone t b r b' = (s : State) (p : Path) → Stored b s → path t ≡ some p
      → CarriesSilently (bytes_with s.setup) (run_cd store s.setup s.store c p) b r b'

  -- one of these, as the parts of a line mean
  abbrev pub AccountDone : Text → AccountParts → List ℕ → Answer → List ℕ → Type 0
  AccountDone line command b r b' = (s : State) (k : AccountAction) → Stored b s → AccountMeans line command k
      → CarriesSilently (bytes_with s.setup) (run_account store s.setup s.store c k) b r b'
