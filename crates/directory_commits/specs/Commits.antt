-- What the code of `commit` promises on a store's bytes, in the caller's session.
use Rattle.std.specs.Prelude.{◌≡◌, List, true, ℕ}
use Rattle.std.proofs.Math.Option.{some}
use Rattle.buffers.specs.Text.{Text}
use Rattle.accounts.specs.declared.Account.{Account}
use Rattle.accounts.specs.declared.Caller.{Caller}
use Rattle.syntax.specs.Path.{Path, path}
use Rattle.tree.specs.Result.{done}
use Rattle.tree.specs.Forest.{Place}
use Rattle.tree.specs.Node.{Node, is_directory}
use Rattle.tree.specs.Walk.{by_modes, walk}
use Rattle.tree.specs.RowPlaces.{index_of}
use Rattle.shell.specs.Replies.{Answer}
use Rattle.shell.specs.CommandBytes.{Carries, CarriesSilently}
use Rattle.store.specs.State.{state_of}
use Rattle.machine.specs.Machine.{commit_found, run_commit}
use Rattle.machine.specs.StoreMachine.{store}
use Rattle.machine.specs.Acting.{Acting}
use Rattle.machine.specs.DirectoryCommit.{commits_below, of_directory}
use Rattle.stored_header.specs.Stored.{Stored, bytes_with, InSession}

-- the row of a place to which the caller walks, in a session
pub record PlaceRow (b : List ℕ) (c : Caller) (account : Account) (i : ℕ) : Type 0 where
  pub acting : Acting c account
  pub stored : Stored b (state_of acting.setup acting.state)
  pub path : Path
  pub place : Place Node
  pub walked : walk (by_modes c.account) acting.state.tree path ≡ done place
  pub row : i ≡ index_of acting.state.tree path

-- and of a directory that the caller may read
pub record DirectoryRow (b : List ℕ) (c : Caller) (account : Account) (i : ℕ) : Type 0 where
  pub at : PlaceRow b c account i
  pub directory : is_directory at.place.here.kind ≡ true
  pub readable : (by_modes c.account).readable at.place.here ≡ true

-- how many of the files below it are committed, and the store's bytes after them
pub record CommitsBelow {b : List ℕ} {c : Caller} {account : Account} {i : ℕ} (x : PlaceRow b c account i) (r : ℕ) (b' : List ℕ) : Type 0 where
  pub count : r ≡ (commits_below store x.acting.setup c x.acting.state x.path x.place).count
  pub bytes : b' ≡ bytes_with x.acting.setup (commits_below store x.acting.setup c x.acting.state x.path x.place).state

module _ (c : Caller) (account : Account) (b : List ℕ) (i : ℕ) where
  -- whichever directory the row is
  abbrev pub BelowDone : ℕ → List ℕ → Type 0
  BelowDone r b' = (x : DirectoryRow b c account i) → CommitsBelow x.at r b'

  abbrev pub DirectoryDone : List ℕ → Answer → List ℕ → List ℕ → Type 0
  DirectoryDone a r b' a' = (x : DirectoryRow b c account i)
      → Carries (bytes_with x.at.acting.setup) (done (of_directory store x.at.acting.setup c x.at.acting.state x.at.path x.at.place)) b a r b' a'

  -- whichever place it is, of which a file's commit is asked
  abbrev pub FileDone : Answer → List ℕ → Type 0
  FileDone r b' = (x : PlaceRow b c account i)
      → CarriesSilently (bytes_with x.acting.setup) (commit_found store x.acting.setup x.acting.state c x.acting.role x.path x.place) b r b'

-- the command, whatever path the text reads as
abbrev pub CommitDone : Caller → Account → Text → List ℕ → List ℕ → Answer → List ℕ → List ℕ → Type 0
CommitDone c account text b a r b' a' = (w : Path) → path text ≡ some w → InSession c account (λ u s. run_commit store u s c w) b a r b' a'
