-- `co` on a tree's bytes: its steps behind the session, and what is said of the site that its first checks find.
use Rattle.std.specs.Prelude as code
use Rattle.std.specs.Prelude.{◌≡◌, List, ℕ, Ok, Err}
use Rattle.std.proofs.Math.Option.{some}
use Rattle.buffers.specs.Text.{Text}
use Rattle.accounts.specs.declared.Account.{Account}
use Rattle.accounts.specs.declared.Caller.{Caller}
use Rattle.syntax.specs.Path.{Path, EntryPath, path, entry_location}
use Rattle.tree.specs.declared.Cause.{Cause}
use Rattle.tree.specs.declared.Cause.TheVariants.{Access}
use Rattle.tree.specs.Result.{Result, refused, done, ◌>>=◌, ◌>>◌, require, Outcome}
use Rattle.tree.specs.Forest.{Place}
use Rattle.tree.specs.Node.{Node}
use Rattle.tree.specs.Walk.{by_modes, walk, room}
use Rattle.tree.specs.TreeBytes.{WhicheverEntry}
use Rattle.walks.specs.declared.Spot.{Spot}
use Rattle.walks.specs.WalkBytes.{spot_of}
use Rattle.copying.specs.declared.Copier.{Copier}
use Rattle.copying.specs.Copying.{copy}
use Rattle.copying.specs.CopyRows.{read_by}
use Rattle.placing.specs.declared.Site.{Site}
use Rattle.placing.specs.Placing.{place_copies, Checkout, steps_left}

-- ---- the steps

-- the account's walk to an entry: not readable 5
unfoldable pub readable_walk : Account → Place Node → EntryPath → Result (Place Node)
readable_walk a t e = do
  filed ← walk (by_modes a) t (entry_location e)
  require ((by_modes a).readable filed.here) Access
  done filed

-- as the rows where it leads
unfoldable pub entry_spot : Account → Place Node → EntryPath → Result Spot
entry_spot a t e = readable_walk a t e >>= λ filed. done (spot_of t (entry_location e))

-- one who checks out: the session's account reads, and the caller takes the copies
abbrev pub copier : Account → Caller → Copier
copier account caller = record { reader = account; caller = caller }

-- the steps of `co` once the session's account is known, which reads
unfoldable pub co_steps : Copier → Place Node → EntryPath → Path → Result (Outcome (Place Node))
co_steps w t e d = do
  directory ← room (by_modes w.caller.account) t d
  filed ← readable_walk w.reader t e
  place_copies w.caller t d (copy w.caller (read_by w) directory.here e filed)

-- ---- texts

-- whatever tree the bytes are of, entry path the one text reads as, and path the other
abbrev pub WhicheverCopy : List ℕ → Text → Text → (Place Node → EntryPath → Path → Type 0) → Type 0
WhicheverCopy b entry to P = WhicheverEntry b entry (λ t e. (d : Path) → path to ≡ some d → P t e d)

-- ---- the site

-- the site of a checkout behind which these are left of `co`
pub record SiteFor (w : Copier) (t : Place Node) (e : EntryPath) (d : Path) (b : List ℕ) (entry to : Text) (s : Site) : Type 0 where
  pub job : Checkout w b entry to s
  pub left : co_steps w t e d ≡ steps_left job

-- a site that is told is one, and a refusal is that of the steps
unfoldable pub SiteTold : Copier → Place Node → EntryPath → Path → List ℕ → Text → Text → code.Result Site Cause → Type 0
SiteTold w t e d b entry to (Ok s) = SiteFor w t e d b entry to s
SiteTold w t e d b entry to (Err why) = co_steps w t e d ≡ refused why
