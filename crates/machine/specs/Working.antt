-- Working files with their tags, and commits one after another: of these both machines' texts speak.
use Rattle.std.specs.Prelude.{List, [], ◌∷◌, ℕ, suc}
use Rattle.syntax.specs.Path.{Path, EntryPath}
use Rattle.tree.specs.Result.{Result, refused, done, Outcome}
use Rattle.tree.specs.Forest.{Place, update, alter}
use Rattle.tree.specs.Node.{Tag, Node, set_tag}

-- a working file and its tag
pub record Working : Type 0 where
  pub node : Node
  pub tag : Tag

-- the tag (e, revision) put on what stands at w
abbrev pub tagged : Path → EntryPath → ℕ → Place Node → Place Node
tagged w e revision = update w (alter (set_tag (record { path = e; revision = revision })))

-- how many files were committed, and the state after them
pub record Commits (S : Type 0) : Type 0 where
  pub count : ℕ
  pub state : S

-- a commit counts if it is done; the others follow in the state that it leaves
unfoldable pub then_commits : {S : Type 0} → S → Result (Outcome S) → (S → Commits S) → Commits S
then_commits s (refused why) others = others s
then_commits s (done o) others = let r = others o.state in record { count = suc r.count; state = r.state }

-- files committed one after another by the single commit that is given, each that it accepts at its turn; the rest are passed over
unfoldable pub commit_each : {S : Type 0} → (S → Path → Result (Outcome S)) → List Path → S → Commits S
commit_each single [] s = record { count = 0; state = s }
commit_each single (w ∷ ws) s = then_commits s (single s w) (commit_each single ws)
