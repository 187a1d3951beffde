-- The checks of the commands that make and remove nodes, in the steps' order, apart from the change that each then makes; and what
-- the texts of paths tell.
use Rattle.std.specs.Prelude.{◌≡◌, List, Bool, ◌||◌, not, ℕ, ◌+◌, eqb, leb, length}
use Rattle.std.proofs.Math.Option.{some}
use Rattle.buffers.specs.Text.{Text, same_text}
use Rattle.accounts.specs.declared.Account.{Account}
use Rattle.accounts.specs.declared.Right.TheVariants.{W}
use Rattle.syntax.specs.Pieces.{bytes}
use Rattle.syntax.specs.Path.{Path, path, parent, reserved}
use Rattle.syntax.specs.Parts.{text_goes_on_from}
use Rattle.tree.specs.declared.Kind.{Kind}
use Rattle.tree.specs.declared.Cause.TheVariants.{Access, WrongKind, NotEmpty, Reserved, Full}
use Rattle.std.specs.Prelude as code
use Rattle.tree.specs.declared.Cause.{Cause}
use Rattle.tree.specs.Result.{Result, outcome, done, ◌>>=◌, ◌>>◌, require, Outcome}
use Rattle.tree.specs.Forest.{Place, is_empty}
use Rattle.tree.specs.Node.{same_kind, Node, allows}
use Rattle.tree.specs.Walk.{by_modes, walk, room}
use Rattle.tree.specs.WellFormed.{most_nodes, nodes}
use Rattle.tree.specs.RowAt.{row_at, all_rows}
use Rattle.tree.specs.TreeBytes.{Encodes}
use Rattle.walks.specs.declared.Spot.{Spot}
use Rattle.walks.specs.RowBelow.{has_children_in}
use Rattle.shell.specs.Replies.{Answer}
use Rattle.shell.specs.CommandBytes.{FollowsSilently}

-- for whatever tree the bytes are, and whatever paths the texts read as
abbrev pub WhicheverTwo : List ℕ → Text → Text → (Place Node → Path → Path → Type 0) → Type 0
WhicheverTwo b s u P = (t : Place Node) (p q : Path) → Encodes b t → path s ≡ some p → path u ≡ some q → P t p q

-- what was answered and left follows the steps of such
abbrev pub FollowsAtTwo : (Place Node → Path → Path → Result (Outcome (Place Node))) → List ℕ → Text → Text → Answer → List ℕ → Type 0
FollowsAtTwo steps b s u r b' = WhicheverTwo b s u (λ t p q. FollowsSilently (steps t p q) b r b')

-- ---- what the texts of paths tell

-- a text is `/` or `/rep`
unfoldable pub text_reserved : Text → Bool
text_reserved s = same_text s (bytes "/") || same_text s (bytes "/rep")

-- a text is another or goes on behind it with a `/`; whatever it is, it lies within a text of one byte, as everything lies below `/`
unfoldable pub text_within : Text → Text → Bool
text_within s u = eqb (length s) 1 || text_goes_on_from s u

-- ---- the checks

-- an account's checks in the tree t
module _ (a : Account) (t : Place Node) where
  -- `create`, `mkdir`: the directory that the node is made in
  unfoldable pub may_create : Path → Result (Place Node)
  may_create p = do
    d ← room (by_modes a) t p
    require (leb (nodes t + 1) most_nodes) Full
    done d

  -- `rm`, `rmdir`: the place that is removed
  unfoldable pub may_remove : Kind → Path → Result (Place Node)
  may_remove kind p = do
    require (not (reserved p)) Reserved
    d ← walk (by_modes a) t p
    require (same_kind d.here.kind kind) WrongKind
    above ← walk (by_modes a) t (parent p)
    require (allows a W above.here) Access
    require (is_empty d.below) NotEmpty
    done d

-- ---- what the code judges at a row and at that of the directory above it

-- the checks of `rm` and `rmdir`, of a node and the directory's: whether anything lies below it is told, and the rows
unfoldable pub row_removal : Account → Kind → Node → Node → Bool → Spot → Result Spot
row_removal a kind n above full there = do
  require (same_kind n.kind kind) WrongKind
  require (allows a W above) Access
  require (not full) NotEmpty
  done there

-- whether the node of a row may be removed
abbrev pub JudgedRemoval : List ℕ → Account → Kind → Spot → code.Result Spot Cause → Type 0
JudgedRemoval b a kind s r =
    outcome r ≡ row_removal a kind (row_at b s.row).here (row_at b s.above).here (has_children_in (all_rows b) s.row) s
