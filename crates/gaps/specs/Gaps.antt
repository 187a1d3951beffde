-- Where a new child stands: the row of its directory, the index at which its own row comes in, and how deep it lies; or why none may.
use Rattle.std.specs.Prelude.{ℕ, suc, ◌+◌, drop}
use Rattle.buffers.specs.Text.{Text}
use Rattle.accounts.specs.declared.Account.{Account}
use Rattle.accounts.specs.declared.Right.TheVariants.{W}
use Rattle.syntax.specs.Path.{Name, Path, parent, last, depth}
use Rattle.syntax.specs.Parts.{last_slash}
use Rattle.tree.specs.declared.Cause.TheVariants.{Access}
use Rattle.tree.specs.Result.{Result, done, ◌>>=◌, ◌>>◌, require}
use Rattle.tree.specs.Forest.{Place, size}
use Rattle.tree.specs.Node.{Node, allows}
use Rattle.tree.specs.Walk.{unused}
use Rattle.tree.specs.RowPlaces.{index_of, lesser}
pub use Rattle.gaps.specs.declared.Gap.{Gap}

abbrev pub gap : ℕ → ℕ → ℕ → Gap
gap row at depth = record { row = row; at = at; depth = depth }

-- in the directory d: behind its own row and those below its lesser children
unfoldable pub gap_of : Place Node → Path → Place Node → Gap
gap_of t p d = gap (index_of t (parent p)) (suc (index_of t (parent p) + size (lesser (last p) d.below))) (depth p)

-- in the directory that checks came to
abbrev pub gap_from : Place Node → Path → Result (Place Node) → Result Gap
gap_from t p w = w >>= λ d. done (gap_of t p d)

-- the checks in the directory d at the path q: 6 if the name is used, w 5
unfoldable pub gap_below : Account → Place Node → Path → Name → Place Node → Result Gap
gap_below a t q n d = do
  unused n d.below
  require (allows a W d.here) Access
  done (gap (index_of t q) (suc (index_of t q + size (lesser n d.below))) (suc (depth q)))

-- what stands behind the last `/` of a text
unfoldable pub behind_slash : Text → Text
behind_slash t = drop (suc (last_slash t)) t
