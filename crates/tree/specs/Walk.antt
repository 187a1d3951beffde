-- Walks: the steps from `/` along a path, over any payload, by a judge of what an account may do there.
--
-- `walk` goes by the path's last name: the walk to its parent, then one step. `literal_walk` is document 01's walk, name by
-- name; `walk_is_literal` and `parent_walk_is_literal` (in WalkLaws) say that from a directory they are the same.
use Rattle.std.specs.Prelude.{List, [], ◌∷◌, Bool, ◌&&◌, ◌||◌, not}
use Rattle.std.proofs.Math.Option.{Option}
use Rattle.accounts.specs.declared.Right.TheVariants.{R, W, X}
use Rattle.accounts.specs.declared.Account.{Account}
use Rattle.syntax.specs.Path.{Name, Path, root, ◌▹◌, parent, last, is_top}
use Rattle.tree.specs.declared.Kind.{Kind}
use Rattle.tree.specs.declared.Cause.TheVariants.{Missing, NotDirectory, Access, Exists}
use Rattle.tree.specs.Result.{Result, done, ◌>>=◌, ◌>>◌, require, present, absent}
use Rattle.tree.specs.Forest.{Forest, Place, get}
use Rattle.tree.specs.Node.{Node, is_directory, allows}

-- what an account may do at a payload: pass through a directory, read, make and remove children
pub record Judge (A : Type 0) : Type 0 where
  pub kind : A → Kind
  pub passes : A → Bool
  pub readable : A → Bool
  pub writable : A → Bool

-- by the access test; a file is readable with r, a directory with r and x
unfoldable pub by_modes : Account → Judge Node
by_modes a = record {
  kind = λ n. n.kind;
  passes = allows a X;
  readable = λ n. allows a R n && (not (is_directory n.kind) || allows a X n);
  writable = allows a W;
}

-- the searches for a name in a directory, and no others: the child (3 if missing); the test that there is none (6); what stands
-- there, if anything
unfoldable pub look : {A : Type 0} → Name → Forest A → Result (Place A)
look n f = present (get n f) Missing

unfoldable pub unused : {A : Type 0} → Name → Forest A → Result (Unit {0})
unused n f = absent (get n f) Exists

unfoldable pub sought : {A : Type 0} → Name → Forest A → Result (Option (Place A))
sought n f = done (get n f)

-- into a directory: a file in mid-path 4, x 5
unfoldable pub enter : {A : Type 0} → Judge A → A → Result (Unit {0})
enter j a = do
  require (is_directory (j.kind a)) NotDirectory
  require (j.passes a) Access

unfoldable pub walk : {A : Type 0} → Judge A → Place A → Path → Result (Place A)
walk j t root = done t
walk j t (p ▹ n) = do
  d ← walk j t p
  enter j d.here
  look n d.below

-- the walk without looking up the last name, with its x test
unfoldable pub parent_walk : {A : Type 0} → Judge A → Place A → Path → Result (Place A)
parent_walk j t p = do
  d ← walk j t (parent p)
  enter j d.here
  done d

-- a directory for a new node: for `/` 6; parent walk; 6 if present; w on parent 5
unfoldable pub room : {A : Type 0} → Judge A → Place A → Path → Result (Place A)
room j t p = do
  require (not (is_top p)) Exists
  d ← parent_walk j t p
  unused (last p) d.below
  require (j.writable d.here) Access
  done d

-- ---- the same in document 01's words, name by name from the top

-- for each name x on the directory (5), then the name there (3), and, if not the last name, a directory (4)
unfoldable pub literal_walk : {A : Type 0} → Judge A → Place A → List Name → Result (Place A)
literal_walk j t [] = done t
literal_walk j t (n ∷ []) = do
  require (j.passes t.here) Access
  look n t.below
literal_walk j t (n ∷ (m ∷ p)) = do
  require (j.passes t.here) Access
  e ← look n t.below
  require (is_directory (j.kind e.here)) NotDirectory
  literal_walk j e (m ∷ p)

-- the same without looking up the last name, with its x test
unfoldable pub literal_parent_walk : {A : Type 0} → Judge A → Place A → List Name → Result (Place A)
literal_parent_walk j t [] = done t
literal_parent_walk j t (n ∷ []) = do
  require (j.passes t.here) Access
  done t
literal_parent_walk j t (n ∷ (m ∷ p)) = do
  require (j.passes t.here) Access
  e ← look n t.below
  require (is_directory (j.kind e.here)) NotDirectory
  literal_parent_walk j e (m ∷ p)
