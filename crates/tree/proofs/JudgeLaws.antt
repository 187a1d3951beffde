-- What the access test's judge says of a node, and what a node's setters leave, each as an equation, for the crates above.
use Rattle.std.specs.Prelude.{◌≡◌, true, false, ◌&&◌, ◌||◌, not, ℕ}
use Rattle.std.proofs.Math.Path.{refl}
use Rattle.std.proofs.Common.{sym}
use Rattle.std.proofs.Math.Option.{some}
use Rattle.buffers.specs.Cases.{contra}
use Rattle.buffers.specs.Text.{Text}
use Rattle.syntax.specs.Path.{Path, last, is_top}
use Rattle.accounts.specs.declared.Right.{Right}
use Rattle.accounts.specs.declared.Right.TheVariants.{R, W, X}
use Rattle.accounts.specs.declared.Account.{Account}
use Rattle.accounts.specs.Access.{is_root, same_uid, may}
use Rattle.tree.specs.declared.Kind.{Kind}
use Rattle.tree.specs.declared.Kind.TheVariants.{File, Directory}
use Rattle.tree.specs.Node.{is_directory, same_kind, Tag, Node, allows, owns, set_revision, set_tag, set_content}
use Rattle.tree.specs.declared.Cause.TheVariants.{Access, Exists}
use Rattle.tree.specs.Result.{done, ◌>>=◌, ◌>>◌, require}
use Rattle.tree.specs.Forest.{Place}
use Rattle.tree.specs.Walk.{by_modes, unused, parent_walk, room}

pub file_is_none : is_directory File ≡ false
unfolding is_directory
file_is_none = refl

-- what is of a directory's kind
pub a_directory : (k : Kind) → is_directory k ≡ true → k ≡ Directory
a_directory File h = contra h file_is_none
a_directory Directory h = refl

pub directory_is_one : is_directory Directory ≡ true
unfolding is_directory
directory_is_one = refl

-- a directory is not of a file's kind
pub directory_not_file : (k : Kind) → is_directory k ≡ true → same_kind k File ≡ false
unfolding is_directory same_kind
directory_not_file File h = sym h
directory_not_file Directory h = refl

-- what is of a file's kind, and of a directory's
pub kind_of_file : (k : Kind) → same_kind k File ≡ not (is_directory k)
unfolding is_directory same_kind
kind_of_file File = refl
kind_of_file Directory = refl

pub kind_of_directory : (k : Kind) → same_kind k Directory ≡ is_directory k
unfolding is_directory same_kind
kind_of_directory File = refl
kind_of_directory Directory = refl

module _ (a : Account) (n : Node) where
  -- the test of a node's owner, group and mode
  pub allows_is : (t : Right) → allows a t n ≡ may a t n.owner n.group n.mode
  unfolding allows
  allows_is t = refl

  -- the owner or root
  pub owns_is : owns a n ≡ (is_root a.uid || same_uid a.uid n.owner)
  unfolding owns
  owns_is = refl

  pub kind_by_modes : (by_modes a).kind n ≡ n.kind
  unfolding by_modes
  kind_by_modes = refl

  pub passes_by_modes : (by_modes a).passes n ≡ allows a X n
  unfolding by_modes
  passes_by_modes = refl

  pub readable_by_modes : (by_modes a).readable n ≡ (allows a R n && (not (is_directory n.kind) || allows a X n))
  unfolding by_modes
  readable_by_modes = refl

  pub writable_by_modes : (by_modes a).writable n ≡ allows a W n
  unfolding by_modes
  writable_by_modes = refl

-- the steps to the room for a new node
pub room_by_modes : (a : Account) (t : Place Node) (p : Path) → room (by_modes a) t p
    ≡ (require (not (is_top p)) Exists >> (parent_walk (by_modes a) t p >>= λ d. unused (last p) d.below >> (require (allows a W d.here) Access >> done d)))
unfolding room by_modes
room_by_modes a t p = refl

module _ (n : Node) where
  -- a node with another revision, tag or content
  pub set_revision_is : (v : ℕ) →
      set_revision v n ≡ record { kind = n.kind; owner = n.owner; group = n.group; mode = n.mode; revision = v; tag = n.tag; content = n.content }
  unfolding set_revision
  set_revision_is v = refl

  pub set_tag_is : (t : Tag) →
      set_tag t n ≡ record { kind = n.kind; owner = n.owner; group = n.group; mode = n.mode; revision = n.revision; tag = some t; content = n.content }
  unfolding set_tag
  set_tag_is t = refl

  pub set_content_is : (c : Text) →
      set_content c n ≡ record { kind = n.kind; owner = n.owner; group = n.group; mode = n.mode; revision = n.revision; tag = n.tag; content = c }
  unfolding set_content
  set_content_is c = refl
