-- Document 01's sound, of a tree: "its nodes form one tree under `/`, siblings differ, only directories have children and they
-- have no content, no path passes 6 names, and every value is in range". `SoundTree` has a field for each clause, in this order.
--
-- `SoundTreeLaws` proves that the trees which pass the test `is_tree` are just the sound ones.
use Rattle.std.specs.Prelude.{◌≡◌, List, [], ◌∷◌, Bool, true, false, ◌&&◌, not, ◌≤◌}
use Rattle.std.proofs.Math.Option.{some}
use Rattle.buffers.specs.Text.{same_text, precedes, every}
use Rattle.syntax.specs.Number.{set_gid, is_mode}
use Rattle.syntax.specs.Path.{Name, is_name, is_entry_path}
use Rattle.syntax.specs.Field.{is_content}
use Rattle.tree.specs.declared.Kind.TheVariants.{Directory}
use Rattle.tree.specs.Forest.{Forest, nil, node, Place, is_empty, height, names}
use Rattle.tree.specs.Node.{Tag, Node}
use Rattle.tree.specs.WellFormed.{last_revision, nodes}

-- what holds of every place in a forest: of each node with all that lies below it
unfoldable pub Throughout : {A : Type 0} → Forest A → (Place A → Type 0) → Type 0
Throughout nil P = Unit {0}
Throughout (node n x cs rest) P = P (record { here = x; below = cs }) × (Throughout cs P × Throughout rest P)

-- what holds of every place of a tree, `/` among them
unfoldable pub Everywhere : {A : Type 0} → Place A → (Place A → Type 0) → Type 0
Everywhere t P = P t × Throughout t.below P

-- whether no two names of a list, an earlier and a later, stand so to each other
unfoldable pub no_two : (Name → Name → Bool) → List Name → Bool
no_two f [] = true
no_two f (n ∷ ns) = every (λ m. not (f n m)) ns && no_two f ns

-- the ranges of a tag's values
pub record TagInRange (t : Tag) : Type 0 where
  -- "an entry path"
  pub path : is_entry_path t.path ≡ true
  -- "with a revision": 0 to 9999
  pub revision : t.revision ≤ last_revision

-- the ranges of a node's values
pub record InRange (n : Node) : Type 0 where
  -- "a uid is 0 to 23"
  pub owner : n.owner.0 ≤ 23
  -- "a gid 0 to 24"
  pub group : n.group.0 ≤ 24
  -- "A mode is four octal digits, the first 0 or 2"
  pub mode : is_mode n.mode ≡ true
  -- "2 is set-gid, directories only"
  pub set_gid_on_directories_only : set_gid n.mode ≡ true → n.kind ≡ Directory
  -- 0 to 9999, where "revisions spent"
  pub revision : n.revision ≤ last_revision
  -- "a tag: an entry path with a revision, or none"
  pub tag : (t : Tag) → n.tag ≡ some t → TagInRange t
  -- up to `content_limit` bytes "of 32 to 126 without comma"
  pub content : is_content n.content ≡ true

pub record SoundTree (t : Place Node) : Type 0 where
  -- "its nodes form one tree under `/`": they do by the type `Place`, and `/` is a directory
  pub top_is_a_directory : t.here.kind ≡ Directory
  -- "siblings differ": no two children of a node have the same name
  pub siblings_differ : Everywhere t λ d. no_two same_text (names d.below) ≡ true
  -- ours, so that a tree has one encoding: no child precedes an earlier one in byte order
  pub siblings_in_order : Everywhere t λ d. no_two (λ earlier later. precedes later earlier) (names d.below) ≡ true
  -- "only directories have children"
  pub only_directories_have_children : Everywhere t λ d. is_empty d.below ≡ false → d.here.kind ≡ Directory
  -- "and they have no content"
  pub directories_have_no_content : Everywhere t λ d. d.here.kind ≡ Directory → d.here.content ≡ []
  -- "no path passes 6 names"
  pub at_most_6_names : height t.below ≤ 6
  -- "At most 256 nodes exist at once"
  pub at_most_256_nodes : nodes t ≤ 256
  -- "every value is in range": names,
  pub names_in_range : Everywhere t λ d. every is_name (names d.below) ≡ true
  -- and what each node has
  pub values_in_range : Everywhere t λ d. InRange d.here
