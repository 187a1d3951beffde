-- What the contracts of the code that writes the initial tree say.
use Rattle.std.specs.Prelude.{◌≡◌, List, Bool, true, cond, ℕ, ◌<◌, eqb, ltb}
use Rattle.std.proofs.Math.Option.{Option, none, some}
use Rattle.buffers.specs.Text.{Text}
use Rattle.accounts.specs.declared.Uid.{Uid}
use Rattle.syntax.specs.Path.{Name, root, ◌▹◌, is_name, path}
use Rattle.setup.specs.Setup.{Person, Setup}
use Rattle.tree.specs.Layout.{most_rows}
use Rattle.tree.specs.Forest.{Forest, Place, get, put, leaf}
use Rattle.tree.specs.Node.{Node}
use Rattle.tree.specs.WellFormed.{nodes}
use Rattle.tree.specs.Encoding.{encode_tree}
use Rattle.tree.specs.TreeBytes.{Encodes}
use Rattle.store.specs.declared.Person.{Person as Slot}
use Rattle.store.specs.Initial.{home_name, with_home, topped, initial_tree}

-- the person whose slot it is, if it is one's
unfoldable pub slot_value : Slot → Option Person
slot_value p = cond (eqb p.primary.0 0) none (some (record { primary = p.primary; further = p.further }))

abbrev pub no_slot : Slot
no_slot = record { primary = record { 0 = 0 }; further = record { 0 = 0 } }

-- the primary group is one of 0 to 15
unfoldable pub slot_in_range : Slot → Bool
slot_in_range s = ltb s.primary.0 16

-- a tree with room for a child of `/` whose name is not used yet
pub record Open (n : Name) (t : Place Node) : Type 0 where
  pub room : nodes t < most_rows
  pub named : is_name n ≡ true
  pub free : get n t.below ≡ none

-- the bytes of a well-formed tree that is open to a name
pub record Opens (b : List ℕ) (n : Name) (t : Place Node) : Type 0 where
  pub tree : Encodes b t
  pub ready : Open n t

-- the same, with the text of the path that has this one name
pub record OpensAt (b : List ℕ) (s : Text) (n : Name) (t : Place Node) : Type 0 where
  pub reads : path s ≡ some (root ▹ n)
  pub opens : Opens b n t

-- the bytes before and after a node is put in at a path: of whatever tree they were that is open to its one name, they are the one with it
abbrev pub NodePut : List ℕ → Text → Node → List ℕ → Type 0
NodePut b s x c = (n : Name) (t : Place Node) → OpensAt b s n t → c ≡ encode_tree (put n (leaf x) t)

-- and so with the home of an account, if it is a person's
abbrev pub HomePut : List ℕ → Uid → Option Person → List ℕ → Type 0
HomePut b v p c = (f : Forest Node) → Opens b (home_name v) (topped f) → c ≡ encode_tree (topped (with_home v p f))

-- the bytes of the initial tree of every setup with these persons
abbrev pub InitialWritten : List (Option Person) → List ℕ → Type 0
InitialWritten persons b = (u : Setup) → u.persons ≡ persons → b ≡ encode_tree (initial_tree u)
