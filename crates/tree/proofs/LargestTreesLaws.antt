-- Laws of the definitions in `LargestTrees`.
use Rattle.std.specs.Prelude.{◌≡◌, refl, [], ◌∷◌, true, ℕ, zero, suc, ◌+◌, ◌/◌, ◌%◌, length}
use Rattle.std.proofs.Math.Option.{none}
use Rattle.syntax.specs.Pieces.{comma, joined}
use Rattle.syntax.specs.Compute.{compute as compute_syntax}
use Rattle.syntax.specs.Number.{is_mode}
use Rattle.syntax.specs.Path.{Name, has_names, is_path, is_entry_path}
use Rattle.tree.specs.Compute.{compute}
use Rattle.tree.specs.declared.Kind.{Kind}
use Rattle.tree.specs.declared.Kind.TheVariants.{File, Directory}
use Rattle.tree.specs.Forest.{Forest, nil, node, Place, names}
use Rattle.tree.specs.Node.{Node}
use Rattle.tree.specs.WellFormed.{is_tag, fits_kind, is_node, leads, is_forest, is_tree}
use Rattle.tree.specs.LargestTrees.{deep}

of_kind : Kind → Node
of_kind k = record { kind = k; owner = record { 0 = 0 }; group = record { 0 = 0 }; mode = 0; revision = 0; tag = none; content = [] }

-- `aaaaaaaa` to `aaaaaapo`
name_of : ℕ → Name
name_of i = 97 ∷ 97 ∷ 97 ∷ 97 ∷ 97 ∷ 97 ∷ (97 + i / 16) ∷ (97 + i % 16) ∷ []

files : ℕ → ℕ → Forest Node
files i zero = nil
files i (suc k) = node (name_of i) (of_kind File) nil (files (suc i) k)

pub full : Place Node
full = record { here = of_kind Directory; below = files 0 255 }

-- it is well-formed
pub full_is_tree : is_tree full ≡ true
unfolding full of_kind name_of files compute_syntax compute is_mode is_tag fits_kind is_node leads is_forest is_tree
full_is_tree = refl

-- its names and the commas between them are 2294 bytes
pub full_names : length (joined comma (names full.below)) ≡ 2294
unfolding full name_of files compute_syntax compute
full_names = refl

-- it is well-formed
pub deep_is_tree : is_tree deep ≡ true
unfolding compute_syntax compute has_names is_path is_entry_path is_mode is_tag fits_kind is_node leads is_forest is_tree
deep_is_tree = refl
