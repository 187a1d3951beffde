-- A well-formed tree (document 01's sound): siblings differ and stand in byte order, only directories have children and
-- they have no content, no path passes 6 names, at most 256 nodes, and every value is in range.
use Rattle.std.proofs.Math.Option.{Option, none, some}
use Rattle.std.specs.Prelude.{Bool, true, ◌&&◌, ◌||◌, not, ℕ, suc, eqb, leb, ltb, length}
use Rattle.buffers.specs.Text.{Text, precedes}
use Rattle.syntax.specs.Number.{set_gid, is_mode}
use Rattle.syntax.specs.Path.{Name, is_name, is_entry_path, most_names}
use Rattle.syntax.specs.Field.{is_content}
use Rattle.tree.specs.declared.Kind.{Kind}
use Rattle.tree.specs.declared.Kind.TheVariants.{File, Directory}
use Rattle.tree.specs.Forest.{Forest, nil, node, Place, is_empty, size, height}
use Rattle.tree.specs.Node.{is_directory, Tag, Node}

unfoldable pub most_nodes : ℕ
most_nodes = 256

unfoldable pub last_revision : ℕ
last_revision = 9999

unfoldable pub nodes : {A : Type 0} → Place A → ℕ
nodes t = suc (size t.below)

unfoldable pub is_tag : Option Tag → Bool
is_tag none = true
is_tag (some t) = is_entry_path t.path && leb t.revision last_revision

-- what a kind allows: set-gid on directories only, content in files only
unfoldable pub fits_kind : Kind → ℕ → Text → Bool
fits_kind File mode content = not (set_gid mode)
fits_kind Directory mode content = eqb (length content) 0

unfoldable pub is_node : Node → Bool
is_node n =
    ((ltb n.owner.0 24 && ltb n.group.0 25) && (is_mode n.mode && leb n.revision last_revision))
    && (is_tag n.tag && (is_content n.content && fits_kind n.kind n.mode n.content))

-- whether a name comes before all siblings
unfoldable pub leads : {A : Type 0} → Name → Forest A → Bool
leads n nil = true
leads n (node m x cs rest) = precedes n m

unfoldable pub is_forest : Forest Node → Bool
is_forest nil = true
is_forest (node n x cs rest) =
    ((is_name n && is_node x) && (is_directory x.kind || is_empty cs)) && (is_forest cs && (leads n rest && is_forest rest))

-- a well-formed place: a node with a well-formed forest below it
unfoldable pub is_place : Place Node → Bool
is_place d = (is_node d.here && (is_directory d.here.kind || is_empty d.below)) && is_forest d.below

unfoldable pub is_tree : Place Node → Bool
is_tree t =
    (is_directory t.here.kind && (is_node t.here && is_forest t.below))
    && (leb (height t.below) most_names && leb (nodes t) most_nodes)
