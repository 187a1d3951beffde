-- For computed examples only: whoever unfolds `compute` unfolds every definition of this crate that a run goes through.
use Rattle.buffers.specs.Compute.{compute_bytes as compute_fields}
use Rattle.tree.specs.Causes.{number, wrong_setup}
use Rattle.tree.specs.Result.{◌>>=◌, ◌>>◌, require, present, absent}
use Rattle.tree.specs.Forest.{get, is_empty, insert, remove, at, under, update, update_forest, alter, put, drop, leaf, size, larger, height, names, map_forest, map_place, rooted}
use Rattle.tree.specs.Node.{is_directory, same_kind, allows, owns, new_group, new_node, set_owner, set_group, set_mode, set_revision, set_tag, set_content}
use Rattle.tree.specs.Walk.{by_modes, look, unused, sought, enter, walk, parent_walk, room}
use Rattle.tree.specs.Graft.{graft}
use Rattle.tree.specs.Files.{files_below}
use Rattle.tree.specs.Outline.{outline, outlines}
use Rattle.tree.specs.WellFormed.{most_nodes, last_revision, nodes}
use Rattle.tree.specs.Rows.{siblings, others, subtrees, only, tree_of}
use Rattle.tree.specs.Encoding.{kind_of, tag_of, read_row, decode_tree}

unfoldable pub compute : Unit {0}
unfolding number wrong_setup ◌>>=◌ ◌>>◌ require present absent get is_empty insert remove at under update update_forest alter put drop leaf size larger height names map_forest map_place rooted is_directory same_kind allows owns new_group new_node set_owner set_group set_mode set_revision set_tag set_content by_modes look unused sought enter walk parent_walk room graft files_below outline outlines most_nodes last_revision nodes
compute = tt

-- and those that read a tree off its bytes
unfoldable pub compute_bytes : Unit {0}
unfolding compute_fields siblings others subtrees only tree_of kind_of tag_of read_row decode_tree
compute_bytes = tt
