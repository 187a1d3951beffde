-- `store::initial::write_top` meets its contract: `/` alone, then `/rep` put in.
use mathlib.Core.Path.{◌≡◌, ◌∙◌, ap}
use Rattle.syntax.specs.Pieces.{bytes}
use Rattle.syntax.specs.Number.{octal}
use Rattle.syntax.specs.Path.{rep}
use Rattle.tree.specs.declared.Kind.TheVariants.{Directory}
use Rattle.tree.specs.Node.{Node}
use Rattle.tree.specs.Forest.{no_nodes, leaf}
use Rattle.tree.specs.Encoding.{encode_tree}
use Rattle.edits.specs.Changes.{fresh_node}
use Rattle.store.specs.Initial.{top_node, rep_node, topped}
use Rattle.store.proofs.InitialRowsLaws.{planted_opens, rep_put, directory_is}
use Rattle.store.proofs.initial.write_top.Goals as goal

-- `/` as it is planted
planted : encode_tree (leaf (fresh_node (record { kind = Directory; owner = record { 0 = 0 }; group = record { 0 = 0 }; mode = octal 0 7 5 5; revision = 0 }))) ≡ encode_tree (leaf top_node)
unfolding top_node
planted = ap (λ (x : Node). encode_tree (leaf x)) (directory_is (record { 0 = 0 }) (record { 0 = 0 }) (octal 0 7 5 5))

pub put_directory-requires : goal.put_directory-requires
unfolding rep bytes top_node
put_directory-requires c =
    let p = c.plant in
    (rep, topped no_nodes, planted_opens p.new.tree (p.ensures ∙ planted))

pub returns : goal.returns
unfolding rep bytes top_node rep_node
returns c u =
    let p = c.plant in
    c.put_directory.ensures rep (topped no_nodes) (planted_opens p.new.tree (p.ensures ∙ planted)) ∙ ap encode_tree (rep_put u)
