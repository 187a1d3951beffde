-- `nodes::making::create` meets its contract: what the checks refuse stays, and where they pass the caller's new node is put in.
use Rattle.std.proofs.Common.{arith, ◌∙◌, ap, refl, length}
use Rattle.syntax.proofs.PathTextLaws.{text_begins}
use Rattle.gaps.specs.GapsLaws.{last_in_text, last_fits, place_row, stands_insertable}
use Rattle.shell.proofs.CommandBytesLaws.{passed_follows, silence_follows}
use Rattle.nodes.specs.NodeChecksLaws.{create_refused, create_done, making_stands, making_not}
use Rattle.nodes.specs.NodeChangesLaws.{create_law}
use Rattle.nodes.proofs.making.create.Goals as goal

pub returns-in_err-gap : goal.returns-in_err-gap
returns-in_err-gap c t p tree reads =
    let a = c.args in
    passed_follows a.tree.now c.from_residual.ensures.1
    (create_refused a.caller t a.kind p a.mode (making_not tree a.caller.account p (c.in_err-gap.ensures t p tree reads) refl))

pub new_group-group-requires : goal.new_group-group-requires
new_group-group-requires c =
    let t = c.requires.whole in
    let p = c.requires.path_text in
    let told = c.in_ok-gap.ensures t.0 p.0 t.1 p.1 in
    place_row (making_stands t.1 c.args.caller.account p.0 told refl).0.above

pub last_name-requires : goal.last_name-requires
last_name-requires c =
    text_begins c.args.path.now c.requires.path_text.0 c.requires.path_text.1

pub put_child-requires : goal.put_child-requires
put_child-requires c =
    let t = c.requires.whole in
    let p = c.requires.path_text in
    let told = c.in_ok-gap.ensures t.0 p.0 t.1 p.1 in
    let g = making_stands t.1 c.args.caller.account p.0 told refl in
    let fits = last_fits c.args.path.now p.1 g.0.roomed.below_top in
    record {
      insertable = stands_insertable g.0 1 (omega (arith, g.1.1));
      name_len_bound = omega (arith, ap length c.last_name.ensures, fits);
    }

pub returns : goal.returns
returns c t p tree reads =
    let a = c.args in
    let g = making_stands tree a.caller.account p (c.in_ok-gap.ensures t p tree reads) refl in
    let name = c.last_name in
    let group = c.new_group-group in
    let put = create_law a.caller a.kind a.mode g.0 a.path.now reads (omega (arith, g.1.1)) name.result.now group.result
    (name.ensures ∙ last_in_text a.path.now reads) group.ensures in
    silence_follows a.tree.now _ (create_done a.caller t a.kind p a.mode g.1.0) (c.put_child.ensures ∙ put)
