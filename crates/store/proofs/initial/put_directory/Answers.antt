-- `store::initial::put_directory` meets its contract: root finds the room, and the row is put in there.
use mathlib.Core.Path.{ap, refl, ◌∙◌}
use native.Mathlib.Omega.{arith}
use lib.ListN.{length}
use Rattle.accounts.proofs.AccessLaws.{is_root_is}
use Rattle.syntax.specs.Path.{root, ◌▹◌}
use Rattle.syntax.proofs.PathTextLaws.{text_begins}
use Rattle.tree.specs.Forest.{put, leaf}
use Rattle.tree.specs.Node.{Node}
use Rattle.tree.specs.Encoding.{encode_tree}
use Rattle.store.proofs.InitialRowsLaws.{not_refused, spot_opens, spot_named, directory_put, directory_is}
use Rattle.store.proofs.initial.put_directory.Goals as goal

pub last_name-requires : goal.last_name-requires
last_name-requires c =
    text_begins c.args.path.now (root ▹ c.requires.0) c.requires.2.reads

pub put_child-requires : goal.put_child-requires
put_child-requires c =
    let b = c.args.tree.now in
    let p = c.args.path.now in
    let told = c.in-Ok.ensures in
    let e = refl in record {
      insertable = spot_opens b p c.requires.0 c.requires.1 c.requires.2 _ told e;
      name_len_bound = omega (arith, ap length c.last_name.ensures, spot_named b p c.requires.0 c.requires.1 c.requires.2 _ told e);
    }

pub returns-in-Ok : goal.returns-in-Ok
returns-in-Ok c n t h =
    let a = c.args in
    let told = c.in-Ok.ensures in
    let e = refl in
    let name = c.last_name in
    c.put_child.ensures ∙ directory_put a.tree.now a.path.now n t h _ told e name.result.now name.ensures _
    ∙ ap (λ (x : Node). encode_tree (put n (leaf x) t)) (directory_is a.owner a.group a.mode)

pub returns-in_default : goal.returns-in_default
returns-in_default c n t h =
    let a = c.args in
    absurd (not_refused a.tree.now a.path.now n t h _ c.in_default.ensures (is_root_is (record { 0 = 0 })) refl)
