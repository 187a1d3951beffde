-- `store::initial::put_home` meets its contract: no home, or a directory at the path of the account's.
use mathlib.Core.Path.{sym, ◌∙◌, ap}
use native.Mathlib.Omega.{arith}
use Rattle.tree.specs.Forest.{Forest}
use Rattle.tree.specs.Node.{Node}
use Rattle.tree.specs.Encoding.{encode_tree}
use Rattle.store.specs.Initial.{home_name, topped}
use Rattle.store.proofs.InitialRowsLaws.{opens_at, no_home, home_put}
use Rattle.store.proofs.initial.put_home.Goals as goal

pub returns-then-group-eq0 : goal.returns-then-group-eq0
returns-then-group-eq0 c f h =
    let a = c.args in
    h.tree.bytes ∙ ap (λ (g : Forest Node). encode_tree (topped g)) (sym (no_home a.uid a.person f c.if-group-eq0.true))

pub put_directory-requires : goal.put_directory-requires
put_directory-requires c =
    (home_name c.args.uid, topped c.requires.opens.0, opens_at _ c.home_path.ensures.path c.requires.opens.1)

pub returns : goal.returns
returns c f h =
    let a = c.args in
    c.put_directory.ensures (home_name a.uid) (topped f) (opens_at _ c.home_path.ensures.path h)
    ∙ ap encode_tree (home_put a.uid a.person f (λ z. omega arith))
