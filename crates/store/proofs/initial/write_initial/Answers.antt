-- `store::initial::write_initial` meets its contract: after k turns the homes of the accounts below k are there.
use mathlib.Core.Path.{◌∙◌, ap}
use mathlib.Core.List.{map}
use Prim.Native.Nat.{◌<◌}
use native.Mathlib.Omega.{arith}
use Rattle.tree.specs.Encoding.{encode_tree}
use Rattle.store.specs.Initial.{homes}
use Rattle.store.specs.InitialRows.{slot_value}
use Rattle.store.proofs.InitialRowsLaws.{with_persons, turn_opens, turn_home, turned_all}
use Rattle.store.proofs.initial.write_initial.Goals as goal

pub loop-k-init : goal.loop-k-init
loop-k-init c =
    let w = c.write_top in
    record { le = omega arith; wide = w.auto.tree ∙ omega arith; encoded = w.ensures _ }

pub put_home-requires : goal.put_home-requires
put_home-requires c =
    let l = c.loop-k in
    let h : l.k < 16 = omega arith in
    record {
      uid_bound = h;
      opens = (homes (with_persons (map slot_value c.args.persons)) l.k, turn_opens c.args.persons c.requires.persons_value l.tree l.k h l.invariant.encoded);
    }

pub loop-k-preserved : goal.loop-k-preserved
loop-k-preserved c =
    let p = c.put_home in
    let l = c.loop-k in
    let ps = c.args.persons in
    let f = c.requires.persons_value in
    record {
      le = omega arith;
      wide = p.auto.tree ∙ l.invariant.wide;
      encoded = p.ensures (homes (with_persons (map slot_value ps)) l.k) (turn_opens ps f l.tree l.k (omega arith) l.invariant.encoded) ∙ ap encode_tree (turn_home ps l.k);
    }

pub shape_of-tree : goal.shape_of-tree
shape_of-tree c = c.loop-k.invariant.wide ∙ omega arith

pub returns : goal.returns
returns c u e =
    let l = c.loop-k in
    turned_all (with_persons (map slot_value c.args.persons)) u l.tree l.k (omega arith) l.invariant.encoded e
