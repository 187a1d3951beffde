-- `setups::line::add_grant` meets its contract: nobody's, one too many, or written behind the others.
use mathlib.Core.Path.{refl}
use Prim.Native.Nat.{◌≤◌, ◌<◌}
use native.Mathlib.Omega.{arith}
use Rattle.buffers.specs.Cases.{answers_true, answers_false}
use lib.ListN.{length}
use Rattle.store.specs.StoreBytes.{setup_of}
use Rattle.setups.specs.LineReadLaws.{nobodys_grant, grants_full, new_grant, begun_wide, grants_counted, wrong_done, grant_done}
use Rattle.setups.proofs.line.add_grant.Goals as goal

pub returns-then-not-is_known : goal.returns-then-not-is_known
returns-then-not-is_known c =
    let a = c.args in
    let b = a.header.now in
    wrong_done b c.requires.begun (nobodys_grant a.kind (setup_of b) a.uid a.role a.password.now (answers_false c.is_known.ensures c.if-not-is_known.true-raw))

pub bounds-header-121 : goal.bounds-header-121
bounds-header-121 c = omega (arith, begun_wide c.args.header.now c.requires.begun)

pub returns-then-n-ge32 : goal.returns-then-n-ge32
returns-then-n-ge32 c =
    let a = c.args in
    let b = a.header.now in
    let full : 32 ≤ length (setup_of b).grants = omega (arith, c.if-n-ge32.true, grants_counted b c.requires.begun) in
    wrong_done b c.requires.begun (grants_full a.kind (setup_of b) a.uid a.role a.password.now full)

pub write_grant-requires : goal.write_grant-requires
write_grant-requires c = record {
  grant_width_in_bounds = omega (arith, begun_wide c.args.header.now c.requires.begun);
  password_len_bound = c.requires.password_len_bound;
}

pub bounds-header-121-2 : goal.bounds-header-121-2
bounds-header-121-2 c = omega (arith, c.write_grant.auto.header, begun_wide c.args.header.now c.requires.begun)

pub returns : goal.returns
returns c =
    let a = c.args in
    let b = a.header.now in
    let few : length (setup_of b).grants < 32 = omega (arith, grants_counted b c.requires.begun) in
    grant_done b c.requires.begun (record { uid = a.uid; role = a.role; password = a.password.now }) c.write_grant.new.header _ c.requires.password_len_bound (omega arith)
    (new_grant a.kind (setup_of b) a.uid a.role a.password.now c.requires.kind_bound (answers_true c.is_known.ensures c.if-not-is_known.false-raw) few)
    c.write_grant.auto.header c.write_grant.ensures refl
