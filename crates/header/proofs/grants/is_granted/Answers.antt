-- `header::grants::is_granted` meets its contract: whether one of the grants that are left has the three is whether one of all has.
use mathlib.Core.Path.{refl, ◌∙◌}
use native.Mathlib.Omega.{arith}
use Rattle.header.specs.HeaderBytesLaws.{headed_wide, grants_counted}
use Rattle.header.specs.GrantedLaws.{few_granted, granted_here, not_granted_here, not_granted}
use Rattle.header.proofs.grants.is_granted.Goals as goal

pub bounds-header-121 : goal.bounds-header-121
bounds-header-121 c = omega (arith, headed_wide c.requires.headed)

pub overflow_cast-n : goal.overflow_cast-n
overflow_cast-n c = omega (arith, few_granted c.requires.headed)

pub loop-i-init : goal.loop-i-init
loop-i-init c = record { le = omega arith; goes = λ u z h s e. refl }

pub grant_has-requires : goal.grant_has-requires
grant_has-requires c = let p = c.requires.headed in record {
  wide_header = headed_wide p;
  i_bound = omega (arith, few_granted p);
}

pub returns-then-grant_has : goal.returns-then-grant_has
returns-then-grant_has c u z h s e =
    let g = c.grant_has in
    let l = c.loop-i in
    let a = c.args in
    granted_here h a.uid a.role a.password.now s e l.i g.result (omega (arith, grants_counted h)) g.ensures c.if-grant_has.true
    ∙ l.invariant.goes u z h s e

pub loop-i-preserved : goal.loop-i-preserved
loop-i-preserved c =
    let g = c.grant_has in
    let l = c.loop-i in
    let a = c.args in
    record {
      le = omega arith;
      goes = λ u z h s e.
          not_granted_here h a.uid a.role a.password.now s e l.i g.result (omega (arith, grants_counted h)) g.ensures c.if-grant_has.false
          ∙ l.invariant.goes u z h s e;
    }

pub returns : goal.returns
returns c u z h s e =
    let l = c.loop-i in
    let a = c.args in
    not_granted h a.uid a.role a.password.now s e l.i (omega (arith, grants_counted h)) ∙ l.invariant.goes u z h s e
