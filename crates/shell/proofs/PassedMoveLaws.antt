-- What a done `mv` has passed, gathered once for the laws about it.
use Rattle.std.specs.Prelude.{◌≡◌, refl, true, false, ℕ, ◌+◌, ◌≤◌}
use Rattle.std.proofs.Math.Option.{Option}
use Rattle.std.proofs.lemmas.Bool.{not-true}
use Rattle.std.proofs.Common.{leb-true}
use Rattle.buffers.specs.Cases.{neither}
use Rattle.accounts.specs.declared.Caller.{Caller}
use Rattle.accounts.specs.declared.Right.TheVariants.{W}
use Rattle.syntax.specs.Path.{Path, parent, last, depth, is_top, lies_below, reserved, most_names}
use Rattle.syntax.proofs.PathLaws.{not_reserved}
use Rattle.tree.specs.declared.Cause.TheVariants.{Access, Reserved, IntoItself, TooDeep}
use Rattle.tree.specs.Result.{done}
use Rattle.tree.specs.Outcomes.{gives, Ensures}
use Rattle.tree.proofs.GivesLaws.{any_outcome, then_check, then_guard, then_do}
use Rattle.tree.specs.Forest.{Place, get, height}
use Rattle.tree.specs.Node.{Node, allows}
use Rattle.tree.specs.Walk.{by_modes, walk, parent_walk}
use Rattle.tree.proofs.StepLaws.{was_sought}
use Rattle.shell.specs.Steps.{may_replace, moved, run_mv}

-- the place at a and the directory over it, the directory of b and what stands there; the tree t' is t with the place moved
pub record PassedMove (c : Caller) (t : Place Node) (a b : Path) (t' : Place Node) : Type 0 where
  pub place : Place Node
  pub led : walk (by_modes c.account) t a ≡ done place
  pub below_top : is_top a ≡ false
  pub over : Place Node
  pub over_led : walk (by_modes c.account) t (parent a) ≡ done over
  pub over_writable : allows c.account W over.here ≡ true
  pub target_below_top : is_top b ≡ false
  pub directory : Place Node
  pub entered : parent_walk (by_modes c.account) t b ≡ done directory
  pub writable : allows c.account W directory.here ≡ true
  pub there : Option (Place Node)
  pub found : get (last b) directory.below ≡ there
  pub fitting : may_replace place.here.kind there ≡ done tt
  pub outside : lies_below a b ≡ false
  pub low : depth b + height place.below ≤ most_names
  pub leaves : t' ≡ moved t a b place there

pub mv_passed : (c : Caller) (m : ℕ) (t : Place Node) (a b : Path) → Ensures (λ o. PassedMove c t a b o.state) (run_mv c m t a b)
unfolding run_mv
mv_passed c m t a b =
    then_check Reserved tt _ λ i.
    then_do _ λ d w.
    then_do _ λ f k.
    then_do _ λ o s.
    then_guard (any_outcome _) λ r.
    then_do _ λ e v.
    then_check Access tt _ λ x.
    then_check Access tt _ λ y.
    then_check IntoItself tt _ λ z.
    then_check TooDeep tt _ λ l.
    let free = neither (reserved a) (reserved b) i in
    gives (record {
      place = d;
      led = w;
      below_top = not_reserved a free.0;
      over = e;
      over_led = v;
      over_writable = x;
      target_below_top = not_reserved b free.1;
      directory = f;
      entered = k;
      writable = y;
      there = o;
      found = was_sought (last b) f.below s;
      fitting = r;
      outside = not-true (lies_below a b) z;
      low = leb-true (depth b + height d.below) most_names l;
      leaves = refl;
    })
