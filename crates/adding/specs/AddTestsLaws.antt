-- What each test of `add` says where it fails, and that all are done where they pass.
use Rattle.std.specs.Prelude.{◌≡◌, Bool, true, false}
use Rattle.accounts.specs.declared.Account.{Account}
use Rattle.tree.specs.declared.Cause.TheVariants.{Access, Reserved}
use Rattle.tree.specs.Result.{refused, done}
use Rattle.tree.proofs.ResultLaws.{done_then, refused_then, require_true, require_false}
use Rattle.tree.specs.Node.{Node, owns}
use Rattle.tree.specs.Walk.{by_modes}
use Rattle.adding.specs.AddSteps.{add_tests}

module _ (a : Account) where
  module _ (dominated : Bool) (n : Node) where
    pub add_foreign : owns a n ≡ false → refused Reserved ≡ add_tests a dominated n
    unfolding add_tests
    add_foreign e = simp (e, require_false, refused_then)

    pub add_unread : owns a n ≡ true → (by_modes a).readable n ≡ false → refused Access ≡ add_tests a dominated n
    unfolding add_tests
    add_unread e f = simp (e, f, require_true, done_then, require_false, refused_then)

    pub add_undominated : owns a n ≡ true → (by_modes a).readable n ≡ true → dominated ≡ false → refused Reserved ≡ add_tests a dominated n
    unfolding add_tests
    add_undominated e f g = simp (e, f, g, require_true, done_then, require_false)

    pub add_open : owns a n ≡ true → (by_modes a).readable n ≡ true → dominated ≡ true → done tt ≡ add_tests a dominated n
    unfolding add_tests
    add_open e f g = simp (e, f, g, require_true, done_then)
