-- `sound_store::grants_part::is_grant` meets its contract: byte by byte, and by its password.
use mathlib.Core.Path.{◌≡◌, refl, ◌∙◌}
use mathlib.Core.Bool.{◌&&◌, and_assoc}
use Prim.Native.Nat.{◌+◌}
use lib.Dec.{ltb}
use lib.ListN.{get_or}
use Rattle.store.specs.HeaderLayout.{grant_start}
use Rattle.soundness.specs.BothLaws.{both, not_both}
use Rattle.soundness.specs.FieldTestLaws.{below_next}
use Rattle.sound_store.specs.HeaderTests.{named_at, is_password_at, is_grant_at}
use Rattle.sound_store.proofs.grants_part.is_grant.Goals as goal
use Rattle.sound_store.proofs.grants_part.is_grant.Goals.{Joined-is_named, then-is_named, else-is_named}

front : (c : Joined-is_named) → (let b = c.args.header.now in let at = grant_start c.args.k in c.if-is_named.value ≡ (named_at b (get_or b at 0) && ltb (get_or b (at + 1) 0) 8))
front c =
    let b = c.args.header.now in
    let at = grant_start c.args.k in
    elim c.if-is_named.branch [
      | then-is_named w ↦ both c.is_named.ensures w.if-is_named.true (w.value-is ∙ below_next (get_or b (at + 1) 0) 7)
      | else-is_named w ↦ not_both _ c.is_named.ensures w.if-is_named.false w.value-is
    ]

pub returns-then-header-at-le-LAST_ROLE : goal.returns-then-header-at-le-LAST_ROLE
unfolding is_grant_at
returns-then-header-at-le-LAST_ROLE c =
    let b = c.args.header.now in
    let at = grant_start c.args.k in
    both (front (goal.at.returns-then-header-at-le-LAST_ROLE c).Joined-is_named) c.if-header-at-le-LAST_ROLE.true c.is_password.ensures
    ∙ and_assoc (named_at b (get_or b at 0)) (ltb (get_or b (at + 1) 0) 8) (is_password_at b c.args.k)

pub returns-else-header-at-le-LAST_ROLE : goal.returns-else-header-at-le-LAST_ROLE
unfolding is_grant_at
returns-else-header-at-le-LAST_ROLE c =
    let b = c.args.header.now in
    let at = grant_start c.args.k in
    not_both _ (front (goal.at.returns-else-header-at-le-LAST_ROLE c).Joined-is_named) c.if-header-at-le-LAST_ROLE.false refl
    ∙ and_assoc (named_at b (get_or b at 0)) (ltb (get_or b (at + 1) 0) 8) (is_password_at b c.args.k)
