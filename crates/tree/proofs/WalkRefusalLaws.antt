-- By what causes the steps of a walk are refused, whoever judges: 3, 4 and 5, and the search for an unused name 6.
use Rattle.std.proofs.Math.Path.{refl}
use Rattle.syntax.specs.Path.{Name, Path, root, ◌▹◌, parent}
use Rattle.tree.specs.declared.Cause.{Cause}
use Rattle.tree.specs.declared.Cause.TheVariants.{Missing, NotDirectory, Access, Exists}
use Rattle.tree.specs.Outcomes.{gives, Refuses}
use Rattle.tree.proofs.GivesLaws.{only_refuses, weaker, present_refuses, absent_refuses, require_refuses, then_step, then_check, then_guard}
use Rattle.tree.specs.Forest.{Forest, Place, get}
use Rattle.tree.specs.Walk.{Judge, look, unused, sought, enter, walk, parent_walk}

module _ {A : Type 0} {R : Cause → Type 0} where
  -- the search for a child is refused 3
  look_refuses : R Missing → (n : Name) (F : Forest A) → Refuses R (look n F)
  unfolding look
  look_refuses missing n F = present_refuses Missing missing (get n F)

  -- the search for an unused name is refused 6
  pub unused_refuses : R Exists → (n : Name) (F : Forest A) → Refuses R (unused n F)
  unfolding unused
  unused_refuses exists n F = absent_refuses Exists exists (get n F)

  -- that for what stands there, if anything, is not refused
  pub sought_refuses : (n : Name) (F : Forest A) → Refuses R (sought n F)
  unfolding sought
  sought_refuses n F = gives refl

  module _ (directory : R NotDirectory) (access : R Access) (j : Judge A) where
    -- a step into a directory is refused 4 or 5
    enter_refuses : (a : A) → Refuses R (enter j a)
    unfolding enter
    enter_refuses a = only_refuses (then_check NotDirectory directory _ λ _. require_refuses Access access (j.passes a))

  module _ (missing : R Missing) (directory : R NotDirectory) (access : R Access) (j : Judge A) (t : Place A) where
    -- a walk is refused 3, 4 or 5
    pub walk_refuses : (p : Path) → Refuses R (walk j t p)
    unfolding walk
    walk_refuses root = gives refl
    walk_refuses (p ▹ n) = only_refuses {P = λ d. Unit {0}} (
        then_step (walk_refuses p) λ d _.
        then_guard (enter_refuses directory access j d.here) λ _.
        weaker (λ _ _. tt) (look_refuses missing n d.below))

    -- and so is a walk to the parent
    pub parent_walk_refuses : (p : Path) → Refuses R (parent_walk j t p)
    unfolding parent_walk
    parent_walk_refuses p = only_refuses {P = λ d. Unit {0}} (
        then_step (walk_refuses (parent p)) λ d _.
        then_guard (enter_refuses directory access j d.here) λ _.
        gives tt)
