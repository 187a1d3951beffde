-- Laws of a walk's steps: what each has found where it is done, and when it is done.
use Rattle.std.specs.Prelude.{◌≡◌, true}
use Rattle.std.proofs.Math.Path.{refl}
use Rattle.std.proofs.Common.{sym, ◌∙◌}
use Rattle.std.proofs.Math.Option.{Option, none, some}
use Rattle.syntax.specs.Path.{Name, Path, root, ◌▹◌, parent}
use Rattle.tree.specs.declared.Cause.TheVariants.{Missing, NotDirectory, Access, Exists}
use Rattle.tree.specs.Result.{done, ◌>>=◌, ◌>>◌, require, present}
use Rattle.tree.proofs.ResultLaws.{present_some, was_absent, required, bind_done, then_done, done_then, done_bind}
use Rattle.tree.specs.Forest.{Forest, Place, get}
use Rattle.tree.specs.Node.{is_directory}
use Rattle.tree.specs.Walk.{Judge, look, unused, sought, enter, walk, parent_walk}

module _ {A : Type 0} where
  -- the child that was found
  looked : (n : Name) (F : Forest A) {d : Place A} → look n F ≡ done d → get n F ≡ some d
  unfolding look
  looked n F i = present_some (get n F) Missing i

  -- a child that is there is found
  pub look_some : (n : Name) (F : Forest A) {d : Place A} → get n F ≡ some d → look n F ≡ done d
  unfolding look present
  look_some n F i = rw i

  -- a name that was unused names no child
  pub was_unused : (n : Name) (F : Forest A) → unused n F ≡ done tt → get n F ≡ none
  unfolding unused
  was_unused n F i = was_absent (get n F) Exists i

  -- what is sought is found or is not there
  pub sought_is : (n : Name) (F : Forest A) → sought n F ≡ done (get n F)
  unfolding sought
  sought_is n F = refl

  pub was_sought : (n : Name) (F : Forest A) {o : Option (Place A)} → sought n F ≡ done o → get n F ≡ o
  unfolding sought
  was_sought n F i = cc

  module _ (j : Judge A) where
    -- what was entered is a directory that may be passed
    pub entered : (a : A) → enter j a ≡ done tt → (is_directory (j.kind a) ≡ true) × (j.passes a ≡ true)
    unfolding enter
    entered a i =
        let w = then_done (require (is_directory (j.kind a)) NotDirectory) (require (j.passes a) Access) i in
        (required (is_directory (j.kind a)) NotDirectory w.0, required (j.passes a) Access w.1)

    -- a directory that may be passed is entered
    pub enters : (a : A) → is_directory (j.kind a) ≡ true → j.passes a ≡ true → enter j a ≡ done tt
    unfolding enter require ◌>>◌
    enters a k i = rw (k, i)

    module _ (t : Place A) where
      -- the walk to `/` is done
      pub walk_root : walk j t root ≡ done t
      unfolding walk
      walk_root = refl

      -- a walk is the walk to the parent, then one step
      pub walk_step : (p : Path) (n : Name) → walk j t (p ▹ n) ≡ (walk j t p >>= λ d. enter j d.here >> look n d.below)
      unfolding walk
      walk_step p n = refl

      -- a walk that is done led to the parent, entered it and found the child
      pub walked : (p : Path) (n : Name) {d : Place A} → walk j t (p ▹ n) ≡ done d
          → (c : Place A) × (walk j t p ≡ done c) × (enter j c.here ≡ done tt) × (get n c.below ≡ some d)
      walked p n i =
          let w = bind_done (walk j t p) (λ c. enter j c.here >> look n c.below) (sym (walk_step p n) ∙ i) in
          let v = then_done (enter j w.0.here) (look n w.0.below) w.2 in
          (w.0, w.1, v.0, looked n w.0.below v.1)

      -- a walk goes on to a child of what it led to and may enter
      pub walks_on : (p : Path) (n : Name) {c d : Place A} → walk j t p ≡ done c → enter j c.here ≡ done tt → get n c.below ≡ some d → walk j t (p ▹ n) ≡ done d
      walks_on p n {c} i e g = rw (walk_step p n, i, done_bind c (λ x. enter j x.here >> look n x.below), e, done_then (look n c.below)) (look_some n c.below g)

      -- a walk to the parent that is done led there and entered it
      pub parent_walked : (p : Path) {d : Place A} → parent_walk j t p ≡ done d → (walk j t (parent p) ≡ done d) × (enter j d.here ≡ done tt)
      unfolding parent_walk
      parent_walked p {d} i =
          let w = bind_done (walk j t (parent p)) (λ c. enter j c.here >> done c) i in
          let v = then_done (enter j w.0.here) (done w.0) w.2 in
          let q : d ≡ w.0 = cc v.1 in
          rw q (w.1, v.0)

  -- a judge that lets pass no less leads wherever another does
  pub walk_more : (j k : Judge A) → ((a : A) → k.kind a ≡ j.kind a) → ((a : A) → j.passes a ≡ true → k.passes a ≡ true)
      → (t : Place A) (p : Path) (d : Place A) → walk j t p ≡ done d → walk k t p ≡ done d
  walk_more j k kinds more t root d e = walk_root k t ∙ sym (walk_root j t) ∙ e
  walk_more j k kinds more t (p ▹ n) d e =
      let w = walked j t p n e in
      let a = w.0.here in
      let v = entered j a w.2 in
      walks_on k t p n (walk_more j k kinds more t p w.0 w.1) (enters k a (rw (kinds a) v.0) (more a v.1)) w.3
