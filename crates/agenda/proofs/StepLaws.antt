-- What a step was, from what it came to.
use Rattle.std.specs.Prelude.{◌≡◌, refl, Bool, true, false, ℕ, Option, Some, None}
use Rattle.buffers.specs.Cases.{contra}
use Rattle.agenda.specs.declared.Place.{Place}
use Rattle.agenda.specs.declared.Step.TheVariants.{On, Ended}
use Rattle.agenda.specs.Agenda.{read_place, read_step, print_step}

-- a print that ends the program has nothing behind it
pub print_ends : (printed more : Bool) (then : Place) → Ended ≡ print_step printed more then → more ≡ false
unfolding print_step
print_ends false more then e = contra {b = true} refl (cc e)
print_ends true true then e = contra {b = true} refl (cc e)
print_ends true false then e = refl

-- one that goes on goes on from its place
pub print_goes : (printed more : Bool) (then k : Place) → On k ≡ print_step printed more then → (k ≡ then) × (more ≡ true)
unfolding print_step
print_goes false more then k e = contra {b = true} refl (cc e)
print_goes true true then k e = (cc e, refl)
print_goes true false then k e = contra {b = true} refl (cc e)

-- no read ends the program
pub read_not_ended : (at : Place) (got : Option ℕ) → Ended ≡ read_step at got → ⊥
unfolding read_step
read_not_ended at (Some n) e = contra {b = true} refl (cc e)
read_not_ended at None e = contra {b = true} refl (cc e)

-- one that goes on gave bytes
pub read_goes : (at k : Place) (got : Option ℕ) → On k ≡ read_step at got → (n : ℕ) × (got ≡ Some n) × (k ≡ read_place at n)
unfolding read_step
read_goes at k (Some n) e = (n, refl, cc e)
read_goes at k None e = contra {b = true} refl (cc e)
