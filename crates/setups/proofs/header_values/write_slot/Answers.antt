-- `setups::header_values::write_slot` meets its contract: zeros, or the primary group with a number behind it.
use mathlib.Core.Path.{◌∙◌, ap}
use mathlib.Core.List.{List}
use Prim.Native.Nat.{ℕ}
use native.Mathlib.Omega.{arith}
use lib.ListN.{length-set}
use lib.Seq.{paste}
use Rattle.setups.specs.HeaderValuesLaws.{slot_cleared, slot_stored, further_fits}
use Rattle.setups.proofs.header_values.write_slot.Goals as goal

pub returns-then-primary-eq0 : goal.returns-then-primary-eq0
returns-then-primary-eq0 c =
    let a = c.args in
    c.clear.ensures ∙ ap (λ (l : List ℕ). paste a.header.now a.at l 3) (slot_cleared a.person (omega arith))

pub overflow_cast-further : goal.overflow_cast-further
overflow_cast-further c = let small = further_fits c.args.person c.requires.person_value (λ e. omega arith) in omega arith

pub write_number-requires : goal.write_number-requires
write_number-requires c = simp length-set (omega arith)

pub shape_of-header : goal.shape_of-header
shape_of-header c = c.write_number.auto.b ∙ simp length-set

pub returns : goal.returns
returns c =
    let a = c.args in
    c.write_number.ensures ∙ slot_stored a.header.now a.at a.person (omega arith) (λ e. omega arith)
