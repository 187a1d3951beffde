-- `setups::line::name_person` meets its contract: too late, named already, or a slot written.
use mathlib.Core.Path.{◌≡◌, sym, ap, ◌∙◌}
use mathlib.Core.Option.{Option, some}
use Prim.Native.Nat.{◌*◌}
use native.Mathlib.Omega.{arith}
use lib.Seq.{paste}
use Rattle.accounts.specs.declared.Gid.{Gid}
use Rattle.accounts.specs.declared.Groups.{Groups}
use Rattle.accounts.specs.Groups.{no_groups}
use Rattle.accounts.proofs.GroupsLaws.{no_groups_is}
use Rattle.setup.specs.Setup.{Person, is_slot}
use Rattle.store.specs.InitialRows.{slot_value}
use Rattle.store.specs.StoreBytes.{slot_bytes, setup_of}
use Rattle.setups.specs.LineReadLaws.{late_person, known_person, new_person, begun_wide, slot_empty, slot_filled, wrong_done, slot_done, slot_of_person, first_groups}
use Rattle.setups.proofs.line.name_person.Goals as goal

-- the slot of a new person
abbrev person-in : Gid → Groups → Option Person
person-in g s = some (record { primary = g; further = s })

new-slot : (g : Gid) → (g.0 ≡ 0 → ⊥) → slot_value (record { primary = g; further = record { 0 = 0 } }) ≡ person-in g no_groups
new-slot g e = slot_of_person (record { primary = g; further = record { 0 = 0 } }) e ∙ ap (person-in g) (sym no_groups_is)

pub returns-then-kind-gt0 : goal.returns-then-kind-gt0
returns-then-kind-gt0 c =
    let a = c.args in
    wrong_done a.header.now c.requires.begun (late_person a.kind (setup_of a.header.now) a.uid a.gid c.if-kind-gt0.true)

pub bounds-header-at : goal.bounds-header-at
bounds-header-at c = omega (arith, begun_wide c.args.header.now c.requires.begun)

pub returns-then-header-at-ne0 : goal.returns-then-header-at-ne0
returns-then-header-at-ne0 c =
    let a = c.args in
    let b = a.header.now in
    wrong_done b c.requires.begun (known_person a.kind (setup_of b) a.uid a.gid _ (slot_filled b c.requires.begun a.uid c.requires.uid_bound c.if-header-at-ne0.true))

pub write_slot-requires : goal.write_slot-requires
unfolding is_slot
write_slot-requires c =
    let g = c.args.gid in record {
      slot_width_in_bounds = omega (arith, begun_wide c.args.header.now c.requires.begun);
      person_value = ap is_slot (new-slot g (λ e. omega arith)) ∙ first_groups g c.requires.gid_nonzero c.requires.gid_bound;
    }

pub returns : goal.returns
returns c =
    let a = c.args in
    let b = a.header.now in
    let p : Person = record { primary = a.gid; further = no_groups } in
    slot_done b c.requires.begun 0 a.uid p c.write_slot.new.header c.requires.uid_bound (first_groups a.gid c.requires.gid_nonzero c.requires.gid_bound)
    (new_person a.kind (setup_of b) a.uid a.gid (omega arith) (slot_empty b c.requires.begun a.uid c.requires.uid_bound c.if-header-at-ne0.false))
    (c.write_slot.ensures ∙ ap (λ (o : Option Person). paste b (3 * a.uid.0) (slot_bytes o) 3) (new-slot a.gid (λ e. omega arith)))
