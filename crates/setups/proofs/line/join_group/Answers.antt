-- `setups::line::join_group` meets its contract: too late, nobody's, or a slot written.
use mathlib.Core.Path.{ap, ◌∙◌}
use mathlib.Core.List.{List}
use mathlib.Core.Option.{Option}
use Prim.Native.Nat.{ℕ, ◌+◌, ◌*◌}
use native.Mathlib.Omega.{arith}
use lib.ListN.{get_or}
use lib.Seq.{paste}
use Rattle.buffers.specs.Fields.{number_at}
use Rattle.accounts.specs.Groups.{with_group}
use Rattle.setup.specs.Setup.{Person, joining, is_slot}
use Rattle.store.specs.StoreBytes.{slot_bytes, setup_of}
use Rattle.setups.specs.LineReadLaws.{late_group, nobodys_group, persons_group, begun_wide, slot_empty, slot_filled, wrong_done, slot_done, joined_slot, one_group_more}
use Rattle.setups.proofs.line.join_group.Goals as goal

-- whom the bytes of a slot name
abbrev in-slot : List ℕ → ℕ → Person
in-slot b u = record { primary = record { 0 = get_or b (3 * u) 0 }; further = record { 0 = number_at (3 * u + 1) b } }

pub returns-then-kind-gt1 : goal.returns-then-kind-gt1
returns-then-kind-gt1 c =
    let a = c.args in
    wrong_done a.header.now c.requires.begun (late_group a.kind (setup_of a.header.now) a.uid a.gid c.if-kind-gt1.true)

pub bounds-header-at : goal.bounds-header-at
bounds-header-at c = omega (arith, begun_wide c.args.header.now c.requires.begun)

pub returns-then-primary-eq0 : goal.returns-then-primary-eq0
returns-then-primary-eq0 c =
    let a = c.args in
    let b = a.header.now in
    wrong_done b c.requires.begun (nobodys_group a.kind (setup_of b) a.uid a.gid (slot_empty b c.requires.begun a.uid c.requires.uid_bound c.if-primary-eq0.true))

pub number-requires : goal.number-requires
number-requires c = omega (arith, begun_wide c.args.header.now c.requires.begun)

pub write_slot-requires : goal.write_slot-requires
unfolding is_slot
write_slot-requires c =
    let a = c.args in
    let b = a.header.now in
    let further = c.with-further.ensures ∙ ap (λ (n : ℕ). with_group a.gid (record { 0 = n })) c.number.ensures in record {
      slot_width_in_bounds = omega (arith, begun_wide b c.requires.begun);
      person_value = ap is_slot (joined_slot (in-slot b a.uid.0) a.gid c.with-further.result c.if-primary-eq0.false further)
          ∙ one_group_more (setup_of b) a.uid a.gid (in-slot b a.uid.0) c.requires.begun.in_range (slot_filled b c.requires.begun a.uid c.requires.uid_bound c.if-primary-eq0.false) c.requires.gid_nonzero c.requires.gid_bound;
    }

pub returns : goal.returns
returns c =
    let a = c.args in
    let b = a.header.now in
    let further = c.with-further.ensures ∙ ap (λ (n : ℕ). with_group a.gid (record { 0 = n })) c.number.ensures in
    let filled = slot_filled b c.requires.begun a.uid c.requires.uid_bound c.if-primary-eq0.false in
    slot_done b c.requires.begun 1 a.uid (joining a.gid (in-slot b a.uid.0)) c.write_slot.new.header c.requires.uid_bound
    (one_group_more (setup_of b) a.uid a.gid (in-slot b a.uid.0) c.requires.begun.in_range filled c.requires.gid_nonzero c.requires.gid_bound)
    (persons_group a.kind (setup_of b) a.uid a.gid (in-slot b a.uid.0) (omega arith) filled)
    (c.write_slot.ensures ∙ ap (λ (o : Option Person). paste b (3 * a.uid.0) (slot_bytes o) 3) (joined_slot (in-slot b a.uid.0) a.gid c.with-further.result c.if-primary-eq0.false further))
