-- `header::callers::caller_of` meets its contract: root, a number without a slot, an empty slot, or a person's.
use mathlib.Core.Path.{◌∙◌, ap}
use Prim.Native.Nat.{◌*◌}
use native.Mathlib.Omega.{arith}
use lib.ListN.{get_or}
use Rattle.accounts.specs.declared.Gid.{Gid}
use Rattle.accounts.specs.declared.Groups.{Groups}
use Rattle.accounts.specs.Groups.{with_group}
use Rattle.store.specs.HeaderLayout.{slot_width}
use Rattle.header.specs.HeaderBytesLaws.{headed_wide, empty_slot, filled_slot, no_slots_beyond}
use Rattle.header.specs.KnownLaws.{root_known, nobody_known, person_known, primary_low}
use Rattle.header.proofs.callers.caller_of.Goals as goal

pub returns-then-uid-eq0 : goal.returns-then-uid-eq0
returns-then-uid-eq0 c u z h =
    let a = c.args in
    root_known u a.uid c.with-groups.result c.if-uid-eq0.true
    (c.with-groups.ensures ∙ ap (λ (g : Groups). with_group (record { 0 = 0 }) g) c.empty.ensures)

pub returns-then-uid-ge16 : goal.returns-then-uid-ge16
returns-then-uid-ge16 c u z h =
    let a = c.args in
    nobody_known u a.uid c.if-uid-eq0.false (no_slots_beyond h a.uid c.if-uid-ge16.true)

pub bounds-header-at : goal.bounds-header-at
bounds-header-at c = omega (arith, headed_wide c.requires)

pub returns-then-primary-eq0 : goal.returns-then-primary-eq0
returns-then-primary-eq0 c u z h =
    let a = c.args in
    nobody_known u a.uid c.if-uid-eq0.false (empty_slot h a.uid (omega arith) c.if-primary-eq0.true)

pub number-requires : goal.number-requires
number-requires c = omega (arith, headed_wide c.requires)

pub with-groups-requires-2 : goal.with-groups-requires-2
with-groups-requires-2 c =
    primary_low c.requires.2 c.args.uid (omega arith) c.if-primary-eq0.false

pub returns : goal.returns
returns c u z h =
    let a = c.args in
    let p : Gid = record { 0 = get_or a.header.now (slot_width * a.uid.0) 0 } in
    person_known u a.uid _ c.with-groups-2.result c.if-uid-eq0.false (filled_slot h a.uid (omega arith) c.if-primary-eq0.false)
    (c.with-groups-2.ensures ∙ (λ i. with_group p (record { 0 = c.number.ensures i })))
