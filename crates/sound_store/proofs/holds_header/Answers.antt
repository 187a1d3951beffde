-- `sound_store::holds_header` meets its contract: part by part.
use mathlib.Core.Path.{◌≡◌, refl, ◌∙◌}
use mathlib.Core.Bool.{◌&&◌, and_assoc}
use native.Mathlib.Omega.{arith}
use Rattle.buffers.specs.Fields.{zeros_at}
use Rattle.soundness.specs.BothLaws.{both, not_both}
use Rattle.store.specs.HeaderLayout.{spare_offset, spare_width}
use Rattle.store.specs.StoreBytes.{is_header}
use Rattle.sound_store.specs.HeaderTests.{has_slots, has_sessions, has_pairs, has_grants, has_directories, header_test}
use Rattle.sound_store.specs.HeaderTestLaws.{header_test_is}
use Rattle.sound_store.proofs.holds_header.Goals as goal
use Rattle.sound_store.proofs.holds_header.Goals.{Joined-has_grants, then-has_slots, else-has_slots, then-has_sessions, else-has_sessions, then-has_pairs, else-has_pairs, then-has_grants, else-has_grants}

-- all parts but the zeros at the end
front : (c : Joined-has_grants) → (let b = c.args.header.now in c.if-has_grants.value ≡ ((((has_slots b && has_sessions b) && has_pairs b) && has_grants b) && has_directories b))
front c =
    let b = c.args.header.now in
    let s1 : c.if-has_slots.value ≡ (has_slots b && has_sessions b) = elim c.if-has_slots.branch [
      | then-has_slots w ↦ both c.has_slots.ensures w.if-has_slots.true (w.value-is ∙ w.has_sessions.ensures)
      | else-has_slots w ↦ not_both _ c.has_slots.ensures w.if-has_slots.false w.value-is
    ] in
    let s2 : c.if-has_sessions.value ≡ ((has_slots b && has_sessions b) && has_pairs b) = elim c.if-has_sessions.branch [
      | then-has_sessions w ↦ both s1 w.if-has_sessions.true (w.value-is ∙ w.has_pairs.ensures)
      | else-has_sessions w ↦ not_both _ s1 w.if-has_sessions.false w.value-is
    ] in
    let s3 : c.if-has_pairs.value ≡ (((has_slots b && has_sessions b) && has_pairs b) && has_grants b) = elim c.if-has_pairs.branch [
      | then-has_pairs w ↦ both s2 w.if-has_pairs.true (w.value-is ∙ w.has_grants.ensures)
      | else-has_pairs w ↦ not_both _ s2 w.if-has_pairs.false w.value-is
    ] in
    elim c.if-has_grants.branch [
      | then-has_grants w ↦ both s3 w.if-has_grants.true (w.value-is ∙ w.has_directories.ensures)
      | else-has_grants w ↦ not_both _ s3 w.if-has_grants.false w.value-is
    ]

whole : (c : Joined-has_grants) → (let b = c.args.header.now in (((((has_slots b && has_sessions b) && has_pairs b) && has_grants b) && has_directories b) && zeros_at spare_offset spare_width b) ≡ is_header b)
unfolding header_test
whole c =
    let b = c.args.header.now in
    let parts : (((((has_slots b && has_sessions b) && has_pairs b) && has_grants b) && has_directories b) && zeros_at spare_offset spare_width b) ≡ header_test b = simp and_assoc in
    parts ∙ header_test_is b (omega arith) (λ j. omega (arith, c.type_inv.header j))

pub returns-then-has_directories : goal.returns-then-has_directories
returns-then-has_directories c =
    let j = (goal.at.returns-then-has_directories c).Joined-has_grants in
    both (front j) c.if-has_directories.true c.is_zero_in_blocks.ensures ∙ whole j

pub returns-else-has_directories : goal.returns-else-has_directories
returns-else-has_directories c =
    let j = (goal.at.returns-else-has_directories c).Joined-has_grants in
    not_both _ (front j) c.if-has_directories.false refl ∙ whole j
