-- What one value of a header is as it is written: a slot, a pair, a grant.
use Rattle.std.specs.Prelude.{◌≡◌, refl, List, [], ◌∷◌, true, ◌&&◌, ℕ, ◌+◌, ◌%◌, ◌≤◌, ◌<◌, eqb, leb, ltb, length, set, replicate}
use Rattle.std.proofs.Common.{◌∙◌, ap, arith, eq-eqb, ne_eqb, ltb-true}
use Rattle.std.proofs.Math.Seq.{paste}
use Rattle.buffers.specs.Cases.{and_both}
use Rattle.buffers.specs.Fields.{two_bytes, padded}
use Rattle.buffers.specs.FieldsLaws.{length_two_bytes, length_padded}
use Rattle.buffers.specs.PasteLaws.{paste_join, set_paste, set_behind}
use Rattle.setup.specs.Setup.{Grant, is_person, is_slot}
use Rattle.store.specs.declared.Person.{Person as Slot}
use Rattle.store.specs.InitialRows.{slot_value}
use Rattle.store.specs.StoreBytes.{slot_bytes, grant_bytes}

-- two bytes stored side by side
pub two_stored : (b : List ℕ) (at v w : ℕ) → at + 2 ≤ length b → set (set b at v) (at + 1) w ≡ paste b at (v ∷ (w ∷ [])) 2
two_stored b at v w fits = ap (λ (l : List ℕ). set l (at + 1) w) (set_paste b at v (omega arith)) ∙ set_behind b (v ∷ []) at 1 w refl (omega arith)

-- a slot that is no person's is zeros
pub slot_cleared : (p : Slot) → p.primary.0 ≡ 0 → replicate 3 0 ≡ slot_bytes (slot_value p)
unfolding slot_value slot_bytes
slot_cleared p e = rw (eq-eqb p.primary.0 0 e)

-- a person's is the primary group with a number behind it
pub slot_stored : (b : List ℕ) (at : ℕ) (p : Slot) → at + 3 ≤ length b → (p.primary.0 ≡ 0 → ⊥) →
    paste (set b at p.primary.0) (at + 1) (two_bytes p.further.0) 2 ≡ paste b at (slot_bytes (slot_value p)) 3
unfolding slot_value slot_bytes
slot_stored b at p fits e =
    let x = p.primary.0 in
    let n = p.further.0 in
    ap (λ (l : List ℕ). paste l (at + 1) (two_bytes n) 2) (set_paste b at x (omega arith))
    ∙ paste_join b (x ∷ []) (two_bytes n) at 1 2 refl (length_two_bytes n) (omega arith)
    ∙ rw (ne_eqb x 0 e)

-- whose further groups fit two bytes
pub further_fits : (p : Slot) → is_slot (slot_value p) ≡ true → (p.primary.0 ≡ 0 → ⊥) → p.further.0 < 65536
unfolding slot_value is_slot is_person
further_fits p h e =
    let i = and_both (leb 1 p.primary.0 && leb p.primary.0 15) (ltb p.further.0 65536 && eqb (p.further.0 % 2) 0) (rw (ne_eqb p.primary.0 0 e) at h) in
    ltb-true p.further.0 65536 (and_both (ltb p.further.0 65536) (eqb (p.further.0 % 2) 0) i.1).0

-- a grant is its uid and its role with the password behind them
pub grant_stored : (b : List ℕ) (at : ℕ) (g : Grant) → at + 10 ≤ length b → length g.password ≤ 8 →
    paste (paste b at (g.uid.0 ∷ (g.role.0 ∷ [])) 2) (at + 2) (padded 8 g.password) 8 ≡ paste b at (grant_bytes g) 10
unfolding grant_bytes
grant_stored b at g fits short =
    paste_join b (g.uid.0 ∷ (g.role.0 ∷ [])) (padded 8 g.password) at 2 8 refl (length_padded 8 g.password short) (omega arith)
