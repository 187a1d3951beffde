-- The persons of a setup in range: each has the number of an account, and groups in range.
use Rattle.std.specs.Prelude.{◌≡◌, refl, List, true, ◌&&◌, ℕ, ◌%◌, ◌<◌, eqb, leb, ltb, length, get_or}
use Rattle.std.proofs.Math.Option.{Option, none, some}
use Rattle.std.proofs.Common.{arith, leb-true, ltb-true, ltb-false}
use Rattle.std.proofs.Math.ListN.{get_or-eq_default}
use Rattle.buffers.specs.Cases.{case, and_both, contra}
use Rattle.buffers.specs.TextLaws.{every_get_or}
use Rattle.accounts.specs.declared.Uid.{Uid}
use Rattle.setup.specs.Setup.{Person, Setup, person, is_person, is_slot, is_setup}
use Rattle.setup.proofs.SetupLaws.{apart}

-- where something stands in a list, the list reaches
within : {A : Type 0} (l : List (Option A)) (i : ℕ) (a : A) → get_or l i none ≡ some a → i < length l
within l i a h = case (ltb i (length l))
    (λ t. ltb-true i (length l) t)
    (λ t. contra {b = true} refl (cc (get_or-eq_default l none (ltb-false i (length l) t))))

-- an account's number, its primary group and its further groups
abbrev pub PersonInRange : Uid → Person → Type 0
PersonInRange v p = (v.0 < 16) × (p.primary.0 < 16) × (p.further.0 < 65536)

-- the persons of a setup in range are in range
pub person_in_range : (u : Setup) → is_setup u ≡ true → (v : Uid) (p : Person) → person u v ≡ some p → PersonInRange v p
unfolding person is_slot is_person
person_in_range u s v p h =
    let r = apart u s in
    let e : is_person p ≡ true = rw h at (every_get_or is_slot u.persons v.0 none r.slots refl) in
    let f = and_both (leb 1 p.primary.0 && leb p.primary.0 15) (ltb p.further.0 65536 && eqb (p.further.0 % 2) 0) e in
    let g = and_both (leb 1 p.primary.0) (leb p.primary.0 15) f.0 in
    let i = and_both (ltb p.further.0 65536) (eqb (p.further.0 % 2) 0) f.1 in (
      omega (arith, within u.persons v.0 p h, r.count),
      omega (arith, leb-true p.primary.0 15 g.1),
      ltb-true p.further.0 65536 i.0,
    )
