-- Which of two texts in fields of one width comes first in byte order, by the bytes of the fields one after another: the first that
-- differ tell, since a text ends at a zero, which is less than every byte of a text.
use Rattle.std.specs.Prelude.{◌≡◌, refl, List, ◌∷◌, Bool, false, ℕ, suc, ◌+◌, ◌-◌, ◌≤◌, ◌<◌, eqb, ltb, length, get_or, take, drop}
use Rattle.std.proofs.Common.{sym, ◌∙◌, ap, ap₂, arith}
use Rattle.std.proofs.Math.Bool.{or-false}
use Rattle.std.proofs.Math.Seq.{drop-cons}
use borrow.Author.Tests.{eqb-true, eq-eqb, ne_eqb, lt-ltb, le-ltb}
use Rattle.buffers.specs.Cases.{case}
use Rattle.buffers.specs.Text.{precedes}
use Rattle.buffers.specs.Fields.{unpadded, text_at}
use Rattle.tree.specs.Layout.{row_start, name_offset, name_width}
use Rattle.tree.specs.Encoding.{read_row}
use Rattle.tree.specs.RowAt.{row_at}
use Rattle.tree.proofs.RowAtLaws.{text_in_row}

-- whether the text of the field at a comes before that of the field at b, both of w bytes
abbrev pub field_precedes : List ℕ → ℕ → ℕ → ℕ → Bool
field_precedes s a b w = precedes (text_at a w s) (text_at b w s)

-- ---- by the first byte of each

module _ (x y : ℕ) (l m : List ℕ) where
  first_differs : (x ≡ y → ⊥) → precedes (unpadded (x ∷ l)) (unpadded (y ∷ m)) ≡ ltb x y
  unfolding unpadded precedes
  first_differs d = case (eqb x 0)
      (λ t. let e = eqb-true x 0 t in rw (t, ne_eqb y 0 (λ f. omega arith), lt-ltb x y (omega arith)))
      (λ t. case (eqb y 0)
      (λ u. let e = eqb-true y 0 u in rw (t, u, le-ltb x y (omega arith)))
      (λ u. rw (t, u, ne_eqb x y d) (or-false (ltb x y))))

  first_ends : x ≡ 0 → y ≡ 0 → precedes (unpadded (x ∷ l)) (unpadded (y ∷ m)) ≡ false
  unfolding unpadded precedes
  first_ends e f = rw (eq-eqb x 0 e, eq-eqb y 0 f)

  first_same : x ≡ y → (x ≡ 0 → ⊥) → precedes (unpadded (x ∷ l)) (unpadded (y ∷ m)) ≡ precedes (unpadded l) (unpadded m)
  unfolding unpadded precedes
  first_same e d = rw (ne_eqb x 0 d, ne_eqb y 0 (λ f. omega arith), le-ltb x y (omega arith), eq-eqb x y e)

module _ (s : List ℕ) (a b w : ℕ) (h : a < length s) (k : b < length s) where
  -- bytes that differ tell
  field_differs : (get_or s a 0 ≡ get_or s b 0 → ⊥) → field_precedes s a b (suc w) ≡ ltb (get_or s a 0) (get_or s b 0)
  unfolding text_at
  field_differs d = rw (drop-cons s a 0 h, drop-cons s b 0 k) (first_differs (get_or s a 0) (get_or s b 0) (take w (drop (suc a) s)) (take w (drop (suc b) s)) d)

  -- where both texts end, they are the same
  field_ends : get_or s a 0 ≡ 0 → get_or s b 0 ≡ 0 → field_precedes s a b (suc w) ≡ false
  unfolding text_at
  field_ends e f = rw (drop-cons s a 0 h, drop-cons s b 0 k) (first_ends (get_or s a 0) (get_or s b 0) (take w (drop (suc a) s)) (take w (drop (suc b) s)) e f)

  -- the same byte in both leaves it to those behind
  field_goes_on : get_or s a 0 ≡ get_or s b 0 → (get_or s a 0 ≡ 0 → ⊥) → field_precedes s a b (suc w) ≡ field_precedes s (suc a) (suc b) w
  unfolding text_at
  field_goes_on e d = rw (drop-cons s a 0 h, drop-cons s b 0 k) (first_same (get_or s a 0) (get_or s b 0) (take w (drop (suc a) s)) (take w (drop (suc b) s)) e d)

-- fields without bytes have the same text
field_none : (s : List ℕ) (a b : ℕ) → field_precedes s a b 0 ≡ false
unfolding text_at unpadded precedes
field_none s a b = refl

-- ---- byte by byte in a loop

-- the first k bytes of both do not tell: the order of those behind is that of the whole
pub record UndecidedUpTo (s : List ℕ) (a b w k : ℕ) : Type 0 where
  pub le : k ≤ w
  pub goes : field_precedes s (a + k) (b + k) (w - k) ≡ field_precedes s a b w

module _ (s : List ℕ) (a b w : ℕ) where
  pub begins : UndecidedUpTo s a b w 0
  begins =
      let p : a + 0 ≡ a = omega arith in
      let q : b + 0 ≡ b = omega arith in
      let n : w - 0 ≡ w = omega arith in
      record { le = omega arith; goes = rw (p, q, n) }

  module _ {k : ℕ} (g : UndecidedUpTo s a b w k) where
    -- no byte is left: the texts are the same
    pub ends_same : w ≤ k → false ≡ field_precedes s a b w
    ends_same h =
        let n : w - k ≡ 0 = omega arith in
        sym (field_none s (a + k) (b + k)) ∙ ap (field_precedes s (a + k) (b + k)) (sym n) ∙ g.goes

    module _ (h : k < w) (l : a + w ≤ length s) (m : b + w ≤ length s) where
      left : w - k ≡ suc (w - (k + 1))
      left = omega arith

      -- the next bytes differ
      pub ends_differ : (get_or s (a + k) 0 ≡ get_or s (b + k) 0 → ⊥) → ltb (get_or s (a + k) 0) (get_or s (b + k) 0) ≡ field_precedes s a b w
      ends_differ d =
          sym (field_differs s (a + k) (b + k) (w - (k + 1)) (omega arith) (omega arith) d)
          ∙ ap (field_precedes s (a + k) (b + k)) (sym left)
          ∙ g.goes

      -- both are zero: the texts are the same
      pub ends_zero : get_or s (a + k) 0 ≡ get_or s (b + k) 0 → get_or s (a + k) 0 ≡ 0 → false ≡ field_precedes s a b w
      ends_zero e z =
          sym (field_ends s (a + k) (b + k) (w - (k + 1)) (omega arith) (omega arith) z (sym e ∙ z))
          ∙ ap (field_precedes s (a + k) (b + k)) (sym left)
          ∙ g.goes

      -- they are the same and not zero
      pub one_more : get_or s (a + k) 0 ≡ get_or s (b + k) 0 → (get_or s (a + k) 0 ≡ 0 → ⊥) → UndecidedUpTo s a b w (k + 1)
      one_more e d =
          let p : a + (k + 1) ≡ suc (a + k) = omega arith in
          let q : b + (k + 1) ≡ suc (b + k) = omega arith in
          record {
            le = omega arith;
            goes =
                ap₂ (λ (i j : ℕ). field_precedes s i j (w - (k + 1))) p q
                ∙ sym (field_goes_on s (a + k) (b + k) (w - (k + 1)) (omega arith) (omega arith) e d)
                ∙ ap (field_precedes s (a + k) (b + k)) (sym left)
                ∙ g.goes;
          }

-- ---- the names of two rows

-- where the name of the row at an index begins
abbrev pub name_start : ℕ → ℕ
name_start i = row_start i + name_offset

-- the order of the names is that of their fields
pub names_in_rows : (t : List ℕ) (i j : ℕ) → field_precedes t (name_start i) (name_start j) name_width ≡ precedes (row_at t i).name (row_at t j).name
unfolding row_at read_row
names_in_rows t i j = sym (ap₂ precedes (text_in_row t i name_offset name_width (omega arith)) (text_in_row t j name_offset name_width (omega arith)))
