-- What the library's searches answer, in the words of the specification.
use Rattle.std.specs.Prelude.{◌≡◌, refl, [], ◌∷◌, Bool, ◌&&◌, cond, ℕ, suc, ◌≤◌, eqb, ltb, length, Option, Some, None}
use Rattle.std.specs.List.{list_all, position_or_len}
use Rattle.std.proofs.Common.{sym, ap, ◌∙◌, arith, one-add, ltb-true}
use Rattle.std.proofs.lemmas.Bool.{ltb-false}
use Rattle.buffers.specs.Cases.{case}
use Rattle.buffers.specs.Text.{Text, every}
use Rattle.syntax.specs.Pieces.{piece_length}

-- `all` tests every byte
pub all_is_every : (f : ℕ → Bool) (s : Text) → list_all f s ≡ every f s
unfolding every
all_is_every f [] = refl
all_is_every f (b ∷ s) = ap (λ z. f b && z) (all_is_every f s)

-- a piece is as long as the position of the first separator says
at_position : (separator : ℕ) (s : Text) → position_or_len (λ b. eqb b separator) s ≡ piece_length separator s
unfolding piece_length
at_position separator [] = refl
at_position separator (b ∷ s) = case (eqb b separator) (λ e. rw e) (λ e. rw (e, one-add) (ap suc (at_position separator s)))

piece_within : (separator : ℕ) (s : Text) → piece_length separator s ≤ length s
unfolding piece_length
piece_within separator [] = omega arith
piece_within separator (b ∷ s) = case (eqb b separator) (λ e. rw e (omega arith)) (λ e. rw e (omega (arith, piece_within separator s)))

abbrev pub Found : ℕ → Text → Option ℕ → Type 0
Found separator s r = let n = position_or_len (λ b. eqb b separator) s in r ≡ cond (ltb n (length s)) (Some n) None

-- where one is found the piece ends there, and else it is all
pub found_piece : (separator : ℕ) (s : Text) (r : Option ℕ) (n : ℕ) → Found separator s r → r ≡ Some n → (n ≡ piece_length separator s) × (n ≤ length s)
found_piece separator s r n h e = case (ltb (piece_length separator s) (length s))
    (λ l. let k : Some (piece_length separator s) ≡ Some n = sym (rw (at_position separator s, l) at h) ∙ e in
    let m : n ≡ piece_length separator s = cc in (m, omega (arith, ltb-true (piece_length separator s) (length s) l)))
    (λ l. let k : None ≡ Some n = sym (rw (at_position separator s, l) at h) ∙ e in cc)

pub whole_piece : (separator : ℕ) (s : Text) (r : Option ℕ) → Found separator s r → r ≡ None → piece_length separator s ≡ length s
whole_piece separator s r h e = case (ltb (piece_length separator s) (length s))
    (λ l. let k : Some (piece_length separator s) ≡ None = sym (rw (at_position separator s, l) at h) ∙ e in cc)
    (λ l. omega (arith, piece_within separator s, ltb-false (piece_length separator s) (length s) l))
