-- Laws of parts of texts: parts that lie inside, the pieces of a text and of a text from a place on, and where the first one ends.
use Rattle.std.specs.Prelude.{◌≡◌, refl, List, [], ◌∷◌, true, ℕ, suc, ◌+◌, ◌-◌, ◌≤◌, ◌<◌, eqb, leb, length, take, drop}
use Rattle.std.proofs.Common.{sym, ap, ap₂, ◌∙◌, arith, eqb-true, le-leb, leb-true, length-drop, drop-drop}
use Rattle.std.proofs.Math.Option.{Option, none, some}
use Rattle.std.proofs.Math.Seq.{take-length}
use Rattle.std.specs.List.{position_or_len}
use Rattle.buffers.specs.Cases.{case, and_both}
use Rattle.buffers.specs.Text.{Text}
use Rattle.syntax.specs.declared.Span.{Span}
use Rattle.syntax.specs.Pieces.{prefix_first, pieces, joined, piece_length}
use Rattle.syntax.specs.Form.{◌>>=◌, ◌>>◌, check, is_some}
use Rattle.syntax.proofs.FormLaws.{answered, both, checked}
use Rattle.syntax.specs.Parts.{part, span_text, Inside, span_inside, text_in}

-- the test whether a part lies inside tells whether it does
pub inside_true : {s : Span} {t : Text} → Inside s t → span_inside t s ≡ true
unfolding span_inside
inside_true {s} {t} h = both (le-leb s.start s.end h.ordered) (le-leb s.end (length t) h.ends)

pub true_inside : (t : Text) (s : Span) → span_inside t s ≡ true → Inside s t
unfolding span_inside
true_inside t s h =
    let i : _ = and_both (leb s.start s.end) (leb s.end (length t)) h in
    record { ordered = leb-true s.start s.end i.0; ends = leb-true s.end (length t) i.1 }

-- a part that lies inside has its text, and one that has a text lies inside
pub inside_text : {s : Span} {t : Text} → Inside s t → text_in t s ≡ some (span_text t s)
unfolding text_in check ◌>>◌
inside_text h = rw (inside_true h)

pub text_inside : (t : Text) (s : Span) (x : Text) → text_in t s ≡ some x → (Inside s t) × (x ≡ span_text t s)
unfolding text_in
text_inside t s x e =
    let i : _ = checked (span_inside t s) (some (span_text t s)) x e in
    (true_inside t s i.0, answered i.1)

-- a piece is no longer than its text
piece_length_le : (b : ℕ) (t : Text) → piece_length b t ≤ length t
unfolding piece_length
piece_length_le b [] = omega arith
piece_length_le b (c ∷ t) = case (eqb c b) (λ e. rw e (omega arith)) (λ e. rw e (omega (arith, piece_length_le b t)))

-- a text with a separator is its first piece and the pieces behind the separator
pub pieces_first : (b : ℕ) (t : Text) → piece_length b t < length t →
    pieces b t ≡ take (piece_length b t) t ∷ pieces b (drop (suc (piece_length b t)) t)
unfolding piece_length pieces prefix_first
pieces_first b [] h = let z : ⊥ = omega arith in absurd z
pieces_first b (c ∷ t) h = case (eqb c b)
    (λ e. rw e)
    (λ e. let k : suc (piece_length b t) < suc (length t) = rw e at h in rw (e, pieces_first b t (omega arith)))

-- a text without one is its only piece
pieces_only : (b : ℕ) (t : Text) → piece_length b t ≡ length t → pieces b t ≡ t ∷ []
unfolding piece_length pieces prefix_first
pieces_only b [] h = refl
pieces_only b (c ∷ t) h = case (eqb c b)
    (λ e. let k : 0 ≡ suc (length t) = rw e at h in let z : ⊥ = omega arith in absurd z)
    (λ e. let k : suc (piece_length b t) ≡ suc (length t) = rw e at h in rw (e, pieces_only b t (omega arith)))

-- a piece from a place on ends in the text
pub piece_end_le : (b : ℕ) (t : Text) (at : ℕ) → at ≤ length t → at + piece_length b (drop at t) ≤ length t
piece_end_le b t at h = omega (arith, piece_length_le b (drop at t), length-drop at t)

-- the pieces from a place on, where a separator follows the first
pub pieces_first_from : (b : ℕ) (t : Text) (at end : ℕ) → at ≤ length t → end ≡ at + piece_length b (drop at t) → end < length t →
    pieces b (drop at t) ≡ part t at end ∷ pieces b (drop (suc end) t)
unfolding part
pieces_first_from b t at end h e l =
    let n : ℕ = piece_length b (drop at t) in
    let short : n < length (drop at t) = omega (arith, length-drop at t) in
    let wide : end - at ≡ n = omega arith in
    let next : at + suc n ≡ suc end = omega arith in
    rw (pieces_first b (drop at t) short, drop-drop (suc n) at t, next, wide)

-- and where none does
pub pieces_only_from : (b : ℕ) (t : Text) (at end : ℕ) → at ≤ length t → end ≡ at + piece_length b (drop at t) → end ≡ length t →
    pieces b (drop at t) ≡ part t at end ∷ []
unfolding part
pieces_only_from b t at end h e l =
    let whole : piece_length b (drop at t) ≡ length (drop at t) = omega (arith, length-drop at t) in
    let wide : end - at ≡ length (drop at t) = omega (arith, length-drop at t) in
    rw (pieces_only b (drop at t) whole, wide, take-length (drop at t))

-- a piece ends at the first byte that is the separator
index_is_length : (b : ℕ) (t : Text) → position_or_len (λ c. eqb c b) t ≡ piece_length b t
unfolding piece_length
index_is_length b [] = refl
index_is_length b (c ∷ t) = case (eqb c b) (λ e. rw e refl) (λ e. rw (e, index_is_length b t) (omega arith))

-- and so it does from a place on
pub index_from : (b : ℕ) (t : Text) (at : ℕ) → position_or_len (λ c. eqb c b) (drop at t) ≡ piece_length b (drop at t)
index_from b t at = index_is_length b (drop at t)

-- a text has a piece
pub pieces_some : (b : ℕ) (t : Text) → 1 ≤ length (pieces b t)
unfolding pieces prefix_first
pieces_some b [] = omega arith
pieces_some b (c ∷ t) = case (eqb c b) (λ e. rw e (omega arith)) (λ e. rw e (prefixed (pieces b t)))
  where
    prefixed : (ps : List Text) → 1 ≤ length (prefix_first c ps)
    prefixed [] = omega arith
    prefixed (p ∷ ps) = omega arith

joined_empty : (b : ℕ) (ps : List Text) → 1 ≤ length ps → joined b ([] ∷ ps) ≡ b ∷ joined b ps
unfolding joined
joined_empty b [] h = let z : ⊥ = omega arith in absurd z
joined_empty b (p ∷ ps) h = refl

joined_prefixed : (b c : ℕ) (ps : List Text) → 1 ≤ length ps → joined b (prefix_first c ps) ≡ c ∷ joined b ps
unfolding joined prefix_first
joined_prefixed b c [] h = let z : ⊥ = omega arith in absurd z
joined_prefixed b c (p ∷ []) h = refl
joined_prefixed b c (p ∷ (q ∷ ps)) h = refl

-- the pieces of a text joined again are the text
pub joined_pieces : (b : ℕ) (t : Text) → joined b (pieces b t) ≡ t
unfolding pieces joined
joined_pieces b [] = refl
joined_pieces b (c ∷ t) = case (eqb c b)
    (λ e. rw e (joined_empty b (pieces b t) (pieces_some b t) ∙ ap₂ ◌∷◌ (sym (eqb-true c b e)) (joined_pieces b t)))
    (λ e. rw e (joined_prefixed b c (pieces b t) (pieces_some b t) ∙ ap (λ (r : Text). c ∷ r) (joined_pieces b t)))

-- an answer made of another is some where that is
pub some_of_one : {A X : Type 0} (m : Option A) (x : A → X) → is_some (m >>= λ a. some (x a)) ≡ is_some m
unfolding ◌>>=◌ is_some
some_of_one none x = refl
some_of_one (some a) x = refl
