-- Laws of the field that starts at a place of a text: it is the first of the pieces from there on, and the only one where it is
-- the last field.
use Rattle.std.specs.Prelude.{◌≡◌, List, [], ◌∷◌, true, false, ℕ, ◌+◌, ◌≤◌, eqb, length, drop}
use Rattle.std.proofs.Common.{sym, ap, ◌∙◌, arith, add-one, eqb-true}
use Rattle.std.proofs.lemmas.Bool.{eqb-false}
use Rattle.buffers.specs.Text.{Text}
use Rattle.syntax.specs.declared.Span.{Span}
use Rattle.syntax.specs.declared.Field.{Field}
use Rattle.syntax.specs.Pieces.{comma, pieces, piece_length}
use Rattle.syntax.specs.Parts.{part, span_text, Inside, field_at}
use Rattle.syntax.proofs.PartsLaws.{piece_end_le, pieces_first_from, pieces_only_from}

-- the field that starts at a place
pub record FieldAt (t : Text) (at : ℕ) (f : Field) : Type 0 where
  pub begins : at ≤ length t
  starts : f.start ≡ at
  pub ends : f.end ≡ at + piece_length comma (drop at t)
  pub within : f.end ≤ length t
  pub last : f.last ≡ eqb f.end (length t)

pub field_is : (t : Text) (at : ℕ) (f : Field) → at ≤ length t → f ≡ field_at t at → FieldAt t at f
unfolding field_at
field_is t at f h e =
    let end : f.end ≡ at + piece_length comma (drop at t) = ap (λ (g : Field). g.end) e in
    let le : _ = piece_end_le comma t at h in
    record {
      begins = h;
      starts = ap (λ (g : Field). g.start) e;
      ends = end;
      within = omega arith;
      last = ap (λ (g : Field). g.last) e ∙ rw (← end);
    }

-- behind a field that is not the last there is a comma
pub field_goes_on : {t : Text} {at : ℕ} {f : Field} → FieldAt t at f → f.last ≡ false → f.end + 1 ≤ length t
field_goes_on {t} {at} {f} i e = omega (arith, i.within, eqb-false f.end (length t) (sym i.last ∙ e))

-- the last field is the only piece from its place on
pub last_piece : {t : Text} {at : ℕ} {f : Field} → FieldAt t at f → f.last ≡ true → pieces comma (drop at t) ≡ part t at f.end ∷ []
last_piece {t} {at} {f} i e =
    pieces_only_from comma t at f.end i.begins i.ends (eqb-true f.end (length t) (sym i.last ∙ e))

-- another is the first of them
next_piece : {t : Text} {at : ℕ} {f : Field} → FieldAt t at f → f.last ≡ false →
    pieces comma (drop at t) ≡ part t at f.end ∷ pieces comma (drop (f.end + 1) t)
next_piece {t} {at} {f} i e =
    rw (add-one f.end) (pieces_first_from comma t at f.end i.begins i.ends (omega (arith, field_goes_on i e)))

-- the part that a field is
abbrev pub OfField : Span → Field → Type 0
OfField s f = (s.start ≡ f.start) × (s.end ≡ f.end)

pub field_inside : {t : Text} {at : ℕ} {f : Field} {s : Span} → FieldAt t at f → OfField s f → Inside s t
field_inside i k = record { ordered = omega (arith, i.starts, i.ends, k.0, k.1); ends = omega (arith, i.within, k.1) }

field_text : {t : Text} {at : ℕ} {f : Field} {s : Span} → FieldAt t at f → OfField s f → span_text t s ≡ part t at f.end
unfolding span_text
field_text i k = rw (k.0, k.1, i.starts)

-- the pieces, by the part that the field is
pub last_field : {t : Text} {at : ℕ} {f : Field} {s : Span} → FieldAt t at f → OfField s f → f.last ≡ true → pieces comma (drop at t) ≡ span_text t s ∷ []
last_field i k e = rw (field_text i k) (last_piece i e)

pub next_field : {t : Text} {at : ℕ} {f : Field} {s : Span} → FieldAt t at f → OfField s f → f.last ≡ false →
    pieces comma (drop at t) ≡ span_text t s ∷ pieces comma (drop (f.end + 1) t)
next_field i k e = rw (field_text i k) (next_piece i e)

-- a piece with those behind it
pub follow : {p : Text} {ps qs rs : List Text} → ps ≡ p ∷ qs → qs ≡ rs → ps ≡ p ∷ rs
follow {p} e h = e ∙ ap (λ (l : List Text). p ∷ l) h
