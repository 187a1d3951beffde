-- Laws of the fields of a line: they lie inside it, and their texts are its pieces, of which there are not more than counted.
use Rattle.std.specs.Prelude.{◌≡◌, refl, List, ◌∷◌, ℕ, ◌≤◌, ◌<◌, leb, ltb, take, drop}
use Rattle.std.proofs.Common.{sym, ◌∙◌, arith, length-take}
use Rattle.std.proofs.Math.Path.{ap}
use Rattle.std.proofs.Math.Bool.{false}
use borrow.Author.Tests.{ltb-true, lt-ltb, le-leb, lt-leb, leb-false}
use Rattle.std.proofs.Math.ListN.{length}
use Rattle.buffers.specs.Cases.{case}
use Rattle.buffers.specs.Text.{Text}
use Rattle.syntax.specs.declared.Field.{Field}
use Rattle.syntax.specs.Pieces.{comma, pieces}
use Rattle.syntax.proofs.FormLaws.{answered, no_answer}
use Rattle.syntax.specs.Parts.{span_text, field_at}
use Rattle.syntax.proofs.PartsLaws.{pieces_some}
use Rattle.syntax.proofs.FieldPartsLaws.{FieldAt, field_is, field_goes_on, field_inside, last_field, next_field, follow}
use Rattle.line_fields.specs.declared.Fields.{Fields}
use Rattle.line_fields.specs.FieldsRead.{place_after, span_of, fields_of, fields_read, at_most, argument_texts, given, field_texts, FieldsInside}

-- the line goes on inside it
pub place_after_inside : (t : Text) (f : Field) → place_after t f ≤ length t
unfolding place_after
place_after_inside t f = case (ltb f.end (length t)) (λ h. rw h (omega (arith, ltb-true f.end (length t) h))) (λ h. rw h (omega arith))

-- four fields that are read one after another are those read from a place on
pub read_in_turn : (t : Text) (at : ℕ) (w a b c : Field) (f : Fields) → w ≡ field_at t at → a ≡ field_at t (place_after t w) → b ≡ field_at t (place_after t a) → c ≡ field_at t (place_after t b)
    → f ≡ fields_of w a b c → f ≡ fields_read t at
unfolding fields_read
read_in_turn t at w a b c f e₁ e₂ e₃ e₄ e = rw (e, e₄, e₃, e₂, e₁)

-- a text is the part of a field that is not the last, and the pieces from where the line goes on
cut : {t : Text} {at : ℕ} {f : Field} → FieldAt t at f → f.last ≡ false → pieces comma (drop at t) ≡ span_text t (span_of f) ∷ pieces comma (drop (place_after t f) t)
unfolding place_after
cut {t} {at} {f} i e = rw (lt-ltb f.end (length t) (omega (arith, field_goes_on i e))) (next_field i (refl, refl) e)

-- the texts of fields, where these are the pieces, and where there are more
few_texts : (t : Text) (f : Fields) (n : ℕ) (ps : List Text) → f.count ≡ n → n ≤ 3 → ps ≡ span_text t f.word ∷ take n (argument_texts t f) → field_texts t f ≡ at_most 4 ps
unfolding field_texts at_most argument_texts
few_texts t f n ps c h e =
    let l : length ps ≤ 4 = omega (arith, ap length e, length-take n (argument_texts t f)) in
    rw (c, le-leb n 3 h, le-leb (length ps) 4 l, e)

many_texts : (t : Text) (f : Fields) (ps : List Text) → 3 < f.count → 4 < length ps → field_texts t f ≡ at_most 4 ps
unfolding field_texts at_most
many_texts t f ps h l = rw (lt-leb f.count 3 h, lt-leb (length ps) 4 l)

-- four fields, each where the one before ended
module _ (t : Text) (at : ℕ) (w a b c : Field) (first : FieldAt t at w) (second : FieldAt t (place_after t w) a) (third : FieldAt t (place_after t a) b) (fourth : FieldAt t (place_after t b) c) where
  texts_of : field_texts t (fields_of w a b c) ≡ at_most 4 (pieces comma (drop at t))
  unfolding argument_texts
  texts_of = case w.last
      (λ e. few_texts t (fields_of w a b c) 0 _ (rw e) (omega arith) (last_field first (refl, refl) e))
      (λ e. case a.last
      (λ e₂. few_texts t (fields_of w a b c) 1 _ (rw (e, e₂)) (omega arith) (follow (cut first e) (last_field second (refl, refl) e₂)))
      (λ e₂. case b.last
      (λ e₃. few_texts t (fields_of w a b c) 2 _ (rw (e, e₂, e₃)) (omega arith) (follow (cut first e) (follow (cut second e₂) (last_field third (refl, refl) e₃))))
      (λ e₃. case c.last
      (λ e₄. few_texts t (fields_of w a b c) 3 _ (rw (e, e₂, e₃, e₄)) (omega arith) (follow (cut first e) (follow (cut second e₂) (follow (cut third e₃) (last_field fourth (refl, refl) e₄)))))
      (λ e₄. many_texts t (fields_of w a b c) _ (rw (e, e₂, e₃, e₄) (omega arith)) (more e e₂ e₃ e₄)))))
    where
      more : w.last ≡ false → a.last ≡ false → b.last ≡ false → c.last ≡ false → 4 < length (pieces comma (drop at t))
      more e e₂ e₃ e₄ =
          let all = follow (cut first e) (follow (cut second e₂) (follow (cut third e₃) (cut fourth e₄))) in
          omega (arith, ap length all, pieces_some comma (drop (place_after t c) t))

  inside_of : FieldsInside (fields_of w a b c) t
  inside_of = record { word = field_inside first (refl, refl); first = field_inside second (refl, refl); second = field_inside third (refl, refl); third = field_inside fourth (refl, refl) }

-- so are those that are read from a place on
module _ (t : Text) (at : ℕ) (h : at ≤ length t) where
  -- the fields where the line goes on, of any field before
  from_start : FieldAt t at (field_at t at)
  from_start = field_is t at _ h refl

  from_behind : (f : Field) → FieldAt t (place_after t f) (field_at t (place_after t f))
  from_behind f = field_is t (place_after t f) _ (place_after_inside t f) refl

  pub read_texts : field_texts t (fields_read t at) ≡ at_most 4 (pieces comma (drop at t))
  unfolding fields_read
  read_texts = texts_of t at _ _ _ _ from_start (from_behind _) (from_behind _) (from_behind _)

  pub read_inside : FieldsInside (fields_read t at) t
  unfolding fields_read
  read_inside = inside_of t at _ _ _ _ from_start (from_behind _) (from_behind _) (from_behind _)

-- the pieces of a line from a place on, by the fields that were read: as many as counted, or more than four
module _ (t : Text) (at : ℕ) (f : Fields) (h : at ≤ length t) (e : f ≡ fields_read t at) where
  texts : field_texts t f ≡ at_most 4 (pieces comma (drop at t))
  texts = rw e (read_texts t at h)

  pub few_pieces : f.count ≤ 3 → pieces comma (drop at t) ≡ span_text t f.word ∷ given t f
  unfolding field_texts at_most
  few_pieces few = case (leb (length (pieces comma (drop at t))) 4)
      (λ l. answered (rw (le-leb f.count 3 few, l) at texts))
      (λ l. no_answer (sym (rw (le-leb f.count 3 few, l) at texts)))

  pub counted_pieces : (n : ℕ) → f.count ≡ n → n ≤ 3 → pieces comma (drop at t) ≡ span_text t f.word ∷ take n (argument_texts t f)
  counted_pieces n c few = few_pieces (omega arith) ∙ ap (λ k. span_text t f.word ∷ take k (argument_texts t f)) c

  pub many_pieces : 3 < f.count → 4 < length (pieces comma (drop at t))
  unfolding field_texts at_most
  many_pieces many = case (leb (length (pieces comma (drop at t))) 4)
      (λ l. no_answer (rw (lt-leb f.count 3 many, l) at texts))
      (λ l. leb-false (length (pieces comma (drop at t))) 4 l)

  pub fields_inside : FieldsInside f t
  fields_inside = rw e (read_inside t at h)
