-- The fields of a line from a place on: which four are read, and what their texts are.
use Rattle.std.specs.Prelude.{List, [], ◌∷◌, cond, ℕ, ◌+◌, leb, ltb, length, take}
use Rattle.std.proofs.Math.Option.{Option, none, some}
use Rattle.buffers.specs.Text.{Text}
use Rattle.syntax.specs.declared.Span.{Span}
use Rattle.syntax.specs.declared.Field.{Field}
use Rattle.line_fields.specs.declared.Fields.{Fields}
use Rattle.syntax.specs.Parts.{Inside, span_text, field_at}

-- where the line goes on after a field: behind its comma, or at the line's end where none follows
unfoldable pub place_after : Text → Field → ℕ
place_after t f = cond (ltb f.end (length t)) (f.end + 1) (length t)

-- how many fields come behind the first of four, or 4 where the fourth is not the last
abbrev pub behind_word : Field → Field → Field → Field → ℕ
behind_word w a b c = cond w.last 0 (cond a.last 1 (cond b.last 2 (cond c.last 3 4)))

-- the part that a field is
abbrev pub span_of : Field → Span
span_of f = record { start = f.start; end = f.end }

abbrev pub fields_of : Field → Field → Field → Field → Fields
fields_of w a b c = record { word = span_of w; first = span_of a; second = span_of b; third = span_of c; count = behind_word w a b c }

-- the four fields from a place on, each from where the one before ended
unfoldable pub fields_read : Text → ℕ → Fields
fields_read t at =
    let word = field_at t at in
    let first = field_at t (place_after t word) in
    let second = field_at t (place_after t first) in
    let third = field_at t (place_after t second) in
    fields_of word first second third

-- a list of at most so many texts
unfoldable pub at_most : ℕ → List Text → Option (List Text)
at_most n ts = cond (leb (length ts) n) (some ts) none

-- the texts of the three fields behind the word
unfoldable pub argument_texts : Text → Fields → List Text
argument_texts t f = span_text t f.first ∷ (span_text t f.second ∷ (span_text t f.third ∷ []))

-- those of the fields that there are
abbrev pub given : Text → Fields → List Text
given t f = take f.count (argument_texts t f)

-- the texts of the fields, where they are not too many
unfoldable pub field_texts : Text → Fields → Option (List Text)
field_texts t f = cond (leb f.count 3) (some (span_text t f.word ∷ given t f)) none

-- every part lies inside the line
pub record FieldsInside (f : Fields) (t : Text) : Type 0 where
  pub word : Inside f.word t
  pub first : Inside f.first t
  pub second : Inside f.second t
  pub third : Inside f.third t
