-- Laws of command lines: what a word and its fields are read as, how a line is its caller, word and arguments, and what the
-- parts of a command read as.
use Rattle.std.specs.Prelude.{◌≡◌, refl, List, [], ◌∷◌, false, ℕ, ◌%◌, ◌≤◌, ◌<◌, length, take, get_or, Option as Found, Some, None}
use Rattle.std.proofs.Common.{sym, ◌∙◌, arith}
use Rattle.std.proofs.Math.Path.{ap}
use Rattle.std.proofs.Math.Option.{Option, none, some, map}
use Rattle.std.proofs.Math.Bool.{true}
use borrow.Author.Tests.{eqb-true, eqb-false}
use Rattle.std.proofs.Math.Dec.{eqb}
use Rattle.std.proofs.Math.ListN.{length-take}
use Rattle.buffers.specs.Cases.{case}
use Rattle.buffers.specs.Text.{Text}
use Rattle.accounts.specs.declared.Uid.{Uid}
use Rattle.line_fields.specs.declared.Fields.{Fields}
use Rattle.line_fields.specs.FieldsRead.{argument_texts, FieldsInside}
use Rattle.syntax.specs.Pieces.{comma, pieces}
use Rattle.arguments.specs.Kinds.{number_in, values_of}
use Rattle.arguments.specs.KindsLaws.{count_refused, one_refused, three_read}
use Rattle.commands.specs.declared.Word.{Word}
use Rattle.arguments.specs.declared.ArgumentKind.TheVariants as a
use Rattle.commands.specs.declared.Shape.{Shape}
use Rattle.commands.specs.declared.Typed.{Typed}
use Rattle.commands.specs.declared.Command.{Command as Parts}
use Rattle.commands.specs.declared.CommandLine.{CommandLine}
use Rattle.syntax.specs.Number.{between}
use Rattle.syntax.specs.Form.{◌>>=◌, is_some, by_form}
use Rattle.syntax.proofs.FormLaws.{is_none, then_none, the_some}
use Rattle.syntax.specs.Path.{Path, TypedPath, path, typed_path}
use Rattle.syntax.specs.Field.{uid}
use Rattle.syntax.proofs.FieldLaws.{read_byte}
use Rattle.commands.specs.Command.{TypedCommand, listed, forms, line_of, line}
use Rattle.syntax.specs.Parts.{span_text}
use Rattle.commands.specs.Words.{shape_of}
use Rattle.commands.specs.WordsLaws.{many_refused}
use Rattle.commands.specs.Parsed.{meaning, first_of, second_of, third_of, arguments, typed_meaning, whole_meaning, MakesOf, line_with, parsed, TypedRead, command_from, command_of, numbers_of, numbers_in}

-- a line has no form where its command has none
pub finds_none : (t : Text) (u : Uid) (m : Option TypedCommand) → m ≡ none → parsed t None ≡ map some (line_with u m)
unfolding parsed line_with ◌>>=◌
finds_none t u m e = rw e

-- and it is its caller and its command where this means what the form answers
finds : (t : Text) (u : Uid) (c : Typed) (m : Option TypedCommand) → typed_meaning t c ≡ m → is_some m ≡ true → parsed t (Some (record { caller = u; typed = c })) ≡ map some (line_with u m)
unfolding parsed line_with ◌>>=◌
finds t u c m h e = let i : _ = the_some m e in rw (h, i.1)

-- parts that are made for a word are made for one that is the same
pub for_word : {c : Typed} {w : Word} {d : Parts} → c.word ≡ w → ((t : Text) → meaning t d ≡ values_of path (listed w).kinds ((listed w).makes Path) t (arguments c)) → MakesOf c d
unfolding whole_meaning
for_word e h = record { means = λ t. rw e (h t) }

-- numbers that were read, and an argument that was not
read_three : (n m l : ℕ) (p q r : Option ℕ) → Some (n, m, l) ≡ numbers_of p q r → (some n ≡ p) × (some m ≡ q) × (some l ≡ r)
unfolding numbers_of
read_three n m l none q r e = absurd (cc)
read_three n m l (some a) none r e = absurd (cc)
read_three n m l (some a) (some b) none e = absurd (cc)
read_three n m l (some a) (some b) (some c) e =
    let i : (n, m, l) ≡ (a, b, c) = cc in
    (ap (λ (z : ℕ × ℕ × ℕ). some z.0) i, ap (λ (z : ℕ × ℕ × ℕ). some z.1) i, ap (λ (z : ℕ × ℕ × ℕ). some z.2) i)

wrong_three : {P : Type 0} (p q r : Option ℕ) → None ≡ numbers_of p q r → (none ≡ p → P) → (none ≡ q → P) → (none ≡ r → P) → P
unfolding numbers_of
wrong_three none q r e h k l = h refl
wrong_three (some a) none r e h k l = k refl
wrong_three (some a) (some b) none e h k l = l refl
wrong_three (some a) (some b) (some c) e h k l = absurd (cc)

-- a word with its arguments, whose shape is that of the word
module _ (t : Text) (u : Uid) (f : Fields) (w : Word) {s : Shape} (few : f.count ≤ 3) (shaped : s ≡ shape_of (listed w).kinds) where
  -- there are as many as of kinds
  counted : eqb f.count s.count ≡ true → f.count ≡ length (listed w).kinds
  counted e = eqb-true f.count s.count e ∙ ap (λ (z : Shape). z.count) shaped

  -- they are not of those kinds
  pub wrong_arguments : None ≡ numbers_in t f s → command_from w (take f.count (argument_texts t f)) ≡ none
  unfolding numbers_in argument_texts
  wrong_arguments h = case (eqb f.count s.count)
      (λ e. wrong_three (number_in s.first (span_text t f.first)) (number_in s.second (span_text t f.second)) (number_in s.third (span_text t f.third)) (rw e at h)
      (λ i. refused e 0 (i ∙ ap (λ (z : Shape). number_in z.first (span_text t f.first)) shaped))
      (λ i. refused e 1 (i ∙ ap (λ (z : Shape). number_in z.second (span_text t f.second)) shaped))
      (λ i. refused e 2 (i ∙ ap (λ (z : Shape). number_in z.third (span_text t f.third)) shaped)))
      (λ e. count_refused typed_path (listed w).kinds ((listed w).makes TypedPath) (take f.count (argument_texts t f))
      (λ l. eqb-false f.count s.count e (omega (arith, length-take f.count (argument_texts t f), ap (λ (z : Shape). z.count) shaped))))
    where
      refused : eqb f.count s.count ≡ true → (i : ℕ) → none ≡ number_in (get_or (listed w).kinds i a.Absent) (get_or (argument_texts t f) i []) →
          command_from w (take f.count (argument_texts t f)) ≡ none
      refused e i h = rw (counted e) (one_refused (listed w).kinds ((listed w).makes TypedPath) (argument_texts t f) i h)

  -- they are, and the command was read in the line
  module _ (n m l : ℕ) (i : FieldsInside f t) (h : Some (n, m, l) ≡ numbers_in t f s) where
    abbrev made : Typed
    made = record { word = w; shape = s; fields = f; first = n; second = m; third = l }

    as_many : eqb f.count s.count ≡ true
    unfolding numbers_in
    as_many = case (eqb f.count s.count) (λ e. e) (λ e. let z : Some (n, m, l) ≡ None = rw e at h in absurd (cc))

    pub typed_read : TypedRead t made
    unfolding numbers_in
    typed_read =
        let p = read_three n m l (number_in s.first (span_text t f.first)) (number_in s.second (span_text t f.second)) (number_in s.third (span_text t f.third)) (rw as_many at h) in
        record {
          shaped = shaped;
          first = record { inside = i.first; number = p.0 };
          second = record { inside = i.second; number = p.1 };
          third = record { inside = i.third; number = p.2 };
        }

    -- and means what they make
    pub right_arguments : parsed t (Some (record { caller = u; typed = made })) ≡ map some (line_with u (command_from w (take f.count (argument_texts t f))))
    unfolding argument_texts typed_meaning
    right_arguments =
        let r = typed_read in
        let d = three_read (listed w).kinds ((listed w).makes TypedPath) t (first_of made) (second_of made) (third_of made) (omega (arith, counted as_many))
        (rw shaped at r.first) (rw shaped at r.second) (rw shaped at r.third) in
        finds t u made (command_from w (take (length (listed w).kinds) (argument_texts t f))) d.same d.there
        ∙ ap (λ (k : ℕ). map some (line_with u (command_from w (take k (argument_texts t f))))) (sym (counted as_many))

-- more than three arguments have no form
pub too_many : (ps : List Text) → 4 < length ps → command_of ps ≡ none
unfolding command_of
too_many [] h = refl
too_many (w ∷ ts) h = many_refused w ts (omega arith)

-- a caller
uid_read : (n : ℕ) (t : Text) → some n ≡ between 0 23 t → uid t ≡ some (record { 0 = n % 256 })
unfolding uid ◌>>=◌
uid_read n t e = rw (← e, read_byte 0 23 n t e (omega arith))

pub uid_not_read : (t : Text) → none ≡ between 0 23 t → is_some (uid t) ≡ false
unfolding uid ◌>>=◌ is_some
uid_not_read t e = rw (← e)

-- the first piece is the word
pub word_first : (t : Text) (u : Uid) (w : Text) (ts ps : List Text) (r : Found CommandLine) → ps ≡ w ∷ ts →
    parsed t r ≡ map some (line_with u (by_form forms w ts)) → parsed t r ≡ map some (line_with u (command_of ps))
unfolding command_of
word_first t u w ts ps r e h = rw e h

-- a line of one field has no form
pub one_field_line : (t s : Text) → pieces comma t ≡ s ∷ [] → parsed t None ≡ map some (line t)
unfolding parsed line line_of
one_field_line t s e = rw e

line_parts : (s : Text) (ps : List Text) → line_of (s ∷ ps) ≡ (uid s >>= λ u. line_with u (command_of ps))
unfolding line_of line_with command_of ◌>>=◌
line_parts s [] = sym (then_none (uid s) (λ u. none) (λ u. refl))
line_parts s (w ∷ ts) = refl

-- and neither has one whose first is no caller
pub line_no_caller : (t s : Text) (ps : List Text) → pieces comma t ≡ s ∷ ps → is_some (uid s) ≡ false → parsed t None ≡ map some (line t)
unfolding parsed line ◌>>=◌
line_no_caller t s ps e h = rw (e, line_parts s ps, is_none (uid s) h)

-- a line is its caller and its command
pub line_found : (t s : Text) (ps : List Text) (n : ℕ) (r : Found CommandLine) → pieces comma t ≡ s ∷ ps → some n ≡ between 0 23 s →
    parsed t r ≡ map some (line_with (record { 0 = n % 256 }) (command_of ps)) → parsed t r ≡ map some (line t)
unfolding line ◌>>=◌
line_found t s ps n r e h k = rw (e, line_parts s ps, uid_read n s h) k
