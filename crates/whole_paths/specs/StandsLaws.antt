-- What is written of each argument fits its room, lies inside the text and stands there afterwards.
use Rattle.std.specs.Prelude.{◌≡◌, refl, ℕ, ◌+◌, ◌-◌, ◌≤◌}
use Rattle.std.proofs.Math.Path.{sym, ap}
use Rattle.std.proofs.Common.{◌∙◌, take-append-drop, take_at}
use mathlib.Core.List.{List, ◌∷◌, ◌++◌}
use Rattle.std.proofs.Math.Option.{some}
use native.Mathlib.Omega.{arith}
use Rattle.std.proofs.Math.ListN.{length, take, drop, length-drop}
use Rattle.std.proofs.lemmas.List.Edits.{length-paste}
use Rattle.std.proofs.Math.Seq.{length-take-le, drop_at}
use Rattle.std.proofs.lemmas.List.{take-append-le, drop-append-le}
use Rattle.buffers.specs.Text.{Text}
use Rattle.buffers.specs.Over.{over}
use Rattle.buffers.specs.OverLaws.{over_paste}
use Rattle.syntax.specs.declared.Span.{Span}
use Rattle.syntax.specs.Form.{is_some}
use Rattle.syntax.proofs.FormLaws.{the_some}
use Rattle.syntax.specs.Path.{Path, TypedPath, whole, short, is_name, entry_location, path, typed_path, entry_path}
use Rattle.syntax.proofs.PathLaws.{name_length, path_is_path, entry_reads, path_text_fits}
use Rattle.syntax.proofs.ParentLaws.{text_of_path}
use Rattle.syntax.proofs.FollowsLaws.{whole_reads, short_reads}
use Rattle.syntax.specs.Field.{is_content}
use Rattle.syntax.proofs.FieldLaws.{content_fits}
use Rattle.syntax.specs.Parts.{part, span_text}
use Rattle.arguments.specs.declared.ArgumentKind.{ArgumentKind}
use Rattle.arguments.specs.declared.ArgumentKind.TheVariants as a
use Rattle.arguments.specs.Kinds.{number_in}
use Rattle.arguments.specs.KindsLaws.{formed}
use Rattle.commands.specs.declared.Typed.{Typed}
use Rattle.commands.specs.Parsed.{TypedRead}
use Rattle.tree.specs.TreeBytes.{PathText}
use Rattle.store.specs.HeaderLayout.{directory_width}
use Rattle.whole_paths.specs.WholeText.{is_path_kind, has_text, is_short, argument_text, ArgumentsInside, part_width, text_width, span_from, first_text, second_text, third_text, whole_typed, whole_text}
use Rattle.whole_paths.specs.WrittenLaws.{front_fits, joined_length}

-- ---- one argument fits

path_fits : (t : Text) (p : Path) → path t ≡ some p → length t ≤ directory_width
path_fits t p e = omega (arith, ap length (text_of_path t p e), (path_text_fits p (path_is_path t p e)).0)

module _ (d : Text) (here : PathText d) where
  -- a path, behind the directory where it is short
  path_argument_fits : (x : Text) (p : TypedPath) → typed_path x ≡ some p → length (argument_text d a.Path x) ≤ part_width
  unfolding argument_text is_short is_path_kind has_text
  path_argument_fits x (whole p) e = let r = whole_reads x p e in rw r.0 (omega (arith, path_fits x p r.1))
  path_argument_fits x (short p) e =
      let r = short_reads x p e in
      let f = path_fits (47 ∷ x) p r.1 in
      rw r.0 (omega (arith, joined_length d x, front_fits d, path_fits d here.0 here.1))

  -- an argument of any kind
  pub argument_fits : (k : ArgumentKind) (x : Text) (n : ℕ) → some n ≡ number_in k x → length (argument_text d k x) ≤ part_width
  unfolding argument_text is_short is_path_kind has_text number_in
  argument_fits a.Path x n e = let i = the_some (typed_path x) (formed (is_some (typed_path x)) n e) in path_argument_fits x i.0 i.1
  argument_fits a.Entry x n e =
      let i = the_some (entry_path x) (formed (is_some (entry_path x)) n e) in
      omega (arith, path_fits x (entry_location i.0) (entry_reads x i.0 i.1))
  argument_fits a.Mode x n e = omega arith
  argument_fits a.Plain x n e = omega arith
  argument_fits a.Uid x n e = omega arith
  argument_fits a.Gid x n e = omega arith
  argument_fits a.Role x n e = omega arith
  argument_fits a.Password x n e = omega (arith, (name_length x (formed (is_name x) n e)).1)
  argument_fits a.Content x n e = omega (arith, (content_fits x (formed (is_content x) n e)).0)
  argument_fits a.Absent x n e = omega arith

-- ---- a text written over a buffer stands there, and what lies before it is as it was

module _ (at : ℕ) (x b : List ℕ) (fits : at + length x ≤ length b) where
  pub over_length : length (over at x b) ≡ length b
  over_length = ap length (sym (over_paste b x at)) ∙ length-paste b at x (length x) fits (omega arith)

  over_stands : span_text (over at x b) (span_from at x) ≡ x
  unfolding over span_text part
  over_stands =
      let n : at + length x - at ≡ length x = omega arith in
      let rest = drop (at + length x) b in
      rw (n, drop_at (take at b) (x ++ rest) at (length-take-le at b (omega arith))) (take_at x rest (length x) refl)

  over_before : (s : Span) → s.start ≤ s.end → s.end ≤ at → span_text (over at x b) s ≡ span_text b s
  unfolding over span_text part
  over_before s h k = front (x ++ drop (at + length x) b) ∙ sym (front (drop at b)) ∙ ap (λ l. take (s.end - s.start) (drop s.start l)) (take-append-drop at b)
    where
      front : (r : List ℕ) → take (s.end - s.start) (drop s.start (take at b ++ r)) ≡ take (s.end - s.start) (drop s.start (take at b))
      front r =
          let l = length-take-le at b (omega arith) in
          rw (drop-append-le s.start (take at b) r (omega arith))
          (take-append-le (s.end - s.start) (drop s.start (take at b)) r (omega (arith, length-drop s.start (take at b))))

-- ---- three texts, each at the beginning of its room

module _ (x y z b : List ℕ) (x_Fits : length x ≤ part_width) (y_fits : length y ≤ part_width) (z_fits : length z ≤ part_width) (wide : length b ≡ text_width) where
  one_long : length (over 0 x b) ≡ text_width
  one_long = over_length 0 x b (omega arith) ∙ wide

  two_long : length (over part_width y (over 0 x b)) ≡ text_width
  two_long = let l = one_long in over_length part_width y (over 0 x b) (omega arith) ∙ l

  three_long : length (over (part_width + part_width) z (over part_width y (over 0 x b))) ≡ text_width
  three_long = let l = two_long in over_length (part_width + part_width) z (over part_width y (over 0 x b)) (omega arith) ∙ l

  -- a part that was written before the last text
  before_last : (s : Span) → s.start ≤ s.end → s.end ≤ part_width + part_width
      → span_text (over (part_width + part_width) z (over part_width y (over 0 x b))) s ≡ span_text (over part_width y (over 0 x b)) s
  before_last s h k = let l = two_long in over_before (part_width + part_width) z (over part_width y (over 0 x b)) (omega arith) s h k

  first_of_three : span_text (over (part_width + part_width) z (over part_width y (over 0 x b))) (span_from 0 x) ≡ x
  first_of_three =
      let l = one_long in
      before_last (span_from 0 x) (omega arith) (omega arith)
      ∙ over_before part_width y (over 0 x b) (omega arith) (span_from 0 x) (omega arith) (omega arith)
      ∙ over_stands 0 x b (omega arith)

  second_of_three : span_text (over (part_width + part_width) z (over part_width y (over 0 x b))) (span_from part_width y) ≡ y
  second_of_three =
      let l = one_long in
      before_last (span_from part_width y) (omega arith) (omega arith) ∙ over_stands part_width y (over 0 x b) (omega arith)

  third_of_three : span_text (over (part_width + part_width) z (over part_width y (over 0 x b))) (span_from (part_width + part_width) z) ≡ z
  third_of_three = let l = two_long in over_stands (part_width + part_width) z (over part_width y (over 0 x b)) (omega arith)

-- ---- the arguments of a command that was read in a line

module _ (d : Text) (here : PathText d) (t : Text) (c : Typed) (read : TypedRead t c) where
  pub first_fits : length (first_text d t c) ≤ part_width
  unfolding first_text
  first_fits = argument_fits d here c.shape.first (span_text t c.fields.first) c.first read.first.number

  pub second_fits : length (second_text d t c) ≤ part_width
  unfolding second_text
  second_fits = argument_fits d here c.shape.second (span_text t c.fields.second) c.second read.second.number

  pub third_fits : length (third_text d t c) ≤ part_width
  unfolding third_text
  third_fits = argument_fits d here c.shape.third (span_text t c.fields.third) c.third read.third.number

  module _ (b : List ℕ) (wide : length b ≡ text_width) where
    -- lie inside the second text
    pub whole_inside : ArgumentsInside (whole_text d t c b) (whole_typed d t c)
    unfolding whole_text whole_typed
    whole_inside =
        let f = first_fits in
        let g = second_fits in
        let h = third_fits in
        let l = three_long (first_text d t c) (second_text d t c) (third_text d t c) b f g h wide in
        record {
          first = record { ordered = omega arith; ends = omega arith };
          second = record { ordered = omega arith; ends = omega arith };
          third = record { ordered = omega arith; ends = omega arith };
        }

    -- and stand there as they were written
    pub first_stands : span_text (whole_text d t c b) (whole_typed d t c).fields.first ≡ first_text d t c
    unfolding whole_text whole_typed
    first_stands = first_of_three (first_text d t c) (second_text d t c) (third_text d t c) b first_fits second_fits third_fits wide

    pub second_stands : span_text (whole_text d t c b) (whole_typed d t c).fields.second ≡ second_text d t c
    unfolding whole_text whole_typed
    second_stands = second_of_three (first_text d t c) (second_text d t c) (third_text d t c) b first_fits second_fits third_fits wide

    pub third_stands : span_text (whole_text d t c b) (whole_typed d t c).fields.third ≡ third_text d t c
    unfolding whole_text whole_typed
    third_stands = third_of_three (first_text d t c) (second_text d t c) (third_text d t c) b first_fits second_fits third_fits wide
