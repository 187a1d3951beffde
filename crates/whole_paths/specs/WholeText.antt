-- The second text of a command: its arguments once more, the working directory in front of short paths, and the command of which they are
-- there.
use Rattle.std.specs.Prelude.{List, [], ◌∷◌, ◌++◌, Bool, true, false, ◌&&◌, ◌||◌, not, cond, ℕ, ◌+◌, eqb, length, take, Result as Told, Ok, Err}
use Rattle.std.proofs.Math.Option.{Option, none, some}
use Rattle.buffers.specs.Text.{Text}
use Rattle.buffers.specs.Over.{over}
use Rattle.syntax.specs.declared.Span.{Span}
use Rattle.syntax.specs.Form.{is_some}
use Rattle.syntax.specs.Path.{path, begins_with_slash}
use Rattle.syntax.specs.Parts.{Inside, span_text}
use Rattle.arguments.specs.declared.ArgumentKind.{ArgumentKind}
use Rattle.arguments.specs.declared.ArgumentKind.TheVariants as a
use Rattle.commands.specs.declared.Typed.{Typed}
use Rattle.tree.specs.Result.{Result, refused, done}
use Rattle.store.specs.HeaderLayout.{directory_width}
use Rattle.tree.specs.declared.Cause.{Cause}
use Rattle.tree.specs.declared.Cause.TheVariants.{TooDeep}

-- ---- one argument

-- a path, which may be short; an entry path is always whole
unfoldable pub is_path_kind : ArgumentKind → Bool
is_path_kind a.Path = true
is_path_kind a.Entry = false
is_path_kind a.Mode = false
is_path_kind a.Plain = false
is_path_kind a.Uid = false
is_path_kind a.Gid = false
is_path_kind a.Role = false
is_path_kind a.Password = false
is_path_kind a.Content = false
is_path_kind a.Absent = false

-- the kinds whose value is their text; that of the others is their number
unfoldable pub has_text : ArgumentKind → Bool
has_text a.Path = true
has_text a.Entry = true
has_text a.Mode = false
has_text a.Plain = false
has_text a.Uid = false
has_text a.Gid = false
has_text a.Role = false
has_text a.Password = true
has_text a.Content = true
has_text a.Absent = false

-- a path that does not begin with `/`
unfoldable pub is_short : ArgumentKind → Text → Bool
is_short k x = is_path_kind k && not (begins_with_slash x)

-- a path that does not read as one: behind the directory it has too many names
unfoldable pub is_deep : ArgumentKind → Text → Bool
is_deep k x = is_path_kind k && not (is_some (path x))

-- how much of a directory's text stands in front of a `/`: all, or nothing of `/` itself
unfoldable pub front_length : Text → ℕ
front_length d = cond (eqb (length d) 1) 0 (length d)

-- a short path behind a directory
unfoldable pub joined_text : Text → Text → Text
joined_text d x = take (front_length d) d ++ (47 ∷ x)

-- what is written of an argument
unfoldable pub argument_text : Text → ArgumentKind → Text → Text
argument_text d k x = cond (is_short k x) (joined_text d x) (cond (has_text k) x [])

-- ---- a command's arguments

-- whether one of them passes a test
unfoldable pub any_argument : (ArgumentKind → Text → Bool) → Text → Typed → Bool
any_argument test t c =
    test c.shape.first (span_text t c.fields.first)
    || (test c.shape.second (span_text t c.fields.second) || test c.shape.third (span_text t c.fields.third))

unfoldable pub any_short : Text → Typed → Bool
any_short t c = any_argument is_short t c

unfoldable pub any_deep : Text → Typed → Bool
any_deep t c = any_argument is_deep t c

-- each lies inside a text
pub record ArgumentsInside (t : Text) (c : Typed) : Type 0 where
  pub first : Inside c.fields.first t
  pub second : Inside c.fields.second t
  pub third : Inside c.fields.third t

-- the room of one: the longest directory, a `/` and the longest short path; and that of three
abbrev pub part_width : ℕ
part_width = directory_width + directory_width

abbrev pub text_width : ℕ
text_width = part_width + part_width + part_width

-- the part of a text from a place on that has room for x
abbrev pub span_from : ℕ → Text → Span
span_from at x = record { start = at; end = at + length x }

-- the texts that are written, for a directory and a line
module _ (d t : Text) (c : Typed) where
  unfoldable pub first_text : Text
  first_text = argument_text d c.shape.first (span_text t c.fields.first)

  unfoldable pub second_text : Text
  second_text = argument_text d c.shape.second (span_text t c.fields.second)

  unfoldable pub third_text : Text
  third_text = argument_text d c.shape.third (span_text t c.fields.third)

  -- the command with its arguments where they are written, each at the beginning of its room
  unfoldable pub whole_typed : Typed
  whole_typed =
      record {
        word = c.word;
        shape = c.shape;
        fields =
            record {
              word = c.fields.word;
              first = span_from 0 first_text;
              second = span_from part_width second_text;
              third = span_from (part_width + part_width) third_text;
              count = c.fields.count;
            };
        first = c.first;
        second = c.second;
        third = c.third;
      }

  -- the text, every byte outside them as before
  unfoldable pub whole_text : List ℕ → Text
  whole_text b = over (part_width + part_width) third_text (over part_width second_text (over 0 first_text b))

  -- the code's answer
  unfoldable pub whole_or_deep : List ℕ → Told Typed Cause
  whole_or_deep b = cond (any_deep (whole_text b) whole_typed) (Err TooDeep) (Ok whole_typed)

-- ---- what was done, if anything
unfoldable pub made : {A : Type 0} → Result A → Option A
made (refused why) = none
made (done x) = some x
