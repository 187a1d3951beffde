-- What the code reads of a setup line: the word with its form, two numbers, and the line with its password as a part of the text.
use Rattle.std.specs.Prelude.{List, [], ◌∷◌, ℕ, Option as Found, Some, None}
use Rattle.std.proofs.Math.Option.{Option, none, some}
use Rattle.buffers.specs.Text.{Text}
use Rattle.lines.specs.declared.LineKind.{LineKind}
use Rattle.lines.specs.declared.LineKind.TheVariants as k
use Rattle.lines.specs.declared.SetupLine.{SetupLine}
use Rattle.lines.specs.declared.SetupLine.TheVariants.{Person, Group, Pair, Grant}
use Rattle.syntax.specs.declared.Span.{Span}
use Rattle.syntax.specs.Number.{between}
use Rattle.syntax.specs.Form.{◌>>=◌, two_of, three_of}
use Rattle.syntax.specs.Field.{password}
use Rattle.syntax.specs.Parts.{span_text, text_in}
use Rattle.lines.specs.SetupLines.{LineOfSetup, p_line, g_line, r_line, l_line, person_uid, person_or_root, person_gid, plain_role}

-- the form that a word has; any other word has none
unfoldable pub kind_form : LineKind → List Text → Option LineOfSetup
kind_form k.Person = two_of person_uid person_gid p_line
kind_form k.Group = two_of person_uid person_gid g_line
kind_form k.Pair = two_of plain_role plain_role r_line
kind_form k.Grant = three_of person_or_root plain_role password l_line

unfoldable pub line_form : Found LineKind → List Text → Option LineOfSetup
line_form (Some k) = kind_form k
line_form None = λ arguments. none

-- the texts of two and of three parts
abbrev pub two_texts : Text → Span → Span → List Text
two_texts t a b = span_text t a ∷ (span_text t b ∷ [])

abbrev pub three_texts : Text → Span → Span → Span → List Text
three_texts t a b c = span_text t a ∷ two_texts t b c

-- two numbers, each from low to its bound
unfoldable pub both_between : ℕ → ℕ → ℕ → Text → Text → Option (ℕ × ℕ)
both_between low high1 high2 a b = do
  m ← between low high1 a
  n ← between low high2 b
  some (m, n)

-- nothing where the line has no form, or the line told; a password outside the text tells none
unfoldable pub line_told : Text → Found SetupLine → Option (Option LineOfSetup)
line_told t (Some (Person u g)) = some (some (p_line u g))
line_told t (Some (Group u g)) = some (some (g_line u g))
line_told t (Some (Pair s j)) = some (some (r_line s j))
line_told t (Some (Grant u r w)) = some (text_in t w >>= λ x. some (l_line u r x))
line_told t None = none
