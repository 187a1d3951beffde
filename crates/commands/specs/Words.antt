-- The words of commands as the code finds them: the word that a text spells, and the shape of its arguments.
use Rattle.std.specs.Prelude.{List, length, get_or, Option}
use Rattle.std.specs.List.{find}
use Rattle.buffers.specs.Text.{Text, same_text}
use Rattle.arguments.specs.declared.ArgumentKind.{ArgumentKind}
use Rattle.arguments.specs.declared.ArgumentKind.TheVariants as a
use Rattle.commands.specs.declared.Word.{Word}
use Rattle.commands.specs.declared.Shape.{Shape}
use Rattle.commands.specs.Command.{listed, words}

-- the shape of arguments of these kinds, of which there are at most three
abbrev pub shape_of : List ArgumentKind → Shape
shape_of ks = record { count = length ks; first = get_or ks 0 a.Absent; second = get_or ks 1 a.Absent; third = get_or ks 2 a.Absent }

-- the first word that is spelled so
unfoldable pub word_of : Text → Option Word
word_of t = find (λ w. same_text t (listed w).spelling) words
