-- Laws of the words of commands: the word that the code finds has the form that the listed forms give.
use Rattle.std.specs.Prelude.{◌≡◌, refl, List, [], ◌∷◌, map, Bool, true, ◌≤◌, leb, length, Option as Found, Some, None}
use Rattle.std.specs.List.{find}
use Rattle.std.proofs.Common.{ap, arith, leb-true}
use Rattle.std.proofs.Math.Option.{Option, none}
use Rattle.buffers.specs.Cases.{case, and_both}
use Rattle.buffers.specs.Text.{Text, same_text, every}
use Rattle.syntax.specs.Form.{by_form}
use Rattle.syntax.specs.Path.{TypedPath, typed_path}
use Rattle.arguments.specs.KindsLaws.{count_refused}
use Rattle.commands.specs.declared.Word.{Word}
use Rattle.commands.specs.Command.{TypedCommand, takes, listed, words, form, forms}
use Rattle.commands.specs.Words.{word_of}
use Rattle.commands.specs.Parsed.{command_from}

-- what a word that the code found makes of arguments
pub record Finds (f : Found Word) (r : List Text → Option TypedCommand) : Type 0 where
  pub unlisted : f ≡ None → (ts : List Text) → r ts ≡ none
  pub listed_as : (w : Word) → f ≡ Some w → (ts : List Text) → r ts ≡ command_from w ts

finds_among : (ws : List Word) (t : Text) → Finds (find (λ w. same_text t (listed w).spelling) ws) (by_form (map form ws) t)
unfolding by_form form
finds_among [] t = record { unlisted = λ e ts. refl; listed_as = λ w e ts. absurd (cc) }
finds_among (w ∷ ws) t = case (same_text t (listed w).spelling)
    (λ e. record {
      unlisted = λ i ts. let j : Some w ≡ None = rw e at i in absurd (cc);
      listed_as = λ v i ts. let j : Some w ≡ Some v = rw e at i in let k : w ≡ v = cc in rw e (ap (λ (z : Word). command_from z ts) k);
    })
    (λ e. let h = finds_among ws t in record {
      unlisted = λ i ts. rw e (h.unlisted (rw e at i) ts);
      listed_as = λ v i ts. rw e (h.listed_as v (rw e at i) ts);
    })

-- the word that the code finds is that of the form with that word
pub finds_word : (t : Text) → Finds (word_of t) (by_form forms t)
unfolding word_of forms
finds_word t = finds_among words t

-- no word takes more than three arguments
short : Word → Bool
short w = leb (length (listed w).kinds) 3

many_among : (ws : List Word) → every short ws ≡ true → (t : Text) (ts : List Text) → 4 ≤ length ts → by_form (map form ws) t ts ≡ none
unfolding every short by_form form
many_among [] e t ts h = refl
many_among (w ∷ ws) e t ts h =
    let i : _ = and_both (short w) (every short ws) e in
    case (same_text t (listed w).spelling)
    (λ s. rw s (count_refused typed_path (listed w).kinds ((listed w).makes TypedPath) ts (λ l. omega (arith, leb-true (length (listed w).kinds) 3 i.0))))
    (λ s. rw s (many_among ws i.1 t ts h))

pub many_refused : (t : Text) (ts : List Text) → 4 ≤ length ts → by_form forms t ts ≡ none
unfolding forms words listed takes short every
many_refused t ts h = many_among words refl t ts h
