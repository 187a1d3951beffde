-- `patterns::answer_to` meets its contract: each call is made with the bytes that it says, and these lie in the window.
use mathlib.Core.Path.{◌∙◌, ap, sym}
use Rattle.syntax.specs.Parts.{part}
use Rattle.agenda.specs.Conversation.{made}
use Rattle.patterns.proofs.answer_to.Goals as goal

pub returns-in-Run : goal.returns-in-Run
unfolding made part
returns-in-Run c = let a = c.args in c.run.ensures ∙ ap (made a.window.now a.store.now a.answer.now) (sym c.in-Run.is)

pub returns-in-List : goal.returns-in-List
unfolding made
returns-in-List c = let a = c.args in c.listing.ensures ∙ ap (made a.window.now a.store.now a.answer.now) (sym c.in-List.is)
