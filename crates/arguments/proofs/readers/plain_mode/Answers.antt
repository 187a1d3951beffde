-- `arguments::readers::plain_mode` meets its contract: of a mode that was read, set-gid decides.
use Rattle.std.proofs.Common.{◌≡◌, ℕ, Bool, not, Option, Some, None, MatchOption, ap, ◌∙◌, rules, tests}
use Rattle.std.specs.Bool.{then_some}
use Rattle.buffers.specs.Cases.{case}
use Rattle.buffers.specs.Options.{option_of}
use Rattle.buffers.specs.Text.{Text}
use Rattle.syntax.specs.Number.{mode, set_gid}
use Rattle.syntax.specs.Field.{plain_mode}
use Rattle.arguments.specs.KindsLaws.{plain_read, plain_not_read, no_plain_mode}
use Rattle.arguments.proofs.readers.plain_mode.Goals as goal

filtered : {P : ℕ → Bool → Type 0} (m r : Option ℕ) (s : Text) → ((n : ℕ) (b : Bool) → P n b → b ≡ not (set_gid n)) → option_of m ≡ mode s →
    MatchOption m (r ≡ None) (λ n. (b : Bool) × P n b × (r ≡ then_some b n)) → option_of r ≡ plain_mode s
filtered None r s h e f = rw f (no_plain_mode s e)
filtered (Some n) r s h e f = case (set_gid n)
    (λ g. rw (f.2 ∙ ap (λ b. then_some b n) (h n f.0 f.1 ∙ ap not g)) (plain_not_read n s e g))
    (λ g. rw (f.2 ∙ ap (λ b. then_some b n) (h n f.0 f.1 ∙ ap not g)) (plain_read n s e g))

pub returns : goal.returns
returns c = filtered c.mode.result c.filter.result c.args.s.now (λ n b k. search (rules, tests)) c.mode.ensures c.filter.ensures
