-- `sound_store::accounts_part::has_sessions` meets its contract: account by account.
use Rattle.std.proofs.Common.{rules}
use Rattle.sound_store.specs.HeaderTests.{is_session_at, has_sessions}
use Rattle.sound_store.specs.PassesLaws.{all_passed}
use Rattle.sound_store.proofs.accounts_part.has_sessions.Goals as goal

pub returns : goal.returns
unfolding has_sessions is_session_at
returns c = all_passed 16 (is_session_at c.args.header.now) _ _ _ c.all.ensures.ran (λ x b q k. search rules)
