-- `sound_store::directories_part::has_directories` meets its contract: account by account.
use Rattle.std.proofs.Common.{rules}
use Rattle.sound_store.specs.HeaderTests.{is_directory_at, has_directories}
use Rattle.sound_store.specs.PassesLaws.{all_passed}
use Rattle.sound_store.proofs.directories_part.has_directories.Goals as goal

pub returns : goal.returns
unfolding has_directories
returns c = all_passed 16 (is_directory_at c.args.header.now) _ _ _ c.all.ensures.ran (λ x b q k. search rules)
