-- `sound_store::directories_part::is_directory` meets its contract: the first byte refuses, a zero behind it leaves `/` alone, and
-- else the whole text decides.
use mathlib.Core.Path.{sym, ◌∙◌}
use native.Mathlib.Omega.{arith}
use Rattle.std.proofs.Common.{rules}
use Rattle.sound_store.specs.HeaderTests.{is_directory_at}
use Rattle.sound_store.specs.StoreStepLaws.{reads_path, directory_begins, directory_top}
use Rattle.sound_store.proofs.directories_part.is_directory.Goals as goal

pub returns-then-header-at-ne47 : goal.returns-then-header-at-ne47
returns-then-header-at-ne47 c = let a = c.args in sym (directory_begins a.header.now a.k (omega arith) (omega arith) c.if-header-at-ne47.true)

pub returns-then-header-at-eq0 : goal.returns-then-header-at-eq0
returns-then-header-at-eq0 c =
    let a = c.args in
    c.is_zero.ensures ∙ sym (directory_top a.header.now a.k (omega arith) (omega arith) (omega arith) (omega arith))

pub returns : goal.returns
unfolding is_directory_at
returns c = c.holds_padded.ensures reads_path (λ t r k. search rules)
