-- `printing::replies::write_ok` meets its contract: the text stands behind the word.
use native.Mathlib.Omega.{arith}
use mathlib.Core.Path.{refl}
use Rattle.syntax.specs.Pieces.{bytes}
use Rattle.printing.specs.PrintedLaws.{wrote_behind, wrote_within}
use Rattle.printing.proofs.replies.write_ok.Goals as goal

pub returns : goal.returns
unfolding bytes
returns c = wrote_within (wrote_behind c.write_word-at.ensures c.write_first.ensures (omega arith)) refl (omega arith)
