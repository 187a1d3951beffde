-- `syntax::numerals::are_digits` meets its contract: `all` tests every byte.
use Rattle.std.proofs.Common.{◌∙◌, rules, tests}
use Rattle.std.proofs.lemmas.Iterator.{YieldsList-from_slice}
use Rattle.std.proofs.lemmas.Iterator.Search.{all_from_yields_List}
use Rattle.syntax.specs.Number.{digit}
use Rattle.syntax.proofs.SearchLaws.{all_is_every}
use Rattle.syntax.proofs.numerals.are_digits.Goals as goal

pub returns : goal.returns
unfolding digit
returns c =
    let a = c.args in
    all_from_yields_List (digit a.base) _ _ _ c.all.ensures.ran (YieldsList-from_slice a.s.now cc) (λ x b q k. search (rules, tests)) ∙ all_is_every (digit a.base) a.s.now
