-- `syntax::text::is_name` meets its contract: with the length tested, every byte is.
use Rattle.std.proofs.Common.{sym, ◌∙◌, length, arith, le-leb, rules, tests}
use Rattle.std.proofs.Math.Bool.{and-true}
use Rattle.std.proofs.lemmas.Iterator.{YieldsList-from_slice}
use Rattle.std.proofs.lemmas.Iterator.Search.{all_from_yields_List}
use Rattle.syntax.specs.Path.{name_byte, is_name}
use Rattle.syntax.proofs.SearchLaws.{all_is_every}
use Rattle.syntax.proofs.text.is_name.Goals as goal

pub returns-then-s-le8 : goal.returns-then-s-le8
unfolding is_name
returns-then-s-le8 c =
    let s = c.args.s.now in
    let e = all_from_yields_List name_byte _ _ _ c.all.ensures.ran (YieldsList-from_slice s cc) (λ x b q k. search (rules, tests)) ∙ all_is_every name_byte s in
    rw (e, le-leb 1 (length s) (omega arith), le-leb (length s) 8 (omega arith)) (sym (and-true _))
