-- `syntax::text::is_content` meets its contract: with the length tested, every byte is.
use Rattle.std.proofs.Common.{sym, ◌∙◌, length, arith, le-leb, rules, tests}
use Rattle.std.proofs.Math.Bool.{and-true}
use Rattle.std.proofs.lemmas.Iterator.{YieldsList-from_slice}
use Rattle.std.proofs.lemmas.Iterator.Search.{all_from_yields_List}
use Rattle.syntax.specs.Field.{content_byte, content_limit, is_content}
use Rattle.syntax.proofs.SearchLaws.{all_is_every}
use Rattle.syntax.proofs.text.is_content.Goals as goal

pub returns-then-s-le-CONTENT_LIMIT : goal.returns-then-s-le-CONTENT_LIMIT
unfolding is_content
returns-then-s-le-CONTENT_LIMIT c =
    let s = c.args.s.now in
    let e = all_from_yields_List content_byte _ _ _ c.all.ensures.ran (YieldsList-from_slice s cc) (λ x b q k. search (rules, tests)) ∙ all_is_every content_byte s in
    rw (e, le-leb (length s) content_limit (omega arith)) (sym (and-true _))
