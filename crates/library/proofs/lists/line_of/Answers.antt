-- `library::lists::line_of` meets its contract: line n is row n, and past the last row there is none.
use native.Mathlib.Omega.{arith}
use Rattle.tree.proofs.TreeBytesLaws.{encoded_count}
use Rattle.listing.proofs.ListingLaws.{no_line}
use Rattle.library.specs.CallBytesLaws.{refused_call, line_called, no_listed_line}
use Rattle.library.proofs.lists.line_of.Goals as goal

pub count-requires : goal.count-requires
count-requires c = c.requires.whole.1.sized.wide

pub returns-then-count-n : goal.returns-then-count-n
returns-then-count-n c = λ s b e.
    let a = c.args.answer.now in
    let n = c.args.n in
    refused_call b a (no_listed_line b a n s (no_line s.store.tree n (omega (arith, encoded_count e, c.count.ensures, c.if-count-n.true))))

pub returns : goal.returns
returns c = λ s b e.
    let w = c.write_line.ensures s.store.tree e in
    line_called b c.args.answer.now c.args.n s w.text c.write_line.result c.write_line.new.answer w.there w.size w.holds
