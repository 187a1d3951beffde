-- `library::lists::listing` meets its contract: the answer buffer's length, then the store, then the line decide.
use native.Mathlib.Omega.{arith}
use Rattle.buffers.specs.Cases.{answers_false, answers_true}
use Rattle.syntax.proofs.FormLaws.{the_some}
use Rattle.store.specs.StoreBytes.{decode}
use Rattle.library.specs.CallBytesLaws.{listing_short, listing_unsound, listing_sound, tree_part, store_reaches}
use Rattle.library.proofs.lists.listing.Goals as goal

pub returns-then-answer-lt-LEAST_ROOM : goal.returns-then-answer-lt-LEAST_ROOM
returns-then-answer-lt-LEAST_ROOM c =
    let d = c.args in
    listing_short d.store.now d.answer.now d.n (omega (arith, c.if-answer-lt-LEAST_ROOM.true))

pub returns-then-not-holds_store : goal.returns-then-not-holds_store
returns-then-not-holds_store c =
    let d = c.args in
    listing_unsound d.store.now d.answer.now d.n (omega (arith, c.if-answer-lt-LEAST_ROOM.false)) (answers_false c.holds_store.ensures c.if-not-holds_store.true-raw)

pub slice_bounds-line_of-count : goal.slice_bounds-line_of-count
slice_bounds-line_of-count c = store_reaches c.args.store.now (answers_true c.holds_store.ensures c.if-not-holds_store.false-raw)

pub slice_bounds-line_of-start : goal.slice_bounds-line_of-start
slice_bounds-line_of-start c = store_reaches c.args.store.now (answers_true c.holds_store.ensures c.if-not-holds_store.false-raw)

pub line_of-requires : goal.line_of-requires
line_of-requires c =
    let b = c.args.store.now in
    let s = the_some (decode b) (answers_true c.holds_store.ensures c.if-not-holds_store.false-raw) in
    record {
      whole = (s.0.store.tree, tree_part b s.0 s.1);
      in_bounds = omega arith;
    }

pub returns : goal.returns
returns c =
    let d = c.args in
    let b = d.store.now in
    listing_sound b d.answer.now d.n (omega arith) (answers_true c.holds_store.ensures c.if-not-holds_store.false-raw)
    (λ s e. c.line_of.ensures s b (tree_part b s e))
