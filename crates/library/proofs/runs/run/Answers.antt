-- `library::runs::run` meets its contract: the answer buffer's length, then the store, then the line's form, then who calls decide.
use mathlib.Core.Path.{sym, ◌∙◌, ap, refl, subst}
use native.Mathlib.Omega.{arith}
use Rattle.buffers.specs.Cases.{answers_false, answers_true}
use Rattle.syntax.proofs.FormLaws.{the_some}
use Rattle.commands.specs.Parsed.{parsed, ReadIn}
use Rattle.commands.specs.MeaningLaws.{parsed_none, parsed_line}
use Rattle.store.specs.StoreBytes.{decode}
use Rattle.stored_header.specs.StoredLaws.{read_stored}
use Rattle.library.specs.RunLaws.{run_short, run_unsound, run_unformed, run_carried}
use Rattle.library.proofs.runs.run.Goals as goal

pub returns-then-answer-lt-LEAST_ROOM : goal.returns-then-answer-lt-LEAST_ROOM
returns-then-answer-lt-LEAST_ROOM c =
    let a = c.args in
    run_short a.store.now a.answer.now a.line.now (omega (arith, c.if-answer-lt-LEAST_ROOM.true))

pub holds_store-requires : goal.holds_store-requires
holds_store-requires c = tt

pub shape_of-store-then-not-holds_store : goal.shape_of-store-then-not-holds_store
shape_of-store-then-not-holds_store c = refl

pub returns-then-not-holds_store : goal.returns-then-not-holds_store
returns-then-not-holds_store c =
    let a = c.args in
    run_unsound a.store.now a.answer.now a.line.now (omega (arith, c.if-answer-lt-LEAST_ROOM.false))
    (answers_false c.holds_store.ensures c.if-not-holds_store.true-raw)

pub parse-requires : goal.parse-requires
parse-requires c = tt

pub by_caller-requires : goal.by_caller-requires
by_caller-requires c =
    let a = c.args in
    let s = the_some (decode a.store.now) (answers_true c.holds_store.ensures c.if-not-holds_store.false-raw) in
    let l = parsed_line a.line.now _ (ap (parsed a.line.now) (sym c.in-Some.is) ∙ c.parse.ensures.result_value) in
    let read = subst (ReadIn a.line.now) c.in-Some.is c.parse.ensures.read_in in
    record {
      some_store = (s.0, read_stored _ s.0 s.1);
      some_typed = record { command = l.0; meant = l.1; read = read };
      in_bounds = omega (arith, c.if-answer-lt-LEAST_ROOM.false);
    }

pub shape_of-store-in-None : goal.shape_of-store-in-None
shape_of-store-in-None c = refl

pub returns-in-None : goal.returns-in-None
returns-in-None c =
    let a = c.args in
    let s = the_some (decode a.store.now) (answers_true c.holds_store.ensures c.if-not-holds_store.false-raw) in
    let n = parsed_none a.line.now (ap (parsed a.line.now) (sym c.in-None.is) ∙ c.parse.ensures.result_value) in
    run_unformed a.store.now a.answer.now a.line.now s.0 (omega (arith, c.if-answer-lt-LEAST_ROOM.false)) s.1 n

pub shape_of-store-in-Some : goal.shape_of-store-in-Some
shape_of-store-in-Some c = c.by_caller.auto.store

pub shape_of-answer : goal.shape_of-answer
shape_of-answer c = c.by_caller.auto.answer

pub returns-in-Some : goal.returns-in-Some
returns-in-Some c =
    let a = c.args in
    let s = the_some (decode a.store.now) (answers_true c.holds_store.ensures c.if-not-holds_store.false-raw) in
    let l = parsed_line a.line.now _ (ap (parsed a.line.now) (sym c.in-Some.is) ∙ c.parse.ensures.result_value) in
    let called = c.by_caller.ensures s.0 l.0 (read_stored _ s.0 s.1) l.1 in
    run_carried a.store.now a.answer.now a.line.now s.0 (omega (arith, c.if-answer-lt-LEAST_ROOM.false)) s.1 _ l.0 l.2 called
