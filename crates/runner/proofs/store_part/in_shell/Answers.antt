-- `runner::store_part::in_shell` meets its contract: the tree is lent, and the header stays before what is left of it.
use Prim.Native.Nat.{◌-◌}
use native.Mathlib.Omega.{arith}
use lib.ListN.{length}
use Rattle.store.specs.HeaderLayout.{header_width}
use Rattle.stored_header.specs.StoredLaws.{long_enough}
use Rattle.stored_header.specs.StoredLaws.{lent_whole}
use Rattle.runner.specs.RunnerLaws.{shell_carries}
use borrow.Rule.Slice.PartMut.{same_len_mid}
use Rattle.runner.proofs.store_part.in_shell.Goals as goal

pub slice_bounds-shell_command-count : goal.slice_bounds-shell_command-count
slice_bounds-shell_command-count c = long_enough c.requires.some_store

pub slice_bounds-shell_command-start : goal.slice_bounds-shell_command-start
slice_bounds-shell_command-start c = long_enough c.requires.some_store

pub slice_bounds-shell_command-end : goal.slice_bounds-shell_command-end
slice_bounds-shell_command-end c = omega arith

pub shell_command-requires : goal.shell_command-requires
shell_command-requires c = record {
  whole = lent_whole c.requires.some_store;
  some_shell_command = c.requires.some_shell_command;
  in_bounds = c.requires.in_bounds;
}

pub shape_of-store : goal.shape_of-store
shape_of-store c =
    let b = c.args.store.now in
    let l = c.shell_command in
    same_len_mid header_width (length b - header_width) b l.new.tree l.auto.tree

pub shape_of-answer : goal.shape_of-answer
shape_of-answer c = c.shell_command.auto.answer

pub returns : goal.returns
returns c s k h m =
    let a = c.args in
    let l = c.shell_command in
    shell_carries h a.caller k a.answer.now l.new.answer l.result l.new.tree
    (λ e. l.ensures s.store.tree k e m)
