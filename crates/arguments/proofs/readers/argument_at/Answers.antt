-- `arguments::readers::argument_at` meets its contract: each kind is read by the function for it.
use Rattle.std.proofs.Common.{ap, ◌∙◌}
use Rattle.arguments.specs.Kinds.{zero_if, number_in}
use Rattle.arguments.proofs.readers.argument_at.Goals as goal

pub returns-in-Path : goal.returns-in-Path
unfolding number_in
returns-in-Path c = rw (c.in-Path.is, ← c.of-argument.ensures) (c.zero_if.ensures ∙ ap zero_if c.is_typed_path.ensures)

pub returns-in-Entry : goal.returns-in-Entry
unfolding number_in
returns-in-Entry c = rw (c.in-Entry.is, ← c.of-argument.ensures) (c.zero_if-in-Entry.ensures ∙ ap zero_if c.is_entry_path.ensures)

pub returns-in-Mode : goal.returns-in-Mode
unfolding number_in
returns-in-Mode c = rw (c.in-Mode.is, ← c.of-argument.ensures) c.mode.ensures

pub returns-in-Plain : goal.returns-in-Plain
unfolding number_in
returns-in-Plain c = rw (c.in-Plain.is, ← c.of-argument.ensures) c.plain_mode.ensures

pub returns-in-Uid : goal.returns-in-Uid
unfolding number_in
returns-in-Uid c = rw (c.in-Uid.is, ← c.of-argument.ensures) c.between.ensures

pub returns-in-Gid : goal.returns-in-Gid
unfolding number_in
returns-in-Gid c = rw (c.in-Gid.is, ← c.of-argument.ensures) c.between-in-Gid.ensures

pub returns-in-Role : goal.returns-in-Role
unfolding number_in
returns-in-Role c = rw (c.in-Role.is, ← c.of-argument.ensures) c.between-in-Role.ensures

pub returns-in-Password : goal.returns-in-Password
unfolding number_in
returns-in-Password c = rw (c.in-Password.is, ← c.of-argument.ensures) (c.zero_if-in-Password.ensures ∙ ap zero_if c.is_name.ensures)

pub returns-in-Content : goal.returns-in-Content
unfolding number_in
returns-in-Content c = rw (c.in-Content.is, ← c.of-argument.ensures) (c.zero_if-in-Content.ensures ∙ ap zero_if c.is_content.ensures)

pub returns-in-Absent : goal.returns-in-Absent
unfolding number_in
returns-in-Absent c = rw c.in-Absent.is
