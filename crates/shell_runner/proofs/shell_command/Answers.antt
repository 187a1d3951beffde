-- `shell_runner::shell_command` meets its contract: each case is the command that its parts mean.
use native.Mathlib.Omega.{arith}
use Rattle.commands.specs.Meaning.{ShellMeans}
use Rattle.shell.specs.Steps.{run_shell}
use Rattle.commands.specs.MeaningLaws.{means_as, part_read}
use Rattle.shell_runner.specs.ShellDoneLaws.{same_shell, content_room}
use Rattle.shell_runner.proofs.shell_command.Goals as goal

pub of-requires : goal.of-requires
unfolding ShellMeans
of-requires c =
    (means_as ShellMeans c.in-Create.is c.requires.some_shell_command.1.means).1.inside

pub create-requires : goal.create-requires
unfolding ShellMeans
create-requires c =
    let i = means_as ShellMeans c.in-Create.is c.requires.some_shell_command.1.means in
    record {
      whole = c.requires.whole;
      path_text = (i.0, part_read _ c.of.ensures i.1);
    }

pub of-requires-in-Mkdir : goal.of-requires-in-Mkdir
unfolding ShellMeans
of-requires-in-Mkdir c =
    (means_as ShellMeans c.in-Mkdir.is c.requires.some_shell_command.1.means).1.inside

pub create-requires-in-Mkdir : goal.create-requires-in-Mkdir
unfolding ShellMeans
create-requires-in-Mkdir c =
    let i = means_as ShellMeans c.in-Mkdir.is c.requires.some_shell_command.1.means in
    record {
      whole = c.requires.whole;
      path_text = (i.0, part_read _ c.of-in-Mkdir.ensures i.1);
    }

pub of-requires-in-Read : goal.of-requires-in-Read
unfolding ShellMeans
of-requires-in-Read c =
    (means_as ShellMeans c.in-Read.is c.requires.some_shell_command.1.means).1.inside

pub read-requires : goal.read-requires
unfolding ShellMeans
read-requires c =
    let i = means_as ShellMeans c.in-Read.is c.requires.some_shell_command.1.means in
    record {
      whole = c.requires.whole;
      path_text = (i.0, part_read _ c.of-in-Read.ensures i.1);
      all_names_width_in_bounds = omega arith;
    }

pub of-requires-in-Write : goal.of-requires-in-Write
unfolding ShellMeans
of-requires-in-Write c =
    (means_as ShellMeans c.in-Write.is c.requires.some_shell_command.1.means).1.inside

pub of-requires-in-Write-2 : goal.of-requires-in-Write-2
unfolding ShellMeans
of-requires-in-Write-2 c =
    (means_as ShellMeans c.in-Write.is c.requires.some_shell_command.1.means).2

pub write-requires : goal.write-requires
unfolding ShellMeans
write-requires c =
    let n = c.requires.some_shell_command.1 in
    let i = means_as ShellMeans c.in-Write.is n.means in
    record {
      whole = c.requires.whole;
      path_text = (i.0, part_read _ c.of-in-Write.ensures i.1);
      content_len_bound = rw c.of-in-Write-2.ensures (content_room n.in_range i.3);
    }

pub of-requires-in-Rm : goal.of-requires-in-Rm
unfolding ShellMeans
of-requires-in-Rm c =
    (means_as ShellMeans c.in-Rm.is c.requires.some_shell_command.1.means).1.inside

pub rm-requires : goal.rm-requires
unfolding ShellMeans
rm-requires c =
    let i = means_as ShellMeans c.in-Rm.is c.requires.some_shell_command.1.means in
    record {
      whole = c.requires.whole;
      path_text = (i.0, part_read _ c.of-in-Rm.ensures i.1);
    }

pub of-requires-in-Rmdir : goal.of-requires-in-Rmdir
unfolding ShellMeans
of-requires-in-Rmdir c =
    (means_as ShellMeans c.in-Rmdir.is c.requires.some_shell_command.1.means).1.inside

pub rm-requires-in-Rmdir : goal.rm-requires-in-Rmdir
unfolding ShellMeans
rm-requires-in-Rmdir c =
    let i = means_as ShellMeans c.in-Rmdir.is c.requires.some_shell_command.1.means in
    record {
      whole = c.requires.whole;
      path_text = (i.0, part_read _ c.of-in-Rmdir.ensures i.1);
    }

pub of-requires-in-Mv : goal.of-requires-in-Mv
unfolding ShellMeans
of-requires-in-Mv c =
    (means_as ShellMeans c.in-Mv.is c.requires.some_shell_command.1.means).2.inside

pub of-requires-in-Mv-2 : goal.of-requires-in-Mv-2
unfolding ShellMeans
of-requires-in-Mv-2 c =
    (means_as ShellMeans c.in-Mv.is c.requires.some_shell_command.1.means).3.inside

pub mv-requires : goal.mv-requires
unfolding ShellMeans
mv-requires c =
    let i = means_as ShellMeans c.in-Mv.is c.requires.some_shell_command.1.means in
    record {
      whole = c.requires.whole;
      path_text = (i.0, part_read _ c.of-in-Mv.ensures i.2);
      path_text_2 = (i.1, part_read _ c.of-in-Mv-2.ensures i.3);
    }

pub of-requires-in-Chmod : goal.of-requires-in-Chmod
unfolding ShellMeans
of-requires-in-Chmod c =
    (means_as ShellMeans c.in-Chmod.is c.requires.some_shell_command.1.means).1.inside

pub chmod-requires : goal.chmod-requires
unfolding ShellMeans
chmod-requires c =
    let i = means_as ShellMeans c.in-Chmod.is c.requires.some_shell_command.1.means in
    record {
      whole = c.requires.whole;
      path_text = (i.0, part_read _ c.of-in-Chmod.ensures i.1);
    }

pub of-requires-in-Chgrp : goal.of-requires-in-Chgrp
unfolding ShellMeans
of-requires-in-Chgrp c =
    (means_as ShellMeans c.in-Chgrp.is c.requires.some_shell_command.1.means).1.inside

pub chgrp-requires : goal.chgrp-requires
unfolding ShellMeans
chgrp-requires c =
    let i = means_as ShellMeans c.in-Chgrp.is c.requires.some_shell_command.1.means in
    record {
      whole = c.requires.whole;
      path_text = (i.0, part_read _ c.of-in-Chgrp.ensures i.1);
    }

pub of-requires-in-Chown : goal.of-requires-in-Chown
unfolding ShellMeans
of-requires-in-Chown c =
    (means_as ShellMeans c.in-Chown.is c.requires.some_shell_command.1.means).1.inside

pub chown-requires : goal.chown-requires
unfolding ShellMeans
chown-requires c =
    let i = means_as ShellMeans c.in-Chown.is c.requires.some_shell_command.1.means in
    record {
      whole = c.requires.whole;
      path_text = (i.0, part_read _ c.of-in-Chown.ensures i.1);
    }

pub returns-in-Create : goal.returns-in-Create
unfolding ShellMeans run_shell
returns-in-Create c t k e m =
    let a = c.args in
    let i = means_as ShellMeans c.in-Create.is m.means in
    let q = part_read _ c.of.ensures i.1 in
    same_shell a.caller t i.2 (c.create.ensures t i.0 e q a.answer.now)

pub returns-in-Mkdir : goal.returns-in-Mkdir
unfolding ShellMeans run_shell
returns-in-Mkdir c t k e m =
    let a = c.args in
    let i = means_as ShellMeans c.in-Mkdir.is m.means in
    let q = part_read _ c.of-in-Mkdir.ensures i.1 in
    same_shell a.caller t i.2 (c.create-in-Mkdir.ensures t i.0 e q a.answer.now)

pub returns-in-Read : goal.returns-in-Read
unfolding ShellMeans run_shell
returns-in-Read c t k e m =
    let a = c.args in
    let i = means_as ShellMeans c.in-Read.is m.means in
    same_shell a.caller t i.2 (c.read.ensures t i.0 e (part_read _ c.of-in-Read.ensures i.1))

pub returns-in-Write : goal.returns-in-Write
unfolding ShellMeans run_shell
returns-in-Write c t k e m =
    let a = c.args in
    let i = means_as ShellMeans c.in-Write.is m.means in
    let q = part_read _ c.of-in-Write.ensures i.1 in
    let done = c.write.ensures t i.0 e q a.answer.now in
    same_shell a.caller t i.3 (rw c.of-in-Write-2.ensures at done)

pub returns-in-Rm : goal.returns-in-Rm
unfolding ShellMeans run_shell
returns-in-Rm c t k e m =
    let a = c.args in
    let i = means_as ShellMeans c.in-Rm.is m.means in
    let q = part_read _ c.of-in-Rm.ensures i.1 in
    same_shell a.caller t i.2 (c.rm.ensures t i.0 e q a.answer.now)

pub returns-in-Rmdir : goal.returns-in-Rmdir
unfolding ShellMeans run_shell
returns-in-Rmdir c t k e m =
    let a = c.args in
    let i = means_as ShellMeans c.in-Rmdir.is m.means in
    let q = part_read _ c.of-in-Rmdir.ensures i.1 in
    same_shell a.caller t i.2 (c.rm-in-Rmdir.ensures t i.0 e q a.answer.now)

pub returns-in-Mv : goal.returns-in-Mv
unfolding ShellMeans run_shell
returns-in-Mv c t k e m =
    let a = c.args in
    let i = means_as ShellMeans c.in-Mv.is m.means in
    let from = part_read _ c.of-in-Mv.ensures i.2 in
    let to = part_read _ c.of-in-Mv-2.ensures i.3 in
    same_shell a.caller t i.4 (c.mv.ensures t i.0 i.1 e from to a.answer.now)

pub returns-in-Chmod : goal.returns-in-Chmod
unfolding ShellMeans run_shell
returns-in-Chmod c t k e m =
    let a = c.args in
    let i = means_as ShellMeans c.in-Chmod.is m.means in
    let q = part_read _ c.of-in-Chmod.ensures i.1 in
    same_shell a.caller t i.2 (c.chmod.ensures t i.0 e q a.answer.now)

pub returns-in-Chgrp : goal.returns-in-Chgrp
unfolding ShellMeans run_shell
returns-in-Chgrp c t k e m =
    let a = c.args in
    let i = means_as ShellMeans c.in-Chgrp.is m.means in
    let q = part_read _ c.of-in-Chgrp.ensures i.1 in
    same_shell a.caller t i.2 (c.chgrp.ensures t i.0 e q a.answer.now)

pub returns-in-Chown : goal.returns-in-Chown
unfolding ShellMeans run_shell
returns-in-Chown c t k e m =
    let a = c.args in
    let i = means_as ShellMeans c.in-Chown.is m.means in
    let q = part_read _ c.of-in-Chown.ensures i.1 in
    same_shell a.caller t i.2 (c.chown.ensures t i.0 e q a.answer.now)
