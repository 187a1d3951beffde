-- `directory_commits::command::commit` meets its contract: what was found at the path decides, and each case is the command from there on.
use Rattle.std.proofs.Common.{refl, ap, Ok}
use Rattle.directory_commits.specs.CommandLaws.{commit_refused, file_row, file_commits, directory_of, directory_commits}
use Rattle.directory_commits.proofs.command.commit.Goals as goal

pub found_in-requires : goal.found_in-requires
found_in-requires c = record {
  some_store = (_, c.requires.acts_in.1);
  path_text = c.requires.path_text;
}

pub returns-in_err-row : goal.returns-in_err-row
returns-in_err-row c w e j h =
    commit_refused j h w (c.in_err-row.ensures _ w h e) refl c.from_residual.ensures.1 c.args.answer.now

pub commit_file-requires : goal.commit_file-requires
commit_file-requires c =
    let j = c.requires.acts_in in
    let w = c.requires.path_text in
    file_row j.0 j.1 w.0 (c.in_ok-row.ensures _ w.0 j.1 w.1) (ap Ok c.in-File.is)

pub commit_directory-requires : goal.commit_directory-requires
commit_directory-requires c =
    let j = c.requires.acts_in in
    let w = c.requires.path_text in
    record {
      directory_row = directory_of j.0 j.1 w.0 (c.in_ok-row.ensures _ w.0 j.1 w.1) (ap Ok c.in-Directory.is);
      in_bounds = c.requires.in_bounds;
    }

pub returns-in-File : goal.returns-in-File
returns-in-File c w e j h =
    file_commits j h w (c.in_ok-row.ensures _ w h e) (ap Ok c.in-File.is)
    c.commit_file.ensures c.args.answer.now

pub returns-in-Directory : goal.returns-in-Directory
returns-in-Directory c w e j h =
    directory_commits j h w (c.in_ok-row.ensures _ w h e) (ap Ok c.in-Directory.is) c.commit_directory.ensures
