-- The program from a setup line on: what it prints by what the lines read so far say and by the lines that are left.
--
-- `ProgramByLinesLaws` proves that from the first line on this is `program`, and what each setup line does to it.
use Rattle.std.specs.Prelude.{List, [], ◌∷◌, ℕ, suc, Err}
use Rattle.buffers.specs.Text.{Text}
use Rattle.setup.specs.Setup.{Reading, SetupAnswer, accepted, wrong_line, read_lines}
use Rattle.tree.specs.declared.Refusal.TheVariants.{WrongLine}
use Rattle.shell.specs.Replies.{told}
use Rattle.store.specs.State.{state_of}
use Rattle.store.specs.Initial.{initial_store}
use Rattle.store.specs.StoreBytes.{encode}
use Rattle.calls.specs.Transcript.{input_parts, command_lines, lines_text}
use Rattle.calls.specs.Program.{refused_line, run_and_list}

-- a wrong line is told and nothing else; a setup's store is made, and the command lines run on it
unfoldable pub set_up_and_run : List ℕ → SetupAnswer → List Text → Text
set_up_and_run answer (wrong_line n) commands = lines_text (refused_line (told (Err (WrongLine n))) ∷ [])
set_up_and_run answer (accepted u) commands = run_and_list (encode (state_of u (initial_store u))) answer commands

-- after so many setup lines and what they say, with these pieces of the input left
unfoldable pub program_from : List ℕ → ℕ → Reading → List Text → Text
program_from answer n d ts =
    let i = input_parts ts in
    set_up_and_run answer (read_lines i.of_setup (suc n) d) (command_lines i.of_commands)
