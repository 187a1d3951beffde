-- The program's output, from the bytes of its input: the answers to the commands, then the listing.
use Rattle.std.specs.Prelude.{List, [], ◌∷◌, ◌++◌, map, cond}
use Rattle.std.proofs.Math.Option.{none, some}
use Rattle.buffers.specs.Text.{Text, same_text}
use Rattle.syntax.specs.Pieces.{bytes, newline, pieces, joined}
use Rattle.syntax.specs.Number.{decimal_text}
use Rattle.setup.specs.Setup.{Setup, SetupAnswer, accepted, wrong_line, setup}
use Rattle.tree.specs.Causes.{number}
use Rattle.shell.specs.Replies.{Reply, ok, refusal}
use Rattle.store.specs.Initial.{initial_store}
use Rattle.machine.specs.StoreMachine.{store}
use Rattle.machine.specs.Runs.{Call, least_room, runs}
use Rattle.listing.specs.Listing.{listing}

-- the pieces of the input between its bytes 10: those of the setup, and those of the commands
pub record Input : Type 0 where
  pub of_setup : List Text
  pub of_commands : List Text

-- after `end` and its byte 10 come the commands; the setup's text ends with that byte
unfoldable pub after_end : List Text → Input
after_end [] = record { of_setup = []; of_commands = [] }
after_end (t ∷ ts) = record { of_setup = [] ∷ []; of_commands = t ∷ ts }

-- the setup is the input through its first line `end`, or all of it where there is none
unfoldable pub input_parts : List Text → Input
input_parts [] = record { of_setup = []; of_commands = [] }
input_parts (t ∷ ts) =
    let rest = cond (same_text t (bytes "end")) (after_end ts) (input_parts ts) in
    record { of_setup = t ∷ rest.of_setup; of_commands = rest.of_commands }

-- a command line ends at byte 10 or the input's end; nothing after a last byte 10 is no line
unfoldable pub command_lines : List Text → List Text
command_lines [] = []
command_lines ([] ∷ []) = []
command_lines ((b ∷ t) ∷ []) = (b ∷ t) ∷ []
command_lines (t ∷ (s ∷ ts)) = t ∷ command_lines (s ∷ ts)

-- `ok`, `ok,text` or `no,number`
unfoldable pub reply_line : Reply → Text
reply_line (ok none) = bytes "ok"
reply_line (ok (some t)) = bytes "ok," ++ t
reply_line (refusal why) = bytes "no," ++ decimal_text (number why)

-- every line ends with byte 10
unfoldable pub lines_text : List Text → Text
lines_text [] = []
lines_text (t ∷ ts) = t ++ (newline ∷ lines_text ts)

unfoldable pub call_of : Text → Call
call_of t = record { line = t; room = least_room }

unfoldable pub session_text : Setup → List Text → Text
session_text u commands =
    let ran = runs store u (initial_store u) (map call_of commands) in
    lines_text (map reply_line ran.replies ++ listing ran.state.tree)

-- a refused setup prints `no,17,line` only
unfoldable pub output : SetupAnswer → List Text → Text
output (wrong_line n) commands = lines_text ((bytes "no,17," ++ decimal_text n) ∷ [])
output (accepted u) commands = session_text u commands

unfoldable pub transcript : Text → Text
transcript input =
    let i = input_parts (pieces newline input) in
    output (setup (joined newline i.of_setup)) (command_lines i.of_commands)
