-- The worked example of document 01 and its wrong turns, by computation.
--
-- `worked_example` goes from the bytes of the program's input to those of its output; `input` and `expected` may be replaced by
-- any other two texts. The answers are those of the abstract machine too.
use Rattle.std.specs.Prelude.{◌≡◌, refl, List, [], map}
use Rattle.buffers.specs.Text.{Text}
use Rattle.syntax.specs.Pieces.{bytes, pieces, newline, joined}
use Rattle.setup.specs.Setup.{Setup, SetupAnswer, accepted, wrong_line, setup}
use Rattle.store.specs.Initial.{initial_store}
use Rattle.machine.specs.StoreMachine.{store}
use Rattle.machine.specs.AbstractMachine.{abstract_runs, initial_abstract}
use Rattle.machine.specs.Runs.{Call, Ran, runs}
use Rattle.calls.specs.Transcript.{input_parts, command_lines, reply_line, call_of, transcript}
use Rattle.calls.specs.Compute.{compute}

-- the answers of a machine to the commands of the program's input
answers : {S : Type 0} → (Setup → S → List Call → Ran S) → (Setup → S) → SetupAnswer → List Text → List Text
answers run initial (wrong_line n) commands = []
answers run initial (accepted u) commands = map reply_line (run u (initial u) (map call_of commands)).replies

answers_to : {S : Type 0} → (Setup → S → List Call → Ran S) → (Setup → S) → Text → List Text
answers_to run initial text =
    let i = input_parts (pieces newline text) in
    answers run initial (setup (joined newline i.of_setup)) (command_lines i.of_commands)

input : Text
input = bytes "p,1,1\np,2,2\nr,0,1\nl,1,0,oak\nl,2,1,elm\nend\n1,login,0,oak\n1,mkdir,/u1/d,0700\n1,add,/u1/d,/rep/cut,1\n1,create,/u1/a,0600\n1,add,/u1/a,/rep/cut/a,1\n2,mv,/rep/cut/a,/u2/a\n2,login,1,elm\n2,co,/rep/cut,/u2/w\n2,write,/u2/w/a,51 32\n2,commit,/u2/w/a\n1,commit,/u1/a\n"

expected : Text
expected = bytes "ok\nok\nok\nok\nok\nno,5\nok\nok\nok\nok\nno,14\n/,d,0,0,0755,0,-,0,\n/rep,d,16,24,0750,0,-,0,\n/rep/cut,d,17,17,0770,1,-,0,\n/rep/cut/a,f,17,17,0440,2,-,0,51 32\n/u1,d,1,1,0755,0,-,0,\n/u1/a,f,1,1,0600,0,/rep/cut/a,1,\n/u1/d,d,1,1,0700,0,/rep/cut,1,\n/u2,d,2,2,0755,0,-,0,\n/u2/w,d,2,2,0700,0,/rep/cut,1,\n/u2/w/a,f,2,2,0600,0,/rep/cut/a,2,51 32\n"

worked_example : transcript input ≡ expected
unfolding compute input expected
worked_example = refl

-- the eleven answers, on the store and on the abstract machine
eleven : List Text
eleven = pieces 32 (bytes "ok ok ok ok ok no,5 ok ok ok ok no,14")

eleven_answers : (answers_to (runs store) initial_store input ≡ eleven) × (answers_to abstract_runs initial_abstract input ≡ eleven)
unfolding compute input eleven answers_to answers
eleven_answers = (refl, refl)
