-- The program by its library calls: it sets the store up, runs each command line, lists from line 0 until the call says 3, and
-- prints what each call tells. Every call finds the two buffers as the one before left them.
--
-- `program_is_transcript` (in ProgramLaws) says that for all buffers this prints `transcript`.
use Rattle.std.specs.Prelude.{List, [], ◌∷◌, ◌++◌, map, cond, ℕ, zero, suc, eqb, take}
use Rattle.buffers.specs.Text.{Text}
use Rattle.syntax.specs.Pieces.{bytes, comma, newline, pieces, joined}
use Rattle.syntax.specs.Number.{decimal_text}
use Rattle.tree.specs.declared.Cause.TheVariants.{Missing}
use Rattle.tree.specs.Causes.{number}
use Rattle.tree.specs.WellFormed.{most_nodes}
use Rattle.shell.specs.Replies.{Told}
use Rattle.calls.specs.Transcript.{input_parts, command_lines, lines_text}
use Rattle.calls.specs.Calls.{SetUp, setup_call, run_call, listing_call}

-- the text whose length a done call tells
unfoldable pub text_told : List ℕ → List ℕ → Text
text_told [] answer = []
text_told (n ∷ ns) answer = take n answer

-- `ok` or `ok,text`
unfoldable pub done_line : List ℕ → List ℕ → Text
done_line [] answer = bytes "ok"
done_line (n ∷ ns) answer = bytes "ok," ++ text_told (n ∷ ns) answer

-- `no,number`, and for a wrong setup `no,17,line`
unfoldable pub refused_line : Told → Text
refused_line t = joined comma (bytes "no" ∷ decimal_text t.number ∷ map decimal_text t.values)

unfoldable pub call_line : Told → List ℕ → Text
call_line t answer = cond (eqb t.number 0) (done_line t.values answer) (refused_line t)

-- the lines printed for the commands, and the two buffers after them
pub record RanLines : Type 0 where
  pub lines : List Text
  pub store : List ℕ
  pub answer : List ℕ

unfoldable pub run_lines : List ℕ → List ℕ → List Text → RanLines
run_lines b answer [] = record { lines = []; store = b; answer = answer }
run_lines b answer (t ∷ ts) =
    let called = run_call b t answer in
    let rest = run_lines called.store called.answer ts in
    record { lines = call_line called.tells called.answer ∷ rest.lines; store = rest.store; answer = rest.answer }

-- the listing from line n on, until a call says 3, in at most so many calls
unfoldable pub list_lines : ℕ → List ℕ → List ℕ → ℕ → List Text
list_lines zero b answer n = []
list_lines (suc calls) b answer n =
    let called = listing_call b n answer in
    let line = text_told called.tells.values called.answer in
    cond (eqb (number Missing) called.tells.number) [] (line ∷ list_lines calls b called.answer (suc n))

-- commands, then the listing: a line for each of at most 256 nodes, and the call that says 3
unfoldable pub run_and_list : List ℕ → List ℕ → List Text → Text
run_and_list b answer ts =
    let ran = run_lines b answer ts in
    lines_text (ran.lines ++ list_lines (suc most_nodes) ran.store ran.answer 0)

-- the output after the setup's call
unfoldable pub after_setup : SetUp → List ℕ → List Text → Text
after_setup called answer ts =
    cond (eqb called.tells.number 0) (run_and_list called.store answer ts) (lines_text (refused_line called.tells ∷ []))

unfoldable pub program : List ℕ → List ℕ → Text → Text
program b answer input =
    let i = input_parts (pieces newline input) in
    after_setup (setup_call b (joined newline i.of_setup)) answer (command_lines i.of_commands)
