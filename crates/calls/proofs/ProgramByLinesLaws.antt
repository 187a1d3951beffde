-- From the first setup line on `program_from` is `program`; each line leads on, ends the setup or ends the program.
use Rattle.std.specs.Prelude.{◌≡◌, List, [], ◌∷◌, true, false, cond, ℕ, suc, ◌≤◌, ◌<◌, eqb, length}
use Rattle.std.proofs.Math.Path.{refl}
use Rattle.std.proofs.Common.{ap, arith, eq-eqb}
use Rattle.buffers.specs.Cases.{case, contra, and_both}
use Rattle.buffers.specs.Text.{Text, same_text, every, lacks}
use Rattle.syntax.specs.Pieces.{bytes, newline, prefix_first, pieces, joined}
use Rattle.syntax.proofs.JoinedLaws.{pieces_joined}
use Rattle.syntax.proofs.PartsLaws.{pieces_some}
use Rattle.setup.specs.Setup.{Reading, SetupAnswer, accepted, wrong_line, read_lines, setup}
use Rattle.setup.specs.SetupStep.{leads_on, ends_it, is_wrong, setup_step, first_reading}
use Rattle.setup.proofs.SetupStepLaws.{line_leads_on, line_ends_it, line_is_wrong, unended_is_wrong, long_is_wrong, end_is, end_is_not}
use Rattle.tree.proofs.CausesLaws.{wrong_setup_is}
use Rattle.shell.specs.Replies.{told}
use Rattle.store.specs.State.{state_of}
use Rattle.store.specs.Initial.{initial_store}
use Rattle.store.specs.StoreBytes.{store_width, encode}
use Rattle.calls.specs.Transcript.{after_end, input_parts, command_lines}
use Rattle.calls.specs.Calls.{set_up, setup_call}
use Rattle.calls.specs.Program.{run_and_list, after_setup, program}
use Rattle.calls.specs.ProgramByLines.{set_up_and_run, program_from}

-- ---- from the first line on

-- the pieces of a text hold no separator
prefix_lacks : (b c : ℕ) (ps : List Text) → eqb c b ≡ false → every (lacks b) ps ≡ true → every (lacks b) (prefix_first c ps) ≡ true
unfolding prefix_first every lacks
prefix_lacks b c [] e h = rw e
prefix_lacks b c (p ∷ ps) e h = let i = and_both (lacks b p) (every (lacks b) ps) h in rw (e, i.0, i.1)

pieces_lack : (b : ℕ) (t : Text) → every (lacks b) (pieces b t) ≡ true
unfolding pieces every lacks
pieces_lack b [] = refl
pieces_lack b (c ∷ t) = case (eqb c b) (λ e. rw e (pieces_lack b t)) (λ e. rw e (prefix_lacks b c (pieces b t) e (pieces_lack b t)))

-- nor do those of the setup
end_lacks : (ts : List Text) → every (lacks newline) (after_end ts).of_setup ≡ true
unfolding after_end every lacks
end_lacks [] = refl
end_lacks (t ∷ ts) = refl

setup_lacks : (ts : List Text) → every (lacks newline) ts ≡ true → every (lacks newline) (input_parts ts).of_setup ≡ true
unfolding input_parts every
setup_lacks [] h = refl
setup_lacks (t ∷ ts) h =
    let i = and_both (lacks newline t) (every (lacks newline) ts) h in
    case (same_text t (bytes "end")) (λ e. rw (e, i.0) (end_lacks ts)) (λ e. rw (e, i.0) (setup_lacks ts i.1))

-- so they are the pieces of the setup's text
setup_pieces : (ts : List Text) → 1 ≤ length ts → every (lacks newline) ts ≡ true →
    pieces newline (joined newline (input_parts ts).of_setup) ≡ (input_parts ts).of_setup
unfolding input_parts
setup_pieces [] h l = let z : ⊥ = omega arith in absurd z
setup_pieces (t ∷ ts) h l =
    pieces_joined newline t (cond (same_text t (bytes "end")) (after_end ts) (input_parts ts)).of_setup (setup_lacks (t ∷ ts) l)

-- what follows a setup's answer
set_up_then : (b answer : List ℕ) (a : SetupAnswer) (commands : List Text) → after_setup (set_up b a) answer commands ≡ set_up_and_run answer a commands
unfolding after_setup set_up set_up_and_run told
set_up_then b answer (wrong_line n) commands = rw wrong_setup_is
set_up_then b answer (accepted u) commands = refl

pub program_by_lines : (b answer : List ℕ) → length b ≡ 65536 → (input : Text) → program b answer input ≡ program_from answer 0 first_reading (pieces newline input)
unfolding program program_from setup_call setup store_width
program_by_lines b answer width input =
    let ts = pieces newline input in
    let i = input_parts ts in
    rw (eq-eqb (length b) 65536 width, setup_pieces ts (pieces_some newline input) (pieces_lack newline input))
    (set_up_then b answer (read_lines i.of_setup 1 first_reading) (command_lines i.of_commands))

-- ---- a line

-- the parts of an input by its first line
parts_end : (t : Text) (ts : List Text) → same_text t (bytes "end") ≡ true → 1 ≤ length ts →
    input_parts (t ∷ ts) ≡ record { of_setup = t ∷ ([] ∷ []); of_commands = ts }
unfolding input_parts after_end
parts_end t [] e h = let z : ⊥ = omega arith in absurd z
parts_end t (u ∷ us) e h = rw e

parts_more : (t : Text) (ts : List Text) → same_text t (bytes "end") ≡ false →
    input_parts (t ∷ ts) ≡ record { of_setup = t ∷ (input_parts ts).of_setup; of_commands = (input_parts ts).of_commands }
unfolding input_parts
parts_more t ts e = rw e

parts_some : (ts : List Text) → 1 ≤ length ts → 1 ≤ length (input_parts ts).of_setup
unfolding input_parts
parts_some [] h = let z : ⊥ = omega arith in absurd z
parts_some (t ∷ ts) h = omega arith

module _ (answer : List ℕ) (t : Text) (ts : List Text) (n : ℕ) (d : Reading) where
  -- one that leads on is left behind
  pub leads_the_program_on : (d' : Reading) → 1 ≤ length ts → setup_step t d ≡ leads_on d' → program_from answer n d (t ∷ ts) ≡ program_from answer (suc n) d' ts
  unfolding program_from
  leads_the_program_on d' h e =
      rw (parts_more t ts (end_is_not t d (leads_on d') e (λ f. contra {b = true} refl (cc))))
      (ap (λ a. set_up_and_run answer a (command_lines (input_parts ts).of_commands)) (line_leads_on t (input_parts ts).of_setup n d d' (parts_some ts h) e))

  -- `end` makes the store, and the others are command lines
  pub ends_the_setup : 1 ≤ length ts → setup_step t d ≡ ends_it →
      program_from answer n d (t ∷ ts) ≡ run_and_list (encode (state_of d.so_far (initial_store d.so_far))) answer (command_lines ts)
  unfolding program_from set_up_and_run
  ends_the_setup h e = rw (parts_end t ts (end_is t d e) h, line_ends_it t n d e)

  -- a wrong one ends the program
  pub ends_the_program : setup_step t d ≡ is_wrong → program_from answer n d (t ∷ ts) ≡ set_up_and_run answer (wrong_line (suc n)) []
  unfolding program_from set_up_and_run
  ends_the_program e =
      rw (parts_more t ts (end_is_not t d is_wrong e (λ f. contra {b = true} refl (cc))), line_is_wrong t (input_parts ts).of_setup n d e)

  -- and so does one that is too long
  pub too_long_for_a_line : 200 < length t → program_from answer n d (t ∷ ts) ≡ set_up_and_run answer (wrong_line (suc n)) []
  too_long_for_a_line h = ends_the_program (long_is_wrong t d h)

-- an input that ends before `end` and its byte 10
pub ends_in_the_setup : (answer : List ℕ) (t : Text) (n : ℕ) (d : Reading) → program_from answer n d (t ∷ []) ≡ set_up_and_run answer (wrong_line (suc n)) []
unfolding program_from input_parts after_end set_up_and_run
ends_in_the_setup answer t n d = case (same_text t (bytes "end")) (λ e. rw (e, unended_is_wrong t (suc n) d)) (λ e. rw (e, unended_is_wrong t (suc n) d))
