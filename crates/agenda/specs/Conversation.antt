-- The program turn by turn: it asks what is to be done next, makes the call and prints what is printed for it, or reads.
--
-- However many bytes each read gives, the program prints `program` of the whole input: `talk_is_program` in ConversationLaws.
use Rattle.std.specs.Prelude.{List, [], ◌++◌, false, cond, ℕ, zero, suc, ◌-◌, length, take, drop, Ok, None}
use Rattle.buffers.specs.Text.{Text}
use Rattle.syntax.specs.Parts.{part}
use Rattle.setup.specs.SetupStep.{LineAnswer, leads_on, ends_it, is_wrong, setup_step}
use Rattle.shell.specs.Replies.{told}
use Rattle.store.specs.State.{state_of}
use Rattle.store.specs.Initial.{initial_store}
use Rattle.store.specs.StoreBytes.{setup_of, encode}
use Rattle.store.specs.SetupHeader.{reading_in, headed}
use Rattle.calls.specs.Calls.{Called, run_call, listing_call}
use Rattle.agenda.specs.declared.Phase.TheVariants as phase
use Rattle.agenda.specs.declared.Place.{Place}
use Rattle.agenda.specs.declared.Call.{Call}
use Rattle.agenda.specs.declared.Call.TheVariants as call
use Rattle.agenda.specs.declared.Next.{Next}
use Rattle.agenda.specs.declared.Next.TheVariants as next
use Rattle.agenda.specs.Agenda.{lines_from, setup_from, read_place, next_of, refusal, report_text, goes_on}

-- how far a run of the program is: its place, its three buffers, the input that has not been read, and how many bytes more than one each
-- later read gives, where there are as many and room for them
pub record Talk : Type 0 where
  pub at : Place
  pub window : List ℕ
  pub store : List ℕ
  pub answer : List ℕ
  pub unread : Text
  pub sizes : ℕ → ℕ

-- the bytes that are still to be handled: of the window, and of the whole input
abbrev pub kept : Place → List ℕ → Text
kept at window = drop at.from (take at.to window)

abbrev pub ahead : Place → List ℕ → Text → Text
ahead at window unread = kept at window ++ unread

-- the same run at another place
abbrev pub moved : Talk → Place → Talk
moved s at =
    record { at = at; window = s.window; store = s.store; answer = s.answer; unread = s.unread; sizes = s.sizes }

-- what a read gives: a byte or more, no more than there is room for; nothing where the input has ended
abbrev pub given : ℕ → ℕ → Text → Text
given more room unread = take (suc more) (take room unread)

-- the bytes that are left stand at the window's front, those that a read gives behind them, and the others stay
abbrev pub read_to : Talk → Text → Talk
read_to s got =
    let front = kept s.at s.window ++ got in
    record {
      at = read_place s.at (length got);
      window = front ++ drop (length front) s.window;
      store = s.store;
      answer = s.answer;
      unread = drop (length got) s.unread;
      sizes = λ k. s.sizes (suc k);
    }

unfoldable pub read_on : Talk → Talk
read_on s = read_to s (given (s.sizes 0) (length s.window - (s.at.to - s.at.from)) s.unread)

-- a call on the window's bytes and the two buffers
unfoldable pub made : List ℕ → List ℕ → List ℕ → Call → Called
made window b answer (call.Run from end) = run_call b (part window from end) answer
made window b answer (call.List n) = listing_call b n answer

abbrev pub after_call : Talk → Place → Called → Talk
after_call s at c =
    record { at = at; window = s.window; store = c.store; answer = c.answer; unread = s.unread; sizes = s.sizes }

-- a setup line that ends at a byte: one that leads on stands in the header, `end` makes the store, a wrong one ends the program
unfoldable pub line_turned : (Talk → Text) → Talk → ℕ → ℕ → LineAnswer → Text
line_turned others s e lines (leads_on d) =
    others (after_call s (setup_from s.at (suc e) d.kind (suc lines)) (record { tells = told (Ok None); store = headed d.so_far s.store; answer = s.answer }))
line_turned others s e lines ends_it =
    let u = setup_of s.store in
    others (after_call s (lines_from s.at (suc e)) (record { tells = told (Ok None); store = encode (state_of u (initial_store u)); answer = s.answer }))
line_turned others s e lines is_wrong = refusal (suc lines)

-- what a turn prints, and then those behind it
unfoldable pub turned : (Talk → Text) → Talk → Next → Text
turned others s (next.Call c then) =
    let m = made s.window s.store s.answer c in
    report_text c m.tells m.answer ++ cond (goes_on c m.tells) (others (after_call s then m)) []
turned others s (next.On then) = others (moved s then)
turned others s next.Read = others (read_on s)
turned others s next.Over = []
turned others s (next.Line e kind lines) = line_turned others s e lines (setup_step (part s.window s.at.from e) (reading_in kind s.store))
turned others s (next.Wrong lines) = refusal (suc lines)

-- what is printed in so many turns
unfoldable pub talk : ℕ → Talk → Text
talk zero s = []
talk (suc turns) s = turned (talk turns) s (next_of s.window s.at)

-- where the program begins
abbrev pub first_place : Place
first_place = record { from = 0; to = 0; ended = false; passing = false; phase = phase.Setup 0 0 }
