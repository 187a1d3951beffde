-- The three library calls on bytes: from the bytes at entry to what is answered and all bytes at exit.
use Rattle.std.specs.Prelude.{List, [], cond, ℕ, eqb, leb, length, Ok, Err, None}
use Rattle.std.proofs.Math.Option.{some}
use Rattle.std.proofs.Math.ListN.{get_elem?}
use Rattle.buffers.specs.Text.{Text}
use Rattle.setup.specs.Setup.{Setup, SetupAnswer, accepted, wrong_line, setup}
use Rattle.tree.specs.declared.Cause.TheVariants.{Missing, Unsound, ShortAnswer}
use Rattle.tree.specs.Result.{Result, done, ◌>>=◌, ◌>>◌, require, present, Outcome}
use Rattle.tree.specs.declared.Refusal.TheVariants.{For, WrongLine}
use Rattle.shell.specs.Replies.{Told, told, answer_of, written, reply, after}
use Rattle.store.specs.State.{Store, State, state_of}
use Rattle.store.specs.Initial.{initial_store}
use Rattle.store.specs.StoreBytes.{store_width, encode, decode}
use Rattle.machine.specs.StoreMachine.{store}
use Rattle.machine.specs.Runs.{least_room, perform}
use Rattle.listing.specs.Listing.{listing}

-- ---- setup

-- what `setup` tells, and the store's bytes after it
pub record SetUp : Type 0 where
  pub tells : Told
  pub store : List ℕ

unfoldable pub set_up : List ℕ → SetupAnswer → SetUp
set_up b (wrong_line n) = record { tells = told (Err (WrongLine n)); store = b }
set_up b (accepted setup) = record { tells = told (Ok None); store = encode (state_of setup (initial_store setup)) }

-- 18 (length only), then 17
unfoldable pub setup_call : List ℕ → Text → SetUp
setup_call b text = cond (eqb (length b) store_width) (set_up b (setup text)) (record { tells = told (Err (For Unsound)); store = b })

-- ---- run and listing

-- what a call tells, and the lent bytes after it
pub record Called : Type 0 where
  pub tells : Told
  pub store : List ℕ
  pub answer : List ℕ

-- a call that tells a number alone and leaves both buffers as they were
abbrev pub only_tells : ℕ → List ℕ → List ℕ → Called
only_tells n b answer = record { tells = record { number = n; values = [] }; store = b; answer = answer }

-- a refused call leaves everything as it was
unfoldable pub called : List ℕ → List ℕ → Result (Outcome (List ℕ)) → Called
called b answer r = record { tells = told (answer_of (reply r)); store = after b r; answer = written (reply r) answer }

-- the state after a command, as bytes
unfoldable pub encoded : Setup → Outcome Store → Outcome (List ℕ)
encoded setup o = record { text = o.text; state = encode (state_of setup o.state) }

-- what is done on the state that the bytes hold: before it 20, 18
unfoldable pub on_state : List ℕ → ℕ → (State → Result (Outcome (List ℕ))) → Result (Outcome (List ℕ))
on_state b room act = do
  require (leb least_room room) ShortAnswer
  s ← present (decode b) Unsound
  act s

-- a command line on a state: 1, 2, then the command
unfoldable pub line_on : Text → State → Result (Outcome (List ℕ))
line_on line s = do
  o ← perform store s.setup s.store line
  done (encoded s.setup o)

unfoldable pub run_result : List ℕ → Text → ℕ → Result (Outcome (List ℕ))
run_result b line room = on_state b room (line_on line)

unfoldable pub run_call : List ℕ → Text → List ℕ → Called
run_call b line answer = called b answer (run_result b line (length answer))

-- a line of a state's listing: 3 past the last; the store's bytes stay
unfoldable pub listing_on : List ℕ → ℕ → State → Result (Outcome (List ℕ))
listing_on b n s = do
  t ← present (get_elem? (listing s.store.tree) n) Missing
  done (record { text = some t; state = b })

unfoldable pub listing_result : List ℕ → ℕ → ℕ → Result (Outcome (List ℕ))
listing_result b n room = on_state b room (listing_on b n)

unfoldable pub listing_call : List ℕ → ℕ → List ℕ → Called
listing_call b n answer = called b answer (listing_result b n (length answer))
