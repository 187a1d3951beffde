-- Lists of library calls on bytes: `run` for each of a list of requests, each finding the store's bytes as the one before left
-- them; and what the replies of a machine to the same lines give their caller.
use Rattle.std.specs.Prelude.{◌≡◌, List, [], ◌∷◌, map, Bool, true, not, ℕ, eqb, length}
use Rattle.std.proofs.Math.Option.{some}
use Rattle.buffers.specs.Text.{Text, every}
use Rattle.setup.specs.Setup.{Setup, accepted, setup as setup_of}
use Rattle.shell.specs.Replies.{Reply, Told, told, answer_of, written}
use Rattle.store.specs.State.{Store, state_of}
use Rattle.store.specs.StoreBytes.{decode}
use Rattle.machine.specs.AbstractMachine.{Abstract, abstract_runs, initial_abstract}
use Rattle.machine.specs.Embedding.{stored}
use Rattle.machine.specs.Runs.{Call, root's}
use Rattle.machine.specs.Observed.{workspace_of, filed_in}
use Rattle.calls.specs.Calls.{run_call}

-- a command line, and the bytes of the answer buffer lent for it
pub record Request : Type 0 where
  pub line : Text
  pub answer : List ℕ

-- what its caller has afterwards: what the call tells, and the bytes of the answer buffer
pub record Response : Type 0 where
  pub tells : Told
  pub answer : List ℕ

-- the responses to a list of requests, and the store's bytes after it
pub record Responded : Type 0 where
  pub responses : List Response
  pub store : List ℕ

unfoldable pub run_calls : List ℕ → List Request → Responded
run_calls b [] = record { responses = []; store = b }
run_calls b (q ∷ qs) =
    let called = run_call b q.line q.answer in
    let rest = run_calls called.store qs in
    record { responses = record { tells = called.tells; answer = called.answer } ∷ rest.responses; store = rest.store }

-- the call that a machine is fed: the line, and the length of the answer buffer
unfoldable pub call_for : Request → Call
call_for q = record { line = q.line; room = length q.answer }

-- none of the lines is root's
unfoldable pub rootless : List Request → Bool
rootless qs = every (λ q. not (root's (call_for q))) qs

-- what a machine's reply gives the caller
unfoldable pub response : Request → Reply → Response
response q r = record { tells = told (answer_of r); answer = written r q.answer }

unfoldable pub responses_to : List Request → List Reply → List Response
responses_to [] rs = []
responses_to (q ∷ qs) [] = []
responses_to (q ∷ qs) (r ∷ rs) = response q r ∷ responses_to qs rs

-- bytes that stand for a state of the abstract machine: they are read as a store of the setup with its people's tree, sessions,
-- working directories and entries
pub record StandsFor (setup : Setup) (h : Abstract) (b : List ℕ) : Type 0 where
  pub store : Store
  pub read : decode b ≡ some (state_of setup store)
  pub workspace : workspace_of store ≡ h.workspace
  pub sessions : store.registry.sessions ≡ h.registry.sessions
  pub directories : store.registry.directories ≡ h.registry.directories
  pub entries : filed_in store ≡ some (stored h.entries)

-- no call says 18
unfoldable pub all_sound : List Response → Bool
all_sound rs = every (λ r. not (eqb r.tells.number 18)) rs

-- What a list of calls after a setup gives, by the abstract machine that is fed the same setup, lines and lengths: each call's
-- number, values and answer bytes, and afterwards what the store's bytes read as.
pub record CallsCompared (text : Text) (requests : List Request) (responded : Responded) : Type 0 where
  pub setup : Setup
  pub taken : setup_of text ≡ accepted setup
  pub responses : responded.responses ≡ responses_to requests (abstract_runs setup (initial_abstract setup) (map call_for requests)).replies
  pub store : StandsFor setup (abstract_runs setup (initial_abstract setup) (map call_for requests)).state responded.store
  pub sound : all_sound responded.responses ≡ true
