-- What a junior cannot learn, on the bytes of library calls.
use Rattle.std.specs.Prelude.{◌≡◌, List, map, true, ℕ}
use Rattle.std.proofs.Common.{sym, ◌∙◌, ap}
use Rattle.std.proofs.Math.Option.{some}
use Rattle.accounts.specs.Dominance.{BoundedRole}
use Rattle.setup.specs.Setup.{Setup, is_setup}
use Rattle.setup.proofs.SetupLaws.{accepted_is_setup}
use Rattle.store.specs.State.{Store, state_of}
use Rattle.store.specs.StoreBytes.{encode, decode}
use Rattle.store.proofs.StoreBytesLaws.{decode_encode, encode_decode}
use Rattle.machine.specs.StoreMachine.{store}
use Rattle.machine.specs.Runs.{runs}
use Rattle.machine.specs.Observed.{ReachedWithoutRoot}
use Rattle.machine.proofs.MachineKeepingLaws.{runs_keep}
use Rattle.calls.specs.CallLists.{Request, run_calls, call_for, responses_to}
use Rattle.calls.proofs.CallListsLaws.{run_calls_on_state}
use Rattle.secrecy.specs.Redacted.{DifferOnlyIn, without_seniors, by_juniors}
use Rattle.secrecy.proofs.SecrecyTheorems.{junior_learns_nothing}

-- a list of calls on bytes is the machine's, with the state after it as bytes
on_bytes : (u : Setup) → is_setup u ≡ true → (b : List ℕ) (s : Store) → decode b ≡ some (state_of u s) → (qs : List Request) →
    let ran = runs store u s (map call_for qs) in
    (run_calls b qs ≡ record { responses = responses_to qs ran.replies; store = encode (state_of u ran.state) })
    × (decode (run_calls b qs).store ≡ some (state_of u ran.state))
on_bytes u g b s e qs =
    let k = encode_decode b (state_of u s) e in
    let ran = ap (λ x. run_calls x qs) (sym k.0) ∙ run_calls_on_state u g s k.1 qs in
    let last = (runs store u s (map call_for qs)).state in
    (ran, ap (λ d. decode d.store) ran ∙ decode_encode (state_of u last) (runs_keep u g s k.1 (map call_for qs)))

-- Bytes that are read as two such stores get the same responses to every such list of calls, in numbers, values and answer bytes; and
-- the bytes that it leaves are read as two stores that still differ only there.
pub junior_learns_nothing_on_calls : (u : Setup) (r : BoundedRole) (b b' : List ℕ) (d : DifferOnlyIn u r b b')
    → ReachedWithoutRoot u d.first → ReachedWithoutRoot u d.second → without_seniors u r d.first.registry.sessions ≡ true
    → (requests : List Request) → by_juniors u r (map call_for requests) ≡ true
    → ((run_calls b requests).responses ≡ (run_calls b' requests).responses) × DifferOnlyIn u r (run_calls b requests).store (run_calls b' requests).store
junior_learns_nothing_on_calls u r b b' d a a' w qs j =
    let g = accepted_is_setup a.reached.text u a.reached.taken in
    let calls = map call_for qs in
    let k = on_bytes u g b d.first d.read_first qs in
    let k' = on_bytes u g b' d.second d.read_second qs in
    let t = junior_learns_nothing u r d.first d.second a a' d.same w calls j in (
      ap (λ x. x.responses) k.0 ∙ ap (responses_to qs) t.0 ∙ sym (ap (λ x. x.responses) k'.0),
      record {
        first = (runs store u d.first calls).state;
        second = (runs store u d.second calls).state;
        read_first = k.1;
        read_second = k'.1;
        same = t.1;
      },
    )
