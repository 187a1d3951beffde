-- The registry computed: where each account begins, and that what is replaced for one account moves no other's.
use Rattle.std.specs.Prelude.{◌≡◌, refl, List, [], ◌∷◌, ◌++◌, map, ℕ, replicate}
use Rattle.std.proofs.Math.Option.{Option, none, some}
use Prim.Native.String.{String}
use Rattle.buffers.specs.Text.{Text}
use Rattle.accounts.specs.declared.Uid.{Uid}
use Rattle.syntax.specs.Pieces.{bytes}
use Rattle.syntax.specs.Path.{root, ◌▹◌, path_text}
use Rattle.syntax.specs.Compute.{compute as compute_syntax}
use Rattle.setup.specs.Setup.{Person, Setup, accounts}
use Rattle.store.specs.State.{Registry, set_session, working_directory, set_directory}
use Rattle.store.specs.Initial.{no_sessions, initial_registry}
use Rattle.store.specs.StoreBytes.{session_byte}
use Rattle.store.specs.Compute.{compute}

account : ℕ → Uid
account n = record { 0 = n }

-- a setup whose accounts 1 and 15 are persons'
two_persons : Setup
two_persons =
    let someone : Option Person = some (record { primary = record { 0 = 1 }; further = record { 0 = 0 } }) in
    record { persons = none ∷ (someone ∷ (replicate 13 none ++ (someone ∷ []))); pairs = []; grants = [] }

-- the working directories of some accounts as texts
directories_at : Registry → List ℕ → List Text
directories_at r l = map (λ n. path_text (working_directory (account n) r)) l

-- and the bytes of all sessions
session_bytes : Registry → List ℕ
session_bytes r = map session_byte r.sessions

texts : List String → List Text
texts l = map bytes l

begun : Registry
begun = initial_registry two_persons

-- all at `/` without a session; then account 1 moved, and logged in as role 3
at_the_top : Registry
at_the_top = record { sessions = no_sessions; directories = replicate accounts root }

moved : Registry
moved = set_directory (account 1) (root ▹ bytes "u1" ▹ bytes "a") at_the_top

logged_in : Registry
logged_in = set_session (account 1) (some (record { role = record { 0 = 3 }; bound = refl })) moved

-- a person begins at home
persons_begin_at_home : directories_at begun (1 ∷ 15 ∷ []) ≡ texts ("/u1" ∷ "/u15" ∷ [])
unfolding compute_syntax compute accounts account two_persons directories_at texts begun
persons_begin_at_home = refl

-- root, and whoever is no person, at `/`
others_begin_at_the_top : directories_at begun (0 ∷ 2 ∷ 14 ∷ []) ≡ texts ("/" ∷ "/" ∷ "/" ∷ [])
unfolding compute_syntax compute accounts account two_persons directories_at texts begun
others_begin_at_the_top = refl

-- one account moves, and no other
one_directory_moves : directories_at moved (0 ∷ 1 ∷ 2 ∷ 15 ∷ []) ≡ texts ("/" ∷ "/u1/a" ∷ "/" ∷ "/" ∷ [])
unfolding compute_syntax compute accounts account directories_at texts at_the_top moved
one_directory_moves = refl

-- so it is with sessions
one_session_moves : session_bytes logged_in ≡ 0 ∷ (4 ∷ replicate 14 0)
unfolding compute_syntax compute session_byte accounts account session_bytes at_the_top moved logged_in
one_session_moves = refl

-- a session replaced moves no directory
no_directory_moves : directories_at logged_in (0 ∷ 1 ∷ 2 ∷ 15 ∷ []) ≡ texts ("/" ∷ "/u1/a" ∷ "/" ∷ "/" ∷ [])
unfolding compute_syntax compute accounts account directories_at texts at_the_top moved logged_in
no_directory_moves = refl
