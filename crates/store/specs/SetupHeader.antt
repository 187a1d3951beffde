-- A store while its setup is read: the setup so far stands in its header, with no sessions and no working directories yet; and the
-- store that a setup makes.
use Rattle.std.specs.Prelude.{List, ◌++◌, ℕ, ◌+◌, drop, replicate}
use Rattle.setup.specs.Setup.{Setup, Reading}
use Rattle.store.specs.HeaderLayout.{directories_width, spare_width, header_width}
use Rattle.store.specs.State.{state_of}
use Rattle.store.specs.Initial.{no_sessions, initial_store}
use Rattle.store.specs.StoreBytes.{front_bytes, setup_of, encode}

-- what has been read: the kind of the last line, and what the header holds
abbrev pub reading_in : ℕ → List ℕ → Reading
reading_in kind b = record { kind = kind; so_far = setup_of b }

-- the header while a setup is read
unfoldable pub setup_header : Setup → List ℕ
setup_header u = front_bytes u no_sessions (replicate (directories_width + spare_width) 0)

-- before the bytes behind a store's header
abbrev pub headed : Setup → List ℕ → List ℕ
headed u b = setup_header u ++ drop header_width b

-- the bytes of the store that a setup begins with
abbrev pub first_store : Setup → List ℕ
first_store u = encode (state_of u (initial_store u))
