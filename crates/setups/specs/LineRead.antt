-- One line of a setup read into the header of its store: what the header holds before it, and what it leaves.
use Rattle.std.specs.Prelude.{◌≡◌, List, true, ℕ, length, Option as Found, Some, None}
use Rattle.setup.specs.Setup.{is_setup}
use Rattle.setup.specs.SetupStep.{LineAnswer, leads_on, ends_it, is_wrong}
use Rattle.store.specs.StoreBytes.{store_width, setup_of}
use Rattle.store.specs.SetupHeader.{setup_header, headed, first_store}
use Rattle.setups.specs.declared.LineRead.{LineRead}
use Rattle.setups.specs.declared.LineRead.TheVariants.{More, End}

-- the header of the setup so far, which is in range, without sessions and working directories
pub record Begun (b : List ℕ) : Type 0 where
  pub in_range : is_setup (setup_of b) ≡ true
  pub whole : setup_header (setup_of b) ≡ b

-- what is answered, and the header, or the whole store, afterwards
pub record LineDone : Type 0 where
  pub answer : Found LineRead
  pub header : List ℕ

abbrev pub read_as : Found LineRead → List ℕ → LineDone
read_as r b = record { answer = r; header = b }

-- a line that leads on is of a kind and stands in the header; `end` and a wrong line leave it
unfoldable pub after_line : List ℕ → LineAnswer → LineDone
after_line b (leads_on d) = record { answer = Some (More d.kind); header = setup_header d.so_far }
after_line b ends_it = record { answer = Some End; header = b }
after_line b is_wrong = record { answer = None; header = b }

-- ---- in a store

-- a store whose header holds the setup so far
pub record BegunStore (b : List ℕ) : Type 0 where
  pub wide : length b ≡ store_width
  pub in_range : is_setup (setup_of b) ≡ true
  pub whole : headed (setup_of b) b ≡ b

-- what a line does to it: `end` opens the store
unfoldable pub line_call : List ℕ → LineAnswer → LineDone
line_call b (leads_on d) = record { answer = Some (More d.kind); header = headed d.so_far b }
line_call b ends_it = record { answer = Some End; header = first_store (setup_of b) }
line_call b is_wrong = record { answer = None; header = b }
