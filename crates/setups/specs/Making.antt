-- A whole setup text read into a header and made a store: what is answered, and the bytes afterwards.
use Rattle.std.specs.Prelude.{List, ℕ, Result, Ok, Err}
use Rattle.setup.specs.Setup.{SetupAnswer, accepted, wrong_line, no_setup}
use Rattle.store.specs.SetupHeader.{setup_header, first_store}
use Rattle.setups.specs.declared.WrongLine.{WrongLine}

-- what a text comes to: it is accepted, or a line is the first wrong one
abbrev pub TextRead : Type 0
TextRead = Result (Unit {0}) WrongLine

abbrev pub accepted_text : TextRead
accepted_text = Ok tt

abbrev pub wrong_text : ℕ → TextRead
wrong_text n = Err (record { 0 = n })

-- what is answered, and the header or the store afterwards
pub record TextDone : Type 0 where
  pub answer : TextRead
  pub bytes : List ℕ

abbrev pub text_as : TextRead → List ℕ → TextDone
text_as r b = record { answer = r; bytes = b }

-- a header holds the setup, or where a line is wrong nothing
unfoldable pub header_made : SetupAnswer → TextDone
header_made (accepted u) = text_as accepted_text (setup_header u)
header_made (wrong_line n) = text_as (wrong_text n) (setup_header no_setup)

-- a store is the one that the setup begins with, or where a line is wrong as it was
unfoldable pub store_made : List ℕ → SetupAnswer → TextDone
store_made b (accepted u) = text_as accepted_text (first_store u)
store_made b (wrong_line n) = text_as (wrong_text n) b
