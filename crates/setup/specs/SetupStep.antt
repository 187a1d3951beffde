-- A setup read line by line: what one more line comes to after what has been read, and where that leaves the text.
--
-- `SetupStepLaws` proves that a text read in this way is `setup` of it.
use Rattle.std.specs.Prelude.{List, [], ◌∷◌, cond, ℕ, suc}
use Rattle.std.proofs.Math.Option.{Option, none, some}
use Rattle.buffers.specs.Text.{Text, same_text}
use Rattle.syntax.specs.Pieces.{bytes, newline, pieces}
use Rattle.syntax.specs.Form.{◌>>=◌}
use Rattle.lines.specs.SetupLines.{setup_line}
use Rattle.setup.specs.Setup.{Setup, Reading, accept, no_setup, SetupAnswer, accepted, wrong_line}

-- a line leads on to what has then been read, ends the setup, or is wrong
pub data LineAnswer : Type 0 where
  leads_on : Reading → LineAnswer
  ends_it : LineAnswer
  is_wrong : LineAnswer

unfoldable pub fitting : Option Reading → LineAnswer
fitting none = is_wrong
fitting (some d) = leads_on d

unfoldable pub setup_step : Text → Reading → LineAnswer
setup_step t d = cond (same_text t (bytes "end")) ends_it (fitting (setup_line t >>= λ l. accept l d))

-- before the first line
abbrev pub first_reading : Reading
first_reading = record { kind = 0; so_far = no_setup }

-- how far a text has been read, with the number of its lines: before `end`, behind it, or past a wrong line
pub data Progress : Type 0 where
  before_end : ℕ → Reading → Progress
  behind_end : ℕ → Setup → Progress
  past_wrong : ℕ → Progress

unfoldable pub answered_by : ℕ → Reading → LineAnswer → Progress
answered_by n d (leads_on d') = before_end n d'
answered_by n d ends_it = behind_end n d.so_far
answered_by n d is_wrong = past_wrong n

-- one more line with its byte 10
unfoldable pub one_line : Progress → Text → Progress
one_line (before_end n d) t = answered_by (suc n) d (setup_step t d)
one_line (behind_end n u) t = past_wrong (suc n)
one_line (past_wrong n) t = past_wrong n

-- the text stops, with these bytes behind its last byte 10
unfoldable pub stopped : Progress → Text → SetupAnswer
stopped (before_end n d) t = wrong_line (suc n)
stopped (behind_end n u) [] = accepted u
stopped (behind_end n u) (b ∷ t) = wrong_line (suc n)
stopped (past_wrong n) t = wrong_line n

-- the pieces of a text, the last of which has no byte 10
unfoldable pub read_on : Progress → List Text → SetupAnswer
read_on p [] = stopped p []
read_on p (t ∷ []) = stopped p t
read_on p (t ∷ (u ∷ us)) = read_on (one_line p t) (u ∷ us)

unfoldable pub setup_by_lines : Text → SetupAnswer
setup_by_lines t = read_on (before_end 0 first_reading) (pieces newline t)
