-- Reading a setup line by line gives `setup` of its text; and what each line does to the lines behind it.
use Rattle.std.specs.Prelude.{◌≡◌, List, [], ◌∷◌, true, false, cond, ℕ, suc, ◌≤◌, ◌<◌, length}
use Rattle.std.proofs.Math.Path.{refl}
use Rattle.std.proofs.Common.{sym, ◌∙◌, ap, arith}
use Rattle.std.proofs.Math.Option.{Option, none, some}
use Rattle.std.proofs.lemmas.Bool.{lt-leb}
use Rattle.buffers.specs.Cases.{case, contra}
use Rattle.buffers.specs.Text.{Text, same_text}
use Rattle.buffers.specs.TextLaws.{same_length}
use Rattle.syntax.specs.Pieces.{bytes, newline, pieces}
use Rattle.syntax.specs.Form.{◌>>=◌, ◌>>◌, check}
use Rattle.lines.specs.SetupLines.{longest_line, setup_line}
use Rattle.setup.specs.Setup.{Setup, Reading, accept, accepted, wrong_line, stops, continue, read_lines, setup, is_setup}
use Rattle.setup.proofs.SetupLaws.{line_keeps, line_kind}
use Rattle.setup.specs.SetupStep.{LineAnswer, leads_on, ends_it, is_wrong, fitting, setup_step, first_reading, before_end, behind_end, past_wrong, answered_by, one_line, stopped, read_on, setup_by_lines}

-- ---- the whole text

-- behind a wrong line nothing changes the answer
past_wrong_stays : (n : ℕ) (ts : List Text) → read_on (past_wrong n) ts ≡ wrong_line n
unfolding read_on stopped one_line
past_wrong_stays n [] = refl
past_wrong_stays n (t ∷ []) = refl
past_wrong_stays n (t ∷ (u ∷ us)) = past_wrong_stays n (u ∷ us)

-- behind `end` the text stops
behind_end_stops : (n : ℕ) (v : Setup) (ts : List Text) → 1 ≤ length ts → read_on (behind_end n v) ts ≡ cond (stops ts) (accepted v) (wrong_line (suc n))
unfolding read_on stopped one_line stops
behind_end_stops n v [] h = let z : ⊥ = omega arith in absurd z
behind_end_stops n v ([] ∷ []) h = refl
behind_end_stops n v ((b ∷ t) ∷ []) h = refl
behind_end_stops n v ([] ∷ (u ∷ us)) h = past_wrong_stays (suc n) (u ∷ us)
behind_end_stops n v ((b ∷ t) ∷ (u ∷ us)) h = past_wrong_stays (suc n) (u ∷ us)

-- a line that fits, and one that does not
fitting_reads : (m : Option Reading) (n : ℕ) (d : Reading) (ts : List Text) →
    ((d' : Reading) → read_on (before_end n d') ts ≡ read_lines ts (suc n) d') →
    read_on (answered_by n d (fitting m)) ts ≡ continue m n (read_lines ts (suc n))
unfolding fitting answered_by continue
fitting_reads none n d ts h = past_wrong_stays n ts
fitting_reads (some d') n d ts h = h d'

pub lines_read : (n : ℕ) (d : Reading) (ts : List Text) → read_on (before_end n d) ts ≡ read_lines ts (suc n) d
unfolding read_on stopped one_line answered_by setup_step read_lines
lines_read n d [] = refl
lines_read n d (t ∷ []) = refl
lines_read n d (t ∷ (u ∷ us)) = case (same_text t (bytes "end"))
    (λ e. rw e (behind_end_stops (suc n) d.so_far (u ∷ us) (omega arith)))
    (λ e. rw e (fitting_reads (setup_line t >>= λ l. accept l d) (suc n) d (u ∷ us) (λ d'. lines_read (suc n) d' (u ∷ us))))

-- reading line by line is `setup`
pub by_lines_is_setup : (t : Text) → setup_by_lines t ≡ setup t
unfolding setup_by_lines setup
by_lines_is_setup t = lines_read 0 first_reading (pieces newline t)

-- ---- one line

-- the first of several lines, by its answer
first_step : (t : Text) (ts : List Text) (n : ℕ) (d : Reading) → 1 ≤ length ts → read_on (before_end n d) (t ∷ ts) ≡ read_on (answered_by (suc n) d (setup_step t d)) ts
unfolding read_on one_line
first_step t [] n d h = let z : ⊥ = omega arith in absurd z
first_step t (u ∷ us) n d h = refl

by_step : (t : Text) (ts : List Text) (n : ℕ) (d : Reading) (a : LineAnswer) → 1 ≤ length ts → setup_step t d ≡ a →
    read_lines (t ∷ ts) (suc n) d ≡ read_on (answered_by (suc n) d a) ts
by_step t ts n d a h e = sym (lines_read n d (t ∷ ts)) ∙ first_step t ts n d h ∙ ap (λ x. read_on (answered_by (suc n) d x) ts) e

-- one that leads on is left behind
pub line_leads_on : (t : Text) (ts : List Text) (n : ℕ) (d d' : Reading) → 1 ≤ length ts → setup_step t d ≡ leads_on d' →
    read_lines (t ∷ ts) (suc n) d ≡ read_lines ts (suc (suc n)) d'
unfolding answered_by
line_leads_on t ts n d d' h e = by_step t ts n d (leads_on d') h e ∙ lines_read (suc n) d' ts

-- `end`: nothing may stand behind its byte 10
pub line_ends : (t : Text) (ts : List Text) (n : ℕ) (d : Reading) → 1 ≤ length ts → setup_step t d ≡ ends_it →
    read_lines (t ∷ ts) (suc n) d ≡ cond (stops ts) (accepted d.so_far) (wrong_line (suc (suc n)))
unfolding answered_by
line_ends t ts n d h e = by_step t ts n d ends_it h e ∙ behind_end_stops (suc n) d.so_far ts h

pub line_ends_it : (t : Text) (n : ℕ) (d : Reading) → setup_step t d ≡ ends_it → read_lines (t ∷ ([] ∷ [])) (suc n) d ≡ accepted d.so_far
unfolding stops
line_ends_it t n d e = line_ends t ([] ∷ []) n d (omega arith) e

-- a wrong one decides, whatever stands behind it
pub line_is_wrong : (t : Text) (ts : List Text) (n : ℕ) (d : Reading) → setup_step t d ≡ is_wrong → read_lines (t ∷ ts) (suc n) d ≡ wrong_line (suc n)
unfolding answered_by read_lines
line_is_wrong t [] n d e = refl
line_is_wrong t (u ∷ us) n d e = by_step t (u ∷ us) n d is_wrong (omega arith) e ∙ past_wrong_stays (suc n) (u ∷ us)

-- and so does what the text stops with
pub unended_is_wrong : (t : Text) (n : ℕ) (d : Reading) → read_lines (t ∷ []) n d ≡ wrong_line n
unfolding read_lines
unended_is_wrong t n d = refl

-- a line of more than 200 bytes is wrong, whatever it holds
pub long_is_wrong : (t : Text) (d : Reading) → 200 < length t → setup_step t d ≡ is_wrong
unfolding setup_step setup_line longest_line check ◌>>◌ ◌>>=◌ fitting bytes
long_is_wrong t d h = rw (same_length t (bytes "end") (λ e. omega arith), lt-leb (length t) 200 h)

-- no line before `end` is told as `end`
no_end : (m : Option Reading) → fitting m ≡ ends_it → ⊥
unfolding fitting
no_end none e = contra {b = true} refl (cc)
no_end (some d) e = contra {b = true} refl (cc)

-- a line that leads on keeps what has been read in range
fitting_is : (m : Option Reading) (d : Reading) → fitting m ≡ leads_on d → m ≡ some d
unfolding fitting
fitting_is none d e = contra {b = true} refl (cc)
fitting_is (some x) d e = cc

module _ (t : Text) (d d' : Reading) (e : setup_step t d ≡ leads_on d') where
  its_line : (setup_line t >>= λ l. accept l d) ≡ some d'
  unfolding setup_step
  its_line = case (same_text t (bytes "end"))
      (λ s. let z : ends_it ≡ leads_on d' = rw s at e in contra {b = true} refl (cc))
      (λ s. fitting_is (setup_line t >>= λ l. accept l d) d' (rw s at e))

  pub step_keeps : is_setup d.so_far ≡ true → is_setup d'.so_far ≡ true
  step_keeps h = line_keeps t d d' its_line h

  -- and is of a kind
  pub step_kind : d'.kind ≤ 3
  step_kind = line_kind t d d' its_line

-- only `end` ends it
pub end_is : (t : Text) (d : Reading) → setup_step t d ≡ ends_it → same_text t (bytes "end") ≡ true
unfolding setup_step
end_is t d e = case (same_text t (bytes "end")) (λ s. s) (λ s. absurd (no_end (setup_line t >>= λ l. accept l d) (rw s at e)))

pub end_is_not : (t : Text) (d : Reading) (a : LineAnswer) → setup_step t d ≡ a → (a ≡ ends_it → ⊥) → same_text t (bytes "end") ≡ false
unfolding setup_step
end_is_not t d a e f = case (same_text t (bytes "end")) (λ s. absurd (f (sym e ∙ rw s))) (λ s. s)
