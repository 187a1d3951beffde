-- A setup text read from a place on: what the line that begins there comes to decides, or the lines behind it do.
use Rattle.std.specs.Prelude.{◌≡◌, refl, List, [], ◌∷◌, true, false, cond, ℕ, suc, ◌+◌, ◌≤◌, ◌<◌, eqb, length, drop}
use Rattle.std.proofs.Common.{sym, ◌∙◌, ap, arith, length-drop, drop_of_length-le}
use Rattle.buffers.specs.Cases.{case}
use Rattle.buffers.specs.Text.{Text}
use Rattle.syntax.specs.Pieces.{newline, prefix_first, pieces, piece_length}
use Rattle.syntax.specs.Parts.{part}
use Rattle.syntax.proofs.PartsLaws.{pieces_some, pieces_first_from, pieces_only_from}
use Rattle.setup.specs.Setup.{Reading, SetupAnswer, accepted, wrong_line, stops, read_lines, setup}
use Rattle.setup.specs.SetupStep.{leads_on, ends_it, is_wrong, setup_step, first_reading}
use Rattle.setup.proofs.SetupStepLaws.{line_leads_on, line_ends, line_is_wrong, unended_is_wrong}

-- what the lines from a place on give, so many lines and what they hold being behind
abbrev pub answer_from : Text → ℕ → ℕ → Reading → SetupAnswer
answer_from t at n d = read_lines (pieces newline (drop at t)) (suc n) d

-- from the first line on it is the text's setup
pub answer_from_first : (t : Text) → answer_from t 0 0 first_reading ≡ setup t
unfolding setup
answer_from_first t = refl

-- the text stops before a byte 10
pub stops_in_line : (t : Text) (at end n : ℕ) (d : Reading) → at ≤ length t → end ≡ at + piece_length newline (drop at t) → end ≡ length t →
    answer_from t at n d ≡ wrong_line (suc n)
stops_in_line t at end n d h e l =
    ap (λ (ts : List Text). read_lines ts (suc n) d) (pieces_only_from newline t at end h e l) ∙ unended_is_wrong (part t at end) (suc n) d

-- bytes behind `end`
empty_first : (ts : List Text) → 1 ≤ length ts → stops ([] ∷ ts) ≡ false
unfolding stops
empty_first [] h = let z : ⊥ = omega arith in absurd z
empty_first (u ∷ us) h = refl

prefixed : (b : ℕ) (ts : List Text) → stops (prefix_first b ts) ≡ false
unfolding stops prefix_first
prefixed b [] = refl
prefixed b (u ∷ us) = refl

more_behind : (t : Text) → 1 ≤ length t → stops (pieces newline t) ≡ false
unfolding pieces
more_behind [] h = let z : ⊥ = omega arith in absurd z
more_behind (b ∷ t) h = case (eqb b newline) (λ e. rw e (empty_first (pieces newline t) (pieces_some newline t))) (λ e. rw e (prefixed b (pieces newline t)))

nothing_behind : (t : Text) (end : ℕ) → suc end ≡ length t → stops (pieces newline (drop (suc end) t)) ≡ true
unfolding stops pieces
nothing_behind t end e = rw (drop_of_length-le t {i = suc end} (omega arith))

-- a line with its byte 10
module _ (t : Text) (at end n : ℕ) (d : Reading) (le : at ≤ length t) (is : end ≡ at + piece_length newline (drop at t)) (within : end < length t) where
  abbrev behind : List Text
  behind = pieces newline (drop (suc end) t)

  some_behind : 1 ≤ length behind
  some_behind = pieces_some newline (drop (suc end) t)

  first_of : {a : SetupAnswer} → read_lines (part t at end ∷ behind) (suc n) d ≡ a → answer_from t at n d ≡ a
  first_of e = ap (λ (ts : List Text). read_lines ts (suc n) d) (pieces_first_from newline t at end le is within) ∙ e

  pub place_leads_on : (d' : Reading) → setup_step (part t at end) d ≡ leads_on d' → answer_from t (suc end) (suc n) d' ≡ answer_from t at n d
  place_leads_on d' e = sym (first_of (line_leads_on (part t at end) behind n d d' some_behind e))

  pub place_is_wrong : setup_step (part t at end) d ≡ is_wrong → answer_from t at n d ≡ wrong_line (suc n)
  place_is_wrong e = first_of (line_is_wrong (part t at end) behind n d e)

  module _ (e : setup_step (part t at end) d ≡ ends_it) where
    ends_there : {a : SetupAnswer} → cond (stops behind) (accepted d.so_far) (wrong_line (suc (suc n))) ≡ a → answer_from t at n d ≡ a
    ends_there q = first_of (line_ends (part t at end) behind n d some_behind e ∙ q)

    -- nothing may stand behind `end`
    pub place_ends_it : suc end ≡ length t → answer_from t at n d ≡ accepted d.so_far
    place_ends_it k = ends_there (rw (nothing_behind t end k))

    pub place_ends_early : (suc end ≡ length t → ⊥) → answer_from t at n d ≡ wrong_line (suc (suc n))
    place_ends_early k =
        let more : 1 ≤ length (drop (suc end) t) = omega (arith, length-drop (suc end) t, k) in
        ends_there (rw (more_behind (drop (suc end) t) more))
