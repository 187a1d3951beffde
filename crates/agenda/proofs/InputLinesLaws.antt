-- What has been read and what follows it are cut as the whole input is: setup and commands, and the next command line.
use Rattle.std.specs.Prelude.{◌≡◌, refl, List, [], ◌∷◌, ◌++◌, Bool, true, false, cond, eqb, ltb}
use Rattle.std.proofs.Common.{◌∙◌, arith, drop_of_length-le, take_all}
use Rattle.std.proofs.Math.Path.{ap, ap₂}
use Prim.Native.Nat.{ℕ, suc, ◌+◌, ◌-◌, ◌≤◌, ◌<◌}
use borrow.Author.Tests.{lt-ltb, le-ltb, ltb-true, ltb-false}
use Rattle.std.proofs.Math.ListN.{length, take, drop, length-drop}
use Rattle.std.proofs.Math.Seq.{drop-drop}
use Rattle.buffers.specs.Cases.{case}
use Rattle.buffers.specs.Text.{Text}
use Rattle.syntax.specs.Pieces.{newline, prefix_first, pieces, piece_length}
use Rattle.syntax.specs.Parts.{part}
use Rattle.syntax.proofs.PartsLaws.{pieces_some, pieces_only_from, piece_end_le}
use Rattle.calls.specs.Transcript.{command_lines}
use Rattle.agenda.specs.declared.NextLine.TheVariants.{Line, Last, More, Nothing}
use Rattle.agenda.specs.InputLines.{next_line}

-- ---- the next line, as the code finds it

module _ (t : Text) (at end : ℕ) (ended : Bool) (is : end ≡ at + piece_length newline (drop at t)) where
  -- a byte 10 ends it
  pub line_ends : end < length t → Line end ≡ next_line t at ended
  unfolding next_line
  line_ends h = rw (← is, lt-ltb end (length t) h)

  module _ (unended : length t ≤ end) where
    -- without one it is the last, where something is left
    pub line_is_last : at < length t → ended ≡ true → Last ≡ next_line t at ended
    unfolding next_line
    line_is_last h e = rw (← is, le-ltb end (length t) unended, e, lt-ltb at (length t) h)

    -- else there is none
    pub line_is_none : length t ≤ at → ended ≡ true → Nothing ≡ next_line t at ended
    unfolding next_line
    line_is_none h e = rw (← is, le-ltb end (length t) unended, e, le-ltb at (length t) h)

    -- and before the input's end it is not over
    pub line_goes_on : ended ≡ false → More ≡ next_line t at ended
    unfolding next_line
    line_goes_on e = rw (← is, le-ltb end (length t) unended, e)

-- ---- texts

-- a text with a byte 10, whatever follows it, begins with its first line
pieces_with_rest : (b : ℕ) (t rest : Text) → piece_length b t < length t →
    pieces b (t ++ rest) ≡ take (piece_length b t) t ∷ pieces b (drop (suc (piece_length b t)) t ++ rest)
unfolding piece_length pieces prefix_first
pieces_with_rest b [] rest h = let z : ⊥ = omega arith in absurd z
pieces_with_rest b (c ∷ t) rest h = case (eqb c b)
    (λ e. rw e)
    (λ e. let k : suc (piece_length b t) < suc (length t) = rw e at h in rw (e, pieces_with_rest b t rest (omega arith)))

-- ---- the command lines of the input

-- what the tests of the next line were, by what it is
was_line : (b d s : Bool) (end e : ℕ) → cond b (Line end) (cond d (cond s Last Nothing) More) ≡ Line e → (b ≡ true) × (end ≡ e)
was_line true d s end e h = (refl, cc)
was_line false true true end e h = (cc, cc)
was_line false true false end e h = (cc, cc)
was_line false false s end e h = (cc, cc)

was_last : (b d s : Bool) (end : ℕ) → cond b (Line end) (cond d (cond s Last Nothing) More) ≡ Last → (b ≡ false) × (d ≡ true) × (s ≡ true)
was_last true d s end h = (cc, cc, cc)
was_last false true true end h = (refl, refl, refl)
was_last false true false end h = (cc, cc, cc)
was_last false false s end h = (cc, cc, cc)

was_none : (b d s : Bool) (end : ℕ) → cond b (Line end) (cond d (cond s Last Nothing) More) ≡ Nothing → (d ≡ true) × (s ≡ false)
was_none true d s end h = (cc, cc)
was_none false true true end h = (cc, cc)
was_none false true false end h = (refl, refl)
was_none false false s end h = (cc, cc)

was_more : (b d s : Bool) (end : ℕ) → cond b (Line end) (cond d (cond s Last Nothing) More) ≡ More → (b ≡ false) × (d ≡ false)
was_more true d s end h = (cc, cc)
was_more false true true end h = (cc, cc)
was_more false true false end h = (cc, cc)
was_more false false s end h = (refl, refl)

first_command : (p : Text) (ps : List Text) → 1 ≤ length ps → command_lines (p ∷ ps) ≡ p ∷ command_lines ps
unfolding command_lines
first_command p [] h = let z : ⊥ = omega arith in absurd z
first_command [] (q ∷ ps) h = refl
first_command (b ∷ p) (q ∷ ps) h = refl

only_command : (p : Text) → 1 ≤ length p → command_lines (p ∷ []) ≡ p ∷ []
unfolding command_lines
only_command [] h = let z : ⊥ = omega arith in absurd z
only_command (b ∷ p) h = refl

-- a text from a place on without a byte 10 is one piece
one_piece : (t : Text) (at : ℕ) → at ≤ length t → length t ≤ at + piece_length newline (drop at t) → pieces newline (drop at t) ≡ drop at t ∷ []
unfolding part
one_piece t at h l =
    let e : length t ≡ at + piece_length newline (drop at t) = omega (arith, piece_end_le newline t at h) in
    let all : take (length t - at) (drop at t) ≡ drop at t = take_all (length t - at) (drop at t) (omega (arith, length-drop at t)) in
    pieces_only_from newline t at (length t) h e refl ∙ ap (λ (x : Text). x ∷ []) all

module _ (t : Text) (at : ℕ) (ended : Bool) where
  -- a line that ends at a byte 10 is the next piece, whatever follows what has been read
  pub line_is_piece : (rest : Text) (e : ℕ) → next_line t at ended ≡ Line e →
      (at ≤ e) × (e < length t) × (pieces newline (drop at t ++ rest) ≡ part t at e ∷ pieces newline (drop (suc e) t ++ rest))
  unfolding next_line part
  line_is_piece rest e h =
      let u = drop at t in
      let n = piece_length newline u in
      let w = was_line (ltb (at + n) (length t)) ended (ltb at (length t)) (at + n) e h in
      let i : at + n < length t = ltb-true (at + n) (length t) w.0 in
      let s : n < length u = omega (arith, length-drop at t) in
      let m : n ≡ e - at = omega (arith, w.1) in
      let k : at + suc n ≡ suc e = omega (arith, w.1) in
      let d : drop (suc n) u ≡ drop (suc e) t = drop-drop (suc n) at t ∙ ap (λ (x : ℕ). drop x t) k in (
        omega (arith, w.1),
        omega (arith, w.1),
        pieces_with_rest newline u rest s ∙ ap₂ (λ (x : ℕ) (y : Text). take x u ∷ pieces newline (y ++ rest)) m d,
      )

  -- so it is the next command
  pub next_is_line : (rest : Text) (e : ℕ) → next_line t at ended ≡ Line e →
      (at ≤ e) × (e < length t)
      × (command_lines (pieces newline (drop at t ++ rest)) ≡ part t at e ∷ command_lines (pieces newline (drop (suc e) t ++ rest)))
  next_is_line rest e h =
      let p = line_is_piece rest e h in
      let r = drop (suc e) t ++ rest in
      (p.0, p.1, ap command_lines p.2 ∙ first_command (part t at e) (pieces newline r) (pieces_some newline r))

  -- the last line is all that is left, where the input has ended
  pub next_is_last : next_line t at ended ≡ Last →
      (ended ≡ true) × (at < length t) × (pieces newline (drop at t) ≡ drop at t ∷ [])
      × (command_lines (pieces newline (drop at t)) ≡ drop at t ∷ [])
  unfolding next_line
  next_is_last h =
      let n = at + piece_length newline (drop at t) in
      let w = was_last (ltb n (length t)) ended (ltb at (length t)) n h in
      let l : at < length t = ltb-true at (length t) w.2 in
      let o = one_piece t at (omega arith) (omega (arith, ltb-false n (length t) w.0)) in
      (w.1, l, o, ap command_lines o ∙ only_command (drop at t) (omega (arith, length-drop at t)))

  -- nothing is no line, where the input has ended
  pub next_is_none : next_line t at ended ≡ Nothing →
      (ended ≡ true) × (length t ≤ at) × (command_lines (pieces newline (drop at t)) ≡ [])
  unfolding next_line command_lines pieces
  next_is_none h =
      let n = at + piece_length newline (drop at t) in
      let w = was_none (ltb n (length t)) ended (ltb at (length t)) n h in
      let l : length t ≤ at = omega (arith, ltb-false at (length t) w.1) in
      (w.0, l, rw (drop_of_length-le t l))

  -- where more must be read, the input has not ended and no byte 10 is left
  pub next_is_more : at ≤ length t → next_line t at ended ≡ More →
      (ended ≡ false) × (piece_length newline (drop at t) ≡ length (drop at t)) × (pieces newline (drop at t) ≡ drop at t ∷ [])
  unfolding next_line
  next_is_more le h =
      let n = at + piece_length newline (drop at t) in
      let w = was_more (ltb n (length t)) ended (ltb at (length t)) n h in
      let l : length t ≤ n = omega (arith, ltb-false n (length t) w.0) in
      (w.1, omega (arith, length-drop at t, piece_end_le newline t at le), one_piece t at le l)

-- a text without a byte 10 begins the first piece of what follows it
pub pieces_glue : (b : ℕ) (x rest p : Text) (ps : List Text) → piece_length b x ≡ length x → pieces b rest ≡ p ∷ ps → pieces b (x ++ rest) ≡ (x ++ p) ∷ ps
unfolding piece_length pieces prefix_first
pieces_glue b [] rest p ps h e = e
pieces_glue b (c ∷ x) rest p ps h e = case (eqb c b)
    (λ q. let k : 0 ≡ suc (length x) = rw q at h in let z : ⊥ = omega arith in absurd z)
    (λ q. let k : suc (piece_length b x) ≡ suc (length x) = rw q at h in rw (q, pieces_glue b x rest p ps (omega arith) e))

-- a piece with a byte is a command, whatever follows
pub command_first : (p : Text) (ps : List Text) → 1 ≤ length p → command_lines (p ∷ ps) ≡ p ∷ command_lines ps
unfolding command_lines
command_first p [] h = only_command p h
command_first p (q ∷ ps) h = first_command p (q ∷ ps) (omega arith)
