-- A read changes nothing of what a run of the program has still to print, and takes a turn off those that are due.
use Rattle.std.specs.Prelude.{◌≡◌, [], ◌∷◌, ◌++◌, Bool, false, ℕ, zero, suc, ◌+◌, ◌-◌, ◌≤◌, ◌<◌, eqb, take, drop}
use Rattle.std.proofs.Math.Path.{refl, ap}
use Rattle.std.proofs.Common.{◌∙◌, append_assoc, arith, eqb-true, length-drop, take_at, length-take-le}
use Rattle.std.proofs.Math.Bool.{cond}
use Rattle.std.proofs.lemmas.Bool.{eqb-false}
use Rattle.std.proofs.Math.ListN.{length, length-append}
use Rattle.std.proofs.Math.Seq.{drop-nil}
use Rattle.buffers.specs.Cases.{case}
use Rattle.buffers.specs.Text.{Text}
use Rattle.agenda.specs.declared.Phase.{Phase}
use Rattle.agenda.specs.declared.Phase.TheVariants.{Setup, Lines, Listing}
use Rattle.agenda.specs.declared.Next.TheVariants.{Read}
use Rattle.agenda.proofs.AgendaLaws.{read_held}
use Rattle.agenda.specs.Conversation.{Talk, kept, ahead, given, read_to, read_on, turned}
use Rattle.agenda.specs.Due.{due_in, due, busy, turns_due, Ready, Talking, Prints}

-- ---- what a read gives

given_rest : (n m : ℕ) (l : Text) → take n (take m l) ++ drop (length (take n (take m l))) l ≡ l
given_rest zero m l = refl
given_rest (suc n) zero l = refl
given_rest (suc n) (suc m) [] = refl
given_rest (suc n) (suc m) (x ∷ l) = ap (λ (r : Text). x ∷ r) (given_rest n m l)

given_room : (n m : ℕ) (l : Text) → length (take n (take m l)) ≤ m
given_room zero m l = omega arith
given_room (suc n) zero l = omega arith
given_room (suc n) (suc m) [] = omega arith
given_room (suc n) (suc m) (x ∷ l) = omega (arith, given_room n m l)

-- nothing only where nothing is left
given_none : (n m : ℕ) (l : Text) → 1 ≤ m → length (given n m l) ≡ 0 → l ≡ []
given_none n zero l h e = let z : ⊥ = omega arith in absurd z
given_none n (suc m) [] h e = refl
given_none n (suc m) (x ∷ l) h e = let z : ⊥ = omega arith in absurd z

-- a turn more only behind a read that gave something
at_most : (g : ℕ) → cond (eqb g 0) 0 1 ≤ g
at_most g = case (eqb g 0)
    (λ e. rw e (omega arith))
    (λ e. let n = eqb-false g 0 e in rw e (omega (arith, n)))

-- ---- a run after it

module _ (s : Talk) (h : Talking s) (unended : s.at.ended ≡ false) (room : s.at.to - s.at.from < 65536) where
  got : Text
  got = given (s.sizes 0) (length s.window - (s.at.to - s.at.from)) s.unread

  kept_length : length (kept s.at s.window) ≡ s.at.to - s.at.from
  kept_length =
      omega (arith, length-drop s.at.from (take s.at.to s.window), length-take-le s.at.to s.window h.held.within)

  got_fits : (s.at.to - s.at.from) + length got ≤ length s.window
  unfolding got
  got_fits =
      let g = given_room (suc (s.sizes 0)) (length s.window - (s.at.to - s.at.from)) s.unread in
      omega (arith, g, h.held.wide)

  got_rest : got ++ drop (length got) s.unread ≡ s.unread
  unfolding got
  got_rest = given_rest (suc (s.sizes 0)) (length s.window - (s.at.to - s.at.from)) s.unread

  got_none : length got ≡ 0 → s.unread ≡ []
  unfolding got
  got_none e = given_none (s.sizes 0) (length s.window - (s.at.to - s.at.from)) s.unread (omega (arith, h.held.wide)) e

  abbrev after : Talk
  after = read_to s got

  front_length : length (kept s.at s.window ++ got) ≡ (s.at.to - s.at.from) + length got
  front_length = length-append (kept s.at s.window) got ∙ ap (λ (n : ℕ). n + length got) kept_length

  same_ahead : ahead after.at after.window after.unread ≡ ahead s.at s.window s.unread
  same_ahead =
      let k = kept s.at s.window in
      ap (λ (x : Text). x ++ drop (length got) s.unread)
      (take_at (k ++ got) (drop (length (k ++ got)) s.window) ((s.at.to - s.at.from) + length got) front_length)
      ∙ append_assoc k got (drop (length got) s.unread)
      ∙ ap (λ (x : Text). k ++ x) got_rest

  same_width : length after.window ≡ length s.window
  same_width =
      let f = kept s.at s.window ++ got in
      omega (arith, length-append f (drop (length f) s.window), length-drop (length f) s.window, front_length, got_fits)

  still_ready : (p : Phase) → Ready s p → Ready after p
  still_ready (Setup kind lines) r = r
  still_ready Lines r = tt
  still_ready (Listing n) r = tt

  read_talking : Talking after
  read_talking = record {
    held = rw same_width (read_held s.at (length s.window) (length got) h.held got_fits);
    over = λ e. ap (drop (length got)) (got_none (eqb-true (length got) 0 e)) ∙ drop-nil (length got);
    ready = still_ready s.at.phase h.ready;
  }

  same_due_in : (p : Phase) → due_in after p ≡ due_in s p
  unfolding due_in
  same_due_in (Setup kind lines) = rw same_ahead
  same_due_in Lines = rw same_ahead
  same_due_in (Listing n) = refl

  fewer : turns_due after.at (length after.unread) < turns_due s.at (length s.unread)
  unfolding busy
  fewer =
      let l = ap length got_rest in
      let a = length-append got (drop (length got) s.unread) in
      let one = ap (λ (b : Bool). cond {A = ℕ} b 0 1) unended in
      omega (arith, l, a, one, at_most (length got))

  -- so a turn that reads prints what is due
  pub read_prints : (f : Talk → Text) (m : ℕ) → Prints f m → turns_due s.at (length s.unread) ≤ suc m → turned f s Read ≡ due s
  unfolding turned read_on due got
  read_prints f m others c = others after read_talking (omega (arith, fewer)) ∙ same_due_in s.at.phase
