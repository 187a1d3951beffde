-- Laws of what is written into the second text: what the definitions say by cases, how long a text is, and how its pieces are written.
use Rattle.std.specs.Prelude.{◌≡◌, List, [], ◌∷◌, true, false, ℕ, ◌+◌, ◌≤◌, eqb, length, take, drop, set}
use Rattle.std.proofs.Common.{sym, ap, ◌∙◌, append_assoc, arith, length-append, length-take-le}
use Rattle.std.proofs.Math.Seq.{paste, paste-zero}
use Rattle.std.proofs.lemmas.List.Edits.{length-paste}
use Rattle.buffers.specs.Cases.{case}
use Rattle.buffers.specs.Text.{Text}
use Rattle.buffers.specs.Over.{over, Wrote}
use Rattle.buffers.specs.OverLaws.{over_paste, wrote_text, wrote_byte, wrote_both}
use Rattle.arguments.specs.declared.ArgumentKind.{ArgumentKind}
use Rattle.whole_paths.specs.WholeText.{has_text, is_short, front_length, joined_text, argument_text}

-- ---- what is written of an argument

module _ (d : Text) (k : ArgumentKind) (x : Text) where
  pub short_written : is_short k x ≡ true → argument_text d k x ≡ joined_text d x
  unfolding argument_text
  short_written e = rw e

  pub text_written : is_short k x ≡ false → has_text k ≡ true → argument_text d k x ≡ x
  unfolding argument_text
  text_written e h = rw (e, h)

  pub none_written : is_short k x ≡ false → has_text k ≡ false → argument_text d k x ≡ []
  unfolding argument_text
  none_written e h = rw (e, h)

pub front_fits : (d : Text) → front_length d ≤ length d
unfolding front_length
front_fits d = case (eqb (length d) 1) (λ e. rw e (omega arith)) (λ e. rw e (omega arith))

pub joined_length : (d x : Text) → length (joined_text d x) ≡ front_length d + 1 + length x
unfolding joined_text
joined_length d x =
    let f = length-take-le (front_length d) d (front_fits d) in
    omega (arith, length-append (take (front_length d) d) (47 ∷ x))

-- ---- how it is written

-- nothing, at any place
pub wrote_none : (b : List ℕ) (at : ℕ) → Wrote [] b at b at
wrote_none b at = record { ends = omega arith; holds = paste-zero b at [] ∙ over_paste b [] at }

-- the front of a text
wrote_front : (x b : List ℕ) (at n : ℕ) → n ≤ length x → Wrote (take n x) b at (paste b at x n) (at + n)
unfolding over
wrote_front x b at n h =
    let l = length-take-le n x h in
    record { ends = omega arith; holds = rw l (append_assoc (take at b) (take n x) (drop (at + n) b)) }

-- a directory, a `/` and a short path one behind the other
pub wrote_joined : (d x b : List ℕ) (at n : ℕ) {c e : List ℕ} → n ≡ front_length d → at + length (joined_text d x) ≤ length b
    → c ≡ paste b at d n → e ≡ paste (set c (at + n) 47) (at + n + 1) x (length x)
    → Wrote (joined_text d x) b at e (at + n + 1 + length x)
unfolding joined_text
wrote_joined d x b at n {c} {e} h fits p q =
    let j = joined_length d x in
    let f = front_fits d in
    let l : length c ≡ length b = ap length p ∙ length-paste b at d n (omega arith) (omega arith) in
    let front : Wrote (take n d) b at c (at + n) = rw p (wrote_front d b at n (omega arith)) in
    let byte = wrote_byte 47 c (at + n) (omega arith) in
    let text : Wrote x (set c (at + n) 47) (at + n + 1) e (at + n + 1 + length x) = rw q (wrote_text x (set c (at + n) 47) (at + n + 1)) in
    rw (sym h) (wrote_both front (wrote_both byte text (omega arith)) (omega arith))
