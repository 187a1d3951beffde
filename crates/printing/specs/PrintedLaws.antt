-- What is printed for an answer, as the code writes it: the line of each answer, its first bytes, and its byte 10.
use Rattle.std.specs.Prelude as code
use Rattle.std.specs.Prelude.{◌≡◌, List, [], ◌∷◌, ◌++◌, false, ℕ, ◌+◌, ◌≤◌, ◌<◌, eqb, length, take, drop, set, Ok, Err, Some, None}
use Rattle.std.proofs.Math.Path.{refl}
use Rattle.std.proofs.Common.{sym, ◌∙◌, ap, arith, zero-add, length-append, take_all, take_at, length-take-le, take-take}
use Rattle.std.proofs.Math.Seq.{paste}
use Rattle.buffers.specs.Cases.{eqb_flip}
use Rattle.buffers.specs.Text.{Text}
use Rattle.buffers.specs.Over.{Wrote}
use Rattle.buffers.specs.OverLaws.{over_paste, over_front, wrote_byte, wrote_both}
use Rattle.syntax.specs.Pieces.{bytes, comma, newline, joined}
use Rattle.syntax.specs.Number.{decimal_text, digits_before}
use Rattle.syntax.proofs.NumberLaws.{decimal_length}
use Rattle.tree.specs.declared.Cause.{Cause}
use Rattle.tree.specs.declared.Cause.TheVariants.{Missing}
use Rattle.tree.specs.Causes.{number}
use Rattle.tree.proofs.CausesLaws.{wrong_setup_is, missing_number, number_not_0}
use Rattle.tree.specs.declared.Refusal.TheVariants.{For, WrongLine}
use Rattle.shell.specs.Replies.{told}
use Rattle.listing.specs.RowListing.{WroteMost}
use Rattle.calls.specs.Program.{text_told, done_line, refused_line, call_line}
use Rattle.printing.specs.Printed.{Printed}

-- ---- the line of each answer

module _ (answer : List ℕ) where
  pub done_is : bytes "ok" ≡ call_line (told (Ok None)) answer
  unfolding call_line told done_line
  done_is = refl

  pub text_is : (n : ℕ) → bytes "ok," ++ take n answer ≡ call_line (told (Ok (Some n))) answer
  unfolding call_line told done_line text_told
  text_is n = refl

  pub refusal_is : (why : Cause) → bytes "no," ++ decimal_text (number why) ≡ call_line (told (Err (For why))) answer
  unfolding call_line told refused_line joined comma bytes
  refusal_is why = rw (number_not_0 why)

  pub wrong_line_is : (n : ℕ) → bytes "no,17," ++ decimal_text n ≡ call_line (told (Err (WrongLine n))) answer
  unfolding call_line told refused_line joined comma bytes decimal_text digits_before
  wrong_line_is n = rw wrong_setup_is

-- ---- what an answer says of its call

pub done_not_missing : false ≡ eqb (number Missing) (told (Ok None)).number
unfolding told
done_not_missing = rw missing_number

pub text_not_missing : (n : ℕ) → false ≡ eqb (number Missing) (told (Ok (Some n))).number
unfolding told
text_not_missing n = rw missing_number

-- so none that is done does
pub done_with_not_missing : (text : code.Option ℕ) → false ≡ eqb (number Missing) (told (Ok text)).number
done_with_not_missing None = done_not_missing
done_with_not_missing (Some n) = text_not_missing n

pub wrong_line_not_missing : (n : ℕ) → false ≡ eqb (number Missing) (told (Err (WrongLine n))).number
unfolding told
wrong_line_not_missing n = rw (missing_number, wrong_setup_is)

pub refusal_missing : (why : Cause) → eqb (number why) 3 ≡ eqb (number Missing) (told (Err (For why))).number
unfolding told
refusal_missing why = rw missing_number (eqb_flip (number why) 3)

-- ---- bytes written

-- what is at most so long is at most longer
pub wrote_within : {t t' : Text} {b c : List ℕ} {at r j k : ℕ} → WroteMost j t b at c r → t ≡ t' → j ≤ k → WroteMost k t' b at c r
wrote_within w e h = record { wrote = rw e at w.wrote; short = omega (arith, w.short) }

pub wrote_most : {t : Text} {b c : List ℕ} {at r : ℕ} → Wrote t b at c r → WroteMost (length t) t b at c r
wrote_most w = record { wrote = w; short = omega (arith, w.ends) }

-- the first bytes of a text copied
pub wrote_first : (t b : List ℕ) (at n : ℕ) → n < length t → WroteMost (length t) (take n t) b at (paste b at t n) (at + n)
wrote_first t b at n h =
    let l : length (take n t) ≡ n = length-take-le n t (omega arith) in
    record {
      wrote = record {
        ends = ap (λ (k : ℕ). at + k) (sym l);
        holds =
            ap (λ (x : List ℕ). (take at b ++ x) ++ drop (at + n) b) (sym (take-take n n t (omega arith)))
            ∙ ap (paste b at (take n t)) (sym l)
            ∙ over_paste b (take n t) at;
      };
      short = omega arith;
    }

-- all of them where there are no more
pub wrote_all : (t b c : List ℕ) (at n r : ℕ) → length t ≤ n → Wrote t b at c r → WroteMost (length t) (take n t) b at c r
wrote_all t b c at n r h w = rw (take_all n t h) (wrote_most w)

-- a text behind a word
pub wrote_behind : {s t : Text} {b c d : List ℕ} {m r k : ℕ} → Wrote s b 0 c m → WroteMost k t c m d r → length s + k ≤ length b
    → WroteMost (length s + k) (s ++ t) b 0 d r
wrote_behind {s} v w h =
    let n : _ = v.ends in
    record { wrote = wrote_both v w.wrote (omega (arith, w.short)); short = omega (arith, w.short) }

-- a number has at most 20 digits
pub wrote_number : {b c : List ℕ} {at n r : ℕ} → n < 18446744073709551616 → Wrote (decimal_text n) b at c r → WroteMost 20 (decimal_text n) b at c r
wrote_number {n = n} h w = record { wrote = w; short = omega (arith, w.ends, decimal_length 19 n (omega arith)) }

-- a byte behind a text that stands in front
pub printed_line : {x b c : List ℕ} {end k : ℕ} → WroteMost k x b 0 c end → length c ≡ length b → k < length b
    → Printed (x ++ (newline ∷ [])) b (set c end newline) (end + 1)
printed_line {x} {b} {c} {end} w l h =
    let v = wrote_both w.wrote (wrote_byte newline c end (omega (arith, w.short))) (omega (arith, w.short)) in
    record { long = v.ends ∙ zero-add (length (x ++ (newline ∷ []))); holds = v.holds ∙ over_front (x ++ (newline ∷ [])) b }

-- what is printed stands in the buffer
pub printed_fits : {x b c : List ℕ} {n : ℕ} → Printed x b c n → n ≤ length c
printed_fits {x} {b} p = omega (arith, p.long, ap length p.holds, length-append x (drop (length x) b))

-- and is its first bytes
pub printed_text : {x b c : List ℕ} {n : ℕ} → Printed x b c n → take n c ≡ x
printed_text {x} {b} p = rw p.holds (take_at x (drop (length x) b) _ (sym p.long))
