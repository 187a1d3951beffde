-- What each answer hands over, and that a call whose answer is told hands over what it tells.
use Rattle.std.specs.Prelude.{◌≡◌, refl, ℕ, Ok, Err, Some, None}
use Rattle.std.proofs.Common.{◌∙◌, ap}
use Rattle.tree.specs.declared.Cause.{Cause}
use Rattle.tree.specs.Causes.{number}
use Rattle.tree.proofs.CausesLaws.{wrong_setup_is}
use Rattle.tree.specs.declared.Refusal.TheVariants.{For, WrongLine}
use Rattle.shell.specs.Replies.{Told, told, Answer}
use Rattle.exports.specs.Exported.{no_value, value_told, HandedOver}

-- ---- one answer

pub done_number : (told (Ok None)).number ≡ 0
unfolding told
done_number = refl

pub text_number : (n : ℕ) → (told (Ok (Some n))).number ≡ 0
unfolding told
text_number n = refl

pub refused_number : (why : Cause) → (told (Err (For why))).number ≡ number why
unfolding told
refused_number why = refl

pub wrong_number : (n : ℕ) → (told (Err (WrongLine n))).number ≡ 17
unfolding told
wrong_number n = wrong_setup_is

pub done_value : value_told (told (Ok None)).values ≡ 18446744073709551615
unfolding told value_told no_value
done_value = refl

pub text_value : (n : ℕ) → value_told (told (Ok (Some n))).values ≡ n
unfolding told value_told
text_value n = refl

pub refused_value : (why : Cause) → value_told (told (Err (For why))).values ≡ 18446744073709551615
unfolding told value_told no_value
refused_value why = refl

pub wrong_value : (n : ℕ) → value_told (told (Err (WrongLine n))).values ≡ n
unfolding told value_told
wrong_value n = refl

-- ---- a call

pub hands_over : (r : Answer) {t : Told} {n v : ℕ} → told r ≡ t → n ≡ (told r).number → v ≡ value_told (told r).values → HandedOver t n v
hands_over r e p q = record {
  is_number = p ∙ ap (λ (x : Told). x.number) e;
  is_value = q ∙ ap (λ (x : Told). value_told x.values) e;
}
