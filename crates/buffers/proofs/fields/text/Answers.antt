-- `buffers::fields::text` meets its contract: a text ends at the first zero of its field, or with it.
use Rattle.std.proofs.Common.{◌≡◌, ℕ, suc, List, [], ◌∷◌, ◌+◌, ◌-◌, Some, None, Bool, arith, take, drop, length, refl, ◌∙◌, ap, sym, ltb-false, nat_lt}
use Rattle.std.specs.List.{position, position_or_len}
use lib.Seq.{take_all}
use lib.Dec.{eqb}
use Rattle.buffers.specs.Cases.{case}
use Rattle.buffers.specs.Fields.{text_at, unpadded}
use Rattle.buffers.proofs.fields.text.Goals as goal

abbrev is_end : ℕ → Bool
is_end b = eqb b 0

up_to_zero : (l : List ℕ) → take (position_or_len is_end l) l ≡ unpadded l
unfolding unpadded
up_to_zero [] = refl
up_to_zero (x ∷ l) = case (eqb x 0) (λ e. rw e refl) (λ e.
    let n : 1 + position_or_len is_end l ≡ suc (position_or_len is_end l) = omega arith in
    rw e (ap (λ (k : ℕ). take k (x ∷ l)) n ∙ ap (λ (r : List ℕ). x ∷ r) (up_to_zero l)))

ended : (l : List ℕ) (end : ℕ) → Some end ≡ position is_end l → take end l ≡ unpadded l
ended l end e = case (nat_lt (position_or_len is_end l) (length l))
    (λ t. let h : Some end ≡ Some (position_or_len is_end l) = rw t at e in
    let i : end ≡ position_or_len is_end l = cc in rw i (up_to_zero l))
    (λ f. let h : Some end ≡ None = rw f at e in cc)

unended : (l : List ℕ) → None ≡ position is_end l → l ≡ unpadded l
unended l e = case (nat_lt (position_or_len is_end l) (length l))
    (λ t. let h : None ≡ Some (position_or_len is_end l) = rw t at e in cc)
    (λ f. sym (take_all (position_or_len is_end l) l (ltb-false (position_or_len is_end l) (length l) f)) ∙ up_to_zero l)

-- the field, as the slice of it is written
fits : (s : List ℕ) (at width : ℕ) → take (at + width - at) (drop at s) ≡ take width (drop at s)
fits s at width = let n : at + width - at ≡ width = omega arith in ap (λ (k : ℕ). take k (drop at s)) n

pub returns-in-Some : goal.returns-in-Some
unfolding text_at
returns-in-Some c =
    let a = c.args in
    ended (take (a.at + a.width - a.at) (drop a.at a.s.now)) c.in-Some.end c.in-Some.ensures.value ∙ ap unpadded (fits a.s.now a.at a.width)

pub returns-in-None : goal.returns-in-None
unfolding text_at
returns-in-None c =
    let a = c.args in
    unended (take (a.at + a.width - a.at) (drop a.at a.s.now)) c.in-None.ensures.value ∙ ap unpadded (fits a.s.now a.at a.width)
