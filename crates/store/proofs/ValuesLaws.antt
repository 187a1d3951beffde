-- Bytes written over a stretch that stands behind others, and over one value among values that all take the same width.
use Rattle.std.specs.Prelude.{◌≡◌, List, [], ◌∷◌, ◌++◌, Bool, true, ℕ, zero, suc, ◌+◌, ◌*◌, ◌<◌, length, get_or, take, drop, set}
use Rattle.std.proofs.Common.{sym, ◌∙◌, ap, append_assoc, arith, mul-zero, mul-suc, length-append}
use Rattle.std.proofs.Math.Seq.{paste, take-append-add, drop-append-add}
use Rattle.buffers.specs.Cases.{and_both}
use Rattle.buffers.specs.Text.{every}
use Rattle.buffers.specs.TextLaws.{every_there}
use Rattle.buffers.specs.Fields.{all_bytes}
use Rattle.buffers.specs.PasteLaws.{paste_piece}

-- what is written behind a part leaves the part
pub paste_behind : (A R x : List ℕ) (at i n : ℕ) → length A ≡ at → paste (A ++ R) (at + i) x n ≡ A ++ paste R i x n
paste_behind A R x at i n l =
    let first : take (at + i) (A ++ R) ≡ A ++ take i R = ap (λ (k : ℕ). take (k + i) (A ++ R)) (sym l) ∙ take-append-add A R i in
    let q : at + i + n ≡ length A + (i + n) = omega arith in
    let rest : drop (at + i + n) (A ++ R) ≡ drop (i + n) R = ap (λ (k : ℕ). drop k (A ++ R)) q ∙ drop-append-add A R (i + n) in
    rw (first, rest) (simp append_assoc)

-- the bytes before the value of an index, and those behind it, whichever value stands there
record Around {A : Type 0} (f : A → List ℕ) (w : ℕ) (l : List A) (i : ℕ) (d : A) : Type 0 where
  before : List ℕ
  behind : List ℕ
  wide : length before ≡ w * i
  there : (R : List ℕ) → all_bytes f l ++ R ≡ before ++ (f (get_or l i d) ++ (behind ++ R))
  instead : (v : A) (R : List ℕ) → all_bytes f (set l i v) ++ R ≡ before ++ (f v ++ (behind ++ R))

around : {A : Type 0} (w : ℕ) (test : A → Bool) (f : A → List ℕ) → ((a : A) → test a ≡ true → length (f a) ≡ w) →
    (l : List A) (i : ℕ) (d : A) → every test l ≡ true → i < length l → Around f w l i d
unfolding every all_bytes
around w test f long [] i d h k = let z : ⊥ = omega arith in absurd z
around w test f long (a ∷ l) zero d h k = record {
  before = [];
  behind = all_bytes f l;
  wide = sym (mul-zero w);
  there = λ R. append_assoc (f a) (all_bytes f l) R;
  instead = λ v R. append_assoc (f v) (all_bytes f l) R;
}
around w test f long (a ∷ l) (suc i) d h k =
    let p = and_both (test a) (every test l) h in
    let r = around w test f long l i d p.1 (omega arith) in
    let s : w * suc i ≡ w * i + w = mul-suc w i in
    record {
      before = f a ++ r.before;
      behind = r.behind;
      wide = length-append (f a) r.before ∙ omega (arith, long a p.0, r.wide, s);
      there = λ R. append_assoc (f a) (all_bytes f l) R ∙ ap (λ (x : List ℕ). f a ++ x) (r.there R) ∙ sym (append_assoc (f a) r.before (f (get_or l i d) ++ (r.behind ++ R)));
      instead = λ v R. append_assoc (f a) (all_bytes f (set l i v)) R ∙ ap (λ (x : List ℕ). f a ++ x) (r.instead v R) ∙ sym (append_assoc (f a) r.before (f v ++ (r.behind ++ R)));
    }

-- one value written over another
pub value_replaced : {A : Type 0} (w : ℕ) (test : A → Bool) (f : A → List ℕ) → ((a : A) → test a ≡ true → length (f a) ≡ w) →
    (l : List A) (i : ℕ) (v d : A) (R : List ℕ) → every test l ≡ true → length (f v) ≡ w → i < length l →
    paste (all_bytes f l ++ R) (w * i) (f v) w ≡ all_bytes f (set l i v) ++ R
value_replaced w test f long l i v d R h e n =
    let r = around w test f long l i d h n in
    ap (λ (x : List ℕ). paste x (w * i) (f v) w) (r.there R)
    ∙ paste_piece r.before (r.behind ++ R) (f (get_or l i d)) (f v) (w * i) w r.wide (long (get_or l i d) (every_there test l i d h n)) e
    ∙ sym (r.instead v R)
