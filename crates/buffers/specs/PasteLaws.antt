-- Stretches of bytes replaced: zeros byte by byte, and several pastes as one.
use Rattle.std.specs.Prelude.{◌≡◌, refl, List, [], ◌∷◌, ◌++◌, ℕ, suc, ◌+◌, ◌-◌, ◌/◌, ◌%◌, ◌≤◌, ◌<◌, length, take, drop, set, replicate}
use Rattle.std.proofs.Common.{ap, sym, ◌∙◌, append_assoc, append-nil, arith, add-one, zero-add, length-append, length-drop, drop_of_length-le, length-take-le, take-take, take_at, drop_at, drop-drop, take_all}
use Rattle.std.proofs.lemmas.List.{length-replicate, get_or-replicate, take-append-le, set_split}
use Rattle.std.proofs.Math.Seq.{paste, paste-suc}
use Rattle.std.proofs.lemmas.List.Edits.{length-paste, take-paste, drop-paste}
use Rattle.buffers.specs.Fields.{two_bytes, padded}

-- a byte more is zero
pub clear_again : (b s : List ℕ) (at n i : ℕ) → at + n ≤ length s → i < n → b ≡ paste s at (replicate n 0) i
    → set b (at + i) 0 ≡ paste s at (replicate n 0) (i + 1)
clear_again b s at n i fits h e =
    let l = length-replicate {A = ℕ} n 0 in
    let p = paste-suc s at (replicate n 0) i 0 (omega arith) (omega arith) in
    rw (e, add-one i) (rw (get_or-replicate {A = ℕ} n i 0 0 h) at p)

-- two pieces written one behind the other
pub paste_two : (s a b : List ℕ) (at n m : ℕ) → n ≤ length a → at + n + m ≤ length s
    → paste (paste s at a n) (at + n) b m ≡ take at s ++ (take n a ++ (take m b ++ drop (at + n + m) s))
paste_two s a b at n m long fits =
    let t : take (at + n) (paste s at a n) ≡ take at s ++ take n a = take-paste s at a n (omega arith) long in
    let d : drop (at + n + m) (paste s at a n) ≡ drop (at + n + m) s =
    sym (drop-drop m (at + n) (paste s at a n)) ∙ ap (drop m) (drop-paste s at a n (omega arith) long) ∙ drop-drop m (at + n) s in
    ap (λ (x : List ℕ). (x ++ take m b) ++ drop (at + n + m) (paste s at a n)) t
    ∙ ap (λ (x : List ℕ). ((take at s ++ take n a) ++ take m b) ++ x) d
    ∙ simp append_assoc

-- are one piece
pub paste_join : (s a b : List ℕ) (at n m : ℕ) → length a ≡ n → length b ≡ m → at + n + m ≤ length s
    → paste (paste s at a n) (at + n) b m ≡ paste s at (a ++ b) (n + m)
paste_join s a b at n m ea eb fits =
    let ta : take n a ≡ a = take_all n a (omega arith) in
    let tb : take m b ≡ b = take_all m b (omega arith) in
    let tab : take (n + m) (a ++ b) ≡ a ++ b = take_all (n + m) (a ++ b) (simp length-append (omega arith)) in
    let q : at + n + m ≡ at + (n + m) = omega arith in
    paste_two s a b at n m (omega arith) fits ∙ rw (ta, tb, tab, q) (simp append_assoc)

-- a piece written over one as long
pub paste_piece : (A B old new : List ℕ) (at n : ℕ) → length A ≡ at → length old ≡ n → length new ≡ n → paste (A ++ (old ++ B)) at new n ≡ A ++ (new ++ B)
paste_piece A B old new at n l e f =
    let first = take_at A (old ++ B) at l in
    let all = take_all n new (omega arith) in
    let rest : drop (at + n) (A ++ (old ++ B)) ≡ B =
    ap (drop (at + n)) (sym (append_assoc A old B)) ∙ drop_at (A ++ old) B (at + n) (length-append A old ∙ omega arith) in
    rw (first, all, rest) (append_assoc A new B)

-- the first bytes of a text, all of them written
pub paste_taken : (b s : List ℕ) (at n : ℕ) → n ≤ length s → paste b at (take n s) (length (take n s)) ≡ paste b at s n
paste_taken b s at n h =
    let l = length-take-le n s h in
    rw (l, take-take n n s (omega arith)) refl

-- and of a stretch of it
pub paste_part : (b s : List ℕ) (at from n : ℕ) → from + n ≤ length s
    → paste b at (take (from + n - from) (drop from s)) (length (take (from + n - from) (drop from s))) ≡ paste b at (drop from s) n
paste_part b s at from n h =
    let e : from + n - from ≡ n = omega arith in
    rw e (paste_taken b (drop from s) at n (omega (arith, length-drop from s)))

-- bytes written over all there were
pub paste_whole : (s x : List ℕ) (n : ℕ) → length s ≡ n → length x ≡ n → paste s 0 x n ≡ x
paste_whole s x n e f =
    ap (λ (y : List ℕ). y ++ drop (0 + n) s) (take_all n x (omega arith))
    ∙ ap (λ (y : List ℕ). x ++ y) (drop_of_length-le s {i = 0 + n} (omega arith)) ∙ append-nil x

-- a byte stored is a piece of one
pub set_paste : (s : List ℕ) (i v : ℕ) → i < length s → set s i v ≡ paste s i (v ∷ []) 1
set_paste s i v h = let e : i + 1 ≡ suc i = add-one i in set_split s i v h ∙ rw e (simp append_assoc)

-- a byte stored right behind a piece is one more of it
pub set_behind : (s a : List ℕ) (at n v : ℕ) → length a ≡ n → at + n + 1 ≤ length s
    → set (paste s at a n) (at + n) v ≡ paste s at (a ++ (v ∷ [])) (n + 1)
set_behind s a at n v e fits =
    set_paste (paste s at a n) (at + n) v (omega (arith, length-paste s at a n (omega arith) (omega arith)))
    ∙ paste_join s a (v ∷ []) at n 1 e refl fits

-- four bytes stored side by side
pub four_paste : (s : List ℕ) (at v w x y : ℕ) → at + 4 ≤ length s
    → set (set (set (set s at v) (at + 1) w) (at + 2) x) (at + 3) y ≡ paste s at (v ∷ w ∷ x ∷ y ∷ []) 4
four_paste s at v w x y fits =
    ap (λ (l : List ℕ). set (set (set l (at + 1) w) (at + 2) x) (at + 3) y) (set_paste s at v (omega arith))
    ∙ ap (λ (l : List ℕ). set (set l (at + 2) x) (at + 3) y) (set_behind s (v ∷ []) at 1 w refl (omega arith))
    ∙ ap (λ (l : List ℕ). set l (at + 3) y) (set_behind s (v ∷ w ∷ []) at 2 x refl (omega arith))
    ∙ set_behind s (v ∷ w ∷ x ∷ []) at 3 y refl (omega arith)

-- and the two of a number
pub number_paste : (s : List ℕ) (at n : ℕ) → at + 2 ≤ length s → set (set s at (n % 256)) (at + 1) (n / 256) ≡ paste s at (two_bytes n) 2
unfolding two_bytes
number_paste s at n fits =
    ap (λ (l : List ℕ). set l (at + 1) (n / 256)) (set_paste s at (n % 256) (omega arith))
    ∙ set_behind s (n % 256 ∷ []) at 1 (n / 256) refl (omega arith)

-- a text with zeros behind it is a field filled up
pub padded_paste : (s t : List ℕ) (at width : ℕ) → length t ≤ width → at + width ≤ length s
    → paste (paste s at t (length t)) (at + length t) (replicate (width - length t) 0) (width - length t) ≡ paste s at (padded width t) width
unfolding padded
padded_paste s t at width h fits =
    let n = length t in
    let q : n + (width - n) ≡ width = omega arith in
    paste_join s t (replicate (width - n) 0) at n (width - n) refl (length-replicate (width - n) 0) (omega arith)
    ∙ ap (paste s at (t ++ replicate (width - n) 0)) q

-- a stretch moved up by g bytes, and the gap filled
pub gap_filled : (b s : List ℕ) (i g m : ℕ) → i + g + m ≤ length b
    → paste (paste b (i + g) (drop i b) m) i s g ≡ take i b ++ (take g s ++ (take m (drop i b) ++ drop (i + g + m) b))
gap_filled b s i g m fits =
    let M = take m (drop i b) in
    let R = M ++ drop (i + g + m) b in
    let l : length (take (i + g) b) ≡ i + g = length-take-le (i + g) b (omega arith) in
    let p : paste b (i + g) (drop i b) m ≡ take (i + g) b ++ R = append_assoc (take (i + g) b) M (drop (i + g + m) b) in
    let t : take i (take (i + g) b ++ R) ≡ take i b = take-append-le i (take (i + g) b) R (omega arith) ∙ take-take i (i + g) b (omega arith) in
    let d : drop (i + g) (take (i + g) b ++ R) ≡ R = drop_at (take (i + g) b) R (i + g) l in
    ap (λ (l : List ℕ). paste l i s g) p
    ∙ ap (λ (l : List ℕ). (l ++ take g s) ++ drop (i + g) (take (i + g) b ++ R)) t
    ∙ ap (λ (l : List ℕ). (take i b ++ take g s) ++ l) d
    ∙ append_assoc (take i b) (take g s) R

-- bytes that were written in front of others, then written from there, are those bytes
pub held_paste : (b held z x : List ℕ) (at n : ℕ) → held ≡ paste z 0 x n → n ≤ length x → paste b at held n ≡ paste b at x n
held_paste b held z x at n e k =
    ap (λ (w : List ℕ). take at b ++ w ++ drop (at + n) b)
    (ap (take n) e ∙ ap (λ (k : ℕ). take k (paste z 0 x n)) (sym (zero-add n)) ∙ take-paste z 0 x n (omega arith) k)
