-- The pairs that bytes say, one by one, and in front of others in a list.
use Rattle.std.specs.Prelude.{◌≡◌, List, [], ◌∷◌, ◌++◌, ℕ, zero, suc, ◌+◌, ◌-◌, ◌*◌, ◌<◌, get_or, set, take, drop, replicate}
use Rattle.std.proofs.Common.{sym, ap, ◌∙◌, append_assoc, arith, add-one, get_or-take, get_or-drop, take_at}
use Rattle.std.proofs.lemmas.List.{set_at}
use Rattle.buffers.specs.Fields.{all_from}
use Rattle.buffers.specs.TableLaws.{length_all_from}
use Rattle.accounts.specs.declared.Pair.{Pair}
use Rattle.accounts.specs.PairBytes.{pair_of, no_pair}
use Rattle.dominance.specs.PairsIn.{pairs_in}

-- a pair of its two bytes
abbrev pair_by : ℕ → ℕ → Pair
pair_by s j = record { senior = record { 0 = s }; junior = record { 0 = j } }

pair_by_same : {s s' j j' : ℕ} → s ≡ s' → j ≡ j' → pair_by s j ≡ pair_by s' j'
pair_by_same e f = λ i. pair_by (e i) (f i)

-- one pair more
pairs_more : (n : ℕ) (b : List ℕ) → pairs_in (suc n) b ≡ pairs_in n b ++ (pair_by (get_or b (2 * n) 0) (get_or b (2 * n + 1) 0) ∷ [])
unfolding all_from pair_of
pairs_more zero b = λ i. pair_by_same (get_or-take 2 b 0 0 (omega arith)) (get_or-take 2 b 1 0 (omega arith)) i ∷ []
pairs_more (suc n) b =
    let e : 2 + 2 * n ≡ 2 * suc n = omega arith in
    let f : 2 + (2 * n + 1) ≡ 2 * suc n + 1 = omega arith in
    let p = pair_of (take 2 b) in
    ap (λ (ps : List Pair). p ∷ ps) (pairs_more n (drop 2 b)
    ∙ ap (λ (q : Pair). pairs_in n (drop 2 b) ++ (q ∷ []))
    (pair_by_same (get_or-drop 2 b (2 * n) 0 ∙ ap (λ (k : ℕ). get_or b k 0) e) (get_or-drop 2 b (2 * n + 1) 0 ∙ ap (λ (k : ℕ). get_or b k 0) f)))

-- the pair at n stored behind the first n, in place of one that is not there
pub pair_stored : (b : List ℕ) (n : ℕ) (all : List Pair) → n < 28 → all ≡ pairs_in n b ++ replicate (28 - n) no_pair →
    set all n (pair_by (get_or b (2 * n) 0) (get_or b (2 * n + 1) 0)) ≡ pairs_in (n + 1) b ++ replicate (28 - (n + 1)) no_pair
pair_stored b n all l are =
    let p = pair_by (get_or b (2 * n) 0) (get_or b (2 * n + 1) 0) in
    let others : List Pair = replicate (28 - suc n) no_pair in
    let e : 28 - n ≡ suc (28 - suc n) = omega arith in
    rw (are, e, add-one n) (set_at (pairs_in n b) no_pair others p n (length_all_from 2 pair_of n b)
    ∙ sym (append_assoc (pairs_in n b) (p ∷ []) others) ∙ ap (λ (ps : List Pair). ps ++ others) (sym (pairs_more n b)))

-- the first n of such a list
pub pairs_in_front : (b : List ℕ) (n : ℕ) (others : List Pair) → take n (pairs_in n b ++ others) ≡ pairs_in n b
pairs_in_front b n others = take_at (pairs_in n b) others n (length_all_from 2 pair_of n b)
