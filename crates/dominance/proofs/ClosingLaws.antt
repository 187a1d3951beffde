-- Rows closed pair by pair: before the pair at an index they are those of the pairs before it.
use Rattle.std.specs.Prelude.{◌≡◌, refl, List, [], ◌∷◌, ◌++◌, true, ℕ, zero, suc, ◌+◌, ◌≤◌, ◌<◌, length, get_or, take}
use Rattle.std.proofs.Common.{sym, ap, ◌∙◌, not-suc-le-zero, le_of_suc-le-suc, add-one, take-suc, take_all}
use Rattle.buffers.specs.Cases.{and_both}
use Rattle.accounts.specs.declared.Pair.{Pair}
use Rattle.accounts.specs.Dominance.{falls, all_fall}
use Rattle.accounts.specs.Closure.{rows_of, own_rows, grown_rows}
use Rattle.accounts.proofs.ClosureLaws.{own_rows_are, grown_rows_are}

-- the first pairs of a list that falls fall
first_fall : (i : ℕ) (ps : List Pair) → all_fall ps ≡ true → all_fall (take i ps) ≡ true
unfolding all_fall
first_fall zero ps h = refl
first_fall (suc i) [] h = refl
first_fall (suc i) (p ∷ ps) h = let k = and_both (falls p) (all_fall ps) h in rw k.0 (first_fall i ps k.1)

-- and so does each
pair_falls : (i : ℕ) (ps : List Pair) (d : Pair) → all_fall ps ≡ true → i < length ps → falls (get_or ps i d) ≡ true
unfolding all_fall
pair_falls i [] d h l = absurd (not-suc-le-zero l)
pair_falls zero (p ∷ ps) d h l = (and_both (falls p) (all_fall ps) h).0
pair_falls (suc i) (p ∷ ps) d h l = pair_falls i ps d (and_both (falls p) (all_fall ps) h).1 (le_of_suc-le-suc l)

module _ (ps : List Pair) where
  -- before the first pair
  pub rows_begin : (rows : List ℕ) → rows ≡ own_rows → rows ≡ rows_of (take 0 ps)
  rows_begin rows e = e ∙ own_rows_are

  -- one pair more
  pub rows_grow_on : all_fall ps ≡ true → (i : ℕ) (d : Pair) (rows more : List ℕ) → i < length ps → rows ≡ rows_of (take i ps) → more ≡ grown_rows (get_or ps i d) rows
      → more ≡ rows_of (take (i + 1) ps)
  rows_grow_on h i d rows more l e f =
      let p = get_or ps i d in
      let q : take (i + 1) ps ≡ take i ps ++ (p ∷ []) = rw (add-one i, take-suc ps i d l) in
      f ∙ ap (grown_rows p) e ∙ grown_rows_are (take i ps) p (first_fall i ps h) (pair_falls i ps d h l) ∙ ap rows_of (sym q)

  -- behind the last one
  pub rows_end : (i : ℕ) (rows : List ℕ) → length ps ≤ i → rows ≡ rows_of (take i ps) → rows ≡ rows_of ps
  rows_end i rows l e = e ∙ ap rows_of (take_all i ps l)
