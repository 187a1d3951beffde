-- Names written over an answer, one by one: each behind a comma but the first.
use Rattle.std.specs.Prelude.{◌≡◌, refl}
use Rattle.std.proofs.Common.{sym, ◌∙◌, arith}
use Rattle.std.proofs.Math.Path.{ap}
use mathlib.Core.List.{List, [], ◌∷◌, ◌++◌, append_assoc}
use Prim.Native.Nat.{ℕ, suc, ◌+◌, ◌-◌, ◌≤◌}
use Rattle.std.proofs.Math.Numerals.{add-one}
use Rattle.std.proofs.Math.ListN.{length, set, drop, length-append}
use Rattle.buffers.specs.Text.{Text}
use Rattle.buffers.specs.Over.{over}
use Rattle.buffers.specs.OverLaws.{over_byte, over_more}
use Rattle.syntax.specs.Pieces.{comma, joined}
use Rattle.walks.specs.NamesWritten.{next_place, NamesWritten}

-- what is joined, part by part
regroup_joined : (n : Text) (c : ℕ) (t m : Text) → n ++ (c ∷ ((t ++ (c ∷ [])) ++ m)) ≡ ((n ++ (c ∷ t)) ++ (c ∷ [])) ++ m
regroup_joined n c t m = simp append_assoc

-- one more text joined to others
joined_behind : (c : ℕ) (n : Text) (ns : List Text) (m : Text) → joined c ((n ∷ ns) ++ (m ∷ [])) ≡ (joined c (n ∷ ns) ++ (c ∷ [])) ++ m
unfolding joined
joined_behind c n [] m = sym (append_assoc n (c ∷ []) m)
joined_behind c n (q ∷ qs) m =
    ap (λ (l : Text). n ++ (c ∷ l)) (joined_behind c q qs m)
    ∙ regroup_joined n c (joined c (q ∷ qs)) m

module _ (a b z : List ℕ) (m : Text) (place : ℕ) where
  -- the first name is written without a comma
  pub named_first : (ns : List Text) → NamesWritten a ns b place → place ≡ 0 → z ≡ over 0 m b → NamesWritten a (ns ++ (m ∷ [])) z (length m + 1)
  unfolding next_place joined
  named_first [] v h e = record { holds = e ∙ rw v.holds (over_more [] m a); next = add-one (length m) }
  named_first (n ∷ ns) v h e = let x : ⊥ = omega (arith, v.next) in absurd x

  -- another behind a comma
  pub named_more : (ns : List Text) → NamesWritten a ns b place → (place ≡ 0 → ⊥) → place ≤ length b → z ≡ over place m (set b (place - 1) 44)
      → NamesWritten a (ns ++ (m ∷ [])) z (place + length m + 1)
  unfolding next_place comma
  named_more [] v h l e = absurd (h v.next)
  named_more (n ∷ ns) v h l e =
      let t = joined 44 (n ∷ ns) in
      let u = t ++ (44 ∷ []) in
      let p : place - 1 ≡ length t = omega (arith, v.next) in
      let q : place ≡ length u = omega (arith, v.next, length-append t (44 ∷ [])) in
      let first : set b (place - 1) 44 ≡ u ++ drop (length u) a =
      over_byte b (place - 1) 44 (omega (arith, v.next)) ∙ rw (p, v.holds) (over_more t (44 ∷ []) a) in
      let all = joined_behind 44 n ns m in
      record {
        holds = e ∙ rw (first, all, q) (over_more u m a);
        next = ap (λ (k : ℕ). k + length m + 1) q ∙ add-one (length u + length m) ∙ ap suc (sym (length-append u m) ∙ ap length (sym all));
      }

-- no name is written yet
pub named_nothing : (a : List ℕ) → NamesWritten a [] a 0
unfolding next_place joined
named_nothing a = record { holds = refl; next = refl }

-- the bytes of the names are those before the comma of the next
pub named_length : (ns : List Text) → length (joined comma ns) ≡ next_place ns - 1
unfolding next_place joined
named_length [] = refl
named_length (n ∷ ns) = omega arith
