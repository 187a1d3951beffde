-- Laws of joined texts: cut again they are the same texts, and how long they are.
use Rattle.std.specs.Prelude.{◌≡◌, refl, List, [], ◌∷◌, ◌++◌, true, false, not, ℕ, suc, ◌+◌, ◌*◌, ◌≤◌, eqb, leb, length}
use Rattle.std.proofs.Common.{mul-one, mul-suc, arith, eq-eqb, leb-true, length-append}
use Rattle.std.proofs.lemmas.Bool.{not-true}
use Rattle.buffers.specs.Cases.{and_both}
use Rattle.buffers.specs.Text.{Text, every, lacks}
use Rattle.syntax.specs.Pieces.{prefix_first, pieces, joined}

-- the head and the rest of a text without a byte
lacks_both : (b c : ℕ) (t : Text) → lacks b (c ∷ t) ≡ true → (eqb c b ≡ false) × (lacks b t ≡ true)
unfolding lacks every
lacks_both b c t h = let i : _ = and_both (not (eqb c b)) (lacks b t) h in (not-true (eqb c b) i.0, i.1)

-- a text without separators is one piece
pieces_one : (b : ℕ) (p : Text) → lacks b p ≡ true → pieces b p ≡ p ∷ []
unfolding pieces prefix_first
pieces_one b [] h = refl
pieces_one b (c ∷ p) h = let i : _ = lacks_both b c p h in rw (i.0, pieces_one b p i.1)

-- and before a separator it is the first
pub pieces_before : (b : ℕ) (p t : Text) → lacks b p ≡ true → pieces b (p ++ (b ∷ t)) ≡ p ∷ pieces b t
unfolding pieces prefix_first
pieces_before b [] t h = rw (eq-eqb b b refl)
pieces_before b (c ∷ p) t h = let i : _ = lacks_both b c p h in rw (i.0, pieces_before b p t i.1)

-- texts without the separator, joined by it and cut again, are the same texts
pub pieces_joined : (b : ℕ) (p : Text) (ps : List Text) → every (lacks b) (p ∷ ps) ≡ true → pieces b (joined b (p ∷ ps)) ≡ p ∷ ps
unfolding joined every
pieces_joined b p [] h = pieces_one b p (and_both (lacks b p) true h).0
pieces_joined b p (q ∷ ps) h =
    let i : _ = and_both (lacks b p) (every (lacks b) (q ∷ ps)) h in
    rw (pieces_before b p (joined b (q ∷ ps)) i.0, pieces_joined b q ps i.1)

-- a joined text is as long as its pieces and the separators
pub joined_one : (b : ℕ) (p : Text) → length (joined b (p ∷ [])) ≡ length p
unfolding joined
joined_one b p = refl

pub joined_more : (b : ℕ) (p q : Text) (ps : List Text) → length (joined b (p ∷ (q ∷ ps))) ≡ length p + suc (length (joined b (q ∷ ps)))
unfolding joined
joined_more b p q ps = length-append p (b ∷ joined b (q ∷ ps))

-- pieces of at most k bytes, joined, with one separator more, have at most k + 1 bytes each
pub joined_length : (b k : ℕ) (p : Text) (ps : List Text) → every (λ t. leb (length t) k) (p ∷ ps) ≡ true →
    suc (length (joined b (p ∷ ps))) ≤ suc k * length (p ∷ ps)
unfolding every
joined_length b k p [] h =
    let i : _ = leb-true (length p) k (and_both (leb (length p) k) true h).0 in
    rw (joined_one b p, mul-one (suc k)) (omega arith)
joined_length b k p (q ∷ ps) h =
    let i : _ = and_both (leb (length p) k) (every (λ t. leb (length t) k) (q ∷ ps)) h in
    rw (joined_more b p q ps, mul-suc (suc k) (length (q ∷ ps)))
    (omega (arith, leb-true (length p) k i.0, joined_length b k q ps i.1))
