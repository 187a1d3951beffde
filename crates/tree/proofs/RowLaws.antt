-- A tree is read back from its rows; there are as many as it has nodes, and none lies deeper than the tree is high.
use Rattle.std.specs.Prelude.{◌≡◌, refl, List, [], ◌∷◌, ◌++◌, Bool, true, false, ℕ, suc, ◌+◌, ◌≤◌, eqb, leb, length}
use Rattle.std.proofs.Common.{◌∙◌, ap, ap₂, append_assoc, append-nil, arith, length-append, leb-true, le-leb, eq-eqb, ne_eqb}
use Rattle.std.proofs.Math.Option.{some}
use Rattle.buffers.specs.Text.{every}
use Rattle.buffers.specs.TextLaws.{every_append}
use Rattle.syntax.specs.Path.{Name}
use Rattle.tree.specs.Forest.{Forest, nil, node, Place, size, height}
use Rattle.tree.proofs.ForestLaws.{height_node}
use Rattle.tree.specs.Rows.{Row, flatten, rows, Subtree, siblings, others, subtrees, only, tree_of}
use Rattle.tree.specs.WellFormed.{nodes}

-- the subtrees at the top of a forest at a depth
pending : {A : Type 0} → ℕ → Forest A → List (Subtree A)
pending k nil = []
pending k (node n x cs rest) = record { depth = k; name = n; place = record { here = x; below = cs } } ∷ pending k rest

-- no subtree, or the first no deeper than k
shallow : {A : Type 0} → ℕ → List (Subtree A) → Bool
shallow k [] = true
shallow k (s ∷ ss) = leb s.depth k

shallow_pending : {A : Type 0} (k : ℕ) (F : Forest A) (P : List (Subtree A)) → shallow k P ≡ true → shallow k (pending k F ++ P) ≡ true
unfolding pending shallow
shallow_pending k nil P e = e
shallow_pending k (node n x cs rest) P e = le-leb k k (omega arith)

shallow_suc : {A : Type 0} (k : ℕ) (P : List (Subtree A)) → shallow k P ≡ true → shallow (suc k) P ≡ true
unfolding shallow
shallow_suc k [] e = refl
shallow_suc k (s ∷ ss) e = let l = leb-true s.depth k e in le-leb s.depth (suc k) (omega arith)

-- siblings end where the depth falls
siblings_end : {A : Type 0} (k : ℕ) (P : List (Subtree A)) → shallow k P ≡ true → (siblings (suc k) P ≡ nil) × (others (suc k) P ≡ P)
unfolding shallow siblings others
siblings_end k [] e = (refl, refl)
siblings_end k (s ∷ ss) e =
    let l = leb-true s.depth k e in
    let n : eqb s.depth (suc k) ≡ false = ne_eqb s.depth (suc k) (λ q. omega arith) in
    (rw n, rw n)

siblings_pending : {A : Type 0} (k : ℕ) (F : Forest A) (P : List (Subtree A)) → shallow k P ≡ true
    → (siblings (suc k) (pending (suc k) F ++ P) ≡ F) × (others (suc k) (pending (suc k) F ++ P) ≡ P)
unfolding pending siblings others
siblings_pending k nil P e = siblings_end k P e
siblings_pending k (node n x cs rest) P e =
    let i = siblings_pending k rest P e in
    let t : eqb (suc k) (suc k) ≡ true = eq-eqb (suc k) (suc k) refl in
    (rw (t, i.0), rw (t, i.1))

-- a row before rows whose subtrees are known
subtrees_row : {A : Type 0} (r : Row A) (rs : List (Row A)) (F : Forest A) (P : List (Subtree A)) → shallow r.depth P ≡ true
    → subtrees rs ≡ pending (suc r.depth) F ++ P
    → subtrees (r ∷ rs) ≡ record { depth = r.depth; name = r.name; place = record { here = r.here; below = F } } ∷ P
unfolding subtrees
subtrees_row r rs F P s e = let i = siblings_pending r.depth F P s in rw (e, i.0, i.1)

subtrees_flatten : {A : Type 0} (k : ℕ) (F : Forest A) (B : List (Row A)) → shallow k (subtrees B) ≡ true
    → subtrees (flatten k F ++ B) ≡ pending k F ++ subtrees B
unfolding flatten pending
subtrees_flatten k nil B s = refl
subtrees_flatten k (node n x cs rest) B s =
    let P = pending k rest ++ subtrees B in
    let i : subtrees (flatten k rest ++ B) ≡ P = subtrees_flatten k rest B s in
    let f : shallow k P ≡ true = shallow_pending k rest (subtrees B) s in
    subtrees_row (record { depth = k; name = n; here = x }) ((flatten (suc k) cs ++ flatten k rest) ++ B) cs P f
    (rw (append_assoc (flatten (suc k) cs) (flatten k rest) B, ← i)
    (subtrees_flatten (suc k) cs (flatten k rest ++ B) (rw i (shallow_suc k P f))))

-- a tree is read back from its rows
pub tree_of_rows : {A : Type 0} (t : Place A) → tree_of (rows t) ≡ some t
unfolding tree_of rows only shallow subtrees
tree_of_rows t =
    ap only (subtrees_row (record { depth = 0; name = []; here = t.here }) (flatten 1 t.below) t.below [] refl
    (rw (← append-nil (flatten 1 t.below)) (subtrees_flatten 1 t.below [] refl)))

-- the rows of no siblings
pub flatten_nil : (A : Type 0) (k : ℕ) → flatten {A = A} k nil ≡ []
unfolding flatten
flatten_nil A k = refl

-- those of siblings are the first's, then those below it, then the others'
pub flatten_node : {A : Type 0} (k : ℕ) (n : Name) (x : A) (cs rest : Forest A)
    → flatten k (node n x cs rest) ≡ record { depth = k; name = n; here = x } ∷ (flatten (suc k) cs ++ flatten k rest)
unfolding flatten
flatten_node k n x cs rest = refl

-- and a tree's are those of `/` and of all below it
pub rows_are : {A : Type 0} (t : Place A) → rows t ≡ record { depth = 0; name = []; here = t.here } ∷ flatten 1 t.below
unfolding rows
rows_are t = refl

-- a forest has as many rows as nodes
pub length_flatten : {A : Type 0} (k : ℕ) (F : Forest A) → length (flatten k F) ≡ size F
unfolding flatten size
length_flatten k nil = refl
length_flatten k (node n x cs rest) = ap suc (length-append (flatten (suc k) cs) (flatten k rest) ∙ ap₂ ◌+◌ (length_flatten (suc k) cs) (length_flatten k rest))

-- and so has a tree
pub length_rows : {A : Type 0} (t : Place A) → length (rows t) ≡ nodes t
unfolding rows nodes
length_rows t = ap suc (length_flatten 1 t.below)

-- the rows of a forest lie no deeper than it is high
flatten_low : {A : Type 0} (k m : ℕ) (F : Forest A) → k + height F ≤ suc m → every (λ (r : Row A). leb r.depth m) (flatten k F) ≡ true
unfolding flatten every
flatten_low k m nil h = refl
flatten_low k m (node n x cs rest) h =
    let b = height_node n x cs rest in
    rw (
      le-leb k m (omega arith),
      every_append (λ r. leb r.depth m) (flatten (suc k) cs) (flatten k rest),
      flatten_low (suc k) m cs (omega arith),
      flatten_low k m rest (omega arith),
    )

-- and so do those of a tree
pub rows_low : {A : Type 0} (m : ℕ) (t : Place A) → height t.below ≤ m → every (λ (r : Row A). leb r.depth m) (rows t) ≡ true
unfolding rows every
rows_low m t h = rw (le-leb 0 m (omega arith)) (flatten_low 1 m t.below (omega arith))
