-- A payload altered leaves the shape of a tree: where rows stand, what lies below each place, and which names are unused there. So
-- a command's second change finds the rows of the first.
--
-- In order:
--   two changes at one path, and changes that come to the same at a place: update_twice, alter-twice, alter-alike;
--   what a map keeps of every payload, an alteration that leaves it, and what goes by it alone: index-map to size-kept;
--   the shape of a tree, of which nothing of the payloads is kept: bare to unused-bare;
--   the row of a place after a payload was altered: Altered-place, altered-at, and what it holds;
--   a child put in beside an altered payload: put-altered.
use Rattle.std.specs.Prelude.{◌≡◌, true, false, cond}
use Rattle.std.proofs.Math.Path.{refl, sym, ap}
use Rattle.std.proofs.Common.{◌∙◌}
use mathlib.Core.List.{List, [], ◌∷◌}
use Rattle.std.proofs.Math.Option.{Option, none, some, map}
use Prim.Native.Nat.{ℕ, suc}
use Rattle.buffers.specs.Cases.{case}
use Rattle.buffers.specs.Text.{same_text, precedes}
use Rattle.buffers.specs.TextLaws.{same_text_sound}
use Rattle.syntax.specs.Path.{Name, Path, root, ◌▹◌, same_path, extended}
use Rattle.syntax.proofs.PathLaws.{names_from_root}
use Rattle.syntax.proofs.WithinLaws.{Lies, itself, deeper, same_path_sound}
use Rattle.syntax.proofs.FormLaws.{no_answer, answered}
use Rattle.tree.specs.Forest.{Forest, nil, node, Place, get, insert, at, under, update, place_at, alter, put, size, map_forest, map_place}
use Rattle.tree.proofs.ForestLaws.{get_map, size_map, under_map, at_map, at_at, at_twice, differ_sym}
use Rattle.tree.specs.Node.{Node}
use Rattle.tree.specs.WellFormed.{nodes, is_node}
use Rattle.tree.proofs.UpdateLaws.{by_option, update_same, update_none}
use Rattle.tree.proofs.ChangeLaws.{alter_at}
use Rattle.tree.proofs.OtherPathLaws.{none_below}
use Rattle.tree.proofs.MapLaws.{map_nil, map_here, map_below}
use Rattle.tree.proofs.HoldsLaws.{holds_altered, holds_alter, place_map}
use Rattle.tree.specs.RowPlaces.{ahead, children_of, index_of, lesser}
use Rattle.tree.proofs.RowPlacesLaws.{update_at}
use Rattle.tree.specs.Encoding.{encode_tree}
use Rattle.tree.specs.TreeBytes.{At}
use Rattle.tree.proofs.TreeBytesLaws.{encodes}

-- ---- changes at one path

module _ {A : Type 0} where
  -- two changes at one path are one
  update_twice : (p : Path) (f g : Place A → Place A) (t : Place A) → update p f (update p g t) ≡ update p (λ d. f (g d)) t
  unfolding update under
  update_twice root f g t = refl
  update_twice (p ▹ n) f g t =
      update_twice p (under (at n f)) (under (at n g)) t
      ∙ ap (λ (h : Place A → Place A). update p h t) (λ i d. record { here = d.here; below = at_twice n f g d.below i })

  -- and so are two alterations
  pub alter_twice : (p : Path) (f g : A → A) (t : Place A) → update p (alter f) (update p (alter g) t) ≡ update p (alter (λ x. f (g x))) t
  unfolding alter
  alter_twice p f g t = update_twice p (alter f) (alter g) t

  -- alterations that come to the same at the place are one
  pub alter_alike : (t : Place A) (p : Path) (d : Place A) (f g : A → A) → place_at t p ≡ some d → f d.here ≡ g d.here
      → update p (alter f) t ≡ update p (alter g) t
  unfolding alter
  alter_alike t p d f g e q =
      update_at t p (alter f) d e
      ∙ ap (λ (x : A). update p (λ y. record { here = x; below = d.below }) t) q
      ∙ sym (update_at t p (alter g) d e)

-- ---- what a map keeps of every payload

module _ {A B : Type 0} (g : A → B) where
  ahead_map : (n : Name) (F : Forest A) → ahead n (map_forest g F) ≡ map_forest g (ahead n F)
  unfolding ahead map_forest
  ahead_map n nil = refl
  ahead_map n (node m x cs rest) = case (same_text n m) (λ e. rw e) (λ e. rw e (rw (ahead_map n rest)))

  lesser_map : (n : Name) (F : Forest A) → lesser n (map_forest g F) ≡ map_forest g (lesser n F)
  unfolding lesser map_forest
  lesser_map n nil = refl
  lesser_map n (node m x cs rest) = case (precedes m n) (λ e. rw e (rw (lesser_map n rest))) (λ e. rw e)

  children_map : (o : Option (Place A)) → children_of (map (map_place g) o) ≡ map_forest g (children_of o)
  unfolding children_of
  children_map none = sym (map_nil g)
  children_map (some d) = map_below g d

  -- rows stand where they stood
  pub index_map : (t : Place A) (p : Path) → index_of (map_place g t) p ≡ index_of t p
  unfolding index_of
  index_map t root = refl
  index_map t (p ▹ n) =
      rw (index_map t p, place_map g t p, children_map (place_at t p), ahead_map n (children_of (place_at t p)), size_map g (ahead n (children_of (place_at t p))))

  -- a change goes through
  update_map : (f : Place B → Place B) (k : Place A → Place A) → ((d : Place A) → f (map_place g d) ≡ map_place g (k d))
      → (p : Path) (t : Place A) → update p f (map_place g t) ≡ map_place g (update p k t)
  unfolding update
  update_map f k e root t = e t
  update_map f k e (p ▹ n) t = update_map (under (at n f)) (under (at n k)) (under_map g (at n f) (at n k) (at_map g f k e n)) p t

update_id : {A : Type 0} (p : Path) (t : Place A) → update p (λ d. d) t ≡ t
update_id p t = by_option (place_at t p) (λ e. update_none t p (λ d. d) e) (λ d e. update_same t p (λ d. d) d e refl)

module _ {A B : Type 0} (keep : A → B) where
  -- an alteration that leaves what is kept of a payload leaves it of the tree
  pub map_altered : (g : A → A) → ((x : A) → keep (g x) ≡ keep x) → (p : Path) (t : Place A) → map_place keep (update p (alter g) t) ≡ map_place keep t
  unfolding alter map_place
  map_altered g e p t = sym (update_map keep (λ d. d) (alter g) (λ d. rw (e d.here)) p t) ∙ update_id p (map_place keep t)

  module _ (d e : Place A) (s : map_place keep d ≡ map_place keep e) where
    -- places of which the same is kept have their rows alike
    pub index_kept : (q : Path) → index_of d q ≡ index_of e q
    index_kept q = sym (index_map keep d q) ∙ ap (λ (x : Place B). index_of x q) s ∙ index_map keep e q

    -- a place for a place
    place_kept : (q : Path) (x : Place A) → place_at e q ≡ some x → (y : Place A) × (place_at d q ≡ some y) × (map_place keep y ≡ map_place keep x)
    place_kept q x there =
        let both : map (map_place keep) (place_at d q) ≡ some (map_place keep x) =
        sym (place_map keep d q) ∙ ap (λ (y : Place B). place_at y q) s ∙ place_map keep e q ∙ ap (map (map_place keep)) there in
        by_option (place_at d q)
        (λ z. let i : none ≡ some (map_place keep x) = rw z at both in no_answer i)
        (λ y z. let i : some (map_place keep y) ≡ some (map_place keep x) = rw z at both in (y, z, sym (answered i)))

    -- the same of the payload
    pub here_kept : keep d.here ≡ keep e.here
    here_kept = sym (map_here keep d) ∙ ap (λ (x : Place B). x.here) s ∙ map_here keep e

    -- the same below
    pub below_kept : map_forest keep d.below ≡ map_forest keep e.below
    below_kept = sym (map_below keep d) ∙ ap (λ (x : Place B). x.below) s ∙ map_below keep e

    -- and as many nodes there
    pub size_kept : size d.below ≡ size e.below
    size_kept = sym (size_map keep d.below) ∙ ap size below_kept ∙ size_map keep e.below

-- ---- the shape of a tree

-- no payload
abbrev pub blank : {A : Type 0} → A → Unit {0}
blank x = tt

-- a tree without its payloads
abbrev pub bare : {A : Type 0} → Place A → Place (Unit {0})
bare d = map_place blank d

module _ {A : Type 0} where
  -- a payload altered leaves it
  pub bare_altered : (p : Path) (g : A → A) (t : Place A) → bare (update p (alter g) t) ≡ bare t
  bare_altered p g t = map_altered blank g (λ x. refl) p t

  module _ (d e : Place A) (s : bare d ≡ bare e) where
    -- as many nodes
    pub nodes_bare : nodes d ≡ nodes e
    unfolding nodes
    nodes_bare = ap suc (size_kept blank d e s)

    -- as many before a name
    pub lesser_bare : (n : Name) → size (lesser n d.below) ≡ size (lesser n e.below)
    lesser_bare n =
        sym (size_map blank (lesser n d.below)) ∙ ap size (sym (lesser_map blank n d.below) ∙ ap (lesser n) (below_kept blank d e s) ∙ lesser_map blank n e.below)
        ∙ size_map blank (lesser n e.below)

    -- and the same names unused
    pub unused_bare : (n : Name) → get n e.below ≡ none → get n d.below ≡ none
    unused_bare n free =
        let both : map (map_place blank) (get n d.below) ≡ none =
        sym (get_map blank n d.below) ∙ ap (get n) (below_kept blank d e s) ∙ get_map blank n e.below ∙ ap (map (map_place blank)) free in
        by_option (get n d.below) (λ z. z) (λ y z. let i : some (map_place blank y) ≡ none = rw z at both in no_answer (sym i))

-- ---- the row of a place after a payload was altered

-- row i is that of the place at q still, which has the shape of d; its payload is altered if q is where that was done
pub record AlteredPlace (b : List ℕ) (p : Path) (g : Node → Node) (t : Place Node) (q : Path) (i : ℕ) (d : Place Node) : Type 0 where
  pub place : Place Node
  pub at : At b (update p (alter g) t) q i place
  pub shape : bare place ≡ bare d
  pub here : place.here ≡ cond (same_path q p) (g d.here) d.here

module _ {b : List ℕ} {t : Place Node} {q : Path} {i : ℕ} {d : Place Node} (a : At b t q i d) where
  altered_here : (p : Path) (g : Node → Node) (c : Place Node) → place_at (update p (alter g) t) q ≡ some c → c.here ≡ cond (same_path q p) (g d.here) d.here
  altered_here p g c e = case (same_path q p)
      (λ s.
      let k = holds_altered q (record { place = d; stands = a.there; here = refl }) g in
      let there : place_at (update q (alter g) t) q ≡ some c = rw (← same_path_sound q p s) at e in
      rw s (ap (λ (x : Place Node). x.here) (answered (sym k.stands ∙ there)) ∙ k.here))
      (λ s.
      let k = holds_alter q p (record { place = d; stands = a.there; here = refl }) g s in
      rw s (ap (λ (x : Place Node). x.here) (answered (sym k.stands ∙ e)) ∙ k.here))

  -- the bytes of the altered tree have it at its row
  pub altered_at : {p : Path} {e : Place Node} (g : Node → Node) → place_at t p ≡ some e → is_node (g e.here) ≡ true → (g e.here).kind ≡ e.here.kind
      → {b₁ : List ℕ} → b₁ ≡ encode_tree (update p (alter g) t) → AlteredPlace b₁ p g t q i d
  altered_at {p} {e} g there own kind {b₁} bytes =
      let t₁ = update p (alter g) t in
      let s = bare_altered p g t in
      let w = place_kept blank t₁ t s q d a.there in
      record {
        place = w.0;
        at = record {
          tree = rw bytes (encodes (alter_at t p e g a.tree.whole there own kind));
          there = w.1;
          row = a.row ∙ sym (index_kept blank t₁ t s q);
        };
        shape = w.2;
        here = altered_here p g w.0 w.1;
      }

module _ {b : List ℕ} {p : Path} {g : Node → Node} {t : Place Node} {q : Path} {i : ℕ} {d : Place Node} (k : AlteredPlace b p g t q i d) where
  -- what the alteration keeps of a payload stays
  pub kept_part : {B : Type 0} (f : Node → B) → f (g d.here) ≡ f d.here → f k.place.here ≡ f d.here
  kept_part f e = ap f k.here ∙ case (same_path q p) (λ s. rw s e) (λ s. rw s)

-- ---- a child put in beside an altered payload

-- what lies in or below a path does so with more names
lies_on : {p q : Path} → Lies p q → (ns : List Name) → Lies p (extended q ns)
unfolding extended
lies_on l [] = l
lies_on l (n ∷ ns) = lies_on (deeper l) ns

module _ {A : Type 0} where
  -- a change down a list of names
  down : List Name → (Place A → Place A) → Place A → Place A
  down [] f = f
  down (n ∷ ns) f = under (at n (down ns f))

  update_down : (p : Path) (ns : List Name) (f : Place A → Place A) (t : Place A) → update (extended p ns) f t ≡ update p (down ns f) t
  unfolding update extended down
  update_down p [] f t = refl
  update_down p (n ∷ ns) f t = update_down (p ▹ n) ns f t

  -- a new child and a change of one of another name
  insert_at : (n : Name) (x : Place A) (m : Name) (f : Place A → Place A) → same_text m n ≡ false → (F : Forest A) → insert n x (at m f F) ≡ at m f (insert n x F)
  unfolding insert at
  insert_at n x m f e nil = rw e
  insert_at n x m f e (node k y ds rest) = case (same_text m k)
      (λ s. case (precedes n k) (λ l. rw (s, l) (rw (e, s))) (λ l. rw (s, l) (rw s)))
      (λ s. case (precedes n k) (λ l. rw (s, l) (rw (e, s))) (λ l. rw (s, l) (rw (s, insert_at n x m f e rest))))

  put_down : (q : Path) (ms ns : List Name) (n : Name) (x : Place A) (g : A → A) → (Lies (extended q ms ▹ n) (extended q ns) → ⊥)
      → (t : Place A) → down ms (put n x) (down ns (alter g) t) ≡ down ns (alter g) (down ms (put n x) t)
  unfolding down under alter put extended
  put_down q [] [] n x g off t = refl
  put_down q (m ∷ ms) [] n x g off t = refl
  put_down q [] (a ∷ ns) n x g off t =
      ap (λ (F : Forest A). record { here = t.here; below = F }) (insert_at n x a (down ns (alter g))
      (case (same_text a n) (λ s. absurd (off (rw (same_text_sound a n s) (lies_on itself ns)))) (λ s. s)) t.below)
  put_down q (m ∷ ms) (a ∷ ns) n x g off t = ap (λ (F : Forest A). record { here = t.here; below = F }) (case (same_text a m)
      (λ s.
      let e = same_text_sound a m s in
      let one = put_down (q ▹ m) ms ns n x g (rw e at off) in
      rw e (at_twice m (down ms (put n x)) (down ns (alter g)) t.below
      ∙ ap (λ (f : Place A → Place A). at m f t.below) (λ i d. one d i)
      ∙ sym (at_twice m (down ns (alter g)) (down ms (put n x)) t.below)))
      (λ s. at_at a (down ns (alter g)) m (down ms (put n x)) (differ_sym a m s) t.below))

  from_root : (p : Path) (ns : List Name) → extended root ns ≡ p → (f : Place A → Place A) (t : Place A) → update p f t ≡ down ns f t
  unfolding update
  from_root p ns e f t = ap (λ (q : Path). update q f t) (sym e) ∙ update_down root ns f t

  -- a child put in where there was none leaves the alteration of what was there
  pub put_altered : (t : Place A) (p : Path) (n : Name) (x : Place A) (q : Path) (d : Place A) (g : A → A) → place_at t (p ▹ n) ≡ none → place_at t q ≡ some d
      → update p (put n x) (update q (alter g) t) ≡ update q (alter g) (update p (put n x) t)
  put_altered t p n x q d g free there =
      let P = names_from_root p in
      let Q = names_from_root q in
      let put_in = from_root p P.0 P.1 (put n x) in
      let altered = from_root q Q.0 Q.1 (alter g) in
      put_in (update q (alter g) t) ∙ ap (down P.0 (put n x)) (altered t)
      ∙ put_down root P.0 Q.0 n x g (λ l. no_answer (sym (none_below t (rw (P.1, Q.1) at l) free) ∙ there)) t
      ∙ ap (down Q.0 (alter g)) (sym (put_in t)) ∙ sym (altered (update p (put n x) t))
