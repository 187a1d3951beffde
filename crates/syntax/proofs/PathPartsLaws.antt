-- Laws of paths by their parts: the names of a path, read one piece after another; the texts that are paths and entry paths;
-- and what the readers of names give of a path.
use Rattle.std.specs.Prelude.{◌≡◌, refl, List, [], ◌∷◌, ◌++◌, Bool, true, false, ◌&&◌, ℕ, zero, suc, ◌+◌, ◌≤◌, ◌<◌, eqb, leb, ltb, length, take, drop, get_or}
use Rattle.std.proofs.Common.{sym, ap, ◌∙◌, arith, add-one, eqb-true, eq-eqb, ne_eqb, ltb-true, ltb-false, leb-true, le-leb, length-append, length-drop, take-append-drop, drop_of_length-le}
use Rattle.std.proofs.Math.Option.{Option, none, some}
use Rattle.std.proofs.Math.Bool.{and-false}
use Rattle.std.proofs.lemmas.Bool.{eqb-false, lt-leb}
use Rattle.std.proofs.lemmas.List.{get_or-take}
use Rattle.buffers.specs.Cases.{case, and_both, contra}
use Rattle.buffers.specs.Text.{Text, same_text, every}
use Rattle.buffers.specs.TextLaws.{same_text_refl, same_text_sound}
use Rattle.syntax.specs.Pieces.{bytes, prefix_first, pieces, joined, piece_length}
use Rattle.syntax.specs.Form.{◌>>=◌, ◌>>◌, check, is_some}
use Rattle.syntax.specs.Path.{Name, Path, root, ◌▹◌, rep, is_name, most_names, extended, some_names, names_from_top, path, whole, short, begins_with_slash, typed_path, without_rep, entry_at, entry_path}
use Rattle.syntax.proofs.PathLaws.{name_length}
use Rattle.syntax.proofs.FormLaws.{checked, answered}
use Rattle.syntax.specs.Parts.{part, next_name, behind_name, names_read, names_of}
use Rattle.syntax.proofs.PartsLaws.{piece_end_le, pieces_first_from, pieces_only_from, pieces_some, joined_pieces, some_of_one}

-- whether names still to be read, after some, are names of a path
unfoldable pub names_left : ℕ → List Text → Bool
names_left count ns = every is_name ns && leb (count + length ns) most_names

-- after the most names there may be none
pub names_full : (t : Text) → names_left 6 (pieces 47 t) ≡ false
unfolding names_left most_names
names_full t = simp (lt-leb (6 + length (pieces 47 t)) 6 (omega (arith, pieces_some 47 t)), and-false)

-- a text that is no name ends them
names_stop : (count : ℕ) (p : Text) (ps : List Text) → is_name p ≡ false → names_left count (p ∷ ps) ≡ false
unfolding names_left every
names_stop count p ps h = rw h

-- and so does one from a place on
pub names_stop_from : (t : Text) (at end count : ℕ) → at ≤ length t → end ≡ at + piece_length 47 (drop at t) →
    is_name (part t at end) ≡ false → names_left count (pieces 47 (drop at t)) ≡ false
names_stop_from t at end count h e n = case (ltb end (length t))
    (λ l. rw (pieces_first_from 47 t at end h e (ltb-true end (length t) l)) (names_stop count (part t at end) (pieces 47 (drop (suc end) t)) n))
    (λ l.
    let last : end ≡ length t = omega (arith, ltb-false end (length t) l, piece_end_le 47 t at h) in
    rw (pieces_only_from 47 t at end h e last) (names_stop count (part t at end) [] n))

-- the last name
pub names_last_from : (t : Text) (at end count : ℕ) → at ≤ length t → end ≡ at + piece_length 47 (drop at t) → end ≡ length t →
    is_name (part t at end) ≡ true → count < 6 → names_left count (pieces 47 (drop at t)) ≡ true
unfolding names_left every most_names
names_last_from t at end count h e l n k = rw (pieces_only_from 47 t at end h e l, n) (le-leb (count + 1) 6 (omega arith))

-- a name with others behind it
pub names_next_from : (t : Text) (at end count : ℕ) → at ≤ length t → end ≡ at + piece_length 47 (drop at t) → end < length t →
    is_name (part t at end) ≡ true → names_left (count + 1) (pieces 47 (drop (end + 1) t)) ≡ names_left count (pieces 47 (drop at t))
unfolding names_left every
names_next_from t at end count h e l n =
    let ns : List Text = pieces 47 (drop (suc end) t) in
    let one : count + suc (length ns) ≡ count + 1 + length ns = omega arith in
    rw (pieces_first_from 47 t at end h e l, n, one, add-one end)

-- a check answers where it passes
check_some : {A : Type 0} (b : Bool) (a : A) → is_some (check b >> some a) ≡ b
unfolding check ◌>>◌ is_some
check_some true a = refl
check_some false a = refl

-- no path is empty
pub path_empty : (t : Text) → length t ≡ 0 → is_some (path t) ≡ false
unfolding path same_text bytes pieces names_from_top every check ◌>>◌ is_some
path_empty [] h = refl
path_empty (b ∷ t) h = let z : ⊥ = omega arith in absurd z

not_prefixed : (b : ℕ) (ps : List Text) → names_from_top (prefix_first b ps) ≡ none
unfolding prefix_first names_from_top
not_prefixed b [] = refl
not_prefixed b (p ∷ ps) = refl

-- a path begins with `/`
pub path_begins : (t : Text) → 0 < length t → (get_or t 0 0 ≡ 47 → ⊥) → is_some (path t) ≡ false
unfolding path same_text bytes pieces is_some
path_begins [] h f = let z : ⊥ = omega arith in absurd z
path_begins (b ∷ t) h f = rw (ne_eqb b 47 f, not_prefixed b (pieces 47 t))

-- `/` is a path
pub path_top : (t : Text) → length t ≡ 1 → get_or t 0 0 ≡ 47 → is_some (path t) ≡ true
unfolding path same_text bytes is_some
path_top [] h e = let z : ⊥ = omega arith in absurd z
path_top (b ∷ []) h e = rw (eq-eqb b 47 e)
path_top (b ∷ (c ∷ t)) h e = let z : ⊥ = omega arith in absurd z

-- a longer text is one where the pieces behind its `/` are names
path_pieces : (t : Text) → 1 < length t → get_or t 0 0 ≡ 47 → path t ≡ names_from_top ([] ∷ pieces 47 (drop 1 t))
unfolding path same_text bytes pieces
path_pieces [] h e = let z : ⊥ = omega arith in absurd z
path_pieces (b ∷ []) h e = let z : ⊥ = omega arith in absurd z
path_pieces (b ∷ (c ∷ t)) h e = rw (eq-eqb b 47 e)

-- whether pieces are names, by the names left to read
pub names_are : (t : Text) → is_some (some_names (pieces 47 t)) ≡ names_left 0 (pieces 47 t)
unfolding names_left
names_are t =
    let ns : List Text = pieces 47 t in
    let many : 0 + length ns ≡ length ns = omega arith in
    let all : _ = check_some (every is_name ns && (leb 1 (length ns) && leb (length ns) most_names)) (extended root ns) in
    rw (many, all, le-leb 1 (length ns) (pieces_some 47 t))

-- whether it is one, by the names behind its `/`
pub path_is_names : (t : Text) → 1 < length t → get_or t 0 0 ≡ 47 → is_some (path t) ≡ is_some (some_names (pieces 47 (drop 1 t)))
unfolding names_from_top
path_is_names t h e = rw (path_pieces t h e)

-- ---- paths as they are typed

map_is_some : {A B : Type 0} (o : Option A) (f : A → B) → is_some (o >>= λ a. some (f a)) ≡ is_some o
unfolding ◌>>=◌ is_some
map_is_some none f = refl
map_is_some (some a) f = refl

pub typed_empty : (t : Text) → length t ≡ 0 → is_some (typed_path t) ≡ false
unfolding typed_path begins_with_slash pieces every check ◌>>◌ ◌>>=◌ is_some is_name
typed_empty [] h = refl
typed_empty (b ∷ t) h = let z : ⊥ = omega arith in absurd z

pub typed_whole : (t : Text) → 0 < length t → get_or t 0 0 ≡ 47 → is_some (typed_path t) ≡ is_some (path t)
unfolding typed_path begins_with_slash
typed_whole [] h e = let z : ⊥ = omega arith in absurd z
typed_whole (b ∷ t) h e = rw (eq-eqb b 47 e) (map_is_some (path (b ∷ t)) whole)

pub typed_short : (t : Text) → 0 < length t → (get_or t 0 0 ≡ 47 → ⊥) → is_some (typed_path t) ≡ is_some (some_names (pieces 47 (drop 0 t)))
unfolding typed_path begins_with_slash
typed_short [] h f = let z : ⊥ = omega arith in absurd z
typed_short (b ∷ t) h f = rw (ne_eqb b 47 f) (map_is_some (some_names (pieces 47 (b ∷ t))) short)

entry_goes_on : (p : Path) (m n : Name) (ns : List Name) → is_some (entry_at (extended (p ▹ m ▹ n) ns)) ≡ is_some (without_rep (p ▹ m))
unfolding extended entry_at without_rep
entry_goes_on p m n [] = some_of_one (without_rep (p ▹ m)) (λ f. record { folder = f; name = n })
entry_goes_on p m n (k ∷ ns) = entry_goes_on (p ▹ m) n k ns ∙ some_of_one (without_rep (p ▹ m)) (λ q. q ▹ n)

-- two names or more are an entry path where the first is `rep`
entry_first : (m n : Name) (ns : List Name) → is_some (entry_at (extended root (m ∷ (n ∷ ns)))) ≡ same_text m rep
unfolding extended without_rep
entry_first m n ns = entry_goes_on root m n ns ∙ check_some (same_text m rep) root

-- the pieces of an entry path
record EntryPieces (ps : List Text) : Type 0 where
  second : Text
  others : List Text
  are : ps ≡ [] ∷ (rep ∷ (second ∷ others))
  named : is_name second ≡ true

names_of_entry : (ns : List Name) → every is_name ns ≡ true → is_some (entry_at (extended root ns)) ≡ true → EntryPieces ([] ∷ ns)
unfolding extended entry_at without_rep ◌>>=◌ is_some every
names_of_entry [] h e = contra {b = true} refl (sym e)
names_of_entry (m ∷ []) h e = contra {b = true} refl (sym e)
names_of_entry (m ∷ (n ∷ ns)) h e =
    let first : m ≡ rep = same_text_sound m rep (sym (entry_first m n ns) ∙ e) in
    let i : _ = and_both (is_name m) (is_name n && every is_name ns) h in
    record {
      second = n;
      others = ns;
      are = ap (λ (k : Name). [] ∷ (k ∷ (n ∷ ns))) first;
      named = (and_both (is_name n) (every is_name ns) i.1).0;
    }

pieces_of_entry : (ps : List Text) → is_some (names_from_top ps >>= entry_at) ≡ true → EntryPieces ps
unfolding names_from_top ◌>>=◌ is_some check ◌>>◌
pieces_of_entry [] e = contra {b = true} refl (sym e)
pieces_of_entry ((b ∷ t) ∷ ns) e = contra {b = true} refl (sym e)
pieces_of_entry ([] ∷ ns) e = case (every is_name ns && (leb 1 (length ns) && leb (length ns) most_names))
    (λ h. names_of_entry ns (and_both (every is_name ns) (leb 1 (length ns) && leb (length ns) most_names) h).0 (rw h at e))
    (λ h. contra {b = true} refl (sym (rw h at e)))

-- what an entry path begins with
record EntryText (t : Text) : Type 0 where
  long : 6 ≤ length t
  begins : take 5 t ≡ bytes "/rep/"

joined_from : (b : ℕ) (p : Text) (ps : List Text) → length p ≤ length (joined b (p ∷ ps))
unfolding joined
joined_from b p [] = omega arith
joined_from b p (q ∷ ps) = omega (arith, length-append p (b ∷ joined b (q ∷ ps)))

entry_text_of : (t : Text) → EntryPieces (pieces 47 t) → EntryText t
unfolding joined rep bytes
entry_text_of t i =
    let u : Text = joined 47 (i.second ∷ i.others) in
    let e : t ≡ 47 ∷ (114 ∷ (101 ∷ (112 ∷ (47 ∷ u)))) = sym (joined_pieces 47 t) ∙ ap (joined 47) i.are in
    let l : 1 ≤ length u = omega (arith, joined_from 47 i.second i.others, (name_length i.second i.named).0) in
    rw e (record { long = omega arith; begins = refl })

entry_has_text : (t : Text) → is_some (entry_path t) ≡ true → EntryText t
unfolding entry_path path entry_at ◌>>=◌ is_some
entry_has_text t e = case (same_text t (bytes "/"))
    (λ h. contra {b = true} refl (sym (rw h at e)))
    (λ h. entry_text_of t (pieces_of_entry (pieces 47 t) (rw h at e)))

-- a shorter text is no entry path
pub entry_long : (t : Text) → length t < 6 → is_some (entry_path t) ≡ false
entry_long t h = case (is_some (entry_path t)) (λ e. let z : ⊥ = omega (arith, (entry_has_text t e).long) in absurd z) (λ e. e)

-- and neither is one that begins with anything else
pub entry_begins : (t : Text) → same_text (take 5 t) (bytes "/rep/") ≡ false → is_some (entry_path t) ≡ false
entry_begins t h = case (is_some (entry_path t))
    (λ e. contra (rw (entry_has_text t e).begins (same_text_refl (bytes "/rep/"))) h)
    (λ e. e)

names_after_rep : (ns : List Name) → 1 ≤ length ns →
    is_some (names_from_top ([] ∷ (rep ∷ ns)) >>= entry_at) ≡ is_some (names_from_top ([] ∷ (rep ∷ ns)))
unfolding names_from_top ◌>>=◌ is_some check ◌>>◌
names_after_rep [] h = let z : ⊥ = omega arith in absurd z
names_after_rep (n ∷ ns) h =
    let names : List Name = rep ∷ (n ∷ ns) in
    case (every is_name names && (leb 1 (length names) && leb (length names) most_names))
    (λ e. rw (e, entry_first rep n ns) (same_text_refl rep))
    (λ e. rw e)

-- a text that begins with `/rep/` is an entry path where it is a path
path_after_rep : (u : Text) → 1 ≤ length u → is_some (entry_path (bytes "/rep/" ++ u)) ≡ is_some (path (bytes "/rep/" ++ u))
unfolding entry_path path same_text bytes pieces prefix_first rep
path_after_rep u h = names_after_rep (pieces 47 u) (pieces_some 47 u)

-- of the texts that begin as entry paths do, the paths are the entry paths
pub entry_is_path : (t : Text) → 6 ≤ length t → same_text (take 5 t) (bytes "/rep/") ≡ true → is_some (entry_path t) ≡ is_some (path t)
entry_is_path t h e =
    let first : take 5 t ≡ bytes "/rep/" = same_text_sound (take 5 t) (bytes "/rep/") e in
    let begins : t ≡ bytes "/rep/" ++ drop 5 t = sym (take-append-drop 5 t) ∙ ap (λ (p : Text). p ++ drop 5 t) first in
    rw begins (path_after_rep (drop 5 t) (omega (arith, length-drop 5 t)))

-- the first five bytes of a text, one by one
first_five : (t : Text) → 5 ≤ length t
    → take 5 t ≡ get_or t 0 0 ∷ (get_or t 1 0 ∷ (get_or t 2 0 ∷ (get_or t 3 0 ∷ (get_or t 4 0 ∷ []))))
first_five [] h = let z : ⊥ = omega arith in absurd z
first_five (a ∷ []) h = let z : ⊥ = omega arith in absurd z
first_five (a ∷ (b ∷ [])) h = let z : ⊥ = omega arith in absurd z
first_five (a ∷ (b ∷ (c ∷ []))) h = let z : ⊥ = omega arith in absurd z
first_five (a ∷ (b ∷ (c ∷ (d ∷ [])))) h = let z : ⊥ = omega arith in absurd z
first_five (a ∷ (b ∷ (c ∷ (d ∷ (e ∷ t))))) h = refl

-- where these are the bytes of `/rep/` and more stands behind them, a text is an entry path where it is a path
pub entry_by_bytes : (t : Text) → 6 ≤ length t → get_or t 0 0 ≡ 47 → get_or t 1 0 ≡ 114 → get_or t 2 0 ≡ 101 → get_or t 3 0 ≡ 112
    → get_or t 4 0 ≡ 47 → is_some (entry_path t) ≡ is_some (path t)
unfolding bytes
entry_by_bytes t l h i j k m =
    entry_is_path t l (rw (first_five t (omega arith), h, i, j, k, m) (same_text_refl (bytes "/rep/")))

-- and where one of them is another, it is none
pub entry_other_byte : (t : Text) (k : ℕ) → k < 5 → (get_or t k 0 ≡ get_or (bytes "/rep/") k 0 → ⊥) → is_some (entry_path t) ≡ false
entry_other_byte t k h f = case (is_some (entry_path t))
    (λ e. let z : ⊥ = f (sym (get_or-take 5 t k 0 h) ∙ ap (λ (p : Text). get_or p k 0) (entry_has_text t e).begins) in absurd z)
    (λ e. e)

-- behind the end there are none
pub names_read_past : (t : Text) (at n : ℕ) → length t ≤ at → names_read t at n ≡ []
unfolding names_read names_of next_name behind_name
names_read_past t at zero h = refl
names_read_past t at (suc n) h = rw (le-leb (length t) at h)

-- before it there is one, and then those behind it
pub names_read_next : (t : Text) (at end n : ℕ) → at < length t → end ≡ at + piece_length 47 (drop at t) →
    names_read t at (suc n) ≡ part t at end ∷ names_read t (end + 1) n
unfolding names_read names_of next_name behind_name
names_read_next t at end n h e = rw (lt-leb (length t) at h, e)

-- where a name is to come, the text goes on
name_comes : (t : Text) (at : ℕ) → every is_name (pieces 47 (drop at t)) ≡ true → at < length t
unfolding pieces every is_name
name_comes t at h = case (ltb at (length t))
    (λ l. ltb-true at (length t) l)
    (λ l. contra {b = true} refl (sym (rw (drop_of_length-le t (ltb-false at (length t) l)) at h)))

-- the names read from a place on are the pieces there, where these are names
names_read_pieces : (t : Text) (at n : ℕ) → at ≤ length t → every is_name (pieces 47 (drop at t)) ≡ true →
    length (pieces 47 (drop at t)) ≤ n → names_read t at n ≡ pieces 47 (drop at t)
unfolding every
names_read_pieces t at zero h k l = let z : ⊥ = omega (arith, pieces_some 47 (drop at t)) in absurd z
names_read_pieces t at (suc n) h k l =
    let end : ℕ = at + piece_length 47 (drop at t) in
    let next : _ = names_read_next t at end n (name_comes t at k) refl in
    case (ltb end (length t))
    (λ i.
    let first : _ = pieces_first_from 47 t at end h refl (ltb-true end (length t) i) in
    let others : _ = and_both (is_name (part t at end)) (every is_name (pieces 47 (drop (suc end) t))) (rw first at k) in
    let fewer : suc (length (pieces 47 (drop (suc end) t))) ≤ suc n = rw first at l in
    let behind : _ = names_read_pieces t (suc end) n (ltb-true end (length t) i) others.1 (omega arith) in
    rw (next, first, add-one end, behind))
    (λ i.
    let last : end ≡ length t = omega (arith, ltb-false end (length t) i, piece_end_le 47 t at h) in
    rw (next, pieces_only_from 47 t at end h refl last, names_read_past t (end + 1) n (omega arith)))

-- what the names of a path are
names_of_top : (ns : List Name) (p : Path) → names_from_top ([] ∷ ns) ≡ some p →
    (every is_name ns ≡ true) × (length ns ≤ 6) × (extended root ns ≡ p)
unfolding names_from_top most_names
names_of_top ns p e =
    let i : _ = checked (every is_name ns && (leb 1 (length ns) && leb (length ns) 6)) (some (extended root ns)) p e in
    let j : _ = and_both (every is_name ns) (leb 1 (length ns) && leb (length ns) 6) i.0 in
    let k : _ = and_both (leb 1 (length ns)) (leb (length ns) 6) j.1 in
    (j.0, leb-true (length ns) 6 k.1, sym (answered i.1))

-- a path begins with `/`
path_slash : (t : Text) (p : Path) → path t ≡ some p → 1 ≤ length t → get_or t 0 0 ≡ 47
unfolding is_some
path_slash t p e h = case (eqb (get_or t 0 0) 47)
    (λ i. eqb-true (get_or t 0 0) 47 i)
    (λ i. contra (ap is_some e) (path_begins t h (eqb-false (get_or t 0 0) 47 i)))

-- the names that are read of a path from its first on are the path
pub names_read_path : (t : Text) (p : Path) (n : ℕ) → path t ≡ some p → 6 ≤ n → extended root (names_read t 1 n) ≡ p
unfolding path same_text bytes extended is_some
names_read_path [] p n e h = contra (ap is_some e) (path_empty [] refl)
names_read_path (b ∷ []) p n e h =
    let top : some root ≡ some p = rw (eq-eqb b 47 (path_slash (b ∷ []) p e (omega arith))) at e in
    rw (names_read_past (b ∷ []) 1 n (omega arith), answered top)
names_read_path (b ∷ (c ∷ t)) p n e h =
    let slash : b ≡ 47 = path_slash (b ∷ (c ∷ t)) p e (omega arith) in
    let i : _ = names_of_top (pieces 47 (c ∷ t)) p (sym (path_pieces (b ∷ (c ∷ t)) (omega arith) slash) ∙ e) in
    rw (names_read_pieces (b ∷ (c ∷ t)) 1 n (omega arith) i.0 (omega (arith, i.1))) i.2
