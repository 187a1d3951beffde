-- Laws of the names of a path text: read one after another to the end, and cut at the last `/` into those of the parent and the last.
use Rattle.std.specs.Prelude.{◌≡◌, refl, List, [], ◌∷◌, ◌++◌, true, false, ◌&&◌, not, ℕ, zero, suc, ◌+◌, ◌-◌, ◌≤◌, ◌<◌, eqb, leb, ltb, length, take, drop, get_or, Some, None}
use Rattle.std.proofs.Common.{sym, ap, ◌∙◌, append_assoc, arith, eq-eqb, ne_eqb, ltb-true, ltb-false, leb-true, leb-false, le-leb, length-append, length-drop, length-take-le, get_or-append-add}
use Rattle.std.proofs.Math.Option.{some}
use Rattle.std.proofs.lemmas.Bool.{not-true}
use Rattle.std.proofs.Math.Seq.{take-append_seam, drop-append-add, get_or-append_seam}
use Rattle.buffers.specs.Cases.{case, and_both, contra}
use Rattle.buffers.specs.Text.{Text, same_text, every, lacks}
use Rattle.buffers.specs.TextLaws.{same_text_sound, every_get_or}
use Rattle.syntax.specs.Pieces.{bytes, pieces, joined, piece_length}
use Rattle.syntax.specs.Form.{◌>>◌, check}
use Rattle.syntax.proofs.FormLaws.{no_answer, both_read, checked, answered}
use Rattle.syntax.specs.Path.{Name, Path, root, ◌▹◌, EntryPath, parent, last, depth, is_name, most_names, has_names, is_path, extended, names_from_top, path, entry_at, entry_path, names_text, path_text, entry_text}
use Rattle.syntax.proofs.PathLaws.{name_lacks, path_of_text, path_is_path, entry_at_sound}
use Rattle.syntax.specs.Parts.{part, next_name, behind_name, slash_before, last_slash, names_read, names_from, path_names}
use Rattle.syntax.proofs.PartsLaws.{joined_pieces, piece_end_le}
use Rattle.syntax.proofs.PathPartsLaws.{names_read_past, names_read_next, names_read_path}

-- ---- the names of a path text

-- all names are read where as many are asked for as there are bytes
names_enough : (t : Text) (at n m : ℕ) → length t ≤ at + n → length t ≤ at + m → names_read t at n ≡ names_read t at m
names_enough t at zero m h k = names_read_past t at 0 (omega arith) ∙ sym (names_read_past t at m (omega arith))
names_enough t at (suc n) zero h k = names_read_past t at (suc n) (omega arith) ∙ sym (names_read_past t at 0 (omega arith))
names_enough t at (suc n) (suc m) h k =
    let end : ℕ = at + piece_length 47 (drop at t) in
    case (ltb at (length t))
    (λ l.
    let more : at < length t = ltb-true at (length t) l in
    names_read_next t at end n more refl
    ∙ ap (λ (r : List Name). part t at end ∷ r) (names_enough t (end + 1) n m (omega arith) (omega arith))
    ∙ sym (names_read_next t at end m more refl))
    (λ l.
    let past : length t ≤ at = ltb-false at (length t) l in
    names_read_past t at (suc n) past ∙ sym (names_read_past t at (suc m) past))

-- the names of a path text are the path
pub path_names_of_path : (t : Text) (p : Path) → path t ≡ some p → extended root (path_names t) ≡ p
unfolding path_names
path_names_of_path t p e =
    rw (names_enough t 1 (length t) (6 + length t) (omega arith) (omega arith)) (names_read_path t p (6 + length t) e (omega arith))

-- the empty text has none
no_names : path_names [] ≡ []
unfolding path_names names_read
no_names = refl

-- ---- name by name

-- from the first on they are those of the text
pub names_from_first : (t : Text) → names_from t 1 ≡ path_names t
unfolding names_from path_names
names_from_first t = names_enough t 1 (length t - 1) (length t) (omega arith) (omega arith)

-- at the end there is none left
pub names_from_end : (t : Text) (at : ℕ) → next_name t at ≡ None → names_from t at ≡ []
unfolding names_from next_name
names_from_end t at e = case (leb (length t) at)
    (λ l. names_read_past t at (length t - at) (leb-true (length t) at l))
    (λ l. contra {b = true} refl (cc (rw l at e)))

-- the next name: it lies inside the text, the place behind it is past its end, and the names from there follow it
pub record Named (t : Text) (at : ℕ) (name : Text) : Type 0 where
  pub before : at < length t
  pub ends : at + length name ≤ length t
  pub onward : at + length name < behind_name t at
  pub stands : part t at (at + length name) ≡ name
  pub follow : names_from t at ≡ name ∷ names_from t (behind_name t at)

-- before the end there is one
pub names_from_next : (t : Text) (at : ℕ) (name : Text) → next_name t at ≡ Some name → Named t at name
unfolding names_from next_name behind_name part
names_from_next t at name e = case (leb (length t) at)
    (λ l. contra {b = true} refl (cc (rw l at e)))
    (λ l.
    let n : ℕ = at + piece_length 47 (drop at t) in
    let read : take (n - at) (drop at t) ≡ name = cc (rw l at e) in
    let less : at < length t = leb-false (length t) at l in
    let ends : n ≤ length t = piece_end_le 47 t at (omega arith) in
    let all : n - at ≤ length (drop at t) = omega (arith, length-drop at t) in
    let long : length name ≡ n - at = ap length (sym read) ∙ length-take-le (n - at) (drop at t) all in
    let end : at + length name ≡ n = omega arith in
    let q : length t - at ≡ suc (length t - at - 1) = omega arith in
    let past : behind_name t at ≡ n + 1 = rw l refl in
    record {
      before = less;
      ends = omega arith;
      onward = rw past (omega arith);
      stands = rw end read;
      follow = rw (q, past) (names_read_next t at n (length t - at - 1) less refl
          ∙ ap (λ (r : List Name). take (n - at) (drop at t) ∷ r) (names_enough t (n + 1) (length t - at - 1) (length t - (n + 1)) (omega arith) (omega arith))
          ∙ ap (λ (m : Name). m ∷ names_from t (n + 1)) read);
    })

-- ---- the last `/`

-- the last `/` is one of the bytes, or 0
slash_before_le : (t : Text) (n : ℕ) → slash_before t n ≤ n
unfolding slash_before
slash_before_le t zero = omega arith
slash_before_le t (suc n) = case (eqb (get_or t n 0) 47) (λ e. rw e (omega arith)) (λ e. rw e (omega (arith, slash_before_le t n)))

-- and before the end of a text that is not empty
pub last_slash_less : (t : Text) → 0 < length t → last_slash t < length t
unfolding last_slash slash_before
last_slash_less [] h = h
last_slash_less (b ∷ t) h = case (eqb (get_or (b ∷ t) (length t) 0) 47)
    (λ e. rw e (omega arith))
    (λ e. rw e (omega (arith, slash_before_le (b ∷ t) (length t))))

-- a `/` is the last up to itself
pub slash_here : (t : Text) (n i : ℕ) → i + 1 ≡ n → get_or t i 0 ≡ 47 → slash_before t n ≡ i
unfolding slash_before
slash_here t zero i h e = let z : ⊥ = omega arith in absurd z
slash_here t (suc n) i h e = let q : i ≡ n = omega arith in rw q (rw (eq-eqb (get_or t n 0) 47 (ap (λ (k : ℕ). get_or t k 0) (sym q) ∙ e)))

-- before any other byte it is the one before
pub slash_not_here : (t : Text) (n i : ℕ) → i + 1 ≡ n → (get_or t i 0 ≡ 47 → ⊥) → slash_before t i ≡ slash_before t n
unfolding slash_before
slash_not_here t zero i h f = let z : ⊥ = omega arith in absurd z
slash_not_here t (suc n) i h f = let q : i ≡ n = omega arith in rw q (rw (ne_eqb (get_or t n 0) 47 (λ e. f (ap (λ (k : ℕ). get_or t k 0) q ∙ e))))

-- a `/` is the last where none follows
slash_from : (t : Text) (i k : ℕ) → get_or t i 0 ≡ 47 → ((j : ℕ) → j < k → get_or t (i + suc j) 0 ≡ 47 → ⊥) → slash_before t (i + suc k) ≡ i
slash_from t i zero e f = slash_here t (i + 1) i (omega arith) e
slash_from t i (suc k) e f =
    sym (slash_not_here t (i + suc (suc k)) (i + suc k) (omega arith) (f k (omega arith)))
    ∙ slash_from t i k e (λ j l. f j (omega arith))

-- a name has none
name_slash : (n : Name) (j : ℕ) → is_name n ≡ true → get_or n j 0 ≡ 47 → ⊥
unfolding lacks
name_slash n j h e =
    let l : not (eqb (get_or n j 0) 47) ≡ true = every_get_or (λ c. not (eqb c 47)) n j 0 (name_lacks 47 (omega arith) n h) refl in
    let q : eqb (get_or n j 0) 47 ≡ false = not-true (eqb (get_or n j 0) 47) l in
    let z : ◌≡◌ {A = ℕ} 0 1 = cc (eq-eqb (get_or n j 0) 47 e) in
    omega arith

-- so the one before a name is the last
slash_of_name : (s : Text) (n : Name) → is_name n ≡ true → last_slash (s ++ (47 ∷ n)) ≡ length s
unfolding last_slash
slash_of_name s n h =
    rw (length-append s (47 ∷ n))
    (slash_from (s ++ (47 ∷ n)) (length s) (length n) (get_or-append_seam s 47 n 0)
    (λ j l e. name_slash n j h (sym (get_or-append-add s (47 ∷ n) (suc j) 0) ∙ e)))

-- ---- the text of a path

-- a piece more behind the first
joined_second : (b : ℕ) (p n : Text) (ns : List Text) → joined b ((p ++ (b ∷ n)) ∷ ns) ≡ joined b (p ∷ (n ∷ ns))
unfolding joined
joined_second b p n [] = refl
joined_second b p n (m ∷ ns) = append_assoc p (b ∷ n) (b ∷ joined b (m ∷ ns))

text_extended : (q : Path) (ns : List Name) → names_text (extended q ns) ≡ joined 47 (names_text q ∷ ns)
unfolding extended names_text joined
text_extended q [] = refl
text_extended q (n ∷ ns) = text_extended (q ▹ n) ns ∙ joined_second 47 (names_text q) n ns

text_below : (q : Path) (n : Name) (ns : List Name) → path_text (extended (q ▹ n) ns) ≡ names_text (extended (q ▹ n) ns)
unfolding extended path_text
text_below q n [] = refl
text_below q n (m ∷ ns) = text_below (q ▹ n) m ns

names_top_text : (l : List Text) (p : Path) → names_from_top l ≡ some p → joined 47 l ≡ path_text p
unfolding names_from_top names_text every check ◌>>◌ most_names extended joined
names_top_text [] p e = no_answer e
names_top_text ((b ∷ t) ∷ ns) p e = no_answer e
names_top_text ([] ∷ []) p e = no_answer e
names_top_text ([] ∷ (n ∷ ns)) p e =
    let l : List Name = n ∷ ns in
    let i : _ = checked (every is_name l && (leb 1 (length l) && leb (length l) most_names)) (some (extended root l)) p e in
    rw (answered i.1) (sym (text_below root n ns ∙ text_extended root l))

-- what is read as a path is that path's text
pub text_of_path : (t : Text) (p : Path) → path t ≡ some p → t ≡ path_text p
unfolding path path_text
text_of_path t p e = case (same_text t (bytes "/"))
    (λ i. let q : some root ≡ some p = rw i at e in rw (answered q) (same_text_sound t (bytes "/") i))
    (λ i. sym (joined_pieces 47 t) ∙ names_top_text (pieces 47 t) p (rw i at e))

-- and what is read as an entry path is its text
pub text_of_entry : (t : Text) (e : EntryPath) → entry_path t ≡ some e → t ≡ entry_text e
unfolding entry_path entry_text
text_of_entry t e h =
    let i = both_read (path t) entry_at e h in
    text_of_path t i.0 i.1 ∙ ap path_text (sym (entry_at_sound i.0 e i.2))

-- a path with one name more has a path and a name
path_parts : (q : Path) (n : Name) → is_path (q ▹ n) ≡ true → (is_path q ≡ true) × (is_name n ≡ true)
unfolding is_path has_names depth most_names
path_parts q n h =
    let i : _ = and_both (has_names q && is_name n) (leb (suc (depth q)) 6) h in
    let j : _ = and_both (has_names q) (is_name n) i.0 in
    (rw j.0 (le-leb (depth q) 6 (omega (arith, leb-true (suc (depth q)) 6 i.1))), j.1)

-- the names of the text of names are those names
names_back : (q : Path) → is_path q ≡ true → extended root (path_names (names_text q)) ≡ q
unfolding names_text path_text extended
names_back root h = rw no_names
names_back (q ▹ n) h = path_names_of_path (names_text (q ▹ n)) (q ▹ n) (path_of_text (q ▹ n) h)

-- the names before the last `/` are those of the parent
pub parent_names : (s : Text) (p : Path) → path s ≡ some p → extended root (path_names (take (last_slash s) s)) ≡ parent p
unfolding path_text names_text bytes last_slash slash_before extended parent
parent_names s root e = rw (text_of_path s root e, no_names)
parent_names s (q ▹ n) e =
    let i : _ = path_parts q n (path_is_path s (q ▹ n) e) in
    rw (text_of_path s (q ▹ n) e, slash_of_name (names_text q) n i.1, take-append_seam (names_text q) (47 ∷ n)) (names_back q i.0)

-- and behind it stands the last name
pub last_name : (s : Text) (p : Path) → path s ≡ some p → drop (suc (last_slash s)) s ≡ last p
unfolding path_text names_text bytes last_slash slash_before last
last_name s root e = rw (text_of_path s root e)
last_name s (q ▹ n) e =
    let i : _ = path_parts q n (path_is_path s (q ▹ n) e) in
    let k : suc (length (names_text q)) ≡ length (names_text q) + 1 = omega arith in
    rw (text_of_path s (q ▹ n) e, slash_of_name (names_text q) n i.1, k) (drop-append-add (names_text q) (47 ∷ n) 1)
