-- Laws of names, paths and entry paths: their texts read back to them, what is read is in range, and texts fit their places.
use Rattle.std.specs.Prelude.{◌≡◌, refl, List, [], ◌∷◌, ◌++◌, ◌⊎◌, true, false, ◌&&◌, not, ℕ, suc, ◌+◌, ◌*◌, ◌≤◌, ◌<◌, eqb, leb, length}
use Rattle.std.proofs.Common.{sym, ap, ◌∙◌, append_assoc, inl, inr, eqb-true, ne_eqb, leb-true, le-leb, length-append}
use Rattle.std.proofs.Math.Option.{some}
use native.Mathlib.Omega.{arith}
use Rattle.buffers.specs.Cases.{case, and_both, contra}
use Rattle.buffers.specs.Text.{Text, same_text, every, lacks}
use Rattle.buffers.specs.TextLaws.{same_text_refl, same_text_sound, every_implies, every_append}
use Rattle.syntax.specs.Pieces.{bytes, joined, pieces}
use Rattle.syntax.proofs.JoinedLaws.{pieces_before, pieces_joined}
use Rattle.syntax.specs.Form.{◌>>=◌, ◌>>◌, check}
use Rattle.syntax.proofs.FormLaws.{no_answer, both_read, checked, answered}
use Rattle.syntax.specs.Path.{Name, Path, root, ◌▹◌, EntryPath, parent, last, depth, is_top, rep, in_rep, entry_location, reserved, name_byte, is_name, most_names, has_names, is_path, is_entry_path, extended, names_from_top, path, without_rep, entry_at, entry_path, names_text, path_text, entry_text, longest_entry_text}
use Rattle.syntax.proofs.WithinLaws.{Lies, itself, deeper}

-- the bytes of names are from 48 on
name_byte_from : (b : ℕ) → name_byte b ≡ true → 48 ≤ b
unfolding name_byte
name_byte_from b h = case (leb 97 b)
    (λ t. omega (arith, leb-true 97 b t))
    (λ t. case (leb 48 b)
    (λ s. leb-true 48 b s)
    (λ s. let e : eqb b 95 ≡ true = rw s at (rw t at h) in omega (arith, eqb-true b 95 e)))

-- a name has no byte below 48: not 0, byte 10, `,` or `/`
pub name_lacks : (c : ℕ) → c < 48 → (n : Name) → is_name n ≡ true → lacks c n ≡ true
unfolding is_name lacks
name_lacks c l n h =
    every_implies name_byte (λ b. not (eqb b c)) (λ b t. rw (ne_eqb b c (λ e. omega (arith, name_byte_from b t)))) n
    (and_both (every name_byte n) _ h).0

-- a name has 1 to 8 bytes
pub name_length : (n : Name) → is_name n ≡ true → (1 ≤ length n) × (length n ≤ 8)
unfolding is_name
name_length n h =
    let i : _ = and_both (leb 1 (length n)) (leb (length n) 8) (and_both (every name_byte n) _ h).1 in
    (leb-true 1 (length n) i.0, leb-true (length n) 8 i.1)

-- a name fits 8 bytes and has no zero byte
pub name_fits : (n : Name) → is_name n ≡ true → (length n ≤ 8) × (lacks 0 n ≡ true)
name_fits n h = ((name_length n h).1, name_lacks 0 (omega arith) n h)

-- the names of a path from the top
names : Path → List Name
names root = []
names (p ▹ n) = names p ++ (n ∷ [])

length_names : (p : Path) → length (names p) ≡ depth p
unfolding names depth
length_names root = refl
length_names (p ▹ n) = rw (length-append (names p) (n ∷ []), length_names p) (omega arith)

every_names : (p : Path) → every is_name (names p) ≡ has_names p
unfolding names has_names every
every_names root = refl
every_names (p ▹ n) = rw (every_append is_name (names p) (n ∷ []), every_names p) (case (is_name n) (λ t. rw t) (λ t. rw t))

extended_last : (q : Path) (k : List Name) (n : Name) → extended q (k ++ (n ∷ [])) ≡ extended q k ▹ n
unfolding extended
extended_last q [] n = refl
extended_last q (m ∷ k) n = extended_last (q ▹ m) k n

extended_names : (p : Path) → extended root (names p) ≡ p
unfolding extended names
extended_names root = refl
extended_names (p ▹ n) = rw (extended_last root (names p) n, extended_names p)

-- every path is made of names from the top
pub names_from_root : (p : Path) → (ns : List Name) × (extended root ns ≡ p)
names_from_root p = (names p, extended_names p)

-- one piece more is joined behind a separator
joined_last : (b : ℕ) (p : Text) (ps : List Text) (n : Text) → joined b (p ∷ (ps ++ (n ∷ []))) ≡ joined b (p ∷ ps) ++ (b ∷ n)
unfolding joined
joined_last b p [] n = refl
joined_last b p (q ∷ ps) n = rw (joined_last b q ps n) (sym (append_assoc p (b ∷ joined b (q ∷ ps)) (b ∷ n)))

names_text_joined : (p : Path) → names_text p ≡ joined 47 ([] ∷ names p)
unfolding names_text names joined
names_text_joined root = refl
names_text_joined (p ▹ n) = rw (joined_last 47 [] (names p) n, names_text_joined p)

-- the text of names cut at `/`
pieces_names : (p : Path) → has_names p ≡ true → pieces 47 (names_text p) ≡ [] ∷ names p
unfolding lacks every
pieces_names p h =
    rw (names_text_joined p)
    (pieces_joined 47 [] (names p) (every_implies is_name (lacks 47) (name_lacks 47 (omega arith)) (names p) (every_names p ∙ h)))

-- and with more behind them
pieces_names_more : (p : Path) (t : Text) → has_names p ≡ true → pieces 47 (names_text p ++ (47 ∷ t)) ≡ ([] ∷ names p) ++ pieces 47 t
unfolding names_text names has_names pieces
pieces_names_more root t h = refl
pieces_names_more (p ▹ n) t h =
    let i : _ = and_both (has_names p) (is_name n) h in
    rw (append_assoc (names_text p) (47 ∷ n) (47 ∷ t), pieces_names_more p (n ++ (47 ∷ t)) i.0, pieces_before 47 n t (name_lacks 47 (omega arith) n i.1))
    (ap (λ (l : List Text). [] ∷ l) (sym (append_assoc (names p) (n ∷ []) (pieces 47 t))))

extended_append : (q : Path) (k l : List Name) → extended q (k ++ l) ≡ extended (extended q k) l
unfolding extended
extended_append q [] l = refl
extended_append q (n ∷ k) l = extended_append (q ▹ n) k l

lies_extended : {p : Path} (q : Path) (ns : List Name) → Lies p q → Lies p (extended q ns)
unfolding extended
lies_extended q [] l = l
lies_extended q (n ∷ ns) l = lies_extended (q ▹ n) ns (deeper l)

-- where the text of a path's names goes on with a `/`, the longer one lies below it
pub text_lies : (p q : Path) (t : Text) → has_names p ≡ true → has_names q ≡ true → names_text q ≡ names_text p ++ (47 ∷ t) → Lies p q
text_lies p q t h k e =
    let c : [] ∷ names q ≡ [] ∷ (names p ++ pieces 47 t) = sym (pieces_names q k) ∙ ap (pieces 47) e ∙ pieces_names_more p t h in
    let d : names q ≡ names p ++ pieces 47 t = cc in
    let x : q ≡ extended p (pieces 47 t) =
    sym (extended_names q) ∙ ap (extended root) d ∙ extended_append root (names p) (pieces 47 t) ∙ ap (λ (r : Path). extended r (pieces 47 t)) (extended_names p) in
    rw x (lies_extended p (pieces 47 t) itself)

-- and so goes on the text of what lies below
pub lies_text : {p q : Path} → Lies p q → (names_text q ≡ names_text p) ⊎ ((t : Text) × (names_text q ≡ names_text p ++ (47 ∷ t)))
unfolding names_text
lies_text itself = inl refl
lies_text {p} (deeper {n = n} l) = elim (lies_text l) [
  | inl e ↦ inr (n, ap (λ (s : Text). s ++ (47 ∷ n)) e)
  | inr e ↦ inr (e.0 ++ (47 ∷ n), ap (λ (s : Text). s ++ (47 ∷ n)) e.1 ∙ append_assoc (names_text p) (47 ∷ e.0) (47 ∷ n))
]

names_back : (p : Path) → has_names p ≡ true → 1 ≤ depth p → names_from_top (pieces 47 (names_text p)) ≡ (check (leb (depth p) most_names) >> some p)
unfolding names_from_top
names_back p h l = rw (pieces_names p h, every_names p, h, length_names p, le-leb 1 (depth p) l, extended_names p)

-- the text of one or more names is not `/`
not_top : (p : Path) (n : Name) → is_name n ≡ true → same_text (names_text (p ▹ n)) (bytes "/") ≡ false
unfolding names_text bytes
not_top p n h = case (same_text (names_text (p ▹ n)) (bytes "/"))
    (λ t.
    let e : length (names_text p ++ (47 ∷ n)) ≡ 1 = ap length (same_text_sound (names_text (p ▹ n)) (bytes "/") t) in
    let z : ⊥ = omega (arith, e, length-append (names_text p) (47 ∷ n), (name_length n h).0) in
    absurd z)
    (λ t. t)

-- the text of names is read as the path of these, where they are not too many
pub path_of_names : (p : Path) (n : Name) → has_names (p ▹ n) ≡ true → path (names_text (p ▹ n)) ≡ (check (leb (depth (p ▹ n)) most_names) >> some (p ▹ n))
unfolding path has_names depth
path_of_names p n h =
    let i : _ = and_both (has_names p) (is_name n) h in
    rw (not_top p n i.1) (names_back (p ▹ n) h (omega arith))

-- so the text of a path is read as that path
pub path_of_text : (p : Path) → is_path p ≡ true → path (path_text p) ≡ some p
unfolding path path_text is_path same_text bytes check ◌>>◌
path_of_text root h = refl
path_of_text (p ▹ n) h =
    let i : _ = and_both (has_names (p ▹ n)) (leb (depth (p ▹ n)) most_names) h in
    rw (path_of_names p n i.0, i.1)

has_names_extended : (q : Path) (ns : List Name) → has_names q ≡ true → every is_name ns ≡ true → has_names (extended q ns) ≡ true
unfolding extended has_names every
has_names_extended q [] h k = h
has_names_extended q (n ∷ ns) h k =
    let i : _ = and_both (is_name n) (every is_name ns) k in
    has_names_extended (q ▹ n) ns (rw (h, i.0)) i.1

depth_extended : (q : Path) (ns : List Name) → depth (extended q ns) ≡ depth q + length ns
unfolding extended depth
depth_extended q [] = omega arith
depth_extended q (n ∷ ns) = rw (depth_extended (q ▹ n) ns) (omega arith)

names_are_path : (l : List Text) (p : Path) → names_from_top l ≡ some p → is_path p ≡ true
unfolding names_from_top is_path check ◌>>◌ most_names has_names depth
names_are_path [] p e = no_answer e
names_are_path ((b ∷ t) ∷ ns) p e = no_answer e
names_are_path ([] ∷ ns) p e =
    let i : _ = checked (every is_name ns && (leb 1 (length ns) && leb (length ns) most_names)) (some (extended root ns)) p e in
    let j : _ = and_both (every is_name ns) _ i.0 in
    let k : _ = and_both (leb 1 (length ns)) (leb (length ns) most_names) j.1 in
    let d : leb (depth (extended root ns)) most_names ≡ true =
    le-leb (depth (extended root ns)) most_names (omega (arith, depth_extended root ns, leb-true (length ns) most_names k.1)) in
    rw (answered i.1, has_names_extended root ns refl j.0) d

-- what is read as a path is one
pub path_is_path : (t : Text) (p : Path) → path t ≡ some p → is_path p ≡ true
unfolding path is_path has_names depth most_names
path_is_path t p e = case (same_text t (bytes "/"))
    (λ i. let q : some root ≡ some p = rw i at e in rw (answered q))
    (λ i. names_are_path (pieces 47 t) p (rw i at e))

without_rep_back : (f : Path) → without_rep (in_rep f) ≡ some f
unfolding without_rep in_rep check ◌>>◌ ◌>>=◌
without_rep_back root = rw (same_text_refl rep)
without_rep_back (root ▹ n) = rw (same_text_refl rep)
without_rep_back (p ▹ m ▹ n) = rw (without_rep_back (p ▹ m))

-- the location of an entry is read as that entry
in_rep_back : (e : EntryPath) → entry_at (entry_location e) ≡ some e
unfolding entry_at entry_location ◌>>=◌
in_rep_back e = rw (without_rep_back e.folder)

-- the text of an entry path is read as that entry path
pub entry_of_text : (e : EntryPath) → is_entry_path e ≡ true → entry_path (entry_text e) ≡ some e
unfolding entry_path entry_text is_entry_path ◌>>=◌
entry_of_text e h = rw (path_of_text (entry_location e) h) (in_rep_back e)

without_rep_sound : (p q : Path) → without_rep p ≡ some q → in_rep q ≡ p
unfolding without_rep in_rep check ◌>>◌ ◌>>=◌
without_rep_sound root q e = no_answer e
without_rep_sound (root ▹ n) q e =
    let i : _ = checked (same_text n rep) (some root) q e in
    rw (answered i.1, same_text_sound n rep i.0)
without_rep_sound (p ▹ m ▹ n) q e =
    let i : _ = both_read (without_rep (p ▹ m)) (λ r. some (r ▹ n)) q e in
    rw (answered i.2, without_rep_sound (p ▹ m) i.0 i.1)

-- only an entry's location is read as that entry
pub entry_at_sound : (p : Path) (e : EntryPath) → entry_at p ≡ some e → entry_location e ≡ p
unfolding entry_at entry_location ◌>>=◌
entry_at_sound root e h = no_answer h
entry_at_sound (p ▹ n) e h =
    let i : _ = both_read (without_rep p) (λ f. some (record { folder = f; name = n })) e h in
    let q : e ≡ record { folder = i.0; name = n } = answered i.2 in
    rw (q, without_rep_sound p i.0 i.1)

-- a text that is read as an entry path is read as the path of its location
pub entry_reads : (t : Text) (e : EntryPath) → entry_path t ≡ some e → path t ≡ some (entry_location e)
unfolding entry_path ◌>>=◌
entry_reads t e h =
    let i : _ = both_read (path t) entry_at e h in
    i.1 ∙ ap some (sym (entry_at_sound i.0 e i.2))

-- what is read as an entry path is one
pub entry_is_entry : (t : Text) (e : EntryPath) → entry_path t ≡ some e → is_entry_path e ≡ true
unfolding entry_path is_entry_path ◌>>=◌
entry_is_entry t e h =
    let i : _ = both_read (path t) entry_at e h in
    rw (entry_at_sound i.0 e i.2) (path_is_path t i.0 i.1)

names_text_fits : (p : Path) → has_names p ≡ true → (length (names_text p) ≤ 9 * depth p) × (lacks 0 (names_text p) ≡ true)
unfolding names_text has_names depth lacks every
names_text_fits root h = (omega arith, refl)
names_text_fits (p ▹ n) h =
    let i : _ = and_both (has_names p) (is_name n) h in
    let r : _ = names_text_fits p i.0 in
    let f : _ = name_fits n i.1 in
    (rw (length-append (names_text p) (47 ∷ n)) (omega (arith, r.0, f.0)), rw (every_append (λ c. not (eqb c 0)) (names_text p) (47 ∷ n), r.1, f.1))

-- the text of a path fits 54 bytes and has no zero byte
pub path_text_fits : (p : Path) → is_path p ≡ true → (length (path_text p) ≤ 54) × (lacks 0 (path_text p) ≡ true)
unfolding path_text is_path most_names
path_text_fits root h = unfold bytes lacks every in (omega arith, refl)
path_text_fits (p ▹ n) h =
    let i : _ = and_both (has_names (p ▹ n)) (leb (depth (p ▹ n)) 6) h in
    let r : _ = names_text_fits (p ▹ n) i.0 in
    (omega (arith, r.0, leb-true (depth (p ▹ n)) 6 i.1), r.1)

in_rep_length : (p : Path) → has_names (in_rep p) ≡ true → length (names_text (in_rep p)) + 5 ≤ 9 * depth (in_rep p)
unfolding names_text in_rep has_names depth rep bytes
in_rep_length root h = omega arith
in_rep_length (p ▹ n) h =
    let i : _ = and_both (has_names (in_rep p)) (is_name n) h in
    rw (length-append (names_text (in_rep p)) (47 ∷ n)) (omega (arith, in_rep_length p i.0, (name_length n i.1).1))

-- and is at most so long, for its first name is `rep`
pub entry_text_length : (e : EntryPath) → is_entry_path e ≡ true → length (entry_text e) ≤ longest_entry_text
unfolding entry_text entry_location in_rep path_text is_entry_path is_path most_names
entry_text_length e h =
    let p : Path = e.folder ▹ e.name in
    let i : _ = and_both (has_names (in_rep p)) (leb (depth (in_rep p)) 6) h in
    omega (arith, in_rep_length p i.0, leb-true (depth (in_rep p)) 6 i.1)

-- so the text of an entry path fits a tag
pub entry_text_fits : (e : EntryPath) → is_entry_path e ≡ true → (length (entry_text e) ≤ longest_entry_text) × (lacks 0 (entry_text e) ≡ true)
unfolding entry_text is_entry_path
entry_text_fits e h = (entry_text_length e h, (path_text_fits (entry_location e) h).1)

-- and at least one
pub entry_text_some : (e : EntryPath) → length (entry_text e) ≡ 0 → ⊥
unfolding entry_text entry_location path_text names_text
entry_text_some e h = omega (arith, length-append (names_text (in_rep e.folder)) (47 ∷ e.name))

-- ---- the parts of paths in range

-- a path has at most 6 names
pub path_depth : (p : Path) → is_path p ≡ true → depth p ≤ 6
unfolding is_path most_names
path_depth p h = leb-true (depth p) 6 (and_both (has_names p) (leb (depth p) 6) h).1

-- its last name is one
pub last_is_name : (p : Path) → is_path p ≡ true → is_top p ≡ false → is_name (last p) ≡ true
unfolding is_path has_names last is_top
last_is_name root h t = contra refl t
last_is_name (p ▹ n) h t = (and_both (has_names p) (is_name n) (and_both (has_names (p ▹ n)) (leb (depth (p ▹ n)) most_names) h).0).1

-- its parent has one name less
pub parent_depth : (p : Path) → is_top p ≡ false → suc (depth (parent p)) ≡ depth p
unfolding parent is_top depth
parent_depth root t = contra refl t
parent_depth (p ▹ n) t = refl

-- and with its last name is the path
pub parent_and_last : (p : Path) → is_top p ≡ false → p ≡ parent p ▹ last p
unfolding is_top parent last
parent_and_last root t = contra {b = true} refl t
parent_and_last (p ▹ n) t = refl

-- what is not reserved is not `/`
pub not_reserved : (p : Path) → reserved p ≡ false → is_top p ≡ false
unfolding reserved is_top
not_reserved root h = h
not_reserved (p ▹ n) h = refl

-- a path with one name more is one if it has at most 6
pub path_more : (p : Path) (n : Name) → is_path p ≡ true → is_name n ≡ true → depth (p ▹ n) ≤ 6 → is_path (p ▹ n) ≡ true
unfolding is_path has_names most_names
path_more p n h k l = rw ((and_both (has_names p) (leb (depth p) 6) h).0, k) (le-leb (depth (p ▹ n)) 6 l)

-- an entry's name is one, and at most 5 names lead to its folder
pub entry_parts : (e : EntryPath) → is_entry_path e ≡ true → (is_name e.name ≡ true) × (depth (in_rep e.folder) ≤ 5)
unfolding is_entry_path entry_location last is_top depth
entry_parts e h = (last_is_name (entry_location e) h refl, omega (arith, path_depth (entry_location e) h))
