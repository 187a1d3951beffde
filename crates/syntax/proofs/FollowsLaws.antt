-- Paths as they are typed: what is read as one is in range, a short one is a path behind a `/`, and behind the text of a directory it
-- reads as the joined path, where this is not too deep.
use Rattle.std.specs.Prelude.{◌≡◌, refl, [], ◌∷◌, ◌++◌, true, false, ◌+◌, ◌<◌, leb, length}
use Rattle.std.proofs.Common.{sym, ◌∙◌, ap, append-nil, append_assoc, arith}
use Rattle.std.proofs.Math.Option.{some}
use Rattle.buffers.specs.Cases.{case, contra, and_both}
use Rattle.buffers.specs.Text.{Text, same_text, every}
use Rattle.syntax.specs.Pieces.{bytes, pieces}
use Rattle.syntax.specs.Form.{◌>>=◌, ◌>>◌, check}
use Rattle.syntax.proofs.FormLaws.{no_answer, both_read, both}
use Rattle.syntax.specs.Path.{Path, root, ◌▹◌, depth, is_name, has_names, is_path, most_names, some_names, names_from_top, path, TypedPath, whole, short, begins_with_slash, typed_path, follows, is_typed_path, names_text, path_text}
use Rattle.syntax.proofs.PathLaws.{path_is_path, path_of_names}
use Rattle.syntax.proofs.ParentLaws.{text_of_path}

-- ---- what is read

-- a whole path begins with `/`, and reads as it is
pub whole_reads : (t : Text) (p : Path) → typed_path t ≡ some (whole p) → (begins_with_slash t ≡ true) × (path t ≡ some p)
unfolding typed_path
whole_reads t p e = case (begins_with_slash t)
    (λ b.
    let i = both_read (path t) (λ r. some (whole r)) (whole p) (rw b at e) in
    let same : i.0 ≡ p = let j = i.2 in cc in
    (b, i.1 ∙ ap some same))
    (λ b.
    let i = both_read (some_names (pieces 47 t)) (λ r. some (short r)) (whole p) (rw b at e) in
    let j = i.2 in
    contra {b = true} refl (cc))

-- the names behind a `/`
behind_slash : (t : Text) → 0 < length t → path (47 ∷ t) ≡ some_names (pieces 47 t)
unfolding path same_text bytes pieces names_from_top
behind_slash [] h = let z : ⊥ = omega arith in absurd z
behind_slash (b ∷ t) h = refl

-- no typed path is empty
typed_some : (t : Text) {p : TypedPath} → typed_path t ≡ some p → 0 < length t
unfolding typed_path begins_with_slash pieces every is_name check ◌>>◌ ◌>>=◌
typed_some [] e = no_answer e
typed_some (b ∷ t) e = omega arith

-- a short one does not begin with `/`, and reads so behind one
pub short_reads : (t : Text) (p : Path) → typed_path t ≡ some (short p) → (begins_with_slash t ≡ false) × (path (47 ∷ t) ≡ some p)
unfolding typed_path
short_reads t p e = case (begins_with_slash t)
    (λ b.
    let i = both_read (path t) (λ r. some (whole r)) (short p) (rw b at e) in
    let j = i.2 in
    contra {b = true} refl (cc))
    (λ b.
    let i = both_read (some_names (pieces 47 t)) (λ r. some (short r)) (short p) (rw b at e) in
    let same : i.0 ≡ p = let j = i.2 in cc in
    (b, behind_slash t (typed_some t e) ∙ i.1 ∙ ap some same))

-- what is read as a typed path is one
pub typed_is_typed : (t : Text) (p : TypedPath) → typed_path t ≡ some p → is_typed_path p ≡ true
unfolding is_typed_path
typed_is_typed t (whole p) e = path_is_path t p (whole_reads t p e).1
typed_is_typed t (short p) e = path_is_path (47 ∷ t) p (short_reads t p e).1

-- ---- a path behind another

names_follow : (q p : Path) → names_text (follows q p) ≡ names_text q ++ names_text p
unfolding names_text follows
names_follow q root = sym (append-nil (names_text q))
names_follow q (p ▹ n) = ap (λ t. t ++ (47 ∷ n)) (names_follow q p) ∙ append_assoc (names_text q) (names_text p) (47 ∷ n)

pub depth_follows : (q p : Path) → depth (follows q p) ≡ depth q + depth p
unfolding depth follows
depth_follows q root = omega arith
depth_follows q (p ▹ n) = omega (arith, depth_follows q p)

named_follow : (q p : Path) → has_names q ≡ true → has_names p ≡ true → has_names (follows q p) ≡ true
unfolding has_names follows
named_follow q root h k = h
named_follow q (p ▹ n) h k = let i = and_both (has_names p) (is_name n) k in both (named_follow q p h i.0) i.1

named : (p : Path) → is_path p ≡ true → has_names p ≡ true
unfolding is_path
named p h = (and_both (has_names p) (leb (depth p) most_names) h).0

-- a joined path that is not too deep is a path
pub follows_is_path : (q p : Path) → is_path q ≡ true → is_path p ≡ true → leb (depth q + depth p) most_names ≡ true → is_path (follows q p) ≡ true
unfolding is_path
follows_is_path q p h k l = both (named_follow q p (named q h) (named p k)) (ap (λ n. leb n most_names) (depth_follows q p) ∙ l)

-- the names of a directory and behind a `/` a short path read as the joined path, where this is not too deep
pub joined_reads : (q : Path) (t : Text) (p : Path) → is_path q ≡ true → typed_path t ≡ some (short p)
    → path (names_text q ++ (47 ∷ t)) ≡ (check (leb (depth q + depth p) most_names) >> some (follows q p))
unfolding path_text follows bytes
joined_reads q t root v e =
    let z : 47 ∷ t ≡ 47 ∷ [] = text_of_path (47 ∷ t) root (short_reads t root e).1 in
    let z : ⊥ = omega (arith, ap length z, typed_some t e) in
    absurd z
joined_reads q t (p ▹ n) v e =
    let i = (short_reads t (p ▹ n) e).1 in
    ap (λ x. path (names_text q ++ x)) (text_of_path (47 ∷ t) (p ▹ n) i)
    ∙ ap path (sym (names_follow q (p ▹ n)))
    ∙ path_of_names (follows q p) n (named_follow q (p ▹ n) (named q v) (named (p ▹ n) (path_is_path (47 ∷ t) (p ▹ n) i)))
    ∙ ap (λ d. check (leb d most_names) >> some (follows q p ▹ n)) (depth_follows q (p ▹ n))
