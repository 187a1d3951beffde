-- Laws of the kinds of arguments: the number that the code reads of a text tells what its reader makes of it, kind by kind, and
-- then of arguments one after another.
use Rattle.std.specs.Prelude.{◌≡◌, refl, List, [], ◌∷◌, Bool, true, false, ◌&&◌, ℕ, zero, suc, ◌%◌, ◌≤◌, leb, ltb, length, take, get_or}
use Rattle.std.proofs.Common.{sym, ap, ◌∙◌, arith, lt-ltb, le-ltb, le-leb, leb-true, leb-false}
use Rattle.std.proofs.Math.Option.{Option, none, some}
use Rattle.buffers.specs.Cases.{case, and_both}
use Rattle.buffers.specs.Text.{Text}
use Rattle.syntax.specs.Number.{decimal, between, mode, set_gid}
use Rattle.syntax.specs.Form.{◌>>=◌, ◌>>◌, check, is_some}
use Rattle.syntax.specs.Path.{TypedPath, is_name, typed_path, entry_path}
use Rattle.syntax.specs.Field.{uid, gid, bounded_by, bounded, role, plain_mode, password, is_content, content}
use Rattle.syntax.specs.Parts.{span_text}
use Rattle.syntax.proofs.FormLaws.{no_answer, is_none, then_none, the_some}
use Rattle.syntax.proofs.FieldLaws.{between_gives, read_byte}
use Rattle.syntax.proofs.PartsLaws.{inside_text}
use Rattle.arguments.specs.declared.ArgumentKind.{ArgumentKind}
use Rattle.arguments.specs.declared.ArgumentKind.TheVariants as a
use Rattle.arguments.specs.Kinds.{reader, Makes, arguments_of, zero_if, number_in, read_in, Argument, ArgumentRead, value, values_of}

bounded_some : (n : ℕ) → is_some (bounded n) ≡ ltb n 8
unfolding bounded bounded_by is_some
bounded_some n = by (ltb n 8) refl
  where
    by : (b : Bool) (e : ltb n 8 ≡ b) → is_some (bounded_by n b e) ≡ b
    by true e = refl
    by false e = refl

role_of : (m : Option ℕ) → (m >>= bounded) ≡ ((m >>= λ n. check (leb 0 n && leb n 7) >> some n) >>= bounded)
unfolding ◌>>=◌ ◌>>◌ check
role_of none = refl
role_of (some n) = case (leb n 7)
    (λ e. rw (le-leb 0 n (omega arith), e))
    (λ e. rw (le-leb 0 n (omega arith), e) (is_none (bounded n) (bounded_some n ∙ le-ltb n 8 (omega (arith, leb-false n 7 e)))))

-- a role is a number from 0 to 7
role_between : (t : Text) → role t ≡ (between 0 7 t >>= bounded)
unfolding role between
role_between t = role_of (decimal t)

role_read : (n : ℕ) (t : Text) → some n ≡ between 0 7 t → (role t ≡ bounded (n % 256)) × (is_some (role t) ≡ true)
unfolding ◌>>=◌
role_read n t e =
    let same : role t ≡ bounded n = rw (role_between t, ← e) in
    let i : _ = and_both (leb 0 n) (leb n 7) (between_gives 0 7 t n (sym e)) in
    (rw (read_byte 0 7 n t e (omega arith)) same, ap is_some same ∙ (bounded_some n ∙ lt-ltb n 8 (omega (arith, leb-true n 7 i.1))))

-- the mode of a new file is a mode without set-gid
pub plain_read : (m : ℕ) (t : Text) → some m ≡ mode t → set_gid m ≡ false → some m ≡ plain_mode t
unfolding plain_mode check ◌>>=◌ ◌>>◌
plain_read m t e h = rw (← e, h)

pub plain_not_read : (m : ℕ) (t : Text) → some m ≡ mode t → set_gid m ≡ true → none ≡ plain_mode t
unfolding plain_mode check ◌>>=◌ ◌>>◌
plain_not_read m t e h = rw (← e, h)

pub no_plain_mode : (t : Text) → none ≡ mode t → none ≡ plain_mode t
unfolding plain_mode ◌>>=◌
no_plain_mode t e = rw (← e)

-- a text has a form that has no number where the code reads 0
pub formed : (b : Bool) (n : ℕ) → some n ≡ zero_if b → b ≡ true
unfolding zero_if check ◌>>◌
formed true n e = refl
formed false n e = no_answer (sym e)

unformed : (b : Bool) → none ≡ zero_if b → b ≡ false
unfolding zero_if check ◌>>◌
unformed true e = no_answer e
unformed false e = refl

-- the value of an argument that was read is what the reader makes of its text
pub record Reads {A : Type 0} (m n : Option A) : Type 0 where
  pub same : m ≡ n
  pub there : is_some n ≡ true

answers : {A : Type 0} {m n : Option A} {x : A} → m ≡ some x → n ≡ some x → Reads m n
unfolding is_some
answers e h = record { same = e ∙ sym h; there = ap is_some h }

reads : (k : ArgumentKind) (t : Text) (v : Argument) → ArgumentRead k t v → Reads (value typed_path k t v) (reader typed_path k (span_text t v.part))
unfolding value reader number_in read_in uid gid password content check ◌>>=◌ ◌>>◌
reads a.Path t v h = record { same = rw (inside_text h.inside); there = formed _ _ h.number }
reads a.Entry t v h = record { same = rw (inside_text h.inside); there = formed _ _ h.number }
reads a.Mode t v h = answers refl (sym h.number)
reads a.Plain t v h = answers refl (sym h.number)
reads a.Uid t v h = answers refl (rw (← h.number, read_byte 0 23 v.number (span_text t v.part) h.number (omega arith)))
reads a.Gid t v h = answers refl (rw (← h.number, read_byte 0 24 v.number (span_text t v.part) h.number (omega arith)))
reads a.Role t v h = let r : _ = role_read v.number (span_text t v.part) h.number in record { same = sym r.0; there = r.1 }
reads a.Password t v h = answers (inside_text h.inside) (rw (formed (is_name (span_text t v.part)) v.number h.number))
reads a.Content t v h = answers (inside_text h.inside) (rw (formed (is_content (span_text t v.part)) v.number h.number))
reads a.Absent t v h = answers refl refl

-- a text of which the code reads nothing has no value
reads_not : (k : ArgumentKind) (t : Text) → none ≡ number_in k t → reader typed_path k t ≡ none
unfolding reader number_in uid gid password content check ◌>>=◌ ◌>>◌
reads_not a.Path t e = is_none (typed_path t) (unformed _ e)
reads_not a.Entry t e = is_none (entry_path t) (unformed _ e)
reads_not a.Mode t e = sym e
reads_not a.Plain t e = sym e
reads_not a.Uid t e = rw (← e)
reads_not a.Gid t e = rw (← e)
reads_not a.Role t e = rw (role_between t, ← e)
reads_not a.Password t e = rw (unformed (is_name t) e)
reads_not a.Content t e = rw (unformed (is_content t) e)
reads_not a.Absent t e = no_answer e

-- another number of arguments than of kinds is refused
pub count_refused : {P X : Type 0} (read_path : Text → Option P) (ks : List ArgumentKind) (x : Makes P ks X) (ts : List Text) → (length ts ≡ length ks → ⊥)
    → arguments_of read_path ks x ts ≡ none
unfolding arguments_of
count_refused read_path [] x [] h = absurd (h refl)
count_refused read_path [] x (s ∷ ts) h = refl
count_refused read_path (k ∷ ks) x [] h = refl
count_refused read_path (k ∷ ks) x (s ∷ ts) h =
    then_none (reader read_path k s) (λ v. arguments_of read_path ks (x v) ts) (λ v. count_refused read_path ks (x v) ts (λ e. h (ap suc e)))

-- arguments of which the code reads one not are refused
pub one_refused : {X : Type 0} (ks : List ArgumentKind) (x : Makes TypedPath ks X) (us : List Text) (i : ℕ) →
    none ≡ number_in (get_or ks i a.Absent) (get_or us i []) → arguments_of typed_path ks x (take (length ks) us) ≡ none
unfolding arguments_of number_in ◌>>=◌
one_refused [] x us i e = no_answer e
one_refused (k ∷ ks) x [] i e = refl
one_refused (k ∷ ks) x (u ∷ us) zero e = rw (reads_not k u e)
one_refused (k ∷ ks) x (u ∷ us) (suc i) e =
    then_none (reader typed_path k u) (λ v. arguments_of typed_path ks (x v) (take (length ks) us)) (λ v. one_refused ks (x v) us i e)

-- the texts of arguments
texts_of : Text → List Argument → List Text
texts_of t [] = []
texts_of t (v ∷ vs) = span_text t v.part ∷ texts_of t vs

-- arguments that the code has read, one of each kind
Each : List ArgumentKind → Text → List Argument → Type 0
Each [] t vs = Unit
Each (k ∷ ks) t [] = ⊥
Each (k ∷ ks) t (v ∷ vs) = ArgumentRead k t v × Each ks t vs

each_reads : {X : Type 0} (ks : List ArgumentKind) (x : Makes TypedPath ks X) (t : Text) (vs : List Argument) → Each ks t vs →
    Reads (values_of typed_path ks x t vs) (arguments_of typed_path ks x (take (length ks) (texts_of t vs)))
unfolding values_of arguments_of texts_of Each ◌>>=◌ is_some
each_reads [] x t vs h = record { same = refl; there = refl }
each_reads (k ∷ ks) x t [] h = absurd h
each_reads (k ∷ ks) x t (v ∷ vs) h =
    let r = reads k t v h.0 in
    let s = the_some (reader typed_path k (span_text t v.part)) r.there in
    let m = each_reads ks (x s.0) t vs h.1 in
    record { same = rw (r.same, s.1) m.same; there = rw s.1 m.there }

-- three arguments, of which those behind the kinds are absent
pub three_read : {X : Type 0} (ks : List ArgumentKind) (x : Makes TypedPath ks X) (t : Text) (v w z : Argument) → length ks ≤ 3 →
    ArgumentRead (get_or ks 0 a.Absent) t v → ArgumentRead (get_or ks 1 a.Absent) t w → ArgumentRead (get_or ks 2 a.Absent) t z →
    Reads (values_of typed_path ks x t (v ∷ (w ∷ (z ∷ [])))) (arguments_of typed_path ks x (take (length ks) (span_text t v.part ∷ (span_text t w.part ∷ (span_text t z.part ∷ [])))))
unfolding texts_of Each
three_read ks x t v w z h p q r = each_reads ks x t (v ∷ (w ∷ (z ∷ []))) (each ks h p q r)
  where
    each : (ks : List ArgumentKind) → length ks ≤ 3 → ArgumentRead (get_or ks 0 a.Absent) t v → ArgumentRead (get_or ks 1 a.Absent) t w → ArgumentRead (get_or ks 2 a.Absent) t z →
        Each ks t (v ∷ (w ∷ (z ∷ [])))
    each [] h p q r = tt
    each (k ∷ []) h p q r = (p, tt)
    each (k ∷ (l ∷ [])) h p q r = (p, (q, tt))
    each (k ∷ (l ∷ (m ∷ []))) h p q r = (p, (q, (r, tt)))
    each (k ∷ (l ∷ (m ∷ (n ∷ ks)))) h p q r = let z : ⊥ = omega arith in absurd z
