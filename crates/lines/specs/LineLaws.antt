-- Laws of a setup line: its form by its word, with two numbers and a password; the line that was told; and that a line told of a text
-- is told of a longer one.
use Rattle.std.specs.Prelude.{◌≡◌, refl, List, [], ◌∷◌, ◌++◌, true, false, ℕ, ◌+◌, ◌-◌, ◌%◌, ◌≤◌, ◌<◌, length, take, drop, get_or, Option as Found, Some, None}
use Rattle.std.proofs.Common.{sym, ap, ◌∙◌, arith, ne_eqb, le-leb, length-append, length-drop, take-append-drop, length-take-le, take-add, drop_at, drop-cons}
use Rattle.std.proofs.Math.Option.{Option, none, some, map}
use Rattle.std.proofs.lemmas.Bool.{lt-leb}
use Rattle.std.proofs.lemmas.List.{take-append-le, drop-append-le}
use Rattle.buffers.specs.Cases.{case}
use Rattle.buffers.specs.Options.{option_of}
use Rattle.buffers.specs.Text.{Text, same_text}
use Rattle.buffers.specs.TextLaws.{same_length}
use Rattle.accounts.specs.declared.Uid.{Uid}
use Rattle.accounts.specs.declared.Role.{Role}
use Rattle.syntax.specs.declared.Span.{Span}
use Rattle.syntax.specs.Pieces.{bytes, comma, pieces}
use Rattle.syntax.proofs.PartsLaws.{inside_text, text_inside}
use Rattle.lines.specs.declared.LineKind.{LineKind}
use Rattle.lines.specs.declared.LineKind.TheVariants as k
use Rattle.lines.specs.declared.SetupLine.{SetupLine}
use Rattle.lines.specs.declared.SetupLine.TheVariants.{Person, Group, Pair, Grant}
use Rattle.syntax.specs.Number.{between}
use Rattle.syntax.specs.Form.{◌>>=◌, ◌>>◌, check, none_of, one_of, two_of, three_of, by_form}
use Rattle.syntax.proofs.FormLaws.{then_none, both_read, answered, no_answer, two_refuses, three_refuses}
use Rattle.syntax.specs.Field.{password}
use Rattle.syntax.proofs.FieldLaws.{read_byte}
use Rattle.syntax.specs.Path.{is_name}
use Rattle.syntax.specs.Parts.{part, span_text, Inside, text_in}
use Rattle.lines.specs.SetupLines.{LineOfSetup, p_line, g_line, r_line, l_line, longest_line, person_uid, person_or_root, person_gid, plain_role, setup_form, setup_forms, setup_line_of, setup_line}
use Rattle.lines.specs.Line.{kind_form, line_form, both_between, line_told}

-- a word of one byte, and of another number of bytes
pub one_byte : (w : Text) (b : ℕ) → length w ≡ 1 → get_or w 0 0 ≡ b → w ≡ b ∷ []
one_byte [] b h e = absurd (omega arith)
one_byte (a ∷ []) b h e = ap (λ z. z ∷ []) e
one_byte (a ∷ (c ∷ w)) b h e = absurd (omega arith)

pub other_lengths : (w : Text) (s : List Text) → (length w ≡ 1 → ⊥) → setup_line_of (w ∷ s) ≡ none
unfolding setup_line_of by_form setup_forms setup_form bytes
other_lengths w s h = rw (same_length w (112 ∷ []) h, same_length w (103 ∷ []) h, same_length w (114 ∷ []) h, same_length w (108 ∷ []) h)

-- the same of a word in its line
pub one_byte_of : (t : Text) (w : Span) → Inside w t → w.end - w.start ≡ 1 → span_text t w ≡ get_or t w.start 0 ∷ []
unfolding span_text part
one_byte_of t w i e = rw (e, drop-cons t w.start 0 (omega (arith, i.ends)))

pub other_length : (t : Text) (w : Span) (s : List Text) → Inside w t → (w.end - w.start ≡ 1 → ⊥) → setup_line_of (span_text t w ∷ s) ≡ none
unfolding span_text part
other_length t w s i h =
    let all : w.end - w.start ≤ length (drop w.start t) = omega (arith, i.ends, length-drop w.start t) in
    other_lengths (span_text t w) s (λ e. h (sym (length-take-le (w.end - w.start) (drop w.start t) all) ∙ e))

pub other_byte : (b : ℕ) (s : List Text) → (b ≡ 112 → ⊥) → (b ≡ 103 → ⊥) → (b ≡ 114 → ⊥) → (b ≡ 108 → ⊥) → setup_line_of ((b ∷ []) ∷ s) ≡ none
unfolding setup_line_of by_form setup_forms setup_form same_text bytes
other_byte b s p g r l = rw (ne_eqb b 112 p, ne_eqb b 103 g, ne_eqb b 114 r, ne_eqb b 108 l)

-- neither two arguments nor three are no line
no_line : (w : Text) (s : List Text) → (length s ≡ 2 → ⊥) → (length s ≡ 3 → ⊥) → setup_line_of (w ∷ s) ≡ none
unfolding setup_line_of by_form setup_forms setup_form
no_line w s h k = case (same_text w (bytes "p"))
    (λ p. rw p (two_refuses person_uid person_gid p_line s h))
    (λ p. case (same_text w (bytes "g"))
    (λ g. rw (p, g) (two_refuses person_uid person_gid g_line s h))
    (λ g. case (same_text w (bytes "r"))
    (λ r. rw (p, g, r) (two_refuses plain_role plain_role r_line s h))
    (λ r. case (same_text w (bytes "l"))
    (λ l. rw (p, g, r, l) (three_refuses person_or_root plain_role password l_line s k))
    (λ l. rw (p, g, r, l)))))

-- three arguments are the form of `l` alone
pub not_three : (kind : LineKind) (a b c : Text) → (kind ≡ k.Grant → ⊥) → kind_form kind (a ∷ (b ∷ (c ∷ []))) ≡ none
unfolding kind_form
not_three k.Person a b c h = two_refuses person_uid person_gid p_line _ (λ e. omega arith)
not_three k.Group a b c h = two_refuses person_uid person_gid g_line _ (λ e. omega arith)
not_three k.Pair a b c h = two_refuses plain_role plain_role r_line _ (λ e. omega arith)
not_three k.Grant a b c h = absurd (h refl)

-- a form of two numbers, and of two numbers and a password
two_numbers : {A B X : Type 0} (f : ℕ → A) (g : ℕ → B) (x : A → B → X) (low high1 high2 : ℕ) (a b : Text) →
    two_of (λ t. between low high1 t >>= λ n. some (f n)) (λ t. between low high2 t >>= λ n. some (g n)) x (a ∷ (b ∷ [])) ≡
    map (λ (p : ℕ × ℕ). x (f p.0) (g p.1)) (both_between low high1 high2 a b)
unfolding two_of one_of none_of both_between ◌>>=◌
two_numbers f g x low high1 high2 a b = by (between low high1 a) (between low high2 b)
  where
    by : (m n : Option ℕ) → ((m >>= λ n. some (f n)) >>= λ u. ((n >>= λ n. some (g n)) >>= λ v. some (x u v))) ≡
        map (λ (p : ℕ × ℕ). x (f p.0) (g p.1)) (m >>= λ u. (n >>= λ v. some (u, v)))
    by none n = refl
    by (some u) none = refl
    by (some u) (some v) = refl

-- the numbers that the code read
pub first_none : (low high1 high2 : ℕ) (a b : Text) → none ≡ between low high1 a → none ≡ both_between low high1 high2 a b
unfolding both_between ◌>>=◌
first_none low high1 high2 a b e = rw (← e)

pub second_none : (low high1 high2 : ℕ) (a b : Text) → none ≡ between low high2 b → none ≡ both_between low high1 high2 a b
unfolding both_between ◌>>=◌
second_none low high1 high2 a b e = sym (then_none (between low high1 a) _ (λ m. rw (← e)))

pub both_numbers : (low high1 high2 : ℕ) (a b : Text) (m n : ℕ) → high1 < 256 → high2 < 256 →
    some m ≡ between low high1 a → some n ≡ between low high2 b → some (m % 256, n % 256) ≡ both_between low high1 high2 a b
unfolding both_between ◌>>=◌
both_numbers low high1 high2 a b m n h k f g = rw (read_byte low high1 m a f h, read_byte low high2 n b g k, ← f, ← g)

-- what each form answers of its arguments
pub p_form : (a b : Text) → kind_form k.Person (a ∷ (b ∷ [])) ≡ map (λ (p : ℕ × ℕ). p_line (record { 0 = p.0 }) (record { 0 = p.1 })) (both_between 1 15 15 a b)
unfolding kind_form person_uid person_gid
p_form = two_numbers (λ n. record { 0 = n }) (λ n. record { 0 = n }) p_line 1 15 15

pub g_form : (a b : Text) → kind_form k.Group (a ∷ (b ∷ [])) ≡ map (λ (p : ℕ × ℕ). g_line (record { 0 = p.0 }) (record { 0 = p.1 })) (both_between 1 15 15 a b)
unfolding kind_form person_uid person_gid
g_form = two_numbers (λ n. record { 0 = n }) (λ n. record { 0 = n }) g_line 1 15 15

pub r_form : (a b : Text) → kind_form k.Pair (a ∷ (b ∷ [])) ≡ map (λ (p : ℕ × ℕ). r_line (record { 0 = p.0 }) (record { 0 = p.1 })) (both_between 0 7 7 a b)
unfolding kind_form plain_role
r_form = two_numbers (λ n. record { 0 = n }) (λ n. record { 0 = n }) r_line 0 7 7

pub l_short : (a b : Text) → kind_form k.Grant (a ∷ (b ∷ [])) ≡ none
unfolding kind_form
l_short a b = three_refuses person_or_root plain_role password l_line (a ∷ (b ∷ [])) (λ e. omega arith)

pub l_form : (a b c : Text) → is_name c ≡ true →
    kind_form k.Grant (a ∷ (b ∷ (c ∷ []))) ≡ map (λ (p : ℕ × ℕ). l_line (record { 0 = p.0 }) (record { 0 = p.1 }) c) (both_between 0 15 7 a b)
unfolding kind_form three_of two_of one_of none_of person_or_root plain_role password check both_between ◌>>=◌ ◌>>◌
l_form a b c h = rw h (by (between 0 15 a) (between 0 7 b))
  where
    by : (m n : Option ℕ) → ((m >>= λ n. some (record { 0 = n })) >>= λ u. ((n >>= λ n. some (record { 0 = n })) >>= λ v. some (l_line u v c))) ≡
        map (λ (p : ℕ × ℕ). l_line (record { 0 = p.0 }) (record { 0 = p.1 }) c) (m >>= λ u. (n >>= λ v. some (u, v)))
    by none n = refl
    by (some u) none = refl
    by (some u) (some v) = refl

pub l_nameless : (a b c : Text) → is_name c ≡ false → kind_form k.Grant (a ∷ (b ∷ (c ∷ []))) ≡ none
unfolding kind_form three_of two_of one_of password check ◌>>=◌ ◌>>◌
l_nameless a b c h = then_none (person_or_root a) _ (λ u. then_none (plain_role b) _ (λ v. rw h))

-- a line of a kind has the kind's form, and one of no kind none: what is said of kinds is so of lines
pub of_kind : (kind : LineKind) (s : List Text) → line_form (Some kind) s ≡ kind_form kind s
unfolding line_form
of_kind kind s = refl

pub never_three : (kind : Found LineKind) (a b c : Text) → (kind ≡ Some k.Grant → ⊥) → line_form kind (a ∷ (b ∷ (c ∷ []))) ≡ none
unfolding line_form
never_three (Some kind) a b c h = not_three kind a b c (λ e. h (ap {B = Found LineKind} Some e))
never_three None a b c h = refl

-- what a form answers is what is told
pub told_wrong : (t : Text) {answer : Option LineOfSetup} → answer ≡ none → line_told t None ≡ map some answer
unfolding line_told
told_wrong t e = rw e

module _ (t : Text) {answer : Option LineOfSetup} (f : ℕ × ℕ → LineOfSetup) {m : Option (ℕ × ℕ)} {q : Found (ℕ × ℕ)} (form : answer ≡ map f m) (told : option_of q ≡ m) where
  pub told_nothing : q ≡ None → line_told t None ≡ map some answer
  unfolding line_told
  told_nothing e = rw (form, ← told, e)

  pub told_both : {a b : ℕ} {x : Option (Option LineOfSetup)} → q ≡ Some (a, b) → x ≡ some (some (f (a, b))) → x ≡ map some answer
  told_both e h = rw (form, ← told, e, h)

-- a line that is too long has no form
pub long_line : (t : Text) (at : ℕ) → 200 < length t - at → line_told t None ≡ map some (setup_line (drop at t))
unfolding line_told setup_line longest_line check ◌>>◌
long_line t at h = rw (lt-leb (length (drop at t)) 200 (rw (length-drop at t) h))

-- another is read by its fields
pub by_fields : (t : Text) (at : ℕ) {fields : List Text} {answer : Option LineOfSetup} {x : Option (Option LineOfSetup)} → length t - at ≤ 200 →
    pieces comma (drop at t) ≡ fields → setup_line_of fields ≡ answer → x ≡ map some answer → x ≡ map some (setup_line (drop at t))
unfolding setup_line longest_line check ◌>>◌
by_fields t at h cut form e = rw (le-leb (length (drop at t)) 200 (rw (length-drop at t) h), cut, form) e

-- and has no form where it has neither two arguments nor three
pub formless : (t : Text) (at : ℕ) {w : Text} {arguments : List Text} → length t - at ≤ 200 → pieces comma (drop at t) ≡ w ∷ arguments →
    (length arguments ≡ 2 → ⊥) → (length arguments ≡ 3 → ⊥) → line_told t None ≡ map some (setup_line (drop at t))
formless t at h cut two three = by_fields t at h cut (no_line _ _ two three) (told_wrong t refl)

-- the line that was told
is_line : {l : LineOfSetup} (m : Option LineOfSetup) → some (some l) ≡ map some m → m ≡ some l
is_line none e = no_answer (sym e)
is_line (some l) e = cc

pub told_line : (t : Text) (r : Found SetupLine) (l : LineOfSetup) (m : Option LineOfSetup) → line_told t r ≡ some (some l) → line_told t r ≡ map some m → m ≡ some l
told_line t r l m e h = is_line m (sym e ∙ h)

pub told_none : (t : Text) (m : Option LineOfSetup) → line_told t None ≡ map some m → m ≡ none
unfolding line_told
told_none t none e = refl
told_none t (some l) e = no_answer e

-- and the password of a grant, which lies inside
pub grant_told : (t : Text) (u : Uid) (r : Role) (s : Span) (m : Option LineOfSetup) → line_told t (Some (Grant u r s)) ≡ map some m →
    (m ≡ some (l_line u r (span_text t s))) × (Inside s t)
unfolding line_told
grant_told t u r s none e = no_answer (sym e)
grant_told t u r s (some l) e =
    let i : _ = both_read (text_in t s) (λ x. some (l_line u r x)) l (cc) in
    let j : _ = text_inside t s i.0 i.1 in
    (rw (← j.1) (ap some (answered i.2)), j.0)

-- a part of a text is the same part of a longer text
span_longer : (p q : Text) (s : Span) → Inside s p → span_text (p ++ q) s ≡ span_text p s
unfolding span_text part
span_longer p q s i =
    let few : s.end - s.start ≤ length (drop s.start p) = omega (arith, length-drop s.start p) in
    rw (drop-append-le s.start p q (omega arith), take-append-le (s.end - s.start) (drop s.start p) q few)

-- so a line told of the text up to its end is told of the whole
told_longer : (p q : Text) (r : Found SetupLine) (m : Option LineOfSetup) → line_told p r ≡ map some m → line_told (p ++ q) r ≡ map some m
unfolding line_told ◌>>=◌
told_longer p q (Some (Person u g)) m e = e
told_longer p q (Some (Group u g)) m e = e
told_longer p q (Some (Pair s j)) m e = e
told_longer p q (Some (Grant u r s)) m e =
    let i : _ = grant_told p u r s m e in
    let inside : Inside s (p ++ q) = record { ordered = i.1.ordered; ends = omega (arith, i.1.ends, length-append p q) } in
    rw (inside_text inside, span_longer p q s i.1, i.0)
told_longer p q None m e = e

-- the bytes of a line, cut at its end and read from its start
line_bytes : (t : Text) (start end : ℕ) → start ≤ end → end ≤ length t → drop start (take end t) ≡ part t start end
unfolding part
line_bytes t start end h k =
    let sum : start + (end - start) ≡ end = omega arith in
    let all : take end t ≡ take start t ++ take (end - start) (drop start t) = rw sum at (take-add start (end - start) t) in
    rw all (drop_at (take start t) (take (end - start) (drop start t)) start (length-take-le start t (omega arith)))

pub told_whole : (t : Text) (start end : ℕ) (r : Found SetupLine) → start ≤ end → end ≤ length t →
    line_told (take end t) r ≡ map some (setup_line (drop start (take end t))) → line_told t r ≡ map some (setup_line (part t start end))
told_whole t start end r h k e =
    rw (take-append-drop end t) at (told_longer (take end t) (drop end t) r (setup_line (part t start end)) (rw (line_bytes t start end h k) at e))
