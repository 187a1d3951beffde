-- A line of a listed form has at most `longest_line` bytes. So what `run` answers and leaves is the same for all longer lines, and
-- the first bytes of such a line stand for the whole.
use Rattle.std.specs.Prelude.{◌≡◌, refl, List, [], ◌∷◌, map, Bool, true, false, ◌&&◌, not, ℕ, ◌+◌, ◌*◌, ◌≤◌, ◌<◌, leb, ltb, length}
use Rattle.std.proofs.Common.{sym, ◌∙◌, ap, arith, le-leb, leb-true, ltb-true}
use Rattle.std.proofs.Math.Option.{Option, none, some}
use Rattle.buffers.specs.Cases.{case, and_both, contra}
use Rattle.buffers.specs.Text.{Text, same_text, every}
use Rattle.buffers.specs.TextLaws.{same_text_sound, every_implies}
use Rattle.syntax.specs.Pieces.{bytes, comma, pieces, joined}
use Rattle.syntax.proofs.PartsLaws.{joined_pieces}
use Rattle.syntax.proofs.JoinedLaws.{joined_length}
use Rattle.syntax.specs.Form.{◌>>=◌, ◌>>◌, check, by_form}
use Rattle.syntax.proofs.FormLaws.{no_answer, both_read, checked, answered, both}
use Rattle.syntax.specs.Number.{decimal, between, mode, set_gid}
use Rattle.syntax.proofs.NumberLaws.{decimal_only, decimal_length, mode_only, mode_length}
use Rattle.syntax.specs.Path.{Path, root, is_name, most_names, extended, names_from_top, path, TypedPath, whole, short, typed_path, entry_path, entry_at}
use Rattle.syntax.proofs.FollowsLaws.{whole_reads, short_reads}
use Rattle.syntax.proofs.PathLaws.{name_length}
use Rattle.syntax.specs.Field.{uid, gid, bounded_by, bounded, role, plain_mode, password, content_limit, is_content, content}
use Rattle.syntax.proofs.FieldLaws.{between_gives, content_length}
use Rattle.accounts.specs.Dominance.{BoundedRole}
use Rattle.arguments.specs.declared.ArgumentKind.{ArgumentKind}
use Rattle.arguments.specs.declared.ArgumentKind.TheVariants as a
use Rattle.arguments.specs.Kinds.{Value, Makes, reader, arguments_of}
use Rattle.commands.specs.declared.Word.{Word}
use Rattle.commands.specs.Command.{TypedCommand, Line, takes, listed, words, form, forms, line_of, line}
use Rattle.tree.specs.declared.Cause.TheVariants.{NoForm}
use Rattle.tree.specs.Result.{Result, refused, Outcome}
use Rattle.tree.proofs.ResultLaws.{present_none, refused_bind}
use Rattle.store.specs.State.{State}
use Rattle.machine.specs.Runs.{perform}
use Rattle.calls.specs.Calls.{called, on_state, line_on, run_result, run_call}

-- five parts, none longer than a content may be, and the commas between them: 404 bytes
abbrev pub longest_line : ℕ
longest_line = 5 * content_limit + 4

abbrev few : Text → Bool
few t = leb (length t) content_limit

-- ---- the arguments

top_short : (ps : List Text) (p : Path) → names_from_top ps ≡ some p → length (joined 47 ps) ≤ content_limit
unfolding names_from_top most_names every
top_short [] p e = no_answer e
top_short ((b ∷ t) ∷ ns) p e = no_answer e
top_short ([] ∷ ns) p e =
    let i = checked (every is_name ns && (leb 1 (length ns) && leb (length ns) 6)) (some (extended root ns)) p e in
    let j = and_both (every is_name ns) (leb 1 (length ns) && leb (length ns) 6) i.0 in
    let k = and_both (leb 1 (length ns)) (leb (length ns) 6) j.1 in
    let names = every_implies is_name (λ t. leb (length t) 8) (λ n h. le-leb (length n) 8 (name_length n h).1) ns j.0 in
    omega (arith, joined_length 47 8 [] ns names, leb-true (length ns) 6 k.1)

path_short : (t : Text) (p : Path) → path t ≡ some p → length t ≤ content_limit
unfolding path bytes
path_short t p e = case (same_text t (bytes "/"))
    (λ s. omega (arith, ap length (same_text_sound t (bytes "/") s)))
    (λ s. omega (arith, ap length (joined_pieces 47 t), top_short (pieces 47 t) p (rw s at e)))

typed_short : (t : Text) (p : TypedPath) → typed_path t ≡ some p → length t ≤ content_limit
typed_short t (whole p) e = path_short t p (whole_reads t p e).1
typed_short t (short p) e = omega (arith, path_short (47 ∷ t) p (short_reads t p e).1)

number_short : (low high : ℕ) (t : Text) (n : ℕ) → high < 100 → between low high t ≡ some n → length t ≤ content_limit
unfolding between
number_short low high t n h e =
    let g = and_both (leb low n) (leb n high) (between_gives low high t n e) in
    let i = both_read (decimal t) (λ m. check (leb low m && leb m high) >> some m) n e in
    let m = answered (checked (leb low i.0 && leb i.0 high) (some i.0) n i.2).1 in
    omega (arith, ap length (decimal_only t i.0 i.1), decimal_length 1 i.0 (omega (arith, m, leb-true n high g.1)))

bounded_small : (n : ℕ) (b : Bool) (e : ltb n 8 ≡ b) (r : BoundedRole) → bounded_by n b e ≡ some r → b ≡ true
unfolding bounded_by
bounded_small n true e r q = refl
bounded_small n false e r q = no_answer q

mode_short : (t : Text) (m : ℕ) → mode t ≡ some m → length t ≤ content_limit
mode_short t m e = omega (arith, ap length (mode_only t m e), mode_length m)

-- a kind that is read from a text
present : ArgumentKind → Bool
present a.Path = true
present a.Entry = true
present a.Mode = true
present a.Plain = true
present a.Uid = true
present a.Gid = true
present a.Role = true
present a.Password = true
present a.Content = true
present a.Absent = false

reader_short : (k : ArgumentKind) (t : Text) (v : Value TypedPath k) → present k ≡ true → reader typed_path k t ≡ some v → length t ≤ content_limit
unfolding reader present entry_path plain_mode uid gid role password content bounded
reader_short a.Path t v h e = typed_short t v e
reader_short a.Entry t v h e = let i = both_read (path t) entry_at v e in path_short t i.0 i.1
reader_short a.Mode t v h e = mode_short t v e
reader_short a.Plain t v h e = let i = both_read (mode t) (λ m. check (not (set_gid m)) >> some m) v e in mode_short t i.0 i.1
reader_short a.Uid t v h e = let i = both_read (between 0 23 t) (λ n. some (record { 0 = n })) v e in number_short 0 23 t i.0 (omega arith) i.1
reader_short a.Gid t v h e = let i = both_read (between 0 24 t) (λ n. some (record { 0 = n })) v e in number_short 0 24 t i.0 (omega arith) i.1
reader_short a.Role t v h e =
    let i = both_read (decimal t) bounded v e in
    let n : i.0 < 8 = ltb-true i.0 8 (bounded_small i.0 (ltb i.0 8) refl v i.2) in
    omega (arith, ap length (decimal_only t i.0 i.1), decimal_length 0 i.0 (omega arith))
reader_short a.Password t v h e = omega (arith, (name_length t (checked (is_name t) (some t) v e).0).1)
reader_short a.Content t v h e = content_length t (checked (is_content t) (some t) v e).0
reader_short a.Absent t v h e = contra h refl

arguments_short : {X : Type 0} (ks : List ArgumentKind) (x : Makes TypedPath ks X) (ss : List Text) (c : X) → every present ks ≡ true →
    arguments_of typed_path ks x ss ≡ some c → (every few ss ≡ true) × (length ss ≡ length ks)
unfolding every arguments_of
arguments_short [] x [] c h e = (refl, refl)
arguments_short [] x (s ∷ more) c h e = no_answer e
arguments_short (k ∷ ks) x [] c h e = no_answer e
arguments_short (k ∷ ks) x (s ∷ more) c h e =
    let p = and_both (present k) (every present ks) h in
    let i = both_read (reader typed_path k s) (λ v. arguments_of typed_path ks (x v) more) c e in
    let r = arguments_short ks (x i.0) more c p.1 i.2 in
    (both (le-leb (length s) content_limit (reader_short k s i.0 p.0 i.1)) r.0, omega (arith, r.1))

-- ---- the line

-- a word is short, and its arguments are read from at most three texts
listed_short : Word → Bool
listed_short w = (few (listed w).spelling && leb (length (listed w).kinds) 3) && every present (listed w).kinds

words_short : every listed_short words ≡ true
unfolding every listed_short words listed takes present bytes
words_short = refl

form_short : (ws : List Word) → every listed_short ws ≡ true → (w : Text) (ss : List Text) (c : TypedCommand) → by_form (map form ws) w ss ≡ some c →
    (every few (w ∷ ss) ≡ true) × (length ss ≤ 3)
unfolding every listed_short by_form form
form_short [] h w ss c e = no_answer e
form_short (v ∷ ws) h w ss c e =
    let p = and_both (listed_short v) (every listed_short ws) h in
    let q = and_both (few (listed v).spelling && leb (length (listed v).kinds) 3) (every present (listed v).kinds) p.0 in
    let n = and_both (few (listed v).spelling) (leb (length (listed v).kinds) 3) q.0 in
    case (same_text w (listed v).spelling)
    (λ s.
    let r = arguments_short (listed v).kinds ((listed v).makes TypedPath) ss c q.1 (rw s at e) in (
      both (ap few (same_text_sound w (listed v).spelling s) ∙ n.0) r.0,
      omega (arith, r.1, leb-true (length (listed v).kinds) 3 n.1),
    ))
    (λ s. form_short ws p.1 w ss c (rw s at e))

line_of_short : (ps : List Text) (l : Line) → line_of ps ≡ some l → length (joined comma ps) ≤ longest_line
unfolding line_of every forms uid
line_of_short [] l e = no_answer e
line_of_short (u ∷ []) l e = no_answer e
line_of_short (u ∷ (w ∷ ss)) l e =
    let i = both_read (uid u) (λ c. by_form forms w ss >>= λ k. some (record { caller = c; command = k })) l e in
    let j = both_read (by_form forms w ss) (λ k. some (record { caller = i.0; command = k })) l i.2 in
    let f = form_short words words_short w ss j.0 j.1 in
    let n = both_read (between 0 23 u) (λ n. some (record { 0 = n })) i.0 i.1 in
    let s = le-leb (length u) content_limit (number_short 0 23 u n.0 (omega arith) n.1) in
    omega (arith, joined_length comma content_limit u (w ∷ ss) (both s f.0), f.1)

-- a line with a form is not longer
pub line_short : (t : Text) (l : Line) → line t ≡ some l → length t ≤ longest_line
unfolding line
line_short t l e = omega (arith, ap length (joined_pieces comma t), line_of_short (pieces comma t) l e)

long_line : (t : Text) (o : Option Line) → line t ≡ o → longest_line < length t → o ≡ none
long_line t none e h = refl
long_line t (some l) e h = let z : ⊥ = omega (arith, line_short t l e) in absurd z

-- so a longer one is refused by 1, on every state
long_line_on : (t : Text) → longest_line < length t → (s : State) → line_on t s ≡ refused NoForm
unfolding line_on perform
long_line_on t h s = rw (long_line t (line t) refl h, present_none, refused_bind, refused_bind)

-- and what `run` does with it is what it does with any other
pub long_lines_are_alike : (b answer : List ℕ) (t t' : Text) → longest_line < length t → longest_line < length t' → run_call b t answer ≡ run_call b t' answer
unfolding run_call run_result
long_lines_are_alike b answer t t' h h' =
    let same : (s : State) → line_on t s ≡ line_on t' s = λ s. long_line_on t h s ∙ sym (long_line_on t' h' s) in
    ap (λ (act : State → Result (Outcome (List ℕ))). called b answer (on_state b (length answer) act)) (λ i s. same s i)
