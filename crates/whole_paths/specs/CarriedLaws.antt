-- Arguments that stand once more in another text, their short paths joined to a directory: there they make the typed command with this
-- directory in front of its short paths. First one argument, then those of a list of kinds, then those of each word.
use Rattle.std.specs.Prelude.{◌≡◌, Bool, ◌||◌, ◌+◌, leb}
use Rattle.std.proofs.Math.Path.{refl, sym, ap}
use Rattle.std.proofs.Common.{◌∙◌}
use mathlib.Core.List.{List, [], ◌∷◌, ◌++◌}
use Rattle.std.proofs.Math.Option.{Option, none, some}
use Rattle.std.proofs.Math.Bool.{true, false, not}
use Rattle.buffers.specs.Cases.{contra}
use Rattle.buffers.specs.Text.{Text}
use Rattle.syntax.specs.Form.{◌>>=◌, ◌>>◌, check, is_some}
use Rattle.syntax.proofs.FormLaws.{no_answer, both_read, answered}
use Rattle.syntax.specs.Path.{Path, TypedPath, whole, short, is_path, depth, most_names, follows, path, typed_path, names_text}
use Rattle.syntax.proofs.FollowsLaws.{whole_reads, short_reads, joined_reads}
use Rattle.syntax.specs.Parts.{Inside, span_text}
use Rattle.syntax.proofs.PartsLaws.{inside_text}
use Rattle.arguments.specs.declared.ArgumentKind.{ArgumentKind}
use Rattle.arguments.specs.declared.ArgumentKind.TheVariants as a
use Rattle.arguments.specs.Kinds.{Value, Makes, read_in, Argument, value, values_of}
use Rattle.commands.specs.declared.Word.{Word}
use Rattle.commands.specs.declared.Word.TheVariants.{Create, Mkdir, Read, Write, Rm, Rmdir, Mv, Chmod, Chgrp, Chown, Login, Logout, Cd, Add, Co, Commit, Up, Del}
use Rattle.commands.specs.Command.{create, mkdir, read, write, rm, rmdir, mv, chmod, chgrp, chown, cd, add, co, commit, up, Command, TypedCommand, shell, account, entry, takes, listed}
use Rattle.tree.specs.declared.Cause.TheVariants.{TooDeep}
use Rattle.tree.specs.Result.{Result, refused, done, ◌>>=◌ as ◌then◌, ◌>>◌ as ◌upon◌, require}
use Rattle.tree.proofs.ResultLaws.{done_then, refused_then, done_bind, refused_bind, require_true, require_false}
use Rattle.shell.specs.WholePaths.{shell_paths, account_paths, entry_paths, command_paths, meant_path, whole_command}
use Rattle.whole_paths.specs.WholeText.{is_path_kind, has_text, is_short, is_deep, made}

-- ---- one argument

-- a text y for a text x: itself where it is not short, else joined to the names of a directory
pub record Moved (q : Path) (k : ArgumentKind) (x y : Text) : Type 0 where
  pub kept : has_text k ≡ true → is_short k x ≡ false → y ≡ x
  pub joins : is_short k x ≡ true → (is_path q ≡ true) × (y ≡ names_text q ++ (47 ∷ x))

-- an argument for one of another text, with the same number
pub record ArgumentMoved (q : Path) (t u : Text) (k : ArgumentKind) (v w : Argument) : Type 0 where
  pub was : Inside v.part t
  pub lies : Inside w.part u
  pub moved : Moved q k (span_text t v.part) (span_text u w.part)
  pub number : w.number ≡ v.number

-- the value that is meant where the directory is q
whole_value : Path → (k : ArgumentKind) → Value TypedPath k → Result (Value Path k)
whole_value q a.Path p = meant_path q p
whole_value q a.Entry v = done v
whole_value q a.Mode v = done v
whole_value q a.Plain v = done v
whole_value q a.Uid v = done v
whole_value q a.Gid v = done v
whole_value q a.Role v = done v
whole_value q a.Password v = done v
whole_value q a.Content v = done v
whole_value q a.Absent v = done v

-- a check made by a reader, and by a command
checks_agree : {A : Type 0} (b : Bool) (x : A) → (check b >> some x) ≡ made (require b TooDeep upon done x)
unfolding check ◌>>◌ made
checks_agree true x = rw (require_true, done_then)
checks_agree false x = rw (require_false, refused_then)

path_carried : (q : Path) (x y : Text) (p : TypedPath) → typed_path x ≡ some p → Moved q a.Path x y → path y ≡ made (meant_path q p)
unfolding meant_path made is_short is_path_kind has_text
path_carried q x y (whole p) e m = let r = whole_reads x p e in ap path (m.kept refl (ap not r.0)) ∙ r.1
path_carried q x y (short p) e m =
    let j = m.joins (ap not (short_reads x p e).0) in
    ap path j.1 ∙ joined_reads q x p j.0 e ∙ checks_agree (leb (depth q + depth p) most_names) (follows q p)

module _ (q : Path) (t u : Text) where
  carried : (k : ArgumentKind) (v w : Argument) → ArgumentMoved q t u k v w → (x : Value TypedPath k) → value typed_path k t v ≡ some x
      → value path k u w ≡ made (whole_value q k x)
  unfolding value read_in whole_value made is_short is_path_kind has_text ◌>>=◌
  carried a.Path v w m x e =
      rw (inside_text m.lies) (path_carried q (span_text t v.part) (span_text u w.part) x (rw (inside_text m.was) at e) m.moved)
  carried a.Entry v w m x e = rw (inside_text m.lies, m.moved.kept refl refl) (rw (inside_text m.was) at e)
  carried a.Mode v w m x e = rw m.number e
  carried a.Plain v w m x e = rw m.number e
  carried a.Uid v w m x e = rw m.number e
  carried a.Gid v w m x e = rw m.number e
  carried a.Role v w m x e = rw m.number e
  carried a.Password v w m x e = inside_text m.lies ∙ ap some (m.moved.kept refl refl) ∙ sym (inside_text m.was) ∙ e
  carried a.Content v w m x e = inside_text m.lies ∙ ap some (m.moved.kept refl refl) ∙ sym (inside_text m.was) ∙ e
  carried a.Absent v w m x e = e

  -- there it has a value, unless it is too deep
  there_or_deep : (k : ArgumentKind) (w : Argument) → Inside w.part u → (x : Value TypedPath k) → value path k u w ≡ made (whole_value q k x)
      → is_some (value path k u w) ≡ not (is_deep k (span_text u w.part))
  unfolding value read_in whole_value made is_deep is_path_kind is_some ◌>>=◌
  there_or_deep a.Path w i x e = rw (inside_text i) (twice (is_some (path (span_text u w.part))))
    where
      twice : (b : Bool) → b ≡ not (not b)
      twice true = refl
      twice false = refl
  there_or_deep a.Entry w i x e = ap is_some e
  there_or_deep a.Mode w i x e = refl
  there_or_deep a.Plain w i x e = refl
  there_or_deep a.Uid w i x e = refl
  there_or_deep a.Gid w i x e = refl
  there_or_deep a.Role w i x e = ap is_some e
  there_or_deep a.Password w i x e = ap is_some e
  there_or_deep a.Content w i x e = ap is_some e
  there_or_deep a.Absent w i x e = refl

-- ---- arguments of a list of kinds

-- the values of typed arguments, what is made of them, and of those that are meant
Values : List ArgumentKind → Type 0
Values [] = Unit {0}
Values (k ∷ ks) = Value TypedPath k × Values ks

made_of : {X : Type 0} (ks : List ArgumentKind) → Makes TypedPath ks X → Values ks → X
unfolding Values
made_of [] x vs = x
made_of (k ∷ ks) x vs = made_of ks (x vs.0) vs.1

made_whole : {X : Type 0} → Path → (ks : List ArgumentKind) → Makes Path ks X → Values ks → Option X
unfolding Values
made_whole q [] x vs = some x
made_whole q (k ∷ ks) x vs = made (whole_value q k vs.0) >>= λ v. made_whole q ks (x v) vs.1

-- whether one of them is too deep
unfoldable pub some_deep : List ArgumentKind → Text → List Argument → Bool
some_deep [] u ws = false
some_deep (k ∷ ks) u [] = false
some_deep (k ∷ ks) u (w ∷ ws) = is_deep k (span_text u w.part) || some_deep ks u ws

-- each stands for one of another text
unfoldable pub EachMoved : Path → Text → Text → List ArgumentKind → List Argument → List Argument → Type 0
EachMoved q t u [] vs ws = Unit {0}
EachMoved q t u (k ∷ ks) [] ws = Unit {0}
EachMoved q t u (k ∷ ks) (v ∷ vs) [] = ⊥
EachMoved q t u (k ∷ ks) (v ∷ vs) (w ∷ ws) = ArgumentMoved q t u k v w × EachMoved q t u ks vs ws

-- an answer followed by steps that are the same, or that answer alike
then_same : {A B : Type 0} (m : Option A) (f g : A → Option B) → ((x : A) → f x ≡ g x) → (m >>= f) ≡ (m >>= g)
unfolding ◌>>=◌
then_same none f g h = refl
then_same (some x) f g h = h x

then_there : {A B : Type 0} (m : Option A) (f : A → Option B) (a b : Bool) → is_some m ≡ not a → ((x : A) → is_some (f x) ≡ not b) → is_some (m >>= f) ≡ not (a || b)
unfolding ◌>>=◌ is_some
then_there none f true b h k = refl
then_there none f false b h k = contra h refl
then_there (some x) f true b h k = contra refl h
then_there (some x) f false b h k = k x

module _ (q : Path) (t u : Text) {X : Type 0} (Y : Type 0) where
  record Carried (ks : List ArgumentKind) (x : Makes TypedPath ks X) (k : X) (ws : List Argument) : Type 0 where
    values : Values ks
    makes : k ≡ made_of ks x values
    whole_made : (y : Makes Path ks Y) → values_of path ks y u ws ≡ made_whole q ks y values
    there : (y : Makes Path ks Y) → is_some (values_of path ks y u ws) ≡ not (some_deep ks u ws)

  each_carried : (ks : List ArgumentKind) (x : Makes TypedPath ks X) (k : X) (vs ws : List Argument) → EachMoved q t u ks vs ws → values_of typed_path ks x t vs ≡ some k
      → Carried ks x k ws
  unfolding values_of EachMoved Values made_of made_whole some_deep is_some
  each_carried [] x k vs ws h e = record { values = tt; makes = answered e; whole_made = λ y. refl; there = λ y. refl }
  each_carried (κ ∷ ks) x k [] ws h e = no_answer e
  each_carried (κ ∷ ks) x k (v ∷ vs) [] h e = absurd h
  each_carried (κ ∷ ks) x k (v ∷ vs) (w ∷ ws) h e =
      let i : _ = both_read (value typed_path κ t v) (λ a. values_of typed_path ks (x a) t vs) k e in
      let c = carried q t u κ v w h.0 i.0 i.1 in
      let r = each_carried ks (x i.0) k vs ws h.1 i.2 in
      record {
        values = (i.0, r.values);
        makes = r.makes;
        whole_made = λ y. rw c (then_same (made (whole_value q κ i.0)) (λ b. values_of path ks (y b) u ws) (λ b. made_whole q ks (y b) r.values) (λ b. r.whole_made (y b)));
        there =
            λ y. then_there (value path κ u w) (λ b. values_of path ks (y b) u ws) (is_deep κ (span_text u w.part)) (some_deep ks u ws)
            (there_or_deep q t u κ w h.0.lies i.0 c) (λ b. r.there (y b));
      }

-- ---- the command of a word

one_path : {K : Type 0} (r : Result Path) (make : Path → K) (of : K → Command) → made ((r then λ p. done (make p)) then λ k. done (of k)) ≡ (made r >>= λ p. some (of (make p)))
unfolding ◌>>=◌ made
one_path (refused why) make of = rw (refused_bind, refused_bind)
one_path (done p) make of = rw (done_bind, done_bind)

two_paths : {K : Type 0} (r s : Result Path) (make : Path → Path → K) (of : K → Command)
    → made ((r then λ p. s then λ o. done (make p o)) then λ k. done (of k)) ≡ (made r >>= λ p. made s >>= λ o. some (of (make p o)))
unfolding ◌>>=◌ made
two_paths (refused why) s make of = rw (refused_bind, refused_bind)
two_paths (done p) (refused why) make of = rw (done_bind, refused_bind, refused_bind)
two_paths (done p) (done o) make of = rw (done_bind, done_bind, done_bind)

-- the directory in front of the short paths of what the values make is what the values that are meant make
word_whole : (q : Path) (w : Word) (vs : Values (listed w).kinds)
    → made (whole_command q (made_of (listed w).kinds ((listed w).makes TypedPath) vs)) ≡ made_whole q (listed w).kinds ((listed w).makes Path) vs
unfolding listed takes Values made_of made_whole whole_value made ◌>>=◌ whole_command command_paths shell_paths account_paths entry_paths
word_whole q Create vs = one_path (meant_path q vs.0) (λ p. create p vs.1.0) shell
word_whole q Mkdir vs = one_path (meant_path q vs.0) (λ p. mkdir p vs.1.0) shell
word_whole q Read vs = one_path (meant_path q vs.0) read shell
word_whole q Write vs = one_path (meant_path q vs.0) (λ p. write p vs.1.0) shell
word_whole q Rm vs = one_path (meant_path q vs.0) rm shell
word_whole q Rmdir vs = one_path (meant_path q vs.0) rmdir shell
word_whole q Mv vs = two_paths (meant_path q vs.0) (meant_path q vs.1.0) mv shell
word_whole q Chmod vs = one_path (meant_path q vs.0) (λ p. chmod p vs.1.0) shell
word_whole q Chgrp vs = one_path (meant_path q vs.0) (λ p. chgrp p vs.1.0) shell
word_whole q Chown vs = one_path (meant_path q vs.0) (λ p. chown p vs.1.0) shell
word_whole q Login vs = rw done_bind
word_whole q Logout vs = rw done_bind
word_whole q Cd vs = one_path (meant_path q vs.0) cd account
word_whole q Add vs = one_path (meant_path q vs.0) (λ p. add p vs.1.0 vs.1.1.0) entry
word_whole q Co vs = one_path (meant_path q vs.1.0) (co vs.0) entry
word_whole q Commit vs = one_path (meant_path q vs.0) commit entry
word_whole q Up vs = one_path (meant_path q vs.0) up entry
word_whole q Del vs = rw done_bind

-- arguments that stand for those of a typed command make it with the directory in front, where none is too deep
pub record MadeWhole (q : Path) (u : Text) (w : Word) (ws : List Argument) (k : TypedCommand) : Type 0 where
  pub means : values_of path (listed w).kinds ((listed w).makes Path) u ws ≡ made (whole_command q k)
  pub there : is_some (values_of path (listed w).kinds ((listed w).makes Path) u ws) ≡ not (some_deep (listed w).kinds u ws)

pub word_carried : (q : Path) (t u : Text) (w : Word) (vs ws : List Argument) (k : TypedCommand) → EachMoved q t u (listed w).kinds vs ws
    → values_of typed_path (listed w).kinds ((listed w).makes TypedPath) t vs ≡ some k → MadeWhole q u w ws k
word_carried q t u w vs ws k h e =
    let r = each_carried q t u Command (listed w).kinds ((listed w).makes TypedPath) k vs ws h e in
    record {
      means = r.whole_made ((listed w).makes Path) ∙ sym (word_whole q w r.values) ∙ ap (λ c. made (whole_command q c)) (sym r.makes);
      there = r.there ((listed w).makes Path);
    }
