-- What callers go by: a typed command with no short path has its whole command in the line, and any other in the second text, unless a
-- path there is too deep, and then it is refused so.
use Rattle.std.specs.Prelude.{◌≡◌, List, [], ◌∷◌, ◌++◌, Bool, true, false, ◌||◌, ℕ, eqb, length, take, get_or, Result as Told, Ok, Err}
use Rattle.std.proofs.Math.Path.{refl, ap}
use Rattle.std.proofs.Common.{sym, ◌∙◌, eqb-true}
use Rattle.std.proofs.Math.Option.{none, some}
use Rattle.std.proofs.Math.Bool.{not}
use Rattle.std.proofs.Math.Seq.{take-length}
use Rattle.std.proofs.lemmas.Bool.{eqb-false}
use Rattle.buffers.specs.Cases.{case, contra, neither}
use Rattle.buffers.specs.Text.{Text}
use Rattle.syntax.specs.Form.{is_some}
use Rattle.syntax.proofs.FormLaws.{no_answer, answered, is_none, the_some}
use Rattle.syntax.specs.Path.{Path, root, ◌▹◌, TypedPath, whole, short, is_top, path, typed_path, names_text, path_text}
use Rattle.syntax.proofs.PathLaws.{path_is_path}
use Rattle.syntax.proofs.ParentLaws.{text_of_path}
use Rattle.syntax.proofs.PathTextLaws.{top_by_length, below_by_length}
use Rattle.syntax.proofs.FollowsLaws.{whole_reads, short_reads}
use Rattle.syntax.specs.Parts.{span_text}
use Rattle.arguments.specs.declared.ArgumentKind.{ArgumentKind}
use Rattle.arguments.specs.declared.ArgumentKind.TheVariants as a
use Rattle.arguments.specs.Kinds.{number_in, Argument, ArgumentRead}
use Rattle.arguments.specs.KindsLaws.{formed}
use Rattle.commands.specs.declared.Typed.{Typed}
use Rattle.commands.specs.Command.{Command, TypedCommand, listed}
use Rattle.commands.specs.Words.{shape_of}
use Rattle.commands.specs.Parsed.{first_of, second_of, third_of, arguments, typed_meaning, whole_meaning, TypedRead}
use Rattle.commands.specs.Meaning.{TypedMeant}
use Rattle.tree.specs.declared.Cause.{Cause}
use Rattle.tree.specs.declared.Cause.TheVariants.{TooDeep}
use Rattle.tree.specs.Result.{Result, refused, done}
use Rattle.shell.specs.WholePaths.{whole_command}
use Rattle.shell.proofs.WholePathsLaws.{whole_only_too_deep}
use Rattle.whole_paths.specs.WholeText.{is_path_kind, is_short, is_deep, front_length, joined_text, argument_text, any_argument, any_short, any_deep, text_width, first_text, second_text, third_text, whole_typed, whole_text, whole_or_deep, made}
use Rattle.whole_paths.specs.WrittenLaws.{short_written, text_written}
use Rattle.whole_paths.specs.StandsLaws.{whole_inside, first_stands, second_stands, third_stands}
use Rattle.whole_paths.specs.CarriedLaws.{Moved, ArgumentMoved, some_deep, EachMoved, word_carried}

-- ---- three arguments, of which those behind the kinds are absent

three_moved : (q : Path) (t u : Text) (ks : List ArgumentKind) (v w z v' w' z' : Argument)
    → ArgumentMoved q t u (get_or ks 0 a.Absent) v v' → ArgumentMoved q t u (get_or ks 1 a.Absent) w w' → ArgumentMoved q t u (get_or ks 2 a.Absent) z z'
    → EachMoved q t u ks (v ∷ w ∷ z ∷ []) (v' ∷ w' ∷ z' ∷ [])
unfolding EachMoved
three_moved q t u [] v w z v' w' z' h i j = tt
three_moved q t u (k ∷ []) v w z v' w' z' h i j = (h, tt)
three_moved q t u (k ∷ (l ∷ [])) v w z v' w' z' h i j = (h, (i, tt))
three_moved q t u (k ∷ (l ∷ (m ∷ []))) v w z v' w' z' h i j = (h, (i, (j, tt)))
three_moved q t u (k ∷ (l ∷ (m ∷ (n ∷ ks)))) v w z v' w' z' h i j = (h, (i, (j, tt)))

or-false : (b : Bool) → (b || false) ≡ b
or-false true = refl
or-false false = refl

three_deep : (u : Text) (ks : List ArgumentKind) (c : Typed) → c.shape ≡ shape_of ks → some_deep ks u (arguments c) ≡ any_deep u c
unfolding any_deep any_argument some_deep is_deep is_path_kind
three_deep u [] c e = rw e
three_deep u (k ∷ []) c e = rw e
three_deep u (k ∷ (l ∷ [])) c e = rw e
three_deep u (k ∷ (l ∷ (m ∷ []))) c e = rw (e, or-false (is_deep m (span_text u c.fields.third)))
three_deep u (k ∷ (l ∷ (m ∷ (n ∷ ks)))) c e = rw (e, or-false (is_deep m (span_text u c.fields.third)))

-- ---- what a command's arguments make where they stand once more

-- the whole command of k, unless a path is too deep
record WholeMade (q : Path) (u : Text) (c : Typed) (k : TypedCommand) : Type 0 where
  means : whole_meaning u c ≡ made (whole_command q k)
  there : is_some (whole_meaning u c) ≡ not (any_deep u c)

whole_if_moved : (q : Path) (t u : Text) (c e : Typed) (k : TypedCommand) → TypedRead t c → TypedMeant t c k → e.word ≡ c.word → e.shape ≡ c.shape
    → ArgumentMoved q t u c.shape.first (first_of c) (first_of e)
    → ArgumentMoved q t u c.shape.second (second_of c) (second_of e)
    → ArgumentMoved q t u c.shape.third (third_of c) (third_of e) → WholeMade q u e k
unfolding typed_meaning whole_meaning
whole_if_moved q t u c e k read meant same_word same_shape h i j =
    let s = read.shaped in
    let ks = (listed c.word).kinds in
    let m = three_moved q t u ks (first_of c) (second_of c) (third_of c) (first_of e) (second_of e) (third_of e) (rw s at h) (rw s at i) (rw s at j) in
    let r = word_carried q t u c.word (arguments c) (arguments e) k m meant.means in
    record { means = rw same_word r.means; there = rw same_word r.there ∙ ap not (three_deep u ks e (same_shape ∙ s)) }

refused_made : {A : Type 0} (r : Result A) → made r ≡ none → (why : Cause) × (r ≡ refused why)
unfolding made
refused_made (refused why) e = (why, refl)
refused_made (done x) e = no_answer (sym e)

done_made : {A : Type 0} (r : Result A) {x : A} → made r ≡ some x → r ≡ done x
unfolding made
done_made (refused why) e = no_answer e
done_made (done y) e = ap done (sym (answered e))

module _ {q : Path} {u : Text} {c : Typed} {k : TypedCommand} (w : WholeMade q u c k) where
  refused_deep : any_deep u c ≡ true → whole_command q k ≡ refused TooDeep
  refused_deep e =
      let i = refused_made (whole_command q k) (sym w.means ∙ is_none (whole_meaning u c) (w.there ∙ ap not e)) in
      i.1 ∙ ap refused (whole_only_too_deep q k i.1)

  done_unless_deep : any_deep u c ≡ false → (l : Command) × (whole_command q k ≡ done l) × (whole_meaning u c ≡ some l)
  done_unless_deep e =
      let i = the_some (whole_meaning u c) (w.there ∙ ap not e) in
      (i.0, done_made (whole_command q k) (sym w.means ∙ i.1), i.1)

-- ---- in the line, where no path is short

-- such an argument is not too deep
unshort_shallow : (k : ArgumentKind) (x : Text) (n : ℕ) → some n ≡ number_in k x → is_short k x ≡ false → is_deep k x ≡ false
unfolding number_in is_short is_deep is_path_kind is_some
unshort_shallow a.Path x n e h = let i = the_some (typed_path x) (formed (is_some (typed_path x)) n e) in by i.0 i.1
  where
    by : (p : TypedPath) → typed_path x ≡ some p → not (is_some (path x)) ≡ false
    by (whole p) f = rw (whole_reads x p f).1
    by (short p) f = contra (ap not (short_reads x p f).0) h
unshort_shallow a.Entry x n e h = refl
unshort_shallow a.Mode x n e h = refl
unshort_shallow a.Plain x n e h = refl
unshort_shallow a.Uid x n e h = refl
unshort_shallow a.Gid x n e h = refl
unshort_shallow a.Role x n e h = refl
unshort_shallow a.Password x n e h = refl
unshort_shallow a.Content x n e h = refl
unshort_shallow a.Absent x n e h = refl

module _ (t : Text) (c : Typed) (k : TypedCommand) (none_short : any_short t c ≡ false) (read : TypedRead t c) where
  each_unshort : (is_short c.shape.first (span_text t c.fields.first) ≡ false) × (is_short c.shape.second (span_text t c.fields.second) ≡ false)
      × (is_short c.shape.third (span_text t c.fields.third) ≡ false)
  unfolding any_short any_argument
  each_unshort =
      let i = neither (is_short c.shape.first (span_text t c.fields.first)) _ (ap not none_short) in
      let j = neither (is_short c.shape.second (span_text t c.fields.second)) _ (ap not i.1) in
      (i.0, j.0, j.1)

  unshort_argument : (q : Path) (κ : ArgumentKind) (v : Argument) → ArgumentRead κ t v → is_short κ (span_text t v.part) ≡ false → ArgumentMoved q t t κ v v
  unshort_argument q κ v r e =
      record { was = r.inside; lies = r.inside; moved = record { kept = λ h s. refl; joins = λ s. contra s e }; number = refl }

  unshort : (q : Path) → TypedMeant t c k → WholeMade q t c k
  unshort q meant =
      let e = each_unshort in
      whole_if_moved q t t c c k read meant refl refl
      (unshort_argument q c.shape.first (first_of c) read.first e.0)
      (unshort_argument q c.shape.second (second_of c) read.second e.1)
      (unshort_argument q c.shape.third (third_of c) read.third e.2)

  none_deep : any_deep t c ≡ false
  unfolding any_deep any_argument
  none_deep =
      let e = each_unshort in
      rw (
        unshort_shallow c.shape.first (span_text t c.fields.first) c.first read.first.number e.0,
        unshort_shallow c.shape.second (span_text t c.fields.second) c.second read.second.number e.1,
        unshort_shallow c.shape.third (span_text t c.fields.third) c.third read.third.number e.2,
      )

  -- it makes the whole command there, whatever the directory is
  pub unshort_made : TypedMeant t c k → (q : Path) → whole_meaning t c ≡ made (whole_command q k)
  unshort_made meant q = (unshort q meant).means

  -- and there is one
  pub unshort_done : TypedMeant t c k → (q : Path) → (l : Command) × (whole_command q k ≡ done l) × (whole_meaning t c ≡ some l)
  unshort_done meant q = done_unless_deep (unshort q meant) none_deep

-- ---- in the second text

top_names : (q : Path) → is_top q ≡ true → names_text q ≡ []
unfolding is_top names_text
top_names root e = refl
top_names (q ▹ n) e = contra e refl

below_names : (q : Path) → is_top q ≡ false → path_text q ≡ names_text q
unfolding is_top path_text
below_names root e = contra refl e
below_names (q ▹ n) e = refl

module _ (d : Text) (q : Path) (here : path d ≡ some q) where
  -- the names of the directory stand in front of the `/`
  front_names : take (front_length d) d ≡ names_text q
  unfolding front_length
  front_names = case (eqb (length d) 1)
      (λ l. rw l (sym (top_names q (top_by_length d q here (eqb-true (length d) 1 l)))))
      (λ l. rw l (take-length d ∙ text_of_path d q here ∙ below_names q (below_by_length d q here (eqb-false (length d) 1 l))))

  written_moved : (k : ArgumentKind) (x y : Text) → y ≡ argument_text d k x → Moved q k x y
  unfolding joined_text
  written_moved k x y e =
      record {
        kept = λ h s. e ∙ text_written d k x s h;
        joins = λ s. (path_is_path d q here, e ∙ short_written d k x s ∙ ap (λ z. z ++ (47 ∷ x)) front_names);
      }

  module _ (t : Text) (c : Typed) (read : TypedRead t c) (k : TypedCommand) (meant : TypedMeant t c k) (b : List ℕ) (wide : length b ≡ text_width) where
    written : WholeMade q (whole_text d t c b) (whole_typed d t c) k
    unfolding whole_typed first_text second_text third_text
    written =
        let i = whole_inside d (q, here) t c read b wide in
        whole_if_moved q t (whole_text d t c b) c (whole_typed d t c) k read meant refl refl
        (record { was = read.first.inside; lies = i.first; moved = written_moved _ _ _ (first_stands d (q, here) t c read b wide); number = refl })
        (record { was = read.second.inside; lies = i.second; moved = written_moved _ _ _ (second_stands d (q, here) t c read b wide); number = refl })
        (record { was = read.third.inside; lies = i.third; moved = written_moved _ _ _ (third_stands d (q, here) t c read b wide); number = refl })

    -- there it makes the whole command
    pub whole_made : whole_meaning (whole_text d t c b) (whole_typed d t c) ≡ made (whole_command q k)
    whole_made = written.means

    -- a path that is too deep there is refused as such
    pub deep_refused : any_deep (whole_text d t c b) (whole_typed d t c) ≡ true → whole_command q k ≡ refused TooDeep
    deep_refused e = refused_deep written e

    pub not_deep_done : any_deep (whole_text d t c b) (whole_typed d t c) ≡ false
        → (l : Command) × (whole_command q k ≡ done l) × (whole_meaning (whole_text d t c b) (whole_typed d t c) ≡ some l)
    not_deep_done e = done_unless_deep written e

    -- so the code's answer tells
    pub deep_told : {why : Cause} → Err why ≡ whole_or_deep d t c b → whole_command q k ≡ refused why
    unfolding whole_or_deep
    deep_told {why} e = case (any_deep (whole_text d t c b) (whole_typed d t c)) (λ h. as_told (deep_refused h) (rw h at e)) (λ h. differ (rw h at e))
      where
        differ : {P : Type 0} {m : Typed} → ◌≡◌ {A = Told Typed Cause} (Err why) (Ok m) → P
        differ f = contra {b = true} refl (cc)

        as_told : whole_command q k ≡ refused TooDeep → ◌≡◌ {A = Told Typed Cause} (Err why) (Err TooDeep) → whole_command q k ≡ refused why
        as_told i f = let g : why ≡ TooDeep = cc in rw g i

    pub whole_told : {m : Typed} → Ok m ≡ whole_or_deep d t c b
        → (l : Command) × (whole_command q k ≡ done l) × (whole_meaning (whole_text d t c b) m ≡ some l)
    unfolding whole_or_deep
    whole_told {m} e = case (any_deep (whole_text d t c b) (whole_typed d t c)) (λ h. differ (rw h at e)) (λ h. as_told (not_deep_done h) (rw h at e))
      where
        differ : {P : Type 0} → ◌≡◌ {A = Told Typed Cause} (Ok m) (Err TooDeep) → P
        differ f = contra {b = true} refl (cc)

        as_told : (l : Command) × (whole_command q k ≡ done l) × (whole_meaning (whole_text d t c b) (whole_typed d t c) ≡ some l) → ◌≡◌ {A = Told Typed Cause} (Ok m) (Ok (whole_typed d t c))
            → (l : Command) × (whole_command q k ≡ done l) × (whole_meaning (whole_text d t c b) m ≡ some l)
        as_told i f = let g : m ≡ whole_typed d t c = cc in (i.0, i.1, rw g i.2)
