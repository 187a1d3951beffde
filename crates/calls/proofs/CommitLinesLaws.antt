-- The line of a directory's commit on a store's bytes is the lines of its files one after another.
--
-- The text of a path of a well-formed tree is read as that path, so a line `uid,commit,path` is the command; a list of such lines is
-- the list of commands of `single_commits`, and its responses tell as many as are done there.
use Rattle.std.specs.Prelude.{◌≡◌, true, ◌&&◌, not, ℕ, suc, ◌≤◌, ◌<◌, eqb, leb, length, drop}
use Rattle.std.proofs.Math.Path.{refl, ap}
use Rattle.std.proofs.Common.{sym, ◌∙◌, arith}
use mathlib.Core.List.{List, [], ◌∷◌, ◌++◌, map}
use Rattle.std.proofs.Math.Option.{none, some}
use borrow.Author.Tests.{ne_eqb, ltb-true, le-leb}
use Rattle.buffers.specs.Cases.{case, and_both, contra}
use Rattle.buffers.specs.Text.{Text, same_text, every, lacks}
use Rattle.buffers.specs.TextLaws.{same_text_sound, every_implies}
use Rattle.accounts.specs.declared.Caller.{Caller}
use Rattle.accounts.specs.declared.Uid.{Uid}
use Rattle.accounts.specs.declared.Account.{Account}
use Rattle.accounts.specs.Dominance.{BoundedRole}
use Rattle.syntax.specs.Pieces.{bytes, comma}
use Rattle.syntax.proofs.JoinedLaws.{pieces_joined}
use Rattle.syntax.specs.Number.{digit, value_after, no_leading_zero, decimal, between, decimal_text}
use Rattle.syntax.proofs.NumberLaws.{digit_bounds, decimal_of_text}
use Rattle.syntax.specs.Form.{◌>>=◌, ◌>>◌, check, by_form}
use Rattle.syntax.proofs.FormLaws.{no_answer, checked, both}
use Rattle.syntax.specs.Field.{uid}
use Rattle.syntax.specs.Path.{Name, Path, root, ◌▹◌, depth, is_name, most_names, has_names, is_path, whole, begins_with_slash, typed_path, names_text, path_text}
use Rattle.syntax.proofs.PathLaws.{path_of_text}
use Rattle.arguments.specs.Kinds.{reader, arguments_of}
use Rattle.commands.specs.Command.{commit, entry, takes, listed, shell_words, other_words, words, form, forms, line_of, line}
use Rattle.setup.specs.Setup.{Setup, is_setup}
use Rattle.tree.proofs.CausesLaws.{number_not_0}
use Rattle.tree.specs.Result.{done}
use Rattle.tree.proofs.ResultLaws.{present_of, done_bind, done_then, require_true}
use Rattle.tree.specs.Forest.{Forest, Place, get, place_at}
use Rattle.tree.proofs.ForestLaws.{forest_induction, get_nil, get_other}
use Rattle.tree.specs.Node.{Node, is_directory}
use Rattle.tree.specs.Walk.{Judge, by_modes, walk}
use Rattle.tree.proofs.UpdateLaws.{place_at_parent, walked_at}
use Rattle.tree.specs.WellFormed.{is_forest, is_place, is_tree}
use Rattle.tree.proofs.WellFormedLaws.{place_parts, forest_parts, tree_parts, place_below, walked_depth}
use Rattle.tree.specs.Files.{files_below}
use Rattle.tree.specs.FileRows.{FilesFrom, no_more, a_file, into, past}
use Rattle.tree.proofs.FilesLaws.{files_from_place}
use Rattle.shell.specs.Replies.{Reply, ok, refusal, reply, after, told, answer_of, written}
use Rattle.shell.specs.WholePaths.{entry_paths, command_paths, meant_path, whole_command}
use Rattle.store.specs.State.{Store, State}
use Rattle.store.proofs.StateLaws.{parts}
use Rattle.store.specs.Callers.{caller}
use Rattle.store.specs.StoreBytes.{decode}
use Rattle.store.proofs.StoreBytesLaws.{encode_decode}
use Rattle.machine.specs.Machine.{session, run}
use Rattle.machine.specs.StoreMachine.{store}
use Rattle.machine.specs.Runs.{perform, step, runs}
use Rattle.machine.proofs.RunsLaws.{least_room_is}
use Rattle.machine.proofs.CallerLaws.{caller_uid, caller_in_range}
use Rattle.machine.specs.SingleCommits.{single_commits, how_many_done as how_many_replies_done}
use Rattle.machine.proofs.SingleCommitsLaws.{directory_commits}
use Rattle.listing.proofs.ByteOrderLaws.{path_lacks}
use Rattle.calls.specs.Calls.{run_call}
use Rattle.calls.specs.CallLists.{Request, Response, run_calls, call_for, response, responses_to}
use Rattle.calls.proofs.CallListsLaws.{run_on_state, run_calls_on_state}
use Rattle.calls.specs.CommitLines.{commit_line, commit_requests, how_many_done}

-- ---- the paths of a well-formed tree

-- what a child of a well-formed forest is called is a name
abbrev Named : Name → Place Node → Forest Node → Type 0
Named n d F = is_forest F ≡ true → get n F ≡ some d → is_name n ≡ true

child_named : (n : Name) (d : Place Node) (F : Forest Node) → Named n d F
child_named n d = forest_induction (Named n d) (λ h e. no_answer (sym (get_nil n) ∙ e)) λ m x cs rest under beside h e.
    let v = forest_parts m (record { here = x; below = cs }) rest h in
    case (same_text n m)
    (λ t. rw (same_text_sound n m t) v.name)
    (λ t. beside v.others (sym (get_other n m x cs rest t) ∙ e))

place_named : (t : Place Node) → is_place t ≡ true → (p : Path) (d : Place Node) → place_at t p ≡ some d → has_names p ≡ true
unfolding has_names
place_named t h root d e = refl
place_named t h (p ▹ n) d e =
    let (c, stands, child) = place_at_parent t p n d e in
    both (place_named t h p c stands) (child_named n d c.below (place_parts c (place_below t p c h stands)).forest child)

-- a walk that leads somewhere is along a path of names that are not too many
walked_path : (j : Judge Node) (t : Place Node) → is_tree t ≡ true → (p : Path) (d : Place Node) → walk j t p ≡ done d → is_path p ≡ true
unfolding is_path most_names
walked_path j t h p d e =
    both (place_named t (tree_parts t h).whole p d (walked_at t j p d e)) (le-leb (depth p) 6 (omega (arith, walked_depth j t p d h e)))

-- so are those to the files below a directory
files_are_paths : (a : Account) {t : Place Node} → is_tree t ≡ true → {end i : ℕ} {ws : List Path} → FilesFrom (by_modes a) t end i ws → every is_path ws ≡ true
unfolding every
files_are_paths a h no_more = refl
files_are_paths a {t} h (a_file {q = q} {d = d} b m plain rest) = both (walked_path (by_modes a) t h q d m.walked) (files_are_paths a h rest)
files_are_paths a h (into b m directory reads rest) = files_are_paths a h rest
files_are_paths a h (past b m directory shut rest) = files_are_paths a h rest

-- ---- the line

-- a number's text has no comma
number_lacks : (n : ℕ) → lacks comma (decimal_text n) ≡ true
unfolding decimal lacks comma
number_lacks n =
    let t = decimal_text n in
    let i = checked (every (digit 10) t && no_leading_zero t) (some (value_after 10 0 t)) n (decimal_of_text n) in
    every_implies (digit 10) (λ b. not (eqb b 44)) (λ b d. rw (ne_eqb b 44 (λ e. omega (arith, (digit_bounds 10 b d).0)))) t
    (and_both (every (digit 10) t) (no_leading_zero t) i.0).0

-- and is read as the uid
uid_read : (v : Uid) → v.0 < 24 → uid (decimal_text v.0) ≡ some v
unfolding uid between ◌>>=◌ ◌>>◌ check
uid_read v l = rw (decimal_of_text v.0, le-leb 0 v.0 (omega arith), le-leb v.0 23 (omega arith))

-- the text of a path begins with `/`
goes_on : (s t : Text) → begins_with_slash s ≡ true → begins_with_slash (s ++ t) ≡ true
unfolding begins_with_slash
goes_on [] t h = contra h refl
goes_on (b ∷ s) t h = h

begins : (p : Path) → begins_with_slash (path_text p) ≡ true
unfolding path_text names_text begins_with_slash bytes
begins root = refl
begins (root ▹ n) = refl
begins (p ▹ m ▹ n) = goes_on (names_text (p ▹ m)) (47 ∷ n) (begins (p ▹ m))

-- so it is read as a whole path
whole_read : (p : Path) → is_path p ≡ true → typed_path (path_text p) ≡ some (whole p)
unfolding typed_path ◌>>=◌
whole_read p h = rw (begins p, path_of_text p h)

commit_read : (p : Path) → is_path p ≡ true → by_form forms (bytes "commit") (path_text p ∷ []) ≡ some (entry (commit (whole p)))
unfolding by_form forms form words shell_words other_words listed takes arguments_of reader same_text bytes ◌>>=◌
commit_read p h = rw (whole_read p h)

-- none of the three has a comma
no_commas : (n : ℕ) (p : Path) → is_path p ≡ true → every (lacks comma) (decimal_text n ∷ (bytes "commit" ∷ (path_text p ∷ []))) ≡ true
unfolding is_path every lacks comma bytes
no_commas n p h = both (number_lacks n) (both (path_lacks p (and_both (has_names p) (leb (depth p) most_names) h).0) refl)

-- so they are the pieces of the line
line_read : (v : Uid) → v.0 < 24 → (p : Path) → is_path p ≡ true → line (commit_line v p) ≡ some (record { caller = v; command = entry (commit (whole p)) })
unfolding line line_of commit_line ◌>>=◌
line_read v l p h =
    rw (pieces_joined comma (decimal_text v.0) (bytes "commit" ∷ (path_text p ∷ [])) (no_commas v.0 p h), uid_read v l, commit_read p h)

-- a whole path stays as it is, whatever the working directory
whole_stays : (q p : Path) → whole_command q (entry (commit (whole p))) ≡ done (entry (commit p))
unfolding whole_command command_paths entry_paths meant_path
whole_stays q p = rw (done_bind, done_bind)

-- ---- how many are done

-- number 0 tells that a line was done
one_more : (q : Request) (r : Reply) (rs : List Response) (ks : List Reply) → how_many_done rs ≡ how_many_replies_done ks
    → how_many_done (response q r ∷ rs) ≡ how_many_replies_done (r ∷ ks)
unfolding how_many_done how_many_replies_done response told answer_of
one_more q (ok none) rs ks e = ap suc e
one_more q (ok (some t)) rs ks e = ap suc e
one_more q (refusal why) rs ks e = rw (number_not_0 why) e

-- so the responses tell how many of the replies are done
as_many_done : (u : Setup) (v : Uid) (c : Caller) (answer : List ℕ) (ws : List Path) (s : Store)
    → how_many_done (responses_to (commit_requests v answer ws) (single_commits u c ws s).replies) ≡ how_many_replies_done (single_commits u c ws s).replies
unfolding single_commits commit_requests responses_to how_many_done how_many_replies_done
as_many_done u v c answer [] s = refl
as_many_done u v c answer (w ∷ ws) s =
    let r = run store u s c (entry (commit w)) in
    let rest = (single_commits u c ws (after s r)).replies in
    one_more (record { line = commit_line v w; answer = answer }) (reply r) (responses_to (commit_requests v answer ws) rest) rest
    (as_many_done u v c answer ws (after s r))

-- ---- the calls

module _ (u : Setup) (g : is_setup u ≡ true) (v : Uid) (c : Caller) (known : caller u v ≡ done c) (answer : List ℕ) (roomy : 4096 ≤ length answer) where
  -- the line of a path, with such an answer buffer
  abbrev request : Path → Request
  request p = record { line = commit_line v p; answer = answer }

  -- is the command on it
  line_is_command : (s : Store) (p : Path) → is_path p ≡ true → step store u s (call_for (request p)) ≡ run store u s c (entry (commit p))
  unfolding step perform call_for
  line_is_command s p h =
      let low : v.0 < 24 = omega (arith, ap (λ (x : Uid). x.0) (caller_uid u v c known), ltb-true c.account.uid.0 16 (caller_in_range u g v c known).0) in
      rw (least_room_is, le-leb 4096 (length answer) roomy, require_true, done_then, line_read v low p h, present_of, done_bind, known, done_bind, whole_stays, done_bind)

  -- so lines one after another are single commits
  lines_are_commits : (ws : List Path) → every is_path ws ≡ true → (s : Store) → runs store u s (map call_for (commit_requests v answer ws)) ≡ single_commits u c ws s
  unfolding runs single_commits commit_requests every
  lines_are_commits [] h s = refl
  lines_are_commits (w ∷ ws) h s =
      let i = and_both (is_path w) (every is_path ws) h in
      rw (line_is_command s w i.0, lines_are_commits ws i.1 (after s (run store u s c (entry (commit w)))))

-- the directory's line leaves what the files' lines leave, and tells how many of these were done
pub directory_commits_on_calls : (b : List ℕ) (t : State) → decode b ≡ some t → (v : Uid) (c : Caller) → caller t.setup v ≡ done c →
    (w : Path) (found : Place Node) (z : BoundedRole) → session store t.setup t.store c ≡ done z → walk (by_modes c.account) t.store.tree w ≡ done found →
    is_directory found.here.kind ≡ true → (by_modes c.account).readable found.here ≡ true → (answer : List ℕ) → 4096 ≤ length answer →
    (let ran = run_calls b (commit_requests v answer (files_below (by_modes c.account) w found.below)) in
    let text = decimal_text (how_many_done ran.responses) in
    run_call b (commit_line v w) answer
    ≡ record { tells = record { number = 0; values = length text ∷ [] }; store = ran.store; answer = text ++ drop (length text) answer })
unfolding reply after told answer_of written
directory_commits_on_calls b t e v c known w found z role led directory reads answer roomy =
    let u = t.setup in
    let s = t.store in
    let d = encode_decode b t e in
    let k = parts t d.1 in
    let ws = files_below (by_modes c.account) w found.below in
    let are = files_are_paths c.account k.tree (files_from_place c.account s.tree k.tree w found led directory reads) in
    let q = request u k.setup v c known answer roomy w in
    let r = line_is_command u k.setup v c known answer roomy s w (walked_path (by_modes c.account) s.tree k.tree w found led)
    ∙ directory_commits u s c w found z k.tree role led directory reads in
    rw (
      ← d.0,
      run_calls_on_state u k.setup s d.1 (commit_requests v answer ws),
      lines_are_commits u k.setup v c known answer roomy ws are s,
      as_many_done u v c answer ws s,
      run_on_state u s d.1 q,
      r,
    )
