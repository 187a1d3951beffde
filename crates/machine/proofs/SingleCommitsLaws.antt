-- A directory's commit is the command `commit` of its files one after another: the same state, and as many files as are done.
use Rattle.std.specs.Prelude.{◌≡◌, List, ◌∷◌, true, false}
use Rattle.std.proofs.Math.Path.{refl, sym, ap, subst}
use Rattle.std.proofs.Common.{◌∙◌}
use Rattle.std.proofs.Math.Option.{some}
use Prim.Native.Nat.{ℕ, suc}
use Rattle.accounts.specs.declared.Caller.{Caller}
use Rattle.accounts.specs.Dominance.{BoundedRole}
use Rattle.syntax.specs.Number.{decimal_text}
use Rattle.syntax.specs.Path.{Path, entry_location}
use Rattle.commands.specs.Command.{commit, entry}
use Rattle.setup.specs.Setup.{Setup}
use Rattle.tree.specs.declared.Cause.TheVariants.{Access, Stale, RevisionsSpent}
use Rattle.tree.specs.Result.{Result, refused, done, Outcome}
use Rattle.tree.proofs.ResultLaws.{by_result, done_bind, refused_bind, done_then, require_true}
use Rattle.tree.specs.Outcomes.{gives, Ensures}
use Rattle.tree.proofs.GivesLaws.{done_with, then_check, then_do}
use Rattle.tree.specs.Forest.{Place}
use Rattle.tree.specs.Node.{Node, is_directory}
use Rattle.tree.specs.Walk.{by_modes, walk}
use Rattle.tree.specs.WellFormed.{is_tree}
use Rattle.tree.proofs.JudgeLaws.{kind_by_modes}
use Rattle.tree.specs.Files.{files_below}
use Rattle.tree.specs.FileRows.{FilesFrom, no_more, a_file, into, past}
use Rattle.tree.proofs.FilesLaws.{files_from_place}
use Rattle.tree.specs.Outline.{outlines}
use Rattle.tree.proofs.OutlineLaws.{outline_tag, outline_revision, outline_content, outlines_altered, same_walk, same_kind_of}
use Rattle.shell.specs.Replies.{reply, after}
use Rattle.store.specs.State.{Store}
use Rattle.machine.specs.Working.{Commits, then_commits, commit_each}
use Rattle.machine.specs.Machine.{session, commit_found, commit_file, commit_directory, run_commit, run_entry, run}
use Rattle.machine.specs.StoreMachine.{next_node, store}
use Rattle.machine.specs.Runs.{Ran}
use Rattle.machine.specs.SingleCommits.{single_commits, how_many_done}

module _ (u : Setup) (c : Caller) where
  -- a single commit leaves every outline
  pub file_outlines : (s : Store) (w : Path) → Ensures (λ o. outlines o.state.tree ≡ outlines s.tree) (commit_file store u s c w)
  unfolding commit_file commit_found next_node
  file_outlines s w =
      then_do _ λ z _.
      then_do _ λ d _.
      then_do _ λ k _.
      then_do _ λ a _.
      then_do _ λ f _.
      then_check Access tt _ λ _.
      then_check Stale tt _ λ _.
      then_check RevisionsSpent tt _ λ _.
      gives (outlines_altered _ (λ x. outline_tag _ x) w _
      ∙ outlines_altered _ (λ x. outline_revision _ _ ∙ outline_content _ x) (entry_location k.tag.path) s.tree)

  -- the command does to a file what a single commit does
  file_command : (s : Store) (q : Path) (d : Place Node) → walk (by_modes c.account) s.tree q ≡ done d → is_directory d.here.kind ≡ false
      → run store u s c (entry (commit q)) ≡ commit_file store u s c q
  unfolding run run_entry run_commit commit_file
  file_command s q d led plain = by_result (session store u s c)
      (λ k e. simp (e, refused_bind))
      (λ z e. simp (e, done_bind, led, plain))

  abbrev single : Store → Path → Result (Outcome Store)
  single s w = commit_file store u s c w

  -- commits counted as they are done, and the replies of the commands
  record Alike (r : Commits Store) (ran : Ran Store) : Type 0 where
    count : r.count ≡ how_many_done ran.replies
    state : r.state ≡ ran.state

  -- the commands after one that came to r
  abbrev ran_after : Store → List Path → Result (Outcome Store) → Ran Store
  ran_after s ws r = let rest = single_commits u c ws (after s r) in record { replies = reply r ∷ rest.replies; state = rest.state }

  -- one more in front of them
  one_more : (s : Store) (ws : List Path) (r : Result (Outcome Store)) → Alike (commit_each single ws (after s r)) (single_commits u c ws (after s r))
      → Alike (then_commits s r (commit_each single ws)) (ran_after s ws r)
  unfolding then_commits how_many_done reply after
  one_more s ws (refused k) a = record { count = a.count; state = a.state }
  one_more s ws (done o) a = record { count = ap suc a.count; state = a.state }

  each_alike : {t : Place Node} {end i : ℕ} {ws : List Path} → FilesFrom (by_modes c.account) t end i ws → (s : Store) → outlines t ≡ outlines s.tree
      → Alike (commit_each single ws s) (single_commits u c ws s)
  unfolding commit_each single_commits how_many_done
  each_alike no_more s e = record { count = refl; state = refl }
  each_alike {t} (a_file {q = q} {d = d} {qs = ws} b m plain rest) s e =
      let w = same_walk t s.tree e c.account q m.walked in
      let p = ap is_directory (same_kind_of w.0 d w.2) ∙ ap is_directory (sym (kind_by_modes c.account d.here)) ∙ plain in
      let kept : outlines t ≡ outlines (after s (single s q)).tree = unfold after in by_result (single s q)
      (λ k z. rw z e)
      (λ o z. rw z (e ∙ sym (done_with (file_outlines s q) z))) in
      subst (λ r. Alike (then_commits s (single s q) (commit_each single ws)) (ran_after s ws r)) (sym (file_command s q w.0 w.1 p))
      (one_more s ws (single s q) (each_alike rest (after s (single s q)) kept))
  each_alike (into b m directory reads rest) s e = each_alike rest s e
  each_alike (past b m directory shut rest) s e = each_alike rest s e

-- a directory's commit is the command `commit` of its files, one after another
pub directory_commits : (u : Setup) (s : Store) (c : Caller) (w : Path) (found : Place Node) (z : BoundedRole) → is_tree s.tree ≡ true → session store u s c ≡ done z
    → walk (by_modes c.account) s.tree w ≡ done found → is_directory found.here.kind ≡ true → (by_modes c.account).readable found.here ≡ true
    → (let ran = single_commits u c (files_below (by_modes c.account) w found.below) s in
    run store u s c (entry (commit w)) ≡ done (record { text = some (decimal_text (how_many_done ran.replies)); state = ran.state }))
unfolding run run_entry run_commit commit_directory
directory_commits u s c w found z whole e led directory reads =
    let a = each_alike u c (files_from_place c.account s.tree whole w found led directory reads) s refl in
    rw (e, done_bind, led, done_bind, directory, reads, require_true, done_then, a.count, a.state)
