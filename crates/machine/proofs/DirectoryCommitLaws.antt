-- A directory's commit: what every single commit keeps it keeps too, and what it is where it is done.
use Rattle.std.specs.Prelude.{◌≡◌, ◌⊎◌, true, ℕ, suc, ◌≤◌, length}
use mathlib.Core.List.{List, [], ◌∷◌}
use Rattle.std.proofs.Math.Logic.{inl, inr}
use native.Mathlib.Omega.{arith}
use Rattle.buffers.specs.Cases.{case}
use Rattle.accounts.specs.declared.Caller.{Caller}
use Rattle.accounts.specs.Dominance.{BoundedRole}
use Rattle.syntax.specs.Path.{Path}
use Rattle.setup.specs.Setup.{Setup}
use Rattle.tree.specs.declared.Cause.TheVariants.{Access}
use Rattle.tree.specs.Result.{Result, refused, done, require, Outcome}
use Rattle.tree.proofs.ResultLaws.{bind_done, then_done, done_bind}
use Rattle.tree.specs.Outcomes.{refuses, gives, Ensures}
use Rattle.tree.proofs.GivesLaws.{then_check, then_do}
use Rattle.tree.specs.Forest.{Place}
use Rattle.tree.specs.Node.{Node, is_directory}
use Rattle.tree.specs.Walk.{by_modes, walk}
use Rattle.machine.specs.Working.{Commits, then_commits, commit_each}
use Rattle.machine.specs.Machine.{Machine, session, commit_found, commit_file, commit_directory, run_commit}
use Rattle.machine.specs.DirectoryCommit.{of_directory}

-- ---- commits one after another

module _ {S : Type 0} where
  -- what a commit keeps, and all behind it keep, all keep
  then_keeps : (P : S → Type 0) {s : S} {r : Result (Outcome S)} (others : S → Commits S) → P s → Ensures (λ o. P o.state) r
      → ((t : S) → P t → P (others t).state) → P (then_commits s r others).state
  unfolding then_commits
  then_keeps P others h (refuses w) k = k _ h
  then_keeps P others h (gives q) k = k _ q

  -- no more are counted than there are
  then_counts : {n : ℕ} (s : S) (r : Result (Outcome S)) (others : S → Commits S) → ((t : S) → (others t).count ≤ n) → (then_commits s r others).count ≤ suc n
  unfolding then_commits
  then_counts s (refused why) others k = omega (arith, k s)
  then_counts s (done o) others k = omega (arith, k o.state)

  module _ (single : S → Path → Result (Outcome S)) where
    pub each_counts : (ws : List Path) (s : S) → (commit_each single ws s).count ≤ length ws
    unfolding commit_each
    each_counts [] s = omega arith
    each_counts (w ∷ ws) s = then_counts s (single s w) (commit_each single ws) (each_counts ws)

    -- what every single one keeps, all keep
    pub each_keeps : (P : S → Type 0) → ((s : S) → P s → (w : Path) → Ensures (λ o. P o.state) (single s w))
        → (ws : List Path) (s : S) → P s → P (commit_each single ws s).state
    unfolding commit_each
    each_keeps P k [] s h = h
    each_keeps P k (w ∷ ws) s h = then_keeps P (commit_each single ws) h (k s h w) (each_keeps P k ws)

-- ---- the command

module _ {S A : Type 0} (M : Machine S A) (u : Setup) (c : Caller) where
  -- a single commit, in a session, of what the walk found
  pub file_found : (s : S) (w : Path) {z : BoundedRole} {found : Place Node} → session M u s c ≡ done z → walk (by_modes c.account) (M.workspace s) w ≡ done found
      → commit_file M u s c w ≡ commit_found M u s c z w found
  unfolding commit_file
  file_found s w i led = rw (i, done_bind, led, done_bind)

  -- a commit is that of a directory, or a single one
  pub commit_either : {Q : Outcome S → Type 0} (s : S) (w : Path) → Ensures Q (commit_file M u s c w)
      → ((found : Place Node) → walk (by_modes c.account) (M.workspace s) w ≡ done found → is_directory found.here.kind ≡ true → Q (of_directory M u c s w found))
      → Ensures Q (run_commit M u s c w)
  unfolding run_commit commit_directory
  commit_either s w one all =
      then_do (session M u s c) λ z i.
      then_do (walk (by_modes c.account) (M.workspace s) w) λ found led.
      case (is_directory found.here.kind)
      (λ b. rw b (then_check Access tt _ λ _. gives (all found led b)))
      (λ b. rw (b, ← file_found s w i led) one)

  -- what a done commit is
  pub commit_done : (s : S) (w : Path) (o : Outcome S) → run_commit M u s c w ≡ done o
      → (commit_file M u s c w ≡ done o) ⊎ ((found : Place Node) × (o ≡ of_directory M u c s w found))
  unfolding run_commit commit_directory
  commit_done s w o e =
      let z = bind_done (session M u s c) _ e in
      let d = bind_done (walk (by_modes c.account) (M.workspace s) w) _ z.2 in
      case (is_directory d.0.here.kind)
      (λ i. let r = then_done (require ((by_modes c.account).readable d.0.here) Access) _ (rw i at d.2) in inr (d.0, (let q : o ≡ of_directory M u c s w d.0 = cc r.1 in q)))
      (λ i. inl (rw (file_found s w z.1 d.1) (rw i at d.2)))

  -- and it keeps what every single commit keeps
  pub commit_keeps_all : (P : S → Type 0) → ((s : S) → P s → (w : Path) → Ensures (λ o. P o.state) (commit_file M u s c w))
      → (s : S) → P s → (w : Path) → Ensures (λ o. P o.state) (run_commit M u s c w)
  commit_keeps_all P k s h w = commit_either s w (k s h w) λ found _ _. each_keeps (λ t p. commit_file M u t c p) P k _ s h
