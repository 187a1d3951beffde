-- A shell command with a path below a directory that the caller may not pass is never done: no walk leads there.
use Rattle.std.specs.Prelude.{◌≡◌, true, false, ◌||◌, ℕ}
use Rattle.std.proofs.Common.{◌∙◌}
use Rattle.std.proofs.Math.Option.{some}
use Rattle.buffers.specs.Cases.{case, contra}
use Rattle.accounts.specs.declared.Caller.{Caller}
use Rattle.accounts.specs.declared.Right.TheVariants.{X}
use Rattle.syntax.specs.Path.{Path, root, ◌▹◌, parent, within, lies_below}
use Rattle.syntax.proofs.WithinLaws.{top_not_below, below_parent}
use Rattle.commands.specs.Command.{ShellAction, create, mkdir, read, write, rm, rmdir, mv, chmod, chgrp, chown, some_path}
use Rattle.tree.specs.declared.Kind.{Kind}
use Rattle.tree.specs.declared.Kind.TheVariants.{File, Directory}
use Rattle.tree.specs.declared.Cause.TheVariants.{Exists, Reserved}
use Rattle.tree.specs.Result.{Result, done, ◌>>=◌}
use Rattle.tree.specs.Outcomes.{Ensures}
use Rattle.tree.proofs.GivesLaws.{then_step, then_check, then_do}
use Rattle.tree.specs.Forest.{Place, place_at}
use Rattle.tree.specs.Node.{Node, allows}
use Rattle.tree.specs.Walk.{by_modes, enter, walk, parent_walk, room}
use Rattle.tree.proofs.JudgeLaws.{passes_by_modes, room_by_modes}
use Rattle.tree.proofs.StepLaws.{entered, walked, parent_walked}
use Rattle.tree.proofs.OtherPathLaws.{walk_outside}
use Rattle.shell.specs.Steps.{run_create, run_read, run_write, run_rm, run_mv, run_chmod, run_chgrp, run_chown, run_shell}

module _ (c : Caller) (t : Place Node) (p : Path) (d : Place Node) (there : place_at t p ≡ some d) (shut : allows c.account X d.here ≡ false) where
  -- a directory that the caller enters is neither that at p nor below it
  not_entered : (q : Path) (e : Place Node) → walk (by_modes c.account) t q ≡ done e
      → enter (by_modes c.account) e.here ≡ done tt → within p q ≡ false
  not_entered q e w i =
      let j = by_modes c.account in
      let s = passes_by_modes c.account d.here ∙ shut in
      walk_outside j t p d there s q e w j.passes s (entered j e.here i).1

  -- no walk leads below p
  no_walk : (q : Path) → lies_below p q ≡ true → (e : Place Node) → walk (by_modes c.account) t q ≡ done e → ⊥
  no_walk root b e w = top_not_below p b
  no_walk (q ▹ n) b e w =
      let i = walked (by_modes c.account) t q n w in
      contra (below_parent p q n b) (not_entered q i.0 i.1 i.2)

  -- nor a walk to the parent of what lies there
  no_parent_walk : (q : Path) → lies_below p q ≡ true → (e : Place Node) → parent_walk (by_modes c.account) t q ≡ done e → ⊥
  unfolding parent
  no_parent_walk root b e w = top_not_below p b
  no_parent_walk (q ▹ n) b e w =
      let i = parent_walked (by_modes c.account) t (q ▹ n) w in
      contra (below_parent p q n b) (not_entered q e i.0 i.1)

  -- so a step after such a walk is never taken
  pub never_walked : {A : Type 0} (k : Place Node → Result A) (q : Path) → lies_below p q ≡ true
      → Ensures (λ _. ⊥) (walk (by_modes c.account) t q >>= k)
  never_walked k q b = then_do (walk (by_modes c.account) t q) λ e w. absurd (no_walk q b e w)

  -- nor one after such a walk to the parent
  never_parent_walked : {A : Type 0} (k : Place Node → Result A) (q : Path) → lies_below p q ≡ true
      → Ensures (λ _. ⊥) (parent_walk (by_modes c.account) t q >>= k)
  never_parent_walked k q b = then_do (parent_walk (by_modes c.account) t q) λ e w. absurd (no_parent_walk q b e w)

  module _ (m : ℕ) where
    -- no room for a new node is found there
    pub never_room : (q : Path) → lies_below p q ≡ true → Ensures (λ _. ⊥) (room (by_modes c.account) t q)
    never_room q b = rw (room_by_modes c.account t q) (then_check Exists tt _ λ _. never_parent_walked _ q b)

    never_made : (kind : Kind) (q : Path) (mode : ℕ) → lies_below p q ≡ true → Ensures (λ _. ⊥) (run_create c m t kind q mode)
    unfolding run_create
    never_made kind q mode b = then_step (never_room q b) λ e z. absurd z

    never_removed : (kind : Kind) (q : Path) → lies_below p q ≡ true → Ensures (λ _. ⊥) (run_rm c m t kind q)
    unfolding run_rm
    never_removed kind q b = then_check Reserved tt _ λ _. never_walked _ q b

    never_moved : (q r : Path) → (lies_below p q || lies_below p r) ≡ true → Ensures (λ _. ⊥) (run_mv c m t q r)
    unfolding run_mv
    never_moved q r b = then_check Reserved tt _ λ _. case (lies_below p q)
        (λ i. never_walked _ q i)
        (λ i. then_do (walk (by_modes c.account) t q) λ _ _. never_parent_walked _ r (rw i at b))

    -- a shell command with a path below p is never done
    pub never_run : (command : ShellAction) → some_path (lies_below p) command ≡ true → Ensures (λ _. ⊥) (run_shell c m t command)
    unfolding some_path run_shell run_read run_write run_chmod run_chgrp run_chown
    never_run (create q mode) b = never_made File q mode b
    never_run (mkdir q mode) b = never_made Directory q mode b
    never_run (read q) b = never_walked _ q b
    never_run (write q content) b = never_walked _ q b
    never_run (rm q) b = never_removed File q b
    never_run (rmdir q) b = never_removed Directory q b
    never_run (mv q r) b = never_moved q r b
    never_run (chmod q mode) b = never_walked _ q b
    never_run (chgrp q group) b = never_walked _ q b
    never_run (chown q owner) b = never_walked _ q b
