-- What every shell command answers: a cause of its own, or no text but that of a place.
use Rattle.std.specs.Prelude.{◌≡◌, true, ℕ}
use Rattle.std.proofs.Math.Path.{refl}
use Rattle.std.proofs.Math.Option.{Option, none, some}
use Rattle.buffers.specs.Text.{Text}
use Rattle.accounts.specs.declared.Caller.{Caller}
use Rattle.accounts.specs.declared.Uid.{Uid}
use Rattle.accounts.specs.declared.Gid.{Gid}
use Rattle.syntax.specs.Path.{Path, parent, last}
use Rattle.syntax.proofs.FormLaws.{answered, no_answer}
use Rattle.commands.specs.Command.{ShellAction, create, mkdir, read, write, rm, rmdir, mv, chmod, chgrp, chown}
use Rattle.tree.specs.declared.Kind.{Kind}
use Rattle.tree.specs.declared.Kind.TheVariants.{File, Directory}
use Rattle.tree.specs.declared.Cause.TheVariants.{Access, Exists, WrongKind, NotEmpty, Reserved, Full, IntoItself, TooDeep}
use Rattle.tree.specs.Result.{Result, Outcome}
use Rattle.tree.specs.Outcomes.{Gives, gives, Refuses}
use Rattle.tree.proofs.GivesLaws.{only_refuses, then_step, then_check, then_guard}
use Rattle.tree.specs.Forest.{Place, place_at}
use Rattle.tree.specs.Node.{Node}
use Rattle.tree.specs.Walk.{by_modes, walk, parent_walk, room}
use Rattle.tree.proofs.JudgeLaws.{room_by_modes}
use Rattle.tree.proofs.WalkRefusalLaws.{unused_refuses, sought_refuses, walk_refuses, parent_walk_refuses}
use Rattle.tree.specs.WellFormed.{is_tree}
use Rattle.tree.proofs.UpdateLaws.{walked_at}
use Rattle.shell.proofs.ReplacingLaws.{replace_refuses}
use Rattle.shell.specs.Steps.{text_of, run_create, run_read, run_write, run_rm, run_mv, run_chmod, run_chgrp, run_chown, run_shell}
use Rattle.shell.proofs.ReadTextLaws.{read_fits}
use Rattle.shell.specs.Answers.{Own, TextFits}

-- no text fits
pub none_fits : TextFits none
none_fits x e = no_answer e

module _ (c : Caller) (m : ℕ) (t : Place Node) where
  walks : (p : Path) → Refuses Own (walk (by_modes c.account) t p)
  walks p = walk_refuses refl refl refl (by_modes c.account) t p

  parent_walks : (p : Path) → Refuses Own (parent_walk (by_modes c.account) t p)
  parent_walks p = parent_walk_refuses refl refl refl (by_modes c.account) t p

  -- where there is no room for a new node, the cause is the command's own
  pub room_refuses : (p : Path) → Refuses Own (room (by_modes c.account) t p)
  room_refuses p = rw (room_by_modes c.account t p) (only_refuses {P = λ d. Unit {0}} (
      then_check Exists refl _ λ _.
      then_step (parent_walks p) λ d _.
      then_guard (unused_refuses refl (last p) d.below) λ _.
      then_check Access refl _ λ _.
      gives tt))

  module _ (T : Option Text → Type 0) (empty : T none) (full : (p : Path) (d : Place Node) → place_at t p ≡ some d → T (some (text_of d))) where
    abbrev Answers : Result (Outcome (Place Node)) → Type 0
    Answers r = Gives Own (λ o. T o.text) r

    create_answers : (kind : Kind) (p : Path) (mode : ℕ) → Answers (run_create c m t kind p mode)
    unfolding run_create
    create_answers kind p mode =
        then_step (room_refuses p) λ d _.
        then_check Full refl _ λ _.
        gives empty

    read_answers : (p : Path) → Answers (run_read c m t p)
    unfolding run_read
    read_answers p =
        then_step (walks p) λ d e.
        then_check Access refl _ λ _.
        gives (full p d (walked_at t (by_modes c.account) p d e))

    write_answers : (p : Path) (content : Text) → Answers (run_write c m t p content)
    unfolding run_write
    write_answers p content =
        then_step (walks p) λ d _.
        then_check WrongKind refl _ λ _.
        then_check Access refl _ λ _.
        gives empty

    rm_answers : (kind : Kind) (p : Path) → Answers (run_rm c m t kind p)
    unfolding run_rm
    rm_answers kind p =
        then_check Reserved refl _ λ _.
        then_step (walks p) λ d _.
        then_check WrongKind refl _ λ _.
        then_step (walks (parent p)) λ e _.
        then_check Access refl _ λ _.
        then_check NotEmpty refl _ λ _.
        gives empty

    mv_answers : (a b : Path) → Answers (run_mv c m t a b)
    unfolding run_mv
    mv_answers a b =
        then_check Reserved refl _ λ _.
        then_step (walks a) λ d _.
        then_step (parent_walks b) λ f _.
        then_step (sought_refuses (last b) f.below) λ o _.
        then_guard (replace_refuses refl refl d.here.kind o) λ _.
        then_step (walks (parent a)) λ e _.
        then_check Access refl _ λ _.
        then_check Access refl _ λ _.
        then_check IntoItself refl _ λ _.
        then_check TooDeep refl _ λ _.
        gives empty

    chmod_answers : (p : Path) (mode : ℕ) → Answers (run_chmod c m t p mode)
    unfolding run_chmod
    chmod_answers p mode =
        then_step (walks p) λ d _.
        then_check WrongKind refl _ λ _.
        then_check Reserved refl _ λ _.
        gives empty

    chgrp_answers : (p : Path) (group : Gid) → Answers (run_chgrp c m t p group)
    unfolding run_chgrp
    chgrp_answers p group =
        then_step (walks p) λ d _.
        then_check Reserved refl _ λ _.
        gives empty

    chown_answers : (p : Path) (owner : Uid) → Answers (run_chown c m t p owner)
    unfolding run_chown
    chown_answers p owner =
        then_step (walks p) λ d _.
        then_check Reserved refl _ λ _.
        gives empty

    -- a shell command is refused by a cause of its own, or its text is none or that of a place
    pub run_shell_answers : (command : ShellAction) → Gives Own (λ o. T o.text) (run_shell c m t command)
    unfolding run_shell
    run_shell_answers (create p mode) = create_answers File p mode
    run_shell_answers (mkdir p mode) = create_answers Directory p mode
    run_shell_answers (read p) = read_answers p
    run_shell_answers (write p content) = write_answers p content
    run_shell_answers (rm p) = rm_answers File p
    run_shell_answers (rmdir p) = rm_answers Directory p
    run_shell_answers (mv a b) = mv_answers a b
    run_shell_answers (chmod p mode) = chmod_answers p mode
    run_shell_answers (chgrp p group) = chgrp_answers p group
    run_shell_answers (chown p owner) = chown_answers p owner

-- the text of a place of a well-formed tree fits
pub place_text_fits : (t : Place Node) → is_tree t ≡ true → (p : Path) (d : Place Node) → place_at t p ≡ some d → TextFits (some (text_of d))
place_text_fits t h p d e x i = rw (answered i) (read_fits t p d h e)
