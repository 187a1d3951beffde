-- One command's steps by another name, and the room for a content.
use Rattle.std.specs.Prelude.{◌≡◌, List, true, ◌&&◌, ℕ, ◌≤◌, length}
use Rattle.std.proofs.Common.{sym, subst, ap}
use Rattle.buffers.specs.Cases.{and_both}
use Rattle.buffers.specs.Text.{Text}
use Rattle.accounts.specs.declared.Caller.{Caller}
use Rattle.syntax.specs.Path.{Path, is_path}
use Rattle.syntax.specs.Field.{is_content}
use Rattle.syntax.proofs.FieldLaws.{content_fits}
use Rattle.commands.specs.Command.{ShellAction, write, is_shell_command}
use Rattle.tree.specs.Forest.{Place}
use Rattle.tree.specs.Node.{Node}
use Rattle.tree.specs.Layout.{content_width}
use Rattle.shell.specs.Replies.{Answer}
use Rattle.shell.specs.Steps.{run_shell}
use Rattle.shell.specs.CommandBytes.{Follows}

-- what follows one command follows the same one
pub same_shell : (c : Caller) (t : Place Node) {k l : ShellAction} {b a b' a' : List ℕ} {r : Answer} → k ≡ l
    → Follows (run_shell c 0 t l) b a r b' a' → Follows (run_shell c 0 t k) b a r b' a'
same_shell c t {b = b} {a = a} {b' = b'} {a' = a'} {r = r} e f = subst (λ (x : ShellAction). Follows (run_shell c 0 t x) b a r b' a') (sym e) f

-- a content that is to be written fits
pub content_room : {k : ShellAction} {q : Path} {x : Text} → is_shell_command k ≡ true → k ≡ write q x → length x ≤ content_width
unfolding is_shell_command
content_room {k} {q} {x} i e =
    let w : (is_path q && is_content x) ≡ true = rw (← ap is_shell_command e) i in
    (content_fits x (and_both (is_path q) (is_content x) w).1).0
