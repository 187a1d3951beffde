-- The joining of document 02, computed: the working directory stands in front of short paths, and of nothing else.
use Rattle.std.specs.Prelude.{◌≡◌, refl, List, [], ◌∷◌}
use Rattle.std.proofs.Math.Option.{Option, none, some}
use Prim.Native.String.{String}
use Rattle.accounts.specs.Compute.{compute as compute_accounts}
use Rattle.syntax.specs.Pieces.{bytes}
use Rattle.syntax.specs.Path.{Path, root, EntryPath, path}
use Rattle.syntax.specs.Compute.{compute as compute_syntax}
use Rattle.commands.specs.Command.{create, read, write, mv, login, logout, cd, add, co, commit, up, del, Command, shell, account, entry, line}
use Rattle.commands.specs.Compute.{compute as compute_commands}
use Rattle.tree.specs.declared.Cause.TheVariants.{NoForm, TooDeep}
use Rattle.tree.specs.Result.{Result, refused, done, ◌>>=◌, present}
use Rattle.tree.specs.Compute.{compute as compute_tree}
use Rattle.shell.specs.WholePaths.{whole_command}
use Rattle.shell.specs.Compute.{compute as compute_shell}

-- the path that a text is
or_root : Option Path → Path
or_root none = root
or_root (some p) = p

at : String → Path
at t = or_root (path (bytes t))

-- the whole command of a line that is typed in a directory
typed_in : String → String → Result Command
typed_in directory l = do
  x ← present (line (bytes l)) NoForm
  whole_command (at directory) x.command

unfoldable compute : Unit {0}
unfolding compute_accounts compute_syntax compute_commands compute_tree compute_shell or_root at typed_in
compute = tt

-- ---- one path: joined to 6 names, to 7, and by itself too many; `/` as directory; a whole path is not moved
one_path : List (Result Command)
one_path =
    typed_in "/u1" "1,read,a/b" ∷
    typed_in "/u1/a/b" "1,create,c/d/e,0644" ∷
    typed_in "/u1/a/b" "1,create,c/d/e/f,0644" ∷
    typed_in "/" "1,write,a,x" ∷
    typed_in "/" "1,read,a/b/c/d/e/f" ∷
    typed_in "/" "1,read,a/b/c/d/e/f/g" ∷
    typed_in "/u1/a/b/c/d/e" "1,read,/u1" ∷
    typed_in "/u1/a/b/c/d/e" "1,read,a" ∷
    typed_in "/u1" "1,cd,a" ∷
    typed_in "/u1" "1,cd,/" ∷ []

one_path_joined : one_path ≡
    done (shell (read (at "/u1/a/b"))) ∷
    done (shell (create (at "/u1/a/b/c/d/e") 0o644)) ∷
    refused TooDeep ∷
    done (shell (write (at "/a") (bytes "x"))) ∷
    done (shell (read (at "/a/b/c/d/e/f"))) ∷
    refused NoForm ∷
    done (shell (read (at "/u1"))) ∷
    refused TooDeep ∷
    done (account (cd (at "/u1/a"))) ∷
    done (account (cd root)) ∷ []
unfolding compute one_path
one_path_joined = refl

-- ---- `mv`: both paths, the first alone, the second alone; either is too deep
two_paths : List (Result Command)
two_paths =
    typed_in "/u1" "1,mv,a,b/c" ∷
    typed_in "/u1" "1,mv,a,/u2/b" ∷
    typed_in "/u1" "1,mv,/u2/b,a" ∷
    typed_in "/u1/a" "1,mv,b/c/d/e/f,g" ∷
    typed_in "/u1/a" "1,mv,g,b/c/d/e/f" ∷ []

two_paths_joined : two_paths ≡
    done (shell (mv (at "/u1/a") (at "/u1/b/c"))) ∷
    done (shell (mv (at "/u1/a") (at "/u2/b"))) ∷
    done (shell (mv (at "/u2/b") (at "/u1/a"))) ∷
    refused TooDeep ∷
    refused TooDeep ∷ []
unfolding compute two_paths
two_paths_joined = refl

-- ---- commands on entries: working paths are joined and entry paths are not, which are never short; a password is no path
filed : EntryPath
filed = record { folder = root; name = bytes "b" }

entries : List (Result Command)
entries =
    typed_in "/u1" "1,add,a,/rep/b,2" ∷
    typed_in "/u1" "1,co,/rep/b,a" ∷
    typed_in "/u1" "1,commit,a" ∷
    typed_in "/u1" "1,up,a" ∷
    typed_in "/u1" "1,del,/rep/b" ∷
    typed_in "/rep" "1,del,b" ∷
    typed_in "/" "1,co,rep/b,a" ∷
    typed_in "/u1" "1,login,2,a" ∷
    typed_in "/u1" "1,logout" ∷
    typed_in "/u1/a/b/c/d/e" "1,add,a,/rep/b,2" ∷
    typed_in "/u1/a/b/c/d/e" "1,co,/rep/b,a" ∷ []

entries_joined : entries ≡
    done (entry (add (at "/u1/a") filed (record { role = record { 0 = 2 }; bound = refl }))) ∷
    done (entry (co filed (at "/u1/a"))) ∷
    done (entry (commit (at "/u1/a"))) ∷
    done (entry (up (at "/u1/a"))) ∷
    done (entry (del filed)) ∷
    refused NoForm ∷
    refused NoForm ∷
    done (account (login (record { role = record { 0 = 2 }; bound = refl }) (bytes "a"))) ∷
    done (account logout) ∷
    refused TooDeep ∷
    refused TooDeep ∷ []
unfolding compute entries filed
entries_joined = refl
