-- Document 01's shell commands but `mv`, which has `MovingCases`, computed on a small tree: every number that a command can give,
-- which of two failing checks decides, and what a done command leaves. Both machines run these steps, so demand 3 cannot tell
-- whether they are right.
use Rattle.std.specs.Prelude.{◌≡◌, refl, List, [], ◌∷◌, ◌++◌, map, cond, ℕ}
use Rattle.std.proofs.Math.Option.{Option, none, some}
use Prim.Native.String.{String}
use Rattle.buffers.specs.Text.{Text}
use Rattle.accounts.specs.declared.Uid.{Uid}
use Rattle.accounts.specs.declared.Caller.{Caller}
use Rattle.accounts.specs.Groups.{no_groups, with_group}
use Rattle.accounts.specs.Access.{is_root}
use Rattle.accounts.specs.Caller.{root_caller}
use Rattle.accounts.specs.Compute.{compute as compute_accounts}
use Rattle.syntax.specs.Pieces.{bytes, newline, pieces}
use Rattle.syntax.specs.Path.{Path, root, path}
use Rattle.syntax.specs.Compute.{compute as compute_syntax}
use Rattle.commands.specs.Command.{Command, shell, account, entry, line}
use Rattle.commands.specs.Compute.{compute as compute_commands}
use Rattle.tree.specs.declared.Kind.{Kind}
use Rattle.tree.specs.declared.Kind.TheVariants.{File, Directory}
use Rattle.tree.specs.declared.Cause.TheVariants.{NoForm, Access}
use Rattle.tree.specs.Causes.{number}
use Rattle.tree.specs.Result.{Result, refused, ◌>>=◌, present, Outcome}
use Rattle.tree.specs.Forest.{nil, node, Place, place_at, leaf}
use Rattle.tree.specs.Node.{Node}
use Rattle.tree.specs.Compute.{compute as compute_tree}
use Rattle.shell.specs.WholePaths.{whole_command}
use Rattle.shell.specs.Steps.{run_shell}
use Rattle.std.specs.Prelude.{Err}
use Rattle.tree.specs.declared.Refusal.TheVariants.{For, WrongLine}
use Rattle.shell.specs.Replies.{Reply, ok, refusal, reply, after, Told, told, answer_of}
use Rattle.shell.specs.Compute.{compute as compute_shell}

-- ---- cases

-- a command line with what it is answered: a number, 0 where it is done, and a text
pub record Case : Type 0 where
  pub line : Text
  pub number : ℕ
  pub text : Option Text

infix 80 ◌gives◌
infix 80 ◌shows◌
unfoldable pub ◌gives◌ : String → ℕ → Case
◌gives◌ l n = record { line = bytes l; number = n; text = none }

unfoldable pub ◌shows◌ : String → String → Case
◌shows◌ l t = record { line = bytes l; number = 0; text = some (bytes t) }

-- lines that are all done without a text
unfoldable pub all_done : String → List Case
all_done t = map (λ l. record { line = l; number = 0; text = none }) (pieces newline (bytes t))

-- a line with a reply to it
unfoldable pub answered : Text → Reply → Case
answered l (ok t) = record { line = l; number = 0; text = t }
answered l (refusal why) = record { line = l; number = number why; text = none }

-- ---- a tree, and who calls

-- root, or a person whose primary group has the person's number; all persons are in group 3
person : Uid → Caller
person u = record {
  account = record { uid = u; groups = with_group (record { 0 = u.0 }) (with_group (record { 0 = 3 }) no_groups) };
  primary = record { 0 = u.0 };
}

who : Uid → Caller
who u = cond (is_root u) root_caller (person u)

attributes : Kind → ℕ → ℕ → ℕ → String → Node
attributes kind owner group mode content = record {
  kind = kind;
  owner = record { 0 = owner };
  group = record { 0 = group };
  mode = mode;
  revision = 0;
  tag = none;
  content = bytes content;
}

pub directory : ℕ → ℕ → ℕ → Node
directory owner group mode = attributes Directory owner group mode ""

pub file : ℕ → ℕ → ℕ → String → Node
file = attributes File

-- the homes of persons 1 and 2
pub start : Place Node
start = record {
  here = directory 0 0 0o755;
  below = node (bytes "rep") (directory 16 24 0o750) nil (node (bytes "u1") (directory 1 1 0o755) nil (node (bytes "u2") (directory 2 2 0o755) nil nil));
}

command_run : ℕ → Place Node → Uid → Command → Result (Outcome (Place Node))
command_run elsewhere t u (shell c) = run_shell (who u) elsewhere t c
command_run elsewhere t u (account c) = refused NoForm
command_run elsewhere t u (entry c) = refused NoForm

line_run : ℕ → Place Node → Text → Result (Outcome (Place Node))
line_run elsewhere t l = do
  x ← present (line l) NoForm
  k ← whole_command root x.command
  command_run elsewhere t x.caller k

-- the replies to the lines of cases, and the tree after them
pub record Ran : Type 0 where
  pub replies : List Case
  pub tree : Place Node

pub run_on : ℕ → Place Node → List Case → Ran
run_on elsewhere t [] = record { replies = []; tree = t }
run_on elsewhere t (c ∷ cs) =
    let o = line_run elsewhere t c.line in
    let rest = run_on elsewhere (after t o) cs in
    record { replies = answered c.line (reply o) ∷ rest.replies; tree = rest.tree }

-- each line is answered so, where so many nodes exist elsewhere
abbrev pub Answered : ℕ → List Case → Type 0
Answered elsewhere cases = (run_on elsewhere start cases).replies ≡ cases

-- what stands at a path after the lines
pub standing : Place Node → Option Path → Option (Place Node)
standing t none = none
standing t (some p) = place_at t p

abbrev pub after_cases : List Case → String → Option (Place Node)
after_cases cases p = standing (run_on 0 start cases).tree (path (bytes p))

unfoldable pub compute : Unit {0}
unfolding compute_accounts compute_syntax compute_commands compute_tree compute_shell place_at number reply after ◌gives◌ ◌shows◌ all_done answered person who attributes directory file start command_run line_run run_on standing
compute = tt

-- ---- `create`, `mkdir`: for `/` 6; parent walk, x before the name; 6 if present; w on parent 5
making : List Case
making =
    "1,create,/,0600" gives 6 ∷
    "1,mkdir,/,0700" gives 6 ∷
    "1,create,/u1/a,0644" gives 0 ∷
    "1,mkdir,/u1/d,0700" gives 0 ∷
    "1,create,/u1/d/a,0600" gives 0 ∷
    "1,chmod,/u1/d,0600" gives 0 ∷
    "1,create,/u1/x/b,0600" gives 3 ∷
    "1,mkdir,/u1/x/b,0700" gives 3 ∷
    "1,create,/u1/a/b,0600" gives 4 ∷
    "1,mkdir,/u1/a/b,0700" gives 4 ∷
    "1,create,/u1/d/b,0600" gives 5 ∷
    "1,mkdir,/u1/d/a,0700" gives 5 ∷
    "2,create,/u1/a,0600" gives 6 ∷
    "2,mkdir,/u1/a,0700" gives 6 ∷
    "2,create,/u1/b,0600" gives 5 ∷
    "2,mkdir,/u1/b,0700" gives 5 ∷ []

making_answered : Answered 0 making
unfolding compute making
making_answered = refl

making_leaves : map (after_cases making) ("/u1/a" ∷ "/u1/d" ∷ "/u1/b" ∷ []) ≡
    some (leaf (file 1 1 0o644 "")) ∷
    some (record { here = directory 1 1 0o600; below = node (bytes "a") (file 1 1 0o600 "") nil nil }) ∷
    none ∷ []
unfolding compute making
making_leaves = refl

-- with 252 nodes elsewhere there are 256; a removed one makes way for another. 6 and 5 come before 10
full : List Case
full =
    "1,create,/u1/a,0600" gives 10 ∷
    "1,mkdir,/u1/a,0700" gives 10 ∷
    "2,create,/u1/a,0600" gives 5 ∷
    "1,create,/u2,0600" gives 6 ∷
    "1,mkdir,/u1/x/y,0700" gives 3 ∷
    "0,rmdir,/u2" gives 0 ∷
    "1,mkdir,/u1/a,0700" gives 0 ∷
    "1,create,/u1/a/b,0600" gives 10 ∷ []

full_answered : Answered 252 full
unfolding compute full
full_answered = refl

-- a new node is the caller's; its group is the parent's if that has set-gid, else the primary group
grouping : List Case
grouping =
    "1,mkdir,/u1/s,2775" gives 0 ∷
    "0,chgrp,/u1/s,5" gives 0 ∷
    "1,create,/u1/s/f,0640" gives 0 ∷
    "0,mkdir,/u1/s/d,0755" gives 0 ∷
    "0,create,/u1/s/d/r,0600" gives 0 ∷
    "1,create,/u1/p,0640" gives 0 ∷ []

grouping_answered : Answered 0 grouping
unfolding compute grouping
grouping_answered = refl

grouping_leaves : map (after_cases grouping) ("/u1/s/f" ∷ "/u1/s/d" ∷ "/u1/p" ∷ []) ≡
    some (leaf (file 1 5 0o640 "")) ∷
    some (record { here = directory 0 5 0o755; below = node (bytes "r") (file 0 0 0o600 "") nil nil }) ∷
    some (leaf (file 1 1 0o640 "")) ∷ []
unfolding compute grouping
grouping_leaves = refl

-- ---- the access test: the owner by the owner's digit alone, a member of the group by the group's, root passes
digits : List Case
digits =
    "1,create,/u1/a,0040" gives 0 ∷
    "1,read,/u1/a" gives 5 ∷
    "1,write,/u1/a,x" gives 5 ∷
    "1,chgrp,/u1/a,3" gives 0 ∷
    "1,read,/u1/a" gives 5 ∷
    "2,read,/u1/a" shows "" ∷
    "2,write,/u1/a,x" gives 5 ∷
    "1,chmod,/u1/a,0406" gives 0 ∷
    "1,read,/u1/a" shows "" ∷
    "1,write,/u1/a,x" gives 5 ∷
    "2,read,/u1/a" gives 5 ∷
    "2,write,/u1/a,x" gives 5 ∷
    "1,chgrp,/u1/a,1" gives 0 ∷
    "2,read,/u1/a" shows "" ∷
    "2,write,/u1/a,x" gives 0 ∷
    "1,chmod,/u1/a,0000" gives 0 ∷
    "0,read,/u1/a" shows "x" ∷
    "0,write,/u1/a," gives 0 ∷
    "0,read,/u1/a" shows "" ∷ []

digits_answered : Answered 0 digits
unfolding compute digits
digits_answered = refl

-- ---- `read`: walk, for each name x 5, then 3, then 4; r 5. Names stand in byte order
reading : List Case
reading =
    all_done "1,mkdir,/u1/d,0711\n1,create,/u1/d/b,0600\n1,create,/u1/d/a_,0600\n1,create,/u1/d/aa,0644\n1,create,/u1/d/a,0200\n1,create,/u1/d/a0,0600\n1,write,/u1/d/aa,51 32" ++ (
    "1,read,/u1/d/aa" shows "51 32" ∷
    "2,read,/u1/d/aa" shows "51 32" ∷
    "1,read,/u1/d" shows "a,a0,a_,aa,b" ∷
    "1,read,/" shows "rep,u1,u2" ∷
    "1,read,/u2" shows "" ∷
    "2,read,/u1/d" gives 5 ∷
    "1,read,/u1/d/a" gives 5 ∷
    "2,read,/u1/d/x" gives 3 ∷
    "1,read,/u1/d/a/x" gives 4 ∷
    "1,read,/u1/x/y" gives 3 ∷
    "1,read,/rep/x" gives 5 ∷
    "1,read,/rep/x/y" gives 5 ∷
    "1,chmod,/u1/d,0600" gives 0 ∷
    "1,read,/u1/d" shows "a,a0,a_,aa,b" ∷
    "1,read,/u1/d/x" gives 5 ∷
    "1,read,/u1/d/aa/x" gives 5 ∷ [])

reading_answered : Answered 0 reading
unfolding compute reading
reading_answered = refl

-- ---- `write`: walk; directory 7; w 5
writing : List Case
writing =
    "1,create,/u1/a,0644" gives 0 ∷
    "1,write,/u1/x,t" gives 3 ∷
    "1,write,/u1/a/x,t" gives 4 ∷
    "1,write,/rep/x,t" gives 5 ∷
    "2,write,/u1,t" gives 7 ∷
    "1,write,/u1,t" gives 7 ∷
    "2,write,/u1/a,t" gives 5 ∷
    "1,write,/u1/a,t" gives 0 ∷
    "1,write,/u1/a,u" gives 0 ∷ []

writing_answered : Answered 0 writing
unfolding compute writing
writing_answered = refl

writing_leaves : map (after_cases writing) ("/u1" ∷ []) ≡
    some (record { here = directory 1 1 0o755; below = node (bytes "a") (file 1 1 0o644 "u") nil nil }) ∷ []
unfolding compute writing
writing_leaves = refl

-- ---- `rm`, `rmdir`: `/` or `/rep` 9; walk; kind 7; w on parent 5; not empty 8
removing : List Case
removing =
    all_done "1,create,/u1/a,0000\n1,mkdir,/u1/d,0777\n1,create,/u1/d/b,0600" ++ (
    "0,rm,/" gives 9 ∷
    "0,rmdir,/" gives 9 ∷
    "0,rm,/rep" gives 9 ∷
    "0,rmdir,/rep" gives 9 ∷
    "0,chmod,/,0700" gives 0 ∷
    "1,rm,/rep" gives 9 ∷
    "1,rmdir,/rep" gives 9 ∷
    "1,rm,/u1/a" gives 5 ∷
    "1,rmdir,/u1/d" gives 5 ∷
    "0,chmod,/,0755" gives 0 ∷
    "1,rm,/u1/x" gives 3 ∷
    "1,rmdir,/u1/x" gives 3 ∷
    "1,rm,/u1/a/x" gives 4 ∷
    "1,rmdir,/u1/a/x" gives 4 ∷
    "2,rm,/u1/d" gives 7 ∷
    "2,rmdir,/u1/a" gives 7 ∷
    "2,rm,/u1/a" gives 5 ∷
    "2,rmdir,/u1/d" gives 5 ∷
    "1,rmdir,/u1/d" gives 8 ∷
    "2,rm,/u1/d/b" gives 0 ∷
    "1,rmdir,/u1/d" gives 0 ∷
    "1,rm,/u1/a" gives 0 ∷
    "1,rmdir,/u1" gives 5 ∷ [])

removing_answered : Answered 0 removing
unfolding compute removing
removing_answered = refl

removing_leaves : map (after_cases removing) ("/u1" ∷ []) ≡
    some (leaf (directory 1 1 0o755)) ∷ []
unfolding compute removing
removing_leaves = refl

-- ---- `chmod`: set-gid on a file 7; not owner nor root 9. `chgrp`: 9 but for root and an owner in the group. `chown`: 9 but for root
changing : List Case
changing =
    all_done "1,create,/u1/a,0644\n1,mkdir,/u1/d,0700\n1,create,/u1/d/b,0600" ++ (
    "2,chmod,/u1/x,2644" gives 3 ∷
    "2,chmod,/u1/a/x,2644" gives 4 ∷
    "2,chmod,/u1/d/x,2644" gives 5 ∷
    "2,chmod,/u1/a,2644" gives 7 ∷
    "1,chmod,/u1/a,2644" gives 7 ∷
    "0,chmod,/u1/a,2644" gives 7 ∷
    "2,chmod,/u1/a,0600" gives 9 ∷
    "2,chmod,/u1/d,2700" gives 9 ∷
    "1,chmod,/rep,0777" gives 9 ∷
    "1,chmod,/u1/d,2700" gives 0 ∷
    "2,chgrp,/u1/x,5" gives 3 ∷
    "2,chgrp,/u1/a/x,5" gives 4 ∷
    "2,chgrp,/u1/d/x,5" gives 5 ∷
    "1,chgrp,/u1/a,2" gives 9 ∷
    "1,chgrp,/u1/a,0" gives 9 ∷
    "2,chgrp,/u1/a,2" gives 9 ∷
    "2,chgrp,/u1/a,3" gives 9 ∷
    "1,chgrp,/u1/a,3" gives 0 ∷
    "1,chgrp,/u1/a,1" gives 0 ∷
    "0,chgrp,/u1/a,24" gives 0 ∷
    "2,chown,/u1/x,2" gives 3 ∷
    "2,chown,/u1/a/x,2" gives 4 ∷
    "2,chown,/u1/d/x,2" gives 5 ∷
    "1,chown,/u1/a,2" gives 9 ∷
    "2,chown,/u1/a,2" gives 9 ∷
    "0,chown,/u1/a,2" gives 0 ∷
    "1,chmod,/u1/a,0777" gives 9 ∷
    "2,chmod,/u1/a,0600" gives 0 ∷
    "0,chmod,/u1/d/b,0400" gives 0 ∷ [])

changing_answered : Answered 0 changing
unfolding compute changing
changing_answered = refl

changing_leaves : map (after_cases changing) ("/u1/a" ∷ "/u1/d" ∷ []) ≡
    some (leaf (file 2 24 0o600 "")) ∷
    some (record { here = directory 1 1 0o2700; below = node (bytes "b") (file 1 1 0o400 "") nil nil }) ∷ []
unfolding compute changing
changing_leaves = refl

-- ---- what an answer tells: beside 0 a text's length, beside 17 the line
tellings : List Told
tellings = map told (answer_of (ok none) ∷ answer_of (ok (some (bytes "a,b"))) ∷ Err (For Access) ∷ Err (WrongLine 4) ∷ [])

tellings_are : tellings ≡ record { number = 0; values = [] } ∷ record { number = 0; values = 3 ∷ [] } ∷ record { number = 5; values = [] } ∷ record { number = 17; values = 4 ∷ [] } ∷ []
unfolding compute tellings told answer_of
tellings_are = refl
