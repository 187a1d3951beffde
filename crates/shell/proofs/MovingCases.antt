-- `mv` computed on small trees: every number that it can give, which of two failing checks decides, and what it leaves, above all
-- where it replaces a file. Both machines run these steps, so demand 3 cannot tell whether they are right.
use Rattle.std.specs.Prelude.{◌≡◌, refl, List, [], ◌∷◌, ◌++◌, map}
use Rattle.std.proofs.Math.Option.{Option, none, some}
use Prim.Native.String.{String}
use Rattle.syntax.specs.Pieces.{bytes}
use Rattle.syntax.specs.Path.{root, path}
use Rattle.tree.specs.Forest.{nil, node, Place, leaf}
use Rattle.tree.specs.Node.{Node, set_revision, set_tag}
use Rattle.shell.proofs.Cases.{Case, ◌gives◌, ◌shows◌, all_done, directory, file, run_on, Answered, standing, after_cases, compute}

-- ---- either is `/` or `/rep` 9; walk a; parent walk b; a directory at b 6; a directory at a and a file at b 7; w on both parents 5;
-- b below a 11; too deep 19
moving : List Case
moving =
    all_done "1,mkdir,/u1/d,0755\n1,mkdir,/u1/d/e,0555\n1,create,/u1/a,0600\n1,mkdir,/u1/n,0600" ++ (
    "1,mv,/u1/x,/" gives 9 ∷
    "1,mv,/u1/x,/rep" gives 9 ∷
    "1,mv,/,/u1/x/y" gives 9 ∷
    "0,mv,/rep,/u1/x" gives 9 ∷
    "1,mv,/u1/x,/u1/a/y" gives 3 ∷
    "1,mv,/u1/a/x,/u1/x/y" gives 4 ∷
    "1,mv,/u1/n/x,/u1/x/y" gives 5 ∷
    "1,mv,/u1/a,/u1/x/y" gives 3 ∷
    "1,mv,/u1/d,/u1/a/y" gives 4 ∷
    "1,mv,/u1/a,/u1/n/y" gives 5 ∷
    "1,mv,/u1/a,/rep/y" gives 5 ∷
    "2,mv,/u1/a,/u1/d" gives 6 ∷
    "1,mv,/u1/d,/u1/d" gives 6 ∷
    "1,mv,/u1/d,/u1/d/e" gives 6 ∷
    "1,mv,/u1/d/e,/u1/d" gives 6 ∷
    "2,mv,/u1/d,/u1/a" gives 7 ∷
    "2,mv,/u1/a,/u1/a" gives 5 ∷
    "2,mv,/u1/a,/u2/a" gives 5 ∷
    "1,mv,/u1/a,/u2/a" gives 5 ∷
    "2,mv,/u1/d,/u1/d/x" gives 5 ∷
    "1,mv,/u1/d,/u1/d/e/x" gives 5 ∷
    "1,mv,/u1/d,/u1/d/x" gives 11 ∷
    "1,mv,/u1/a,/u1/a" gives 0 ∷
    "1,mv,/u1/a,/u1/ab" gives 0 ∷
    "1,mv,/u1/d/e,/u1/e" gives 0 ∷ [])

moving_answered : Answered 0 moving
unfolding compute moving
moving_answered = refl

moving_leaves : map (after_cases moving) ("/u1/a" ∷ "/u1/ab" ∷ "/u1/d" ∷ "/u1/e" ∷ []) ≡
    none ∷
    some (leaf (file 1 1 0o600 "")) ∷
    some (leaf (directory 1 1 0o755)) ∷
    some (leaf (directory 1 1 0o555)) ∷ []
unfolding compute moving
moving_leaves = refl

-- a path of 6 names is not too deep, one of 7 is, and 11 comes before 19
deepening : List Case
deepening =
    all_done "1,mkdir,/u1/a,0700\n1,mkdir,/u1/a/b,0700\n1,create,/u1/a/b/c,0600\n1,write,/u1/a/b/c,t\n1,mkdir,/u1/d,0700\n1,mkdir,/u1/d/e,0700\n1,mkdir,/u1/d/e/f,0700" ++ (
    "1,mv,/u1/a,/u1/d/e/f/a" gives 19 ∷
    "1,mv,/u1/a/b,/u1/d/e/f/b" gives 0 ∷
    "1,read,/u1/d/e/f/b/c" shows "t" ∷
    "1,mv,/u1/d,/u1/a/d" gives 19 ∷
    "1,mv,/u1/d,/u1/d/e/d" gives 11 ∷
    "1,mv,/u1/d/e,/u1/e" gives 0 ∷
    "1,mv,/u1/e,/u1/d/e" gives 0 ∷
    "1,read,/u1/d/e/f/b/c" shows "t" ∷
    "1,read,/u1/a" shows "" ∷ [])

deepening_answered : Answered 0 deepening
unfolding compute deepening
deepening_answered = refl

-- ---- a file onto a file

-- two files that differ in all but their kind, one with a tag; and a file in a directory in which nobody may write
tagged : Node
tagged = set_tag (record { path = record { folder = root; name = bytes "a" }; revision = 3 }) (file 1 1 0o600 "one")

untagged : Node
untagged = set_revision 5 (file 2 3 0o644 "two")

pair : Place Node
pair = record {
  here = directory 0 0 0o755;
  below = node (bytes "u1") (directory 1 1 0o755) (
      node (bytes "a") tagged nil (
      node (bytes "b") untagged nil (
      node (bytes "d") (directory 1 1 0o555) (node (bytes "c") (file 1 1 0o600 "three") nil nil) nil))) nil;
}

abbrev AnsweredOfPair : List Case → Type 0
AnsweredOfPair cases = (run_on 0 pair cases).replies ≡ cases

abbrev left_of_pair : List Case → String → Option (Place Node)
left_of_pair cases p = standing (run_on 0 pair cases).tree (path (bytes p))

-- the replaced file goes with its tag: what was moved stands there as it was, whoever owns either
replacing : List Case
replacing = "1,mv,/u1/b,/u1/a" gives 0 ∷ "1,read,/u1" shows "a,d" ∷ []

replacing_answered : AnsweredOfPair replacing
unfolding compute pair tagged untagged replacing
replacing_answered = refl

replacing_leaves : map (left_of_pair replacing) ("/u1/a" ∷ "/u1/b" ∷ []) ≡ some (leaf untagged) ∷ none ∷ []
unfolding compute pair tagged untagged replacing
replacing_leaves = refl

-- and the moved one's own tag goes with it
carrying : List Case
carrying = "1,chmod,/u1/d,0755" gives 0 ∷ "1,mv,/u1/a,/u1/d/c" gives 0 ∷ []

carrying_answered : AnsweredOfPair carrying
unfolding compute pair tagged untagged carrying
carrying_answered = refl

carrying_leaves : map (left_of_pair carrying) ("/u1/a" ∷ "/u1/b" ∷ "/u1/d/c" ∷ []) ≡ none ∷ some (leaf untagged) ∷ some (leaf tagged) ∷ []
unfolding compute pair tagged untagged carrying
carrying_leaves = refl

-- w on both parents is asked, onto itself too; then nothing changes
staying : List Case
staying =
    "1,mv,/u1/a,/u1/d/c" gives 5 ∷
    "1,mv,/u1/d/c,/u1/a" gives 5 ∷
    "1,mv,/u1/d/c,/u1/d/c" gives 5 ∷
    "1,mv,/u1/a,/u1/a" gives 0 ∷ []

staying_answered : AnsweredOfPair staying
unfolding compute pair tagged untagged staying
staying_answered = refl

staying_leaves : (run_on 0 pair staying).tree ≡ pair
unfolding compute pair tagged untagged staying
staying_leaves = refl

-- a directory is not replaced 6, whatever comes there, and replaces no file 7
facing : List Case
facing =
    "1,mv,/u1/a,/u1/d" gives 6 ∷
    "1,mv,/u1/d,/u1/d" gives 6 ∷
    "1,mv,/u1/d,/u1" gives 6 ∷
    "1,mv,/u1/d/c,/u1/d" gives 6 ∷
    "1,mv,/u1/d,/u1/a" gives 7 ∷
    "1,mv,/u1/d,/u1/d/c" gives 7 ∷ []

facing_answered : AnsweredOfPair facing
unfolding compute pair tagged untagged facing
facing_answered = refl
