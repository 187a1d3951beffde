-- Document 01's shell commands, each with everything withheld that it does not ask for, and done: a check besides the listed ones would
-- refuse it. Person 1's home is another's, and shut; on the way there is x alone.
use Rattle.std.specs.Prelude.{refl, List, [], ◌∷◌, ◌++◌}
use Rattle.shell.proofs.Cases.{Case, ◌gives◌, ◌shows◌, all_done, Answered, compute}

shut : List Case
shut = all_done "0,chown,/u1,2\n0,chmod,/u1,0000\n0,chmod,/,0001"

-- `create`, `mkdir`: of the directory neither r nor that it is the caller's
making : List Case
making =
    shut ++ (all_done "0,mkdir,/d,0003" ++ (
    "1,create,/d/a,0000" gives 0 ∷
    "1,mkdir,/d/e,0000" gives 0 ∷ []))

making_withheld : Answered 0 making
unfolding compute shut making
making_withheld = refl

-- `read`: neither w nor x, and of the directory above x alone
reading : List Case
reading =
    shut ++ (all_done "0,mkdir,/d,0001\n0,create,/d/a,0004\n0,mkdir,/d/e,0004\n0,create,/d/e/f,0000" ++ (
    "1,read,/d/a" shows "" ∷
    "1,read,/d/e" shows "f" ∷ []))

reading_withheld : Answered 0 reading
unfolding compute shut reading
reading_withheld = refl

-- `write`: no r, and of the directory above x alone
writing : List Case
writing =
    shut ++ (all_done "0,mkdir,/d,0001\n0,create,/d/a,0002" ++ (
    "1,write,/d/a,t" gives 0 ∷ []))

writing_withheld : Answered 0 writing
unfolding compute shut writing
writing_withheld = refl

-- `rm`, `rmdir`: no right on what goes, nor that it or the directory above is the caller's
removing : List Case
removing =
    shut ++ (all_done "0,mkdir,/d,0003\n0,create,/d/a,0000\n0,write,/d/a,t\n0,mkdir,/d/e,0000" ++ (
    "1,rm,/d/a" gives 0 ∷
    "1,rmdir,/d/e" gives 0 ∷ []))

removing_withheld : Answered 0 removing
unfolding compute shut removing
removing_withheld = refl

-- `mv`: no right on what is moved, a directory with a file in it too, or on the file that is replaced, nor whose they are
moving : List Case
moving =
    shut ++ (all_done "0,mkdir,/d,0003\n0,mkdir,/e,0003\n0,create,/d/a,0000\n0,mkdir,/d/k,0000\n0,create,/d/k/f,0000\n0,create,/e/z,0000" ++ (
    "1,mv,/d/a,/e/b" gives 0 ∷
    "1,mv,/d/k,/e/k" gives 0 ∷
    "1,mv,/e/b,/e/z" gives 0 ∷
    "1,mv,/e/z,/e/z" gives 0 ∷ []))

moving_withheld : Answered 0 moving
unfolding compute shut moving
moving_withheld = refl

-- `chmod`: no right on the owner's own, and none but x above it
changing_mode : List Case
changing_mode =
    shut ++ (all_done "0,mkdir,/d,0001\n0,create,/d/a,0000\n0,chown,/d/a,1\n0,mkdir,/d/e,0000\n0,chown,/d/e,1" ++ (
    "1,chmod,/d/a,0000" gives 0 ∷
    "1,chmod,/d/e,2000" gives 0 ∷ []))

changing_mode_withheld : Answered 0 changing_mode
unfolding compute shut changing_mode
changing_mode_withheld = refl

-- `chgrp`: nor that the owner is in the group that goes
changing_group : List Case
changing_group =
    shut ++ (all_done "0,mkdir,/d,0001\n0,create,/d/a,0000\n0,chown,/d/a,1\n0,mkdir,/d/e,0000\n0,chown,/d/e,1" ++ (
    "1,chgrp,/d/a,3" gives 0 ∷
    "1,chgrp,/d/e,1" gives 0 ∷
    "0,chgrp,/d/e,24" gives 0 ∷ []))

changing_group_withheld : Answered 0 changing_group
unfolding compute shut changing_group
changing_group_withheld = refl

-- `chown`: of root nothing but that it is root
changing_owner : List Case
changing_owner =
    shut ++ (all_done "2,create,/u2/a,0000\n2,mkdir,/u2/e,0000\n2,chmod,/u2,0000\n0,chmod,/,0000" ++ (
    "0,chown,/u2/a,1" gives 0 ∷
    "0,chown,/u2/e,23" gives 0 ∷
    "0,chown,/,9" gives 0 ∷ []))

changing_owner_withheld : Answered 0 changing_owner
unfolding compute shut changing_owner
changing_owner_withheld = refl
