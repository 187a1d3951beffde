-- Document 02's `cd` and short paths, computed on both machines: what each check answers, and which of two that fail decides.
use Rattle.std.specs.Prelude.{refl, List, [], ◌∷◌}
use Rattle.shell.proofs.Cases.{Case, ◌gives◌, ◌shows◌}
use Rattle.machine.proofs.Cases.{InStore, InAbstract, Answered, compute}

-- ---- joining: 1 and 2 come before its 19, and every check of the command behind it, 12 and 9 included; of `mv` both paths come first
joining : List Case
joining =
    "9,cd,a/b/c/d/e/f/g" gives 1 ∷
    "9,cd,a/b/c/d/e/f" gives 2 ∷
    "1,cd,a/b/c/d/e/f" gives 19 ∷
    "1,read,a/b/c/d/e/f" gives 19 ∷
    "1,read,a/b/c/d/e" gives 3 ∷
    "1,add,a/b/c/d/e/f,/rep/a,0" gives 19 ∷
    "1,co,/rep/a,a/b/c/d/e/f" gives 19 ∷
    "1,commit,a/b/c/d/e/f" gives 19 ∷
    "1,up,a/b/c/d/e/f" gives 19 ∷
    "1,up,a/b/c/d/e" gives 12 ∷
    "1,mv,/,a/b/c/d/e/f" gives 19 ∷
    "1,mv,a/b/c/d/e/f,/" gives 19 ∷
    "1,mv,/,a" gives 9 ∷ []

joining_in_store : InStore joining
unfolding compute joining
joining_in_store = refl

joining_in_abstract : InAbstract joining
unfolding compute joining
joining_in_abstract = refl

-- ---- `cd`: the walk, then 7, then x; what is kept is the joined path, for this account alone
moves : List Case
moves =
    "1,mkdir,d,0755" gives 0 ∷
    "1,create,d/f,0644" gives 0 ∷
    "1,cd,none" gives 3 ∷
    "1,cd,d/f/g" gives 4 ∷
    "1,cd,d/f" gives 7 ∷
    "1,chmod,d/f,0000" gives 0 ∷
    "2,cd,/u1/d/f" gives 7 ∷
    "1,chmod,d/f,0644" gives 0 ∷
    "1,cd,d" gives 0 ∷
    "1,write,f,x" gives 0 ∷
    "1,read,f" shows "x" ∷
    "2,read,f" gives 3 ∷
    "0,read,u1/d/f" shows "x" ∷
    "2,cd,/u1/d" gives 0 ∷
    "2,read,f" shows "x" ∷
    "1,chmod,/u1/d,0744" gives 0 ∷
    "2,cd,/u1/d" gives 5 ∷
    "2,read,f" gives 5 ∷
    "2,cd,/u2" gives 0 ∷
    "2,read,/u1/d/f" gives 5 ∷
    "1,read,f" shows "x" ∷ []

moves_in_store : InStore moves
unfolding compute moves
moves_in_store = refl

moves_in_abstract : InAbstract moves
unfolding compute moves
moves_in_abstract = refl

-- ---- a kept directory that has gone, or that is a file now, is met by the walk, which comes behind 19
gone : List Case
gone =
    "1,mkdir,d,0755" gives 0 ∷
    "1,cd,d" gives 0 ∷
    "1,rmdir,/u1/d" gives 0 ∷
    "1,create,f,0644" gives 3 ∷
    "1,create,a/b/c/d/e,0644" gives 19 ∷
    "1,create,/u1/d,0644" gives 0 ∷
    "1,create,f,0644" gives 4 ∷
    "1,cd,/u1" gives 0 ∷
    "1,create,f,0644" gives 0 ∷ []

gone_in_store : InStore gone
unfolding compute gone
gone_in_store = refl

gone_in_abstract : InAbstract gone
unfolding compute gone
gone_in_abstract = refl

-- ---- reserved names are judged on the joined path, `/rep` may not be entered by a person, and working paths are joined in a session
reserves : List Case
reserves =
    "1,cd,/" gives 0 ∷
    "1,cd,rep" gives 5 ∷
    "1,rmdir,rep" gives 9 ∷
    "1,mv,rep,u1/r" gives 9 ∷
    "1,cd,u1" gives 0 ∷
    "1,login,0,oak" gives 0 ∷
    "1,create,a,0600" gives 0 ∷
    "1,add,a,/rep/a,0" gives 0 ∷
    "1,write,a,y" gives 0 ∷
    "1,commit,a" gives 0 ∷
    "1,co,/rep/a,b" gives 0 ∷
    "1,read,/u1/b" shows "y" ∷
    "1,up,b" gives 0 ∷ []

reserves_answered : Answered reserves
unfolding compute reserves
reserves_answered = (refl, refl)
