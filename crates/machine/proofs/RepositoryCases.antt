-- The commands of the repository computed on the store and on the abstract machine: every number that each can give, in
-- document 01's order of checks, and what a done command leaves.
use Rattle.std.specs.Prelude.{refl, List, [], ◌∷◌, ◌++◌}
use Rattle.shell.proofs.Cases.{Case, ◌gives◌, ◌shows◌, all_done}
use Rattle.machine.proofs.Cases.{Answered, compute}

-- `add`: walk; not owner nor root 9; not readable 5; role not dominated 9; the account's parent walk; present 6; w 5
adds : List Case
adds =
    all_done "1,login,0,oak\n1,create,/u1/a,0644\n1,write,/u1/a,t\n1,mkdir,/u1/d,0700\n1,create,/u1/n,0200\n1,mkdir,/u1/r,0600\n1,mkdir,/u1/x,0300\n2,create,/u2/a,0644\n2,create,/u2/n,0600\n1,add,/u1/d,/rep/d,1\n1,add,/u1/d,/rep/s,2\n1,add,/u1/a,/rep/d/f,1" ++ (
    "1,add,/u1/none,/rep/e,0" gives 3 ∷
    "1,add,/u1/a/x,/rep/e,0" gives 4 ∷
    "1,add,/rep/d,/rep/e,0" gives 5 ∷
    "1,add,/u2/n,/rep/e,0" gives 9 ∷
    "1,add,/u2/a,/rep/e,0" gives 9 ∷
    "1,add,/u1/n,/rep/e,0" gives 5 ∷
    "1,add,/u1/r,/rep/e,0" gives 5 ∷
    "1,add,/u1/x,/rep/e,0" gives 5 ∷
    "1,login,1,ash" gives 0 ∷
    "2,login,0,fir" gives 0 ∷
    "1,add,/u2/a,/rep/e,2" gives 9 ∷
    "1,add,/u1/n,/rep/e,2" gives 5 ∷
    "1,add,/u1/a,/rep/none/e,2" gives 9 ∷
    "1,add,/u1/a,/rep/d/f,0" gives 9 ∷
    "1,add,/u1/a,/rep/none/e,1" gives 3 ∷
    "1,add,/u1/a,/rep/d/f/e,1" gives 4 ∷
    "1,add,/u1/a,/rep/s/e,1" gives 5 ∷
    "1,add,/u1/a,/rep/s,1" gives 6 ∷
    "1,add,/u1/a,/rep/e,1" gives 5 ∷
    "1,add,/u1/a,/rep/d/e,1" gives 0 ∷
    "0,login,1,yew" gives 0 ∷
    "0,add,/u2/n,/rep/e,1" gives 5 ∷
    "0,add,/u2/n,/rep/d/n,1" gives 0 ∷
    "2,commit,/u2/n" gives 0 ∷
    "2,co,/rep/d/e,/u2/e" gives 0 ∷
    "2,read,/u2/e" shows "t" ∷ [])

adds_answered : Answered adds
unfolding compute adds
adds_answered = (refl, refl)

-- `co`: the person's part, as for `create`, before the account's: walk; not readable 5; too deep 19. What may not be read is
-- skipped, and makes nothing too deep. A copy is 0600 or 0700; its group goes by its own parent.
checkouts : List Case
checkouts =
    all_done "1,login,0,oak\n1,create,/u1/a,0644\n1,mkdir,/u1/d,0700\n1,add,/u1/d,/rep/d,1\n1,add,/u1/d,/rep/d/s,2\n1,add,/u1/a,/rep/d/s/a,1\n1,write,/u1/a,t\n1,add,/u1/a,/rep/d/a,1\n1,add,/u1/a,/rep/d/b,3" ++ (
    "1,co,/rep/none,/" gives 6 ∷
    "1,co,/rep/none,/u1/a/y" gives 4 ∷
    "1,co,/rep/a/x,/u1/none/y" gives 3 ∷
    "1,co,/rep/none,/rep/y" gives 5 ∷
    "1,co,/rep/none,/u1/a" gives 6 ∷
    "1,co,/rep/d,/u2" gives 6 ∷
    "1,co,/rep/none,/u2/y" gives 5 ∷
    "1,co,/rep/none,/u1/y" gives 3 ∷
    "1,co,/rep/d/a/x,/u1/y" gives 4 ∷
    "1,mkdir,/u1/p,0700" gives 0 ∷
    "1,mkdir,/u1/p/q,0700" gives 0 ∷
    "1,mkdir,/u1/p/q/r,0700" gives 0 ∷
    "1,mkdir,/u1/p/q/r/s,0700" gives 0 ∷
    "1,co,/rep/d,/u1/p/q/r/c" gives 19 ∷
    "1,co,/rep/d,/u1/p/q/c" gives 0 ∷
    "1,read,/u1/p/q/c" shows "a,b,s" ∷
    "1,read,/u1/p/q/c/s" shows "a" ∷
    "1,read,/u1/p/q/c/b" shows "t" ∷
    "1,read,/u1/p/q/c/s/a" shows "" ∷
    "1,login,1,ash" gives 0 ∷
    "1,co,/rep/d/b,/u1/y" gives 5 ∷
    "1,co,/rep/d/s,/u1/p/q/r/s/t" gives 5 ∷
    "1,co,/rep/d/s/none,/u1/y" gives 5 ∷
    "1,co,/rep/d,/u1/p/q/r/s/t" gives 19 ∷
    "1,co,/rep/d/a,/u1/p/q/r/s/t" gives 0 ∷
    "1,co,/rep/d,/u1/p/q/r/c" gives 0 ∷
    "1,read,/u1/p/q/r/c" shows "a" ∷
    "1,mkdir,/u1/g,2755" gives 0 ∷
    "1,chgrp,/u1/g,3" gives 0 ∷
    "1,co,/rep/d,/u1/g/c" gives 0 ∷
    "2,read,/u1/g/c" gives 5 ∷
    "1,chmod,/u1/g/c,0750" gives 0 ∷
    "2,read,/u1/g/c" shows "a" ∷
    "2,read,/u1/g/c/a" gives 5 ∷
    "1,chmod,/u1/g/c/a,0640" gives 0 ∷
    "2,read,/u1/g/c/a" gives 5 ∷
    "1,chmod,/u1/g/c/a,0604" gives 0 ∷
    "2,read,/u1/g/c/a" shows "t" ∷
    "0,login,1,yew" gives 0 ∷
    "0,co,/rep/d/b,/u2/b" gives 5 ∷
    "0,co,/rep/d/a,/u2/a" gives 0 ∷
    "2,read,/u2/a" gives 5 ∷ [])

checkouts_answered : Answered checkouts
unfolding compute checkouts
checkouts_answered = (refl, refl)

-- `commit` of a file: walk; r 5; untagged 15; the account's walk; directory 7; r 5; w on its parent 5; stale 14. A tag
-- follows its node; an entry added later starts at 1
tags : List Case
tags =
    all_done "1,login,0,oak\n2,login,0,fir\n1,mkdir,/u1/d,0700\n1,create,/u1/a,0644\n1,create,/u1/n,0200\n1,create,/u1/m,0600" ++ (
    "1,commit,/u1/none" gives 3 ∷
    "1,commit,/u1/a/x" gives 4 ∷
    "1,commit,/rep/x" gives 5 ∷
    "2,commit,/u1/d" gives 5 ∷
    "1,commit,/u1/d" shows "0" ∷
    "1,commit,/u1/n" gives 5 ∷
    "1,commit,/u1/m" gives 15 ∷
    "1,add,/u1/d,/rep/d,1" gives 0 ∷
    "1,add,/u1/a,/rep/d/a,1" gives 0 ∷
    "1,commit,/u1/d" shows "0" ∷
    "1,co,/rep/d,/u1/c" gives 0 ∷
    "2,commit,/u1/a" gives 0 ∷
    "1,read,/u1/c" shows "a" ∷
    "1,commit,/u1/c/a" gives 14 ∷
    "1,write,/u1/a,t" gives 0 ∷
    "1,commit,/u1/a" gives 0 ∷
    "1,commit,/u1/a" gives 0 ∷
    "1,co,/rep/d/a,/u1/e" gives 0 ∷
    "1,read,/u1/e" shows "t" ∷
    "1,write,/u1/e,u" gives 0 ∷
    "1,mv,/u1/e,/u1/f" gives 0 ∷
    "1,commit,/u1/f" gives 0 ∷
    "1,mv,/u1/f,/u1/e" gives 0 ∷
    "1,commit,/u1/a" gives 14 ∷
    "1,del,/rep/d/a" gives 0 ∷
    "1,commit,/u1/e" gives 3 ∷
    "1,add,/u1/d,/rep/d/a,2" gives 0 ∷
    "1,commit,/u1/e" gives 7 ∷
    "1,login,1,ash" gives 0 ∷
    "1,commit,/u1/e" gives 7 ∷
    "1,login,0,oak" gives 0 ∷
    "1,del,/rep/d/a" gives 0 ∷
    "1,add,/u1/m,/rep/d/a,1" gives 0 ∷
    "1,commit,/u1/e" gives 14 ∷
    "1,commit,/u1/c/a" gives 0 ∷
    "1,del,/rep/d/a" gives 0 ∷
    "1,del,/rep/d" gives 0 ∷
    "1,add,/u1/m,/rep/d,1" gives 0 ∷
    "1,commit,/u1/e" gives 4 ∷
    "1,login,1,ash" gives 0 ∷
    "1,commit,/u1/e" gives 4 ∷
    "1,login,0,oak" gives 0 ∷
    "1,del,/rep/d" gives 0 ∷
    "1,add,/u1/d,/rep/d,2" gives 0 ∷
    "1,login,1,ash" gives 0 ∷
    "1,commit,/u1/e" gives 5 ∷ [])

tags_answered : Answered tags
unfolding compute tags
tags_answered = (refl, refl)

-- `up`: as `commit`, with w for r, and no w in the repository. The file takes content and revision
updates : List Case
updates =
    all_done "1,login,0,oak\n2,login,0,fir\n1,mkdir,/u1/d,0700\n1,create,/u1/a,0644\n1,create,/u1/n,0400\n1,create,/u1/m,0200" ++ (
    "1,up,/u1/none" gives 3 ∷
    "1,up,/u1/a/x" gives 4 ∷
    "1,up,/rep/x" gives 5 ∷
    "2,up,/u1/d" gives 7 ∷
    "1,up,/u1/d" gives 7 ∷
    "1,up,/u1/n" gives 5 ∷
    "1,up,/u1/m" gives 15 ∷
    "1,add,/u1/a,/rep/a,1" gives 0 ∷
    "1,co,/rep/a,/u1/b" gives 0 ∷
    "1,write,/u1/a,t" gives 0 ∷
    "1,commit,/u1/a" gives 0 ∷
    "2,up,/u1/a" gives 5 ∷
    "1,commit,/u1/b" gives 14 ∷
    "1,write,/u1/b,u" gives 0 ∷
    "1,chmod,/u1/b,0200" gives 0 ∷
    "1,login,1,ash" gives 0 ∷
    "1,up,/u1/b" gives 0 ∷
    "1,chmod,/u1/b,0600" gives 0 ∷
    "1,read,/u1/b" shows "t" ∷
    "1,commit,/u1/b" gives 5 ∷
    "1,login,0,oak" gives 0 ∷
    "1,commit,/u1/b" gives 0 ∷
    "1,del,/rep/a" gives 0 ∷
    "1,up,/u1/b" gives 3 ∷
    "1,add,/u1/d,/rep/a,2" gives 0 ∷
    "1,up,/u1/b" gives 7 ∷
    "1,login,1,ash" gives 0 ∷
    "1,up,/u1/b" gives 7 ∷
    "1,login,0,oak" gives 0 ∷
    "1,del,/rep/a" gives 0 ∷
    "1,add,/u1/a,/rep/a,2" gives 0 ∷
    "1,up,/u1/b" gives 0 ∷
    "1,login,1,ash" gives 0 ∷
    "1,up,/u1/b" gives 5 ∷ [])

updates_answered : Answered updates
unfolding compute updates
updates_answered = (refl, refl)

-- `del`: walk; not readable 5; w on parent 5; not empty 8
deletions : List Case
deletions =
    all_done "1,login,0,oak\n1,mkdir,/u1/d,0700\n1,create,/u1/a,0600\n1,add,/u1/d,/rep/d,1\n1,add,/u1/a,/rep/d/a,2\n1,add,/u1/a,/rep/d/b,1\n1,add,/u1/a,/rep/b,1" ++ (
    "1,del,/rep/none" gives 3 ∷
    "1,del,/rep/b/x" gives 4 ∷
    "1,del,/rep/d" gives 8 ∷
    "1,login,1,ash" gives 0 ∷
    "1,del,/rep/d/none" gives 3 ∷
    "1,del,/rep/d/a" gives 5 ∷
    "1,del,/rep/b" gives 5 ∷
    "1,del,/rep/d/b" gives 0 ∷
    "1,del,/rep/d/b" gives 3 ∷
    "1,login,0,oak" gives 0 ∷
    "1,del,/rep/d/a" gives 0 ∷
    "1,del,/rep/d" gives 0 ∷
    "1,co,/rep/d,/u1/c" gives 3 ∷ [])

deletions_answered : Answered deletions
unfolding compute deletions
deletions_answered = (refl, refl)
