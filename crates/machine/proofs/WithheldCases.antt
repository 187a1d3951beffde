-- The commands about sessions, working directories and entries, each with everything withheld that it does not ask for, and done, on
-- both machines: a check besides the listed ones, made by both alike, would refuse it and is out of demand 3's sight. Those of the
-- shell are in `WithheldCases` of the crate shell.
use Rattle.std.specs.Prelude.{refl, List, [], ◌∷◌, ◌++◌}
use Rattle.shell.proofs.Cases.{Case, ◌gives◌, ◌shows◌, all_done}
use Rattle.machine.proofs.Cases.{InStore, InAbstract, compute}

-- ---- `login`: no right on anything, whether a session is there or not; `logout`: not even a session
entering : List Case
entering =
    all_done "0,chown,/u1,2\n0,chmod,/u1,0000\n0,chmod,/,0000" ++ (
    "1,login,1,ash" gives 0 ∷
    "1,login,0,oak" gives 0 ∷
    "1,login,1,ash" gives 0 ∷ [])

entering_in_store : InStore entering
unfolding compute entering
entering_in_store = refl

entering_in_abstract : InAbstract entering
unfolding compute entering
entering_in_abstract = refl

leaving : List Case
leaving =
    all_done "0,chown,/u1,2\n0,chmod,/u1,0000\n0,chmod,/,0000" ++ (
    "1,logout" gives 0 ∷ [])

leaving_in_store : InStore leaving
unfolding compute leaving
leaving_in_store = refl

leaving_in_abstract : InAbstract leaving
unfolding compute leaving
leaving_in_abstract = refl

-- ---- from here on person 1's home is another's and shut, and the kept directory with it; there is x alone at `/`. Behind it `/d` is
-- root's, and so is all that is not given away

-- `cd`: neither r nor w, and of the kept directory nothing
moving : List Case
moving =
    all_done "0,chown,/u1,2\n0,chmod,/u1,0000\n0,chmod,/,0001\n0,mkdir,/d,0001\n0,mkdir,/d/e,0001" ++ (
    "1,cd,/d" gives 0 ∷
    "1,cd,e" gives 0 ∷ [])

moving_in_store : InStore moving
unfolding compute moving
moving_in_store = refl

moving_in_abstract : InAbstract moving
unfolding compute moving
moving_in_abstract = refl

-- `add`: of the file r alone and of the directory r and x, whether tagged or not, and above them x alone; a role that the person has no
-- grant for; of the entry's directory what the session's role has
adding : List Case
adding =
    all_done "0,chown,/u1,2\n0,chmod,/u1,0000\n0,chmod,/,0001\n0,mkdir,/d,0001\n0,create,/d/a,0400\n0,chown,/d/a,1\n0,mkdir,/d/e,0500\n0,chown,/d/e,1\n1,login,0,oak" ++ (
    "1,add,/d/e,/rep/k,1" gives 0 ∷
    "1,add,/d/a,/rep/a,3" gives 0 ∷
    "1,add,/d/a,/rep/b,3" gives 0 ∷
    "1,login,1,ash" gives 0 ∷
    "1,add,/d/a,/rep/k/a,1" gives 0 ∷
    "1,add,/d/e,/rep/k/k,1" gives 0 ∷ [])

adding_in_store : InStore adding
unfolding compute adding
adding_in_store = refl

adding_in_abstract : InAbstract adding
unfolding compute adding
adding_in_abstract = refl

-- `co`: of the directory neither r nor that it is the caller's; in the repository no w, and no right on what is not copied
copying : List Case
copying =
    all_done "2,login,0,fir\n2,mkdir,/u2/e,0700\n2,create,/u2/a,0600\n2,add,/u2/e,/rep/k,1\n2,add,/u2/a,/rep/k/a,1\n2,add,/u2/e,/rep/k/s,3\n2,add,/u2/a,/rep/k/s/b,1" ++ (
    all_done "0,chown,/u1,2\n0,chmod,/u1,0000\n0,chmod,/,0001\n0,mkdir,/d,0003\n1,login,1,ash" ++ (
    "1,co,/rep/k,/d/c" gives 0 ∷
    "1,co,/rep/k/a,/d/f" gives 0 ∷
    "1,read,/d/c" shows "a" ∷ []))

copying_in_store : InStore copying
unfolding compute copying
copying_in_store = refl

copying_in_abstract : InAbstract copying
unfolding compute copying
copying_in_abstract = refl

-- `commit` of a file: of another's r alone, and above it x alone; the session's role is neither role 0 nor the one that filed it
filing : List Case
filing =
    all_done "1,login,0,oak\n0,mkdir,/d,0001\n0,create,/d/a,0400\n0,chown,/d/a,1\n0,mkdir,/d/e,0500\n0,chown,/d/e,1\n1,add,/d/e,/rep/k,1\n1,add,/d/a,/rep/k/a,1" ++ (
    all_done "0,chown,/d/a,0\n0,chmod,/d/a,0004\n0,chown,/u1,2\n0,chmod,/u1,0000\n0,chmod,/,0001\n1,login,1,ash" ++ (
    "1,commit,/d/a" gives 0 ∷
    "1,commit,/d/a" gives 0 ∷ []))

filing_in_store : InStore filing
unfolding compute filing
filing_in_store = refl

filing_in_abstract : InAbstract filing
unfolding compute filing
filing_in_abstract = refl

-- `commit` of a directory: of another's r and x alone, and no tag
filing_all : List Case
filing_all =
    all_done "1,login,0,oak\n0,mkdir,/d,0005\n0,create,/d/a,0400\n0,chown,/d/a,1\n0,mkdir,/e,0500\n0,chown,/e,1\n1,add,/e,/rep/k,1\n1,add,/d/a,/rep/k/a,1" ++ (
    all_done "0,chown,/d/a,0\n0,chmod,/d/a,0004\n0,chown,/u1,2\n0,chmod,/u1,0000\n0,chmod,/,0001\n1,login,1,ash" ++ (
    "1,commit,/d" shows "1" ∷ []))

filing_all_in_store : InStore filing_all
unfolding compute filing_all
filing_all_in_store = refl

filing_all_in_abstract : InAbstract filing_all
unfolding compute filing_all
filing_all_in_abstract = refl

-- `up`: of another's file w alone, whether its tag is stale or not; in the repository no w
updating : List Case
updating =
    all_done "1,login,0,oak\n0,mkdir,/d,0001\n0,create,/d/a,0400\n0,chown,/d/a,1\n1,add,/d/a,/rep/a,1\n2,login,0,fir\n2,co,/rep/a,/u2/a\n2,commit,/u2/a" ++ (
    all_done "0,chown,/d/a,0\n0,chmod,/d/a,0002\n0,chown,/u1,2\n0,chmod,/u1,0000\n0,chmod,/,0001\n1,login,1,ash" ++ (
    "1,up,/d/a" gives 0 ∷
    "1,up,/d/a" gives 0 ∷ []))

updating_in_store : InStore updating
unfolding compute updating
updating_in_store = refl

updating_in_abstract : InAbstract updating
unfolding compute updating
updating_in_abstract = refl

-- `del`: no right of the person's, no working copy, no w on the entry
deleting : List Case
deleting =
    all_done "2,login,0,fir\n2,mkdir,/u2/e,0700\n2,create,/u2/a,0600\n2,add,/u2/e,/rep/k,1\n2,add,/u2/a,/rep/k/a,1\n2,add,/u2/e,/rep/k/e,1" ++ (
    all_done "0,chown,/u1,2\n0,chmod,/u1,0000\n0,chmod,/,0001\n1,login,1,ash" ++ (
    "1,del,/rep/k/a" gives 0 ∷
    "1,del,/rep/k/e" gives 0 ∷ []))

deleting_in_store : InStore deleting
unfolding compute deleting
deleting_in_store = refl

deleting_in_abstract : InAbstract deleting
unfolding compute deleting
deleting_in_abstract = refl
