-- The files below a directory as they are met row by row: as the rows lie, which is path order, through the directories that may be
-- read.
use Rattle.std.specs.Prelude.{◌≡◌, List, [], ◌∷◌, true, false, ℕ, suc, ◌+◌, ◌<◌}
use Rattle.syntax.specs.Path.{Path}
use Rattle.tree.specs.Result.{done}
use Rattle.tree.specs.Forest.{Place, size}
use Rattle.tree.specs.Node.{is_directory}
use Rattle.tree.specs.Walk.{Judge, walk}
use Rattle.tree.specs.RowPlaces.{index_of}

-- the walk to q leads to the place d, whose row is i
pub record Met {A : Type 0} (j : Judge A) (t : Place A) (i : ℕ) (q : Path) (d : Place A) : Type 0 where
  pub walked : walk j t q ≡ done d
  pub row : i ≡ index_of t q

-- the files still to be met from row i on, up to the row `end`: one row after another, and past all that lies below a directory
-- that may not be read
pub data FilesFrom {A : Type 0} (j : Judge A) (t : Place A) (end : ℕ) : ℕ → List Path → Type 0 where
  no_more : FilesFrom j t end end []
  a_file : {i : ℕ} {q : Path} {d : Place A} {qs : List Path} → i < end → Met j t i q d → is_directory (j.kind d.here) ≡ false
      → FilesFrom j t end (suc i) qs → FilesFrom j t end i (q ∷ qs)
  into : {i : ℕ} {q : Path} {d : Place A} {qs : List Path} → i < end → Met j t i q d → is_directory (j.kind d.here) ≡ true
      → j.readable d.here ≡ true → FilesFrom j t end (suc i) qs → FilesFrom j t end i qs
  past : {i : ℕ} {q : Path} {d : Place A} {qs : List Path} → i < end → Met j t i q d → is_directory (j.kind d.here) ≡ true
      → j.readable d.here ≡ false → FilesFrom j t end (suc i + size d.below) qs → FilesFrom j t end i qs
