-- A tree with another place at `/rep`, and where walks lead in it that may not pass there.
use Rattle.std.specs.Prelude.{◌≡◌, true, false}
use Rattle.buffers.specs.Text.{same_text}
use Rattle.syntax.specs.Path.{Name, Path, root, ◌▹◌, rep}
use Rattle.tree.specs.Forest.{Place, at, under}
use Rattle.tree.specs.Walk.{Judge}

-- the tree t with e at `/rep`
unfoldable pub graft : {A : Type 0} → Place A → Place A → Place A
graft e t = under (at rep (λ d. e)) t

-- a path that leads past `/` and not into `/rep`
pub data Outside : Path → Type 0 where
  first : {n : Name} → same_text n rep ≡ false → Outside (root ▹ n)
  further : {p : Path} {n : Name} → Outside p → Outside (p ▹ n)

-- the places at a path in the grafted tree and in the tree itself, where a walk that may not pass `/rep` leads
pub data Seen {A : Type 0} (e f t : Place A) : Path → Place A → Place A → Type 0 where
  at_top : Seen e f t root (graft e t) t
  at_rep : {n : Name} → same_text n rep ≡ true → Seen e f t (root ▹ n) e f
  outside : {p : Path} {d : Place A} → Outside p → Seen e f t p d d

-- and the judge lets the walk pass there
pub record Passed {A : Type 0} (j : Judge A) (e f t : Place A) (p : Path) (d d' : Place A) : Type 0 where
  pub seen : Seen e f t p d d'
  pub passes : j.passes d.here ≡ true
