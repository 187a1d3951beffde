-- The room for a new node: what one that was found is, that root finds it wherever there is one, and the directory that a walk came through.
use Rattle.std.specs.Prelude.{◌≡◌, true, false}
use Rattle.std.proofs.Common.{sym, ◌∙◌, ap}
use Rattle.std.proofs.Math.Option.{none, some}
use Rattle.std.proofs.lemmas.Bool.{not-true}
use Rattle.accounts.specs.declared.Right.TheVariants.{W}
use Rattle.accounts.specs.declared.Account.{Account}
use Rattle.accounts.specs.Access.{is_root}
use Rattle.accounts.proofs.AccessLaws.{may_root}
use Rattle.syntax.specs.Path.{Name, Path, root, ◌▹◌, parent, last, is_top}
use Rattle.syntax.proofs.FormLaws.{answered}
use Rattle.tree.specs.declared.Cause.TheVariants.{Access, Exists}
use Rattle.tree.specs.Result.{refused, done, absent}
use Rattle.tree.proofs.ResultLaws.{done_then, done_bind, require_true}
use Rattle.tree.specs.Outcomes.{gives, Ensures}
use Rattle.tree.proofs.GivesLaws.{any_outcome, done_with, then_check, then_guard, then_do}
use Rattle.tree.specs.Forest.{Forest, Place, get, place_at}
use Rattle.tree.specs.Node.{is_directory, Node}
use Rattle.tree.specs.Walk.{Judge, by_modes, unused, walk, room}
use Rattle.tree.specs.Room.{Roomed}
use Rattle.tree.proofs.JudgeLaws.{allows_is, room_by_modes}
use Rattle.tree.proofs.StepLaws.{walk_root, walked, was_unused, parent_walked}
use Rattle.tree.proofs.UpdateLaws.{place_at_root, walked_at}
use Rattle.tree.specs.WellFormed.{is_tree}
use Rattle.tree.proofs.WellFormedLaws.{entered_directory}
use Rattle.tree.proofs.OtherPathLaws.{root_parent_walks}

module _ {A : Type 0} (n : Name) (F : Forest A) where
  -- a name that names no child is unused
  pub is_unused : get n F ≡ none → unused n F ≡ done tt
  unfolding unused absent
  is_unused e = rw e

  -- one that names a child is not
  pub is_used : {d : Place A} → get n F ≡ some d → unused n F ≡ refused Exists
  unfolding unused absent
  is_used e = rw e

-- a walk came through the place above its path
pub walked_above : {A : Type 0} (j : Judge A) (t : Place A) (p : Path) {d e : Place A} → walk j t p ≡ done d → place_at t (parent p) ≡ some e
    → walk j t (parent p) ≡ done e
unfolding parent
walked_above j t root w a = walk_root j t ∙ ap done (answered (sym a ∙ place_at_root t))
walked_above j t (p ▹ n) w a = let i = walked j t p n w in i.1 ∙ ap done (answered (sym a ∙ walked_at t j p i.0 i.1))

module _ (a : Account) (t : Place Node) (p : Path) where
  room_ensures : Ensures (Roomed a t p) (room (by_modes a) t p)
  room_ensures = rw (room_by_modes a t p) (
      then_check Exists tt _ λ x.
      then_do _ λ d e.
      then_guard (any_outcome _) λ b.
      then_check Access tt _ λ _.
      let i = parent_walked (by_modes a) t p e in
      gives (record { led = i.0; enterable = entered_directory a d.here i.1; free = was_unused (last p) d.below b; below_top = not-true (is_top p) x }))

  -- the room that was found is one
  pub room_found : {d : Place Node} → room (by_modes a) t p ≡ done d → Roomed a t p d
  room_found e = done_with room_ensures e

  -- root finds a room in every directory where the name is not used
  pub root_room : is_root a.uid ≡ true → is_tree t ≡ true → {d : Place Node} → place_at t (parent p) ≡ some d → is_directory d.here.kind ≡ true
      → get (last p) d.below ≡ none → is_top p ≡ false → room (by_modes a) t p ≡ done d
  root_room top whole {d} there directory free below =
      let may = allows_is a d.here W ∙ may_root a W d.here.owner d.here.group d.here.mode top in
      rw (room_by_modes a t p, below, require_true, done_then, root_parent_walks a top t whole p d there directory, done_bind)
      (rw (is_unused (last p) d.below free, done_then, may, require_true, done_then))
