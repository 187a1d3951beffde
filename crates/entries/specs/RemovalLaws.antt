-- What the code of `del` goes by: tests at a row are those at its place, and the row taken out is the entry's.
use Rattle.std.specs.Prelude.{◌≡◌, List, Bool, true, not, Ok, Err}
use Rattle.std.specs.Prelude as code
use Rattle.std.proofs.Common.{sym, ◌∙◌, arith}
use Rattle.std.proofs.Math.Path.{ap}
use Prim.Native.Nat.{ℕ, suc}
use Rattle.buffers.specs.Cases.{case}
use Rattle.accounts.specs.declared.Account.{Account}
use Rattle.accounts.specs.declared.Right.TheVariants.{W}
use Rattle.syntax.specs.Path.{EntryPath, parent, in_rep, entry_location}
use Rattle.syntax.proofs.FormLaws.{answered}
use Rattle.tree.specs.declared.Cause.{Cause}
use Rattle.tree.specs.declared.Cause.TheVariants.{Access, NotEmpty}
use Rattle.tree.specs.Result.{Result, outcome, refused, done, ◌>>=◌, ◌>>◌, require}
use Rattle.tree.proofs.ResultLaws.{required, bind_done, then_done, done_bind, refused_bind}
use Rattle.tree.specs.Forest.{Forest, Place, is_empty, size}
use Rattle.tree.proofs.ForestLaws.{empty_is_nil}
use Rattle.tree.proofs.PlaceLaws.{leaf_below, leaf_size}
use Rattle.tree.specs.Node.{Node, allows}
use Rattle.tree.specs.Walk.{by_modes, walk}
use Rattle.tree.proofs.StepLaws.{walked}
use Rattle.tree.proofs.UpdateLaws.{walked_at}
use Rattle.tree.specs.Encoding.{encode_tree}
use Rattle.tree.specs.RowAt.{row_at, all_rows}
use Rattle.tree.specs.TreeBytes.{Stretch, Encodes}
use Rattle.tree.proofs.TreeBytesLaws.{at_within, at_here}
use Rattle.edits.specs.Changes.{rows_taken}
use Rattle.edits.specs.EditLaws.{take_law}
use Rattle.walks.specs.RowBelow.{has_children_in}
use Rattle.walks.specs.RowBelowLaws.{at_has_children}
use Rattle.walks.specs.declared.Spot.{Spot}
use Rattle.walks.specs.RowWalk.{spot}
use Rattle.walks.specs.WalkBytes.{spot_of, Came, spot_from}
use Rattle.walks.specs.WalkBytesLaws.{came_to, came_not, came_spot}
use Rattle.entries.specs.EntrySteps.{del_tests, del_walk, after_del, passing}
use Rattle.entries.specs.LinkLaws.{tests_then}

not-not : (x : Bool) → not (not x) ≡ x
not-not x = case x (λ e. rw e) (λ e. rw e)

-- an empty forest has no nodes
size_empty : (x : Node) (F : Forest Node) → is_empty F ≡ true → size F ≡ 0
size_empty x F e = ap size (empty_is_nil F e ∙ sym (leaf_below x)) ∙ leaf_size x

module _ (a : Account) (t : Place Node) (e : EntryPath) where
  -- a walk to an entry led to its folder
  folder_walked : {b : List ℕ} {row above : ℕ} (c : Came b t (entry_location e) (walk (by_modes a) t (entry_location e)) row above)
      → walk (by_modes a) t (in_rep e.folder) ≡ done c.over
  unfolding entry_location parent
  folder_walked c =
      let p = in_rep e.folder in
      let v = walked (by_modes a) t p e.name c.walked in
      v.1 ∙ ap done (answered (sym c.over_at.there ∙ walked_at t (by_modes a) p v.0 v.1))

  -- the tests at the rows are those at the nodes
  pub del_came : {b : List ℕ} {row above : ℕ} {x : Result Spot} (c : Came b t (entry_location e) (walk (by_modes a) t (entry_location e)) row above)
      → x ≡ passing (del_tests a (row_at b row).here (row_at b above).here (not (has_children_in (all_rows b) row))) (spot row above)
      → x ≡ spot_from t (entry_location e) (del_walk a t e)
  unfolding del_walk
  del_came c o =
      let q = entry_location e in
      let d = c.place in
      let tests = del_tests a d.here c.over.here (is_empty d.below) in
      let goes : del_walk a t e ≡ (tests >> done d) = rw (c.walked, done_bind, folder_walked c, done_bind) in
      o ∙ rw (at_has_children c.at, not-not (is_empty d.below), at_here c.at, at_here c.over_at, came_spot c)
      (tests_then tests d (λ x. spot_of t q) ∙ ap (λ (x : Result (Place Node)). x >>= λ y. done (spot_of t q)) (sym goes))

  pub del_refused : {k : Cause} → walk (by_modes a) t (entry_location e) ≡ refused k → refused k ≡ spot_from t (entry_location e) (del_walk a t e)
  unfolding del_walk
  del_refused {k} f = rw (f, refused_bind) (sym (refused_bind k (λ (d : Place Node). done (spot_of t (entry_location e)))))

  -- what passes is where the walk leads, and has nothing below it
  pub del_walked : {d : Place Node} → del_walk a t e ≡ done d → (walk (by_modes a) t (entry_location e) ≡ done d) × (is_empty d.below ≡ true)
  unfolding del_walk del_tests
  del_walked {d} f =
      let p = in_rep e.folder in
      let x = bind_done (walk (by_modes a) t (entry_location e))
      (λ y. walk (by_modes a) t p >>= λ v. del_tests a y.here v.here (is_empty y.below) >> done y) f in
      let m = x.0 in
      let y = bind_done (walk (by_modes a) t p) (λ v. del_tests a m.here v.here (is_empty m.below) >> done m) x.2 in
      let z = then_done (del_tests a m.here y.0.here (is_empty m.below)) (done m) y.2 in
      let last = require (is_empty m.below) NotEmpty in
      let first = then_done (require ((by_modes a).readable m.here) Access) (require (allows a W y.0.here) Access >> last) z.0 in
      let second = then_done (require (allows a W y.0.here) Access) last first.1 in
      let q : d ≡ m = cc z.1 in
      rw q (x.1, required (is_empty m.below) NotEmpty second.1)

  module _ {b : List ℕ} (tree : Encodes b t) {r : code.Result Spot Cause} (o : outcome r ≡ spot_from t (entry_location e) (del_walk a t e)) where
    pub del_to : {s : Spot} → r ≡ Ok s → Came b t (entry_location e) (del_walk a t e) s.row s.above
    del_to f = came_to tree (del_walk a t e) (entry_location e) o (λ d w. walked_at t (by_modes a) (entry_location e) d (del_walked w).0) f

    pub del_not : {k : Cause} → r ≡ Err k → del_walk a t e ≡ refused k
    del_not f = came_not tree (del_walk a t e) (entry_location e) o f

  module _ {b : List ℕ} {row above : ℕ} (c : Came b t (entry_location e) (del_walk a t e) row above) where
    -- its one row is there
    pub del_row : Stretch b row 1
    del_row =
        let s = c.at.tree.sized in
        record { wide = s.wide; few_rows = s.few_rows; inside = omega (arith, at_within c.at) }

    -- and is taken out
    pub del_law : rows_taken b row 1 ≡ encode_tree (after_del t e)
    unfolding after_del entry_location parent
    del_law =
        let d = c.place in
        let one : suc (size d.below) ≡ 1 = ap suc (size_empty d.here d.below (del_walked c.walked).1) in
        ap (rows_taken b row) (sym one) ∙ take_law c.over_at e.name c.at
