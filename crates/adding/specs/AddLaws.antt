-- What the code of `add` goes by: the room for the entry by the code's answer, and in a session the machine's steps are those of AddSteps.
use Rattle.std.specs.Prelude.{◌≡◌, List, Bool, ℕ, ◌+◌, ◌≤◌, ◌<◌, Ok, Err}
use Rattle.std.specs.Prelude as code
use Rattle.std.proofs.Common.{sym, ◌∙◌, ap, add-zero, arith}
use Rattle.std.proofs.Math.Option.{none, some}
use borrow.Author.Tests.{leb-true, le-leb, lt-leb}
use Rattle.buffers.specs.Text.{Text}
use Rattle.accounts.specs.declared.Account.{Account}
use Rattle.accounts.specs.declared.Caller.{Caller}
use Rattle.accounts.specs.Dominance.{BoundedRole, dominates}
use Rattle.accounts.specs.Service.{service}
use Rattle.syntax.specs.Path.{Path, EntryPath, last, is_top, in_rep, entry_location, entry_path, below_rep}
use Rattle.setup.specs.Setup.{Setup}
use Rattle.tree.specs.declared.Cause.{Cause}
use Rattle.tree.specs.declared.Cause.TheVariants.{Full}
use Rattle.tree.specs.Result.{Result, outcome, refused, done, Outcome}
use Rattle.tree.proofs.ResultLaws.{outcome_ok, outcome_err, bind_done, refused_before, done_then, refused_then, done_bind, refused_bind, require_true, require_false, then_then, then_bind, bind_bind}
use Rattle.tree.specs.Outcomes.{gives, Ensures}
use Rattle.tree.proofs.GivesLaws.{done_with, then_check, then_do}
use Rattle.tree.specs.Forest.{Place}
use Rattle.tree.specs.Node.{Node}
use Rattle.tree.specs.Walk.{by_modes, room}
use Rattle.tree.proofs.JudgeLaws.{room_by_modes, writable_by_modes}
use Rattle.tree.specs.WellFormed.{nodes}
use Rattle.tree.proofs.WellFormedLaws.{most_nodes_is}
use Rattle.tree.specs.TreeBytes.{Encodes, At}
use Rattle.gaps.specs.declared.Gap.{Gap}
use Rattle.gaps.specs.Gaps.{gap_of, gap_from}
use Rattle.gaps.specs.GapsLaws.{Standing, room_to}
use Rattle.shell.specs.Steps.{fit}
use Rattle.store.specs.State.{Store}
use Rattle.machine.specs.Machine.{session, run_add}
use Rattle.machine.specs.StoreMachine.{store}
use Rattle.machine.specs.Acting.{Acting, on_tree_steps}
use Rattle.entries.specs.EntrySteps.{judged_walk}
use Rattle.adding.specs.AddSteps.{add_tests, add_walk, add_room, after_add, add_steps, Addition}

-- ---- the room for the entry

module _ (a : Account) (t : Place Node) (e : EntryPath) where
  -- none
  pub add_stops : {k : Cause} → room (by_modes a) t (entry_location e) ≡ refused k → add_room a t e ≡ refused k
  unfolding add_room
  add_stops h = rw (h, refused_bind)

  module _ {d : Place Node} (found : room (by_modes a) t (entry_location e) ≡ done d) where
    -- 256 nodes
    pub add_full : 256 ≤ nodes t → add_room a t e ≡ refused Full
    unfolding add_room
    add_full h = rw (found, done_bind, most_nodes_is, lt-leb (nodes t + 1) 256 (omega arith), require_false, refused_then)

    -- fewer
    pub add_goes : nodes t < 256 → add_room a t e ≡ done d
    unfolding add_room
    add_goes h = rw (found, done_bind, most_nodes_is, le-leb (nodes t + 1) 256 (omega arith), require_true, done_then)

  room_ensures : Ensures (λ d. (room (by_modes a) t (entry_location e) ≡ done d) × (nodes t + 1 ≤ 256)) (add_room a t e)
  unfolding add_room
  room_ensures =
      then_do _ λ d f.
      then_check Full tt _ λ g.
      gives (f, leb-true (nodes t + 1) 256 (rw most_nodes_is at g))

  module _ {b : List ℕ} (tree : Encodes b t) {r : code.Result Gap Cause} (same : outcome r ≡ gap_from t (entry_location e) (add_room a t e)) where
    -- where the entry may stand, by the code's answer
    pub add_stands : {s : Gap} → r ≡ Ok s
        → (g : Standing b t (entry_location e) a s.row s.at s.depth) × ((add_room a t e ≡ done g.directory) × (nodes t + 1 ≤ 256))
    add_stands {s} f =
        let i = bind_done (add_room a t e) (λ d. done (gap_of t (entry_location e) d)) (sym same ∙ ap outcome f ∙ outcome_ok s) in
        let z = done_with room_ensures i.1 in
        let g = room_to tree a (entry_location e) (same ∙ ap (gap_from t (entry_location e)) (i.1 ∙ sym z.0)) f in
        (g, (i.1 ∙ sym z.0 ∙ g.found, z.1))

    -- or why it may not
    pub add_not : {k : Cause} → r ≡ Err k → add_room a t e ≡ refused k
    add_not {k} f = refused_before (add_room a t e) (gap_of t (entry_location e)) (sym same ∙ ap outcome f ∙ outcome_err k)

-- what is known when the entry is made
abbrev pub addition_of : {b : List ℕ} {t : Place Node} {w : Path} {e : EntryPath} {d : Place Node} {a : Account} {working row at k : ℕ} (s : Text) → At b t w working d
    → entry_path s ≡ some e → Standing b t (entry_location e) a row at k → nodes t + 1 ≤ 256 → Addition b s working at k
addition_of {t = t} {w} {e} {d} {a} {row = row} s file reads stands few =
    record { top = t; path = w; found = d; file = file; filed = e; reads = reads; account = a; row = row; stands = stands; few = few }

-- ---- the steps

-- what they come to
module _ (person account : Account) (dominated : Bool) (z : BoundedRole) (t : Place Node) (w : Path) (e : EntryPath) where
  abbrev steps : Result (Outcome (Place Node))
  steps = add_steps person account dominated z t w e

  -- the person's walk is refused
  pub add_unwalked : {k : Cause} → add_walk person dominated t w ≡ refused k → steps ≡ refused k
  add_unwalked h = rw (h, refused_bind)

  module _ {d : Place Node} (h : add_walk person dominated t w ≡ done d) where
    -- there is no room
    pub add_unroomed : {k : Cause} → add_room account t e ≡ refused k → steps ≡ refused k
    add_unroomed g = rw (h, done_bind, g, refused_bind)

    -- the entry is made
    pub add_made : {f : Place Node} → add_room account t e ≡ done f → steps ≡ done (record { text = none; state = after_add t w e z d })
    add_made g = rw (h, done_bind, g, done_bind)

-- in a session the machine's are these
module _ (u : Setup) (s : Store) (c : Caller) (y : BoundedRole) (q : session store u s c ≡ done y) where
  add_is : (w : Path) (e : EntryPath) (z : BoundedRole) → on_tree_steps (run_add store u s c w e z)
      ≡ add_steps c.account (service u.pairs y) (dominates u.pairs y.role z.role) z s.tree w e
  unfolding on_tree_steps run_add judged_walk add_tests add_room after_add fit below_rep in_rep entry_location is_top last
  add_is w e z =
      let a = service u.pairs y in
      rw (q, done_bind, room_by_modes a s.tree (entry_location e))
      (simp (bind_bind, then_bind, then_then, done_bind, require_true, done_then, writable_by_modes, add-zero))

-- the command's steps are those by the session's account and dominance
pub add_acts : {c : Caller} {a : Account} (j : Acting c a) {dominated : Bool} (w : Path) (e : EntryPath) (z : BoundedRole)
    → dominated ≡ dominates j.setup.pairs j.role.role z.role
    → on_tree_steps (run_add store j.setup j.state c w e z) ≡ add_steps c.account a dominated z j.state.tree w e
add_acts {c} j w e z own = rw (add_is j.setup j.state c j.role j.session w e z, ← own, ← j.served)
