-- Demand 3: on any list of calls, none of them root's, the store answers as the abstract machine does and comes to hold what it
-- holds.
use Rattle.std.specs.Prelude.{◌≡◌, true, false, not, ℕ, zero, suc}
use Rattle.std.proofs.Math.Path.{refl}
use Rattle.std.proofs.Common.{sym, ◌∙◌, ap, ap₂}
use mathlib.Core.List.{List, [], ◌∷◌}
use Rattle.std.proofs.Math.Option.{Option, none, some}
use Rattle.std.proofs.lemmas.Bool.{not-true}
use Rattle.buffers.specs.Cases.{and_both}
use Rattle.buffers.specs.Text.{Text, same_text, every}
use Rattle.accounts.specs.declared.Uid.{Uid}
use Rattle.accounts.specs.Access.{is_root}
use Rattle.syntax.specs.Pieces.{bytes}
use Rattle.syntax.specs.Path.{root, rep, in_rep}
use Rattle.commands.specs.Command.{Line, line}
use Rattle.setup.specs.Setup.{Person, Setup, accounts, person, is_setup, accepted, setup}
use Rattle.setup.proofs.SetupLaws.{accepted_is_setup}
use Rattle.tree.specs.declared.Cause.TheVariants.{NoForm, ShortAnswer}
use Rattle.tree.specs.Result.{Result, present, Outcome}
use Rattle.tree.proofs.ResultLaws.{present_some}
use Rattle.tree.specs.Outcomes.{Agree, refusal, both}
use Rattle.tree.proofs.AgreeLaws.{each, check}
use Rattle.tree.specs.Forest.{Forest, no_nodes, Place, get, leaf}
use Rattle.tree.specs.Node.{Node}
use Rattle.tree.proofs.ForestLaws.{get_nil, get_insert, get_insert_other}
use Rattle.tree.proofs.MapLaws.{map_nil}
use Rattle.tree.proofs.RootedLaws.{rooted_here, rooted_below}
use Rattle.tree.proofs.PlaceLaws.{leaf_here, leaf_below, update_root}
use Rattle.tree.proofs.GraftLaws.{graft_own, get_graft, update_inside}
use Rattle.shell.specs.Replies.{reply, after}
use Rattle.shell.specs.WholePaths.{whole_command}
use Rattle.store.specs.State.{working_directory, Store}
use Rattle.store.specs.Initial.{rep_node, home_node, home_name, with_home, homes, initial_tree, initial_store}
use Rattle.store.specs.Callers.{caller}
use Rattle.machine.specs.StoreMachine.{store}
use Rattle.machine.specs.AbstractMachine.{Abstract, abstract_runs, initial_abstract}
use Rattle.machine.specs.AbstractInstance.{abstract}
use Rattle.machine.proofs.AbstractInstanceLaws.{runs_are}
use Rattle.machine.specs.Embedding.{in_store, stored, embed}
use Rattle.machine.specs.Runs.{Call, Ran, perform, step, runs, of_root, root's}
use Rattle.machine.specs.Observed.{workspace_of, filed_in, Compared, without_root, ReachedWithoutRoot}
use Rattle.machine.specs.Simulation.{Kept, Tie, Tied}
use Rattle.machine.proofs.SimulationLaws.{rep_alike, run_agrees}

-- ---- the initial states

-- a home is not named as `/rep` is
home_not_rep : (v : Uid) → same_text rep (home_name v) ≡ false
unfolding same_text rep home_name bytes
home_not_rep v = refl

with_home_rep : (v : Uid) (p : Option Person) (F : Forest Node) → get rep (with_home v p F) ≡ get rep F
unfolding with_home
with_home_rep v none F = refl
with_home_rep v (some p) F = get_insert_other (home_name v) (leaf (home_node v p)) rep (home_not_rep v) F

homes_rep : (u : Setup) (k : ℕ) → get rep (homes u k) ≡ some (leaf rep_node)
unfolding homes
homes_rep u zero = get_insert rep (leaf rep_node) no_nodes (get_nil rep)
homes_rep u (suc k) = with_home_rep (record { 0 = k }) (person u (record { 0 = k })) (homes u k) ∙ homes_rep u k

-- with no entries `/rep` stands alone
pub stored_none : stored no_nodes ≡ leaf rep_node
unfolding stored
stored_none = λ i. record { here = (rooted_here in_store rep_node no_nodes ∙ sym (leaf_here rep_node)) i; below = (rooted_below in_store rep_node no_nodes ∙ map_nil in_store ∙ sym (leaf_below rep_node)) i }

-- the initial states hold the same
pub initial_tie : (u : Setup) → Tie (initial_store u) (initial_abstract u)
unfolding initial_store initial_abstract initial_tree embed
initial_tie u = record {
  same = rw (stored_none, graft_own (leaf rep_node) (initial_tree u) (homes_rep u accounts));
  kept = record { top = refl; there = homes_rep u accounts };
}

-- ---- one call

reply_tied : {a : Result (Outcome Store)} {b : Result (Outcome Abstract)} → Agree Tied a b → reply a ≡ reply b
unfolding reply
reply_tied (refusal n) = refl
reply_tied (both t) = rw t.text

after_tied : {a : Result (Outcome Store)} {b : Result (Outcome Abstract)} {s : Store} {h : Abstract}
    → Tie s h → Agree Tied a b → Tie (after s a) (after h b)
unfolding after
after_tied t (refusal n) = t
after_tied t (both g) = g.state

-- a line that is not root's has another caller
not_of_root : (o : Option Line) (l : Line) → o ≡ some l → of_root o ≡ false → is_root l.caller ≡ false
unfolding of_root
not_of_root o l e r = rw e at r

module _ (u : Setup) (e : is_setup u ≡ true) where
  -- a call that is not root's does the same in both
  step_agrees : (call : Call) → root's call ≡ false → {s : Store} {h : Abstract} → Tie s h → Agree Tied (step store u s call) (step abstract u h call)
  unfolding step perform root's embed
  step_agrees call r {h} t =
      rw t.same (
      check ShortAnswer refl λ _.
      each (present (line call.line) NoForm) λ l i.
      each (caller u l.caller) λ c j.
      each (whole_command (working_directory l.caller h.registry) l.command) λ command _.
      run_agrees u e l.caller c (not_of_root (line call.line) l (present_some (line call.line) NoForm i) r) j h t.kept command)

  -- ---- a list of calls

  -- and so does a list of them
  runs_agree : (calls : List Call) → without_root calls ≡ true → (s : Store) (h : Abstract) → Tie s h
      → ((runs store u s calls).replies ≡ (runs abstract u h calls).replies) × Tie (runs store u s calls).state (runs abstract u h calls).state
  unfolding runs without_root every
  runs_agree [] r s h t = (refl, t)
  runs_agree (call ∷ calls) r s h t =
      let c = and_both (not (root's call)) (without_root calls) r in
      let a = step_agrees call (not-true (root's call) c.0) t in
      let g = runs_agree calls c.1 (after s (step store u s call)) (after h (step abstract u h call)) (after_tied t a) in
      (ap₂ ◌∷◌ (reply_tied a) g.0, g.1)

  -- on the abstract machine's own text
  pub lists_agree : (calls : List Call) → without_root calls ≡ true → (s : Store) (h : Abstract) → Tie s h
      → ((runs store u s calls).replies ≡ (abstract_runs u h calls).replies) × Tie (runs store u s calls).state (abstract_runs u h calls).state
  lists_agree calls r s h t = rw (← runs_are u h calls) (runs_agree calls r s h t)

-- ---- what demand 3 compares

workspace_back : (h : Abstract) → Kept h → workspace_of (embed h) ≡ h.workspace
unfolding workspace_of embed in_rep
workspace_back h k =
    let E : Place Node = stored h.entries in
    let w = update_inside root (λ d. leaf d.here) E h.workspace in
    rw (w, update_root (λ d. leaf d.here) E, rep_alike h k, leaf_here rep_node) (graft_own (leaf rep_node) h.workspace k.there)

filed_back : (h : Abstract) → Kept h → filed_in (embed h) ≡ some (stored h.entries)
unfolding filed_in embed
filed_back h k = get_graft (stored h.entries) h.workspace k.there

-- tied states with the same replies are what demand 3 asks for
tie_compared : {a : Ran Store} {b : Ran Abstract} → a.replies ≡ b.replies → Tie a.state b.state → Compared a b
unfolding embed
tie_compared {b} r t = record {
  replies = r;
  workspace = ap workspace_of t.same ∙ workspace_back b.state t.kept;
  sessions = ap (λ s. s.registry.sessions) t.same;
  directories = ap (λ s. s.registry.directories) t.same;
  entries = ap filed_in t.same ∙ filed_back b.state t.kept;
}

-- demand 3
pub compared_lists : (text : Text) (u : Setup) → setup text ≡ accepted u → (calls : List Call) → without_root calls ≡ true
    → Compared (runs store u (initial_store u) calls) (abstract_runs u (initial_abstract u) calls)
compared_lists text u e calls r =
    let t = lists_agree u (accepted_is_setup text u e) calls r (initial_store u) (initial_abstract u) (initial_tie u) in
    tie_compared t.0 t.1

-- a store reached without root holds what the abstract machine holds after the same calls
pub reached_tie : (u : Setup) (s : Store) (r : ReachedWithoutRoot u s)
    → (h : Abstract) × Tie s h × (h ≡ (runs abstract u (initial_abstract u) r.reached.calls).state)
reached_tie u s r =
    let e = accepted_is_setup r.reached.text u r.reached.taken in
    let t = runs_agree u e r.reached.calls r.rootless (initial_store u) (initial_abstract u) (initial_tie u) in
    ((runs abstract u (initial_abstract u) r.reached.calls).state, rw r.reached.state t.1, refl)
