-- What a junior cannot learn, on states: by way of the abstract machine, which the store agrees with and its redacted self too.
use Rattle.std.specs.Prelude.{◌≡◌, true, not}
use Rattle.std.proofs.Math.Path.{refl, sym, ap}
use Rattle.std.proofs.Common.{◌∙◌}
use mathlib.Core.List.{List, [], ◌∷◌}
use Rattle.std.proofs.Math.Option.{Option, none, some}
use Rattle.buffers.specs.Cases.{and_both}
use Rattle.buffers.specs.Text.{every}
use Rattle.accounts.specs.Access.{is_root}
use Rattle.accounts.specs.Dominance.{BoundedRole}
use Rattle.commands.specs.Command.{Line, line}
use Rattle.setup.specs.Setup.{Setup, is_setup}
use Rattle.setup.proofs.SetupLaws.{accepted_is_setup}
use Rattle.store.specs.State.{Store}
use Rattle.machine.specs.StoreMachine.{store}
use Rattle.machine.specs.AbstractMachine.{Abstract}
use Rattle.machine.specs.Embedding.{embed}
use Rattle.machine.specs.Runs.{Call, runs, of_root, root's}
use Rattle.machine.specs.Observed.{without_root, ReachedWithoutRoot}
use Rattle.machine.specs.Simulation.{Tie}
use Rattle.machine.proofs.ComparedLaws.{lists_agree, reached_tie}
use Rattle.secrecy.specs.Redacted.{redacted, without_seniors, is_junior's, by_junior, by_juniors}
use Rattle.secrecy.proofs.RedactedLaws.{redacted_abstract, redacted_twice, tie_redacted}
use Rattle.secrecy.proofs.SecrecyLaws.{runs_alike}

module _ (u : Setup) (r : BoundedRole) where
  -- lines that juniors give are not root's
  line_rootless : (o : Option Line) → by_junior u r o ≡ true → not (of_root o) ≡ true
  unfolding by_junior of_root
  line_rootless none j = refl
  line_rootless (some l) j = (and_both (not (is_root l.caller)) (is_junior's u r l.command) j).0

  rootless : (calls : List Call) → by_juniors u r calls ≡ true → without_root calls ≡ true
  unfolding by_juniors without_root every root's
  rootless [] j = refl
  rootless (call ∷ calls) j =
      let k = and_both (by_junior u r (line call.line)) (by_juniors u r calls) j in
      rw (line_rootless (line call.line) k.0, rootless calls k.1)

  -- a store and its redacted self answer alike, and come to states that are one once redacted
  module _ (g : is_setup u ≡ true) {s : Store} {h : Abstract} (t : Tie s h) (w : without_seniors u r s.registry.sessions ≡ true) where
    -- no session of the abstract machine dominates r either
    junior : without_seniors u r h.registry.sessions ≡ true
    unfolding embed
    junior = ap (λ a. without_seniors u r a.registry.sessions) (sym t.same) ∙ w

    redacted_alike : (calls : List Call) → by_juniors u r calls ≡ true
        → ((runs store u s calls).replies ≡ (runs store u (redacted r s) calls).replies)
        × (redacted r (runs store u s calls).state ≡ redacted r (runs store u (redacted r s) calls).state)
    unfolding redacted_abstract
    redacted_alike calls j =
        let k = rootless calls j in
        let plain = lists_agree u g calls k s h t in
        let hidden = lists_agree u g calls k (redacted r s) (redacted_abstract r h) (tie_redacted r t) in
        let apart = runs_alike u r calls j (redacted_abstract r h) h (redacted_twice r h) junior in (
          plain.0 ∙ sym apart.0 ∙ sym hidden.0,
          (tie_redacted r plain.1).same ∙ ap embed (sym apart.1) ∙ sym (tie_redacted r hidden.1).same,
        )

-- Two stores reached without root that differ only in contents and revisions of role r's file entries, in which no session's role
-- dominates r, give the same replies to every list of calls, none of them root's or a login to a role that dominates r; and
-- afterwards they still differ only there.
pub junior_learns_nothing : (u : Setup) (r : BoundedRole) (s s' : Store) → ReachedWithoutRoot u s → ReachedWithoutRoot u s'
    → redacted r s ≡ redacted r s' → without_seniors u r s.registry.sessions ≡ true → (calls : List Call) → by_juniors u r calls ≡ true
    → ((runs store u s calls).replies ≡ (runs store u s' calls).replies)
    × (redacted r (runs store u s calls).state ≡ redacted r (runs store u s' calls).state)
unfolding redacted
junior_learns_nothing u r s s' a b e w calls j =
    let g = accepted_is_setup a.reached.text u a.reached.taken in
    let w' : without_seniors u r s'.registry.sessions ≡ true = ap (λ x. without_seniors u r x.registry.sessions) (sym e) ∙ w in
    let first = redacted_alike u r g (reached_tie u s a).1 w calls j in
    let second = redacted_alike u r g (reached_tie u s' b).1 w' calls j in (
      first.0 ∙ ap (λ x. (runs store u x calls).replies) e ∙ sym second.0,
      first.1 ∙ ap (λ x. redacted r (runs store u x calls).state) e ∙ sym second.1,
    )
