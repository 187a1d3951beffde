-- What a setup in range says of its callers. A person is not root, not account 16 and not in group 24, so `/` and `/rep` are
-- not a person's to change.
use Rattle.std.specs.Prelude.{◌≡◌, refl, true, ltb}
use Rattle.std.proofs.Common.{◌∙◌, arith}
use Rattle.std.proofs.Math.Option.{some}
use Rattle.std.proofs.Math.Bool.{false}
use borrow.Author.Tests.{ne_eqb, lt-ltb}
use Rattle.buffers.specs.Cases.{case}
use Rattle.accounts.specs.declared.Caller.{Caller}
use Rattle.accounts.specs.declared.Uid.{Uid}
use Rattle.accounts.specs.declared.Right.{Right}
use Rattle.accounts.specs.declared.Right.TheVariants.{W}
use Rattle.accounts.specs.Groups.{member, with_group}
use Rattle.accounts.proofs.GroupsLaws.{member_with, same_gid_is, member_high}
use Rattle.accounts.specs.Access.{is_root, same_uid}
use Rattle.accounts.proofs.AccessLaws.{may_other, grants_none, grants_5, root_is, same_uid_is, same_as_root}
use Rattle.accounts.specs.Caller.{root_caller}
use Rattle.accounts.proofs.CallerLaws.{root_caller_is}
use Rattle.accounts.specs.Service.{all_services}
use Rattle.accounts.proofs.ServiceLaws.{all_services_is}
use Rattle.syntax.specs.Number.{octal}
use Rattle.setup.specs.Setup.{Person, Setup, person, is_setup}
use Rattle.tree.specs.declared.Cause.TheVariants.{UnknownCaller}
use Rattle.tree.specs.Node.{allows, owns}
use Rattle.tree.specs.Result.{done, present}
use Rattle.tree.proofs.ResultLaws.{present_some, bind_done}
use Rattle.tree.proofs.JudgeLaws.{allows_is, owns_is}
use Rattle.store.proofs.PersonLaws.{PersonInRange, person_in_range}
use Rattle.store.specs.Initial.{directory_of, top_node, rep_node}
use Rattle.store.specs.Callers.{person_caller, known_caller, caller}
use Rattle.machine.proofs.EntryJudgeLaws.{top_allows}

module _ (u : Setup) (v : Uid) (c : Caller) (h : caller u v ≡ done c) where
  -- root calls as root
  root_calls : is_root v ≡ true → c ≡ root_caller
  unfolding caller
  root_calls r = let e : done root_caller ≡ done c = rw r at h in cc

  -- and everybody else as a person of the setup
  person_calls : is_root v ≡ false → (p : Person) × (person u v ≡ some p) × (c ≡ person_caller v p)
  unfolding caller known_caller
  person_calls r =
      let b : _ = bind_done (present (person u v) UnknownCaller) (λ q. done (person_caller v q)) (rw r at h) in
      let e : done (person_caller v b.0) ≡ done c = b.2 in
      (b.0, present_some (person u v) UnknownCaller b.1, cc)

  -- a caller has the number that calls
  pub caller_uid : c.account.uid ≡ v
  unfolding person_caller
  caller_uid = case (is_root v)
      (λ r. rw (root_calls r, root_caller_is, root_is v r))
      (λ r. rw (person_calls r).2)

-- who does not call as root is not root
pub person_not_root : (u : Setup) (v : Uid) (c : Caller) → is_root v ≡ false → caller u v ≡ done c → is_root c.account.uid ≡ false
person_not_root u v c r h = rw (caller_uid u v c h) r

-- a person is not in the group of all service accounts
no_service : (v : Uid) (p : Person) → PersonInRange v p → member all_services (with_group p.primary p.further) ≡ false
no_service v p b =
    rw (member_with all_services p.primary p.further, same_gid_is all_services p.primary, all_services_is, ne_eqb 24 p.primary.0 (omega arith))
    (member_high (record { 0 = 24 }) p.further (omega arith))

module _ (u : Setup) (s : is_setup u ≡ true) (v : Uid) (c : Caller) where
  -- a caller's number and primary group are below 16
  pub caller_in_range : caller u v ≡ done c → (ltb c.account.uid.0 16 ≡ true) × (ltb c.primary.0 16 ≡ true)
  unfolding person_caller
  caller_in_range h = case (is_root v)
      (λ r. rw (root_calls u v c h r, root_caller_is) (refl, refl))
      (λ r.
      let k : _ = person_calls u v c h r in
      let b : _ = person_in_range u s v k.0 k.1 in
      rw k.2 (lt-ltb v.0 16 b.0, lt-ltb k.0.primary.0 16 b.1))

  -- `/` is not a person's, nor may a person write there
  pub person_top : is_root v ≡ false → caller u v ≡ done c → (allows c.account W top_node ≡ false) × (owns c.account top_node ≡ false)
  unfolding top_node directory_of
  person_top r h =
      let n : is_root c.account.uid ≡ false = person_not_root u v c r h in
      (top_allows c.account n W ∙ grants_5.1, rw (owns_is c.account top_node, same_as_root c.account.uid, n))

  -- `/rep` is not a person's, and a person has no right there
  pub person_rep : is_root v ≡ false → caller u v ≡ done c
      → ((t : Right) → allows c.account t rep_node ≡ false) × (owns c.account rep_node ≡ false)
  unfolding rep_node directory_of person_caller
  person_rep r h =
      let k : _ = person_calls u v c h r in
      let b : _ = person_in_range u s v k.0 k.1 in
      let n : is_root c.account.uid ≡ false = person_not_root u v c r h in
      let o : same_uid c.account.uid (record { 0 = 16 }) ≡ false = rw (caller_uid u v c h, same_uid_is v (record { 0 = 16 })) (ne_eqb v.0 16 (omega arith)) in
      let m : member (record { 0 = 24 }) c.account.groups ≡ false = rw k.2 (rw all_services_is at (no_service v k.0 b)) in
      (λ t. rw (allows_is c.account rep_node t) (may_other c.account t (record { 0 = 16 }) (record { 0 = 24 }) (octal 0 7 5 0) n o m ∙ grants_none t), rw (owns_is c.account rep_node, n, o))
