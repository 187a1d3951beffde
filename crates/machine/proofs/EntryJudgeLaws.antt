-- An entry judged in the store by its owner, group and mode is judged as the abstract machine judges it, by its role.
use Rattle.std.specs.Prelude.{◌≡◌, Bool, true, ◌&&◌, ◌||◌, not, cond, ℕ, suc, ◌/◌, ◌%◌}
use Rattle.std.proofs.Math.Path.{refl}
use Rattle.std.proofs.Common.{ap, ◌∙◌}
use Rattle.std.proofs.Math.Bool.{false, and-true, and-false, or-true, and_self}
use Rattle.buffers.specs.Cases.{case}
use Rattle.buffers.specs.Text.{Text}
use Rattle.accounts.specs.declared.Right.{Right}
use Rattle.accounts.specs.declared.Right.TheVariants.{R, W, X}
use Rattle.accounts.specs.declared.Uid.{Uid}
use Rattle.accounts.specs.declared.Gid.{Gid}
use Rattle.accounts.specs.declared.Role.{Role}
use Rattle.accounts.specs.Groups.{member}
use Rattle.accounts.specs.declared.Account.{Account}
use Rattle.accounts.specs.Access.{is_root, same_uid, grants}
use Rattle.accounts.proofs.AccessLaws.{may_owner, may_group, may_other, grants_none, grants_7, grants_5, grants_4, same_as_root}
use Rattle.accounts.specs.Dominance.{same_role, BoundedRole, dominates}
use Rattle.accounts.proofs.DominanceLaws.{same_role_is, dominates_self}
use Rattle.accounts.specs.Service.{service_uid, service_gid, service}
use Rattle.accounts.proofs.ServiceLaws.{service_not_root, service_own, same_service, member_service, member_all, service_uid_is, all_services_is}
use Rattle.syntax.specs.Number.{octal}
use Rattle.setup.specs.Setup.{Setup}
use Rattle.tree.specs.declared.Kind.{Kind}
use Rattle.tree.specs.declared.Kind.TheVariants.{File, Directory}
use Rattle.tree.specs.Node.{is_directory, allows, set_content}
use Rattle.tree.specs.Walk.{by_modes}
use Rattle.tree.proofs.JudgeLaws.{file_is_none, directory_is_one, allows_is, kind_by_modes, passes_by_modes, readable_by_modes, writable_by_modes, set_revision_is, set_content_is}
use Rattle.store.specs.Initial.{directory_of, top_node, rep_node}
use Rattle.machine.specs.StoreMachine.{entry_mode, entry_node, next_node}
use Rattle.machine.specs.AbstractMachine.{Entry, Filed, top, an_entry, dominated, filed_kind, filed_passes, filed_readable, filed_writable, by_dominance, filed_revision, filed_content, next_entry}
use Rattle.machine.specs.Embedding.{in_store, met}

-- who is not root has r and x in `/`, by the group's digit or the others'
pub top_allows : (a : Account) → is_root a.uid ≡ false → (t : Right) → allows a t top_node ≡ grants 5 t
unfolding top_node directory_of
top_allows a e t = rw (allows_is a top_node t) (let o = same_as_root a.uid ∙ e in case (member (record { 0 = 0 }) a.groups)
    (λ i. may_group a t (record { 0 = 0 }) (record { 0 = 0 }) (octal 0 7 5 5) e o i)
    (λ i. may_other a t (record { 0 = 0 }) (record { 0 = 0 }) (octal 0 7 5 5) e o i))

-- the digit that an entry's mode has for the owner and for the group
entry_digit : Kind → ℕ
entry_digit File = 4
entry_digit Directory = 7

owner_digit : (k : Kind) → entry_mode k / 64 % 8 ≡ entry_digit k
unfolding entry_mode entry_digit
owner_digit File = refl
owner_digit Directory = refl

group_digit : (k : Kind) → entry_mode k / 8 % 8 ≡ entry_digit k
unfolding entry_mode entry_digit
group_digit File = refl
group_digit Directory = refl

-- and the others have digit 0
other_digit : (k : Kind) → entry_mode k % 8 ≡ 0
unfolding entry_mode
other_digit File = refl
other_digit Directory = refl

module _ (u : Setup) (z : BoundedRole) where
  abbrev account : Account
  account = service u.pairs z

  -- the account owns what is of its own role
  own_role : (r : Role) → same_uid account.uid (service_uid r) ≡ same_role z.role r
  own_role r = rw (service_own u.pairs z) (same_service z.role r)

  -- it has the entry's digit where its role dominates the entry's, and else no right
  entry_allows : (t : Right) (k : Kind) (v : BoundedRole) (n : ℕ) (c : Text)
      → allows account t (entry_node k v n c) ≡ (grants (entry_digit k) t && dominated u z v)
  unfolding entry_node dominated
  entry_allows t k v n c =
      let o : Uid = service_uid v.role in
      let g : Gid = service_gid v.role in
      let i : is_root account.uid ≡ false = service_not_root u.pairs z in
      rw (allows_is account (entry_node k v n c) t) (case (same_uid account.uid o)
      (λ e.
      let s : z.role ≡ v.role = same_role_is z.role v.role (rw (own_role v.role) at e) in
      rw (may_owner account t o g (entry_mode k) i e, owner_digit k, dominates_self u.pairs z.role v.role (ap (λ r. r.0) s), and-true (grants (entry_digit k) t)))
      (λ e. case (dominates u.pairs z.role v.role)
      (λ d. rw (may_group account t o g (entry_mode k) i e (rw (member_service u.pairs z v) d), group_digit k, d, and-true (grants (entry_digit k) t)))
      (λ d. rw (may_other account t o g (entry_mode k) i e (rw (member_service u.pairs z v) d), other_digit k, grants_none t, d, and-false (grants (entry_digit k) t)))))

  -- in `/rep` it has the owner's digit as role 0's, and else the digit of the group of all service accounts
  rep_allows : (t : Right) → allows account t rep_node ≡ grants (cond (same_role z.role (record { 0 = 0 })) 7 5) t
  unfolding rep_node directory_of
  rep_allows t =
      let o : Uid = record { 0 = 16 } in
      let g : Gid = record { 0 = 24 } in
      let i : is_root account.uid ≡ false = service_not_root u.pairs z in
      rw (allows_is account rep_node t, ← own_role (record { 0 = 0 }), service_uid_is (record { 0 = 0 })) (case (same_uid account.uid o)
      (λ e. rw (e, may_owner account t o g (octal 0 7 5 0) i e))
      (λ e. rw (e, may_group account t o g (octal 0 7 5 0) i e (rw all_services_is at (member_all u.pairs z)))))

  -- where both have the digit for a right, `/rep` grants it to every account
  rep_grants : (t : Right) → grants 7 t ≡ true → grants 5 t ≡ true → allows account t rep_node ≡ true
  rep_grants t a b = rw (rep_allows t) (case (same_role z.role (record { 0 = 0 })) (λ i. rw i a) (λ i. rw i b))

  -- ---- each right, at `/rep` and at an entry

  met_kind : (x : Filed) → (met x).kind ≡ filed_kind x
  unfolding met filed_kind in_store entry_node rep_node directory_of
  met_kind top = refl
  met_kind (an_entry x) = refl

  -- a right that a directory's digit has and a file's has not
  directory_right : (t : Right) → grants 4 t ≡ false → grants 7 t ≡ true
      → (k : Kind) (v : BoundedRole) (n : ℕ) (c : Text) → allows account t (entry_node k v n c) ≡ (is_directory k && dominated u z v)
  unfolding entry_digit
  directory_right t a b File v n c = rw (entry_allows t File v n c, file_is_none, a)
  directory_right t a b Directory v n c = rw (entry_allows t Directory v n c, directory_is_one, b)

  met_passes : (x : Filed) → allows account X (met x) ≡ filed_passes u z x
  unfolding met filed_passes in_store
  met_passes top = rep_grants X (grants_7 X) grants_5.2
  met_passes (an_entry x) = directory_right X grants_4.2 (grants_7 X) x.kind x.role x.revision x.content

  met_writable : (x : Filed) → allows account W (met x) ≡ filed_writable u z x
  unfolding met filed_writable in_store
  met_writable top = rw (rep_allows W) (case (same_role z.role (record { 0 = 0 })) (λ t. rw t (grants_7 W)) (λ t. rw t grants_5.1))
  met_writable (an_entry x) = directory_right W grants_4.1 (grants_7 W) x.kind x.role x.revision x.content

  -- r alone
  r_of_kind : (k : Kind) (v : BoundedRole) (n : ℕ) (c : Text) → allows account R (entry_node k v n c) ≡ dominated u z v
  unfolding entry_digit
  r_of_kind File v n c = rw (entry_allows R File v n c, grants_4.0)
  r_of_kind Directory v n c = rw (entry_allows R Directory v n c, grants_7 R)

  met_r : (x : Filed) → allows account R (met x) ≡ filed_readable u z x
  unfolding met filed_readable in_store
  met_r top = rep_grants R (grants_7 R) grants_5.0
  met_r (an_entry x) = r_of_kind x.kind x.role x.revision x.content

  -- what is readable by its role is passed by it too, where it is a directory
  readable_of_kind : (k : Kind) (b : Bool) → (b && (not (is_directory k) || (is_directory k && b))) ≡ b
  readable_of_kind File b = rw file_is_none (and-true b)
  readable_of_kind Directory b = rw directory_is_one (and_self b)

  readable_passes : (x : Filed) → (filed_readable u z x && (not (is_directory (filed_kind x)) || filed_passes u z x)) ≡ filed_readable u z x
  unfolding filed_readable filed_passes filed_kind
  readable_passes top = or-true (not (is_directory Directory))
  readable_passes (an_entry x) = readable_of_kind x.kind (dominated u z x.role)

  -- ---- the judges

  module _ (x : Filed) where
    -- in the store and apart, what is met is of one kind
    pub kind_law : (by_modes (service u.pairs z)).kind (met x) ≡ (by_dominance u z).kind x
    unfolding by_dominance
    kind_law = rw (kind_by_modes account (met x)) (met_kind x)

    -- walks pass it alike
    pub passes_law : (by_modes (service u.pairs z)).passes (met x) ≡ (by_dominance u z).passes x
    unfolding by_dominance
    passes_law = rw (passes_by_modes account (met x)) (met_passes x)

    -- it is readable alike
    pub readable_law : (by_modes (service u.pairs z)).readable (met x) ≡ (by_dominance u z).readable x
    unfolding by_dominance
    readable_law = rw (readable_by_modes account (met x), met_r x, met_passes x, met_kind x) (readable_passes x)

    -- and writable alike
    pub writable_law : (by_modes (service u.pairs z)).writable (met x) ≡ (by_dominance u z).writable x
    unfolding by_dominance
    writable_law = rw (writable_by_modes account (met x)) (met_writable x)

  -- `/` is a directory that the account passes
  pub top_passed : (is_directory top_node.kind ≡ true) × (allows (service u.pairs z) X top_node ≡ true)
  unfolding top_node directory_of
  top_passed = (directory_is_one, top_allows account (service_not_root u.pairs z) X ∙ grants_5.2)

-- what is met keeps its revision in the store
pub revision_law : (x : Filed) → (met x).revision ≡ filed_revision x
unfolding met filed_revision in_store entry_node rep_node directory_of
revision_law top = refl
revision_law (an_entry x) = refl

-- and its content
pub content_law : (x : Filed) → (met x).content ≡ filed_content x
unfolding met filed_content in_store entry_node rep_node directory_of
content_law top = refl
content_law (an_entry x) = refl

-- to revise an entry in the store is to revise it apart
pub next_law : (c : Text) (x : Entry) → next_node c (in_store x) ≡ in_store (next_entry c x)
unfolding in_store next_node next_entry entry_node
next_law c x = rw (set_revision_is (set_content c (in_store x)) (suc (in_store x).revision), set_content_is (in_store x) c)
