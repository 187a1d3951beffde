-- New entries are in range.
use Rattle.std.specs.Prelude.{◌≡◌, refl, [], true, false, ◌+◌}
use Rattle.std.proofs.Common.{arith, ltb-true, lt-ltb}
use Rattle.buffers.specs.Text.{Text}
use Rattle.accounts.specs.Dominance.{BoundedRole}
use Rattle.accounts.proofs.ServiceLaws.{service_uid_is, service_gid_is}
use Rattle.syntax.proofs.FormLaws.{no_answer}
use Rattle.syntax.specs.Number.{set_gid, is_mode}
use Rattle.syntax.specs.Field.{is_content}
use Rattle.tree.specs.declared.Kind.{Kind}
use Rattle.tree.specs.declared.Kind.TheVariants.{File, Directory}
use Rattle.tree.specs.Node.{is_directory}
use Rattle.tree.specs.WellFormed.{is_node}
use Rattle.tree.proofs.NodeLaws.{last_revision_is, node_of_ranges}
use Rattle.copying.proofs.CopyLaws.{without_gid}
use Rattle.machine.specs.StoreMachine.{entry_mode, entry_node}

entry_mode_fits : (k : Kind) → (is_mode (entry_mode k) ≡ true) × (set_gid (entry_mode k) ≡ false)
unfolding entry_mode is_mode set_gid
entry_mode_fits File = (refl, refl)
entry_mode_fits Directory = (refl, refl)

-- a new entry with content in range is in range
pub entry_fits : (k : Kind) (z : BoundedRole) (c : Text) → is_content c ≡ true
    → (is_directory k ≡ true → c ≡ []) → is_node (entry_node k z 1 c) ≡ true
unfolding entry_node
entry_fits k z c a b =
    let l = ltb-true z.role.0 8 z.bound in
    let i = entry_mode_fits k in
    node_of_ranges (entry_node k z 1 c) (record {
      owner = rw (service_uid_is z.role) (lt-ltb (16 + z.role.0) 24 (omega arith));
      group = rw (service_gid_is z.role) (lt-ltb (16 + z.role.0) 25 (omega arith));
      mode = i.0;
      gid = without_gid (is_directory k) (set_gid (entry_mode k)) i.1;
      revision = rw last_revision_is;
      tag = λ t e. no_answer e;
      content = a;
      bare = b;
    })
