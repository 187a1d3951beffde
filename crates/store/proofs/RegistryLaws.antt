-- The registry: what is known of a well-formed one, and what replacing one account's session or working directory keeps and moves.
use Rattle.std.specs.Prelude.{◌≡◌, true, ◌&&◌, ◌<◌, eqb, length, set}
use Rattle.std.proofs.Math.Path.{refl}
use Rattle.std.proofs.Math.Option.{Option}
use Rattle.std.proofs.Common.{arith, eqb-true, eq-eqb}
use Rattle.std.proofs.Math.ListN.{length-set}
use Rattle.std.proofs.Math.Seq.{get_or-set_same, get_or-set_other}
use Rattle.buffers.specs.Cases.{and_both}
use Rattle.buffers.specs.Text.{every}
use Rattle.buffers.specs.TextLaws.{every_get_or, every_set}
use Rattle.accounts.specs.declared.Uid.{Uid}
use Rattle.accounts.specs.Dominance.{BoundedRole}
use Rattle.syntax.specs.Path.{Path, root, is_path, has_names, depth, most_names}
use Rattle.setup.specs.Setup.{accounts}
use Rattle.store.specs.State.{Registry, set_session, working_directory, set_directory, is_registry}

-- what is known of a well-formed registry
pub record RegistryParts (r : Registry) : Type 0 where
  pub sessions : length r.sessions ≡ 16
  pub directories : length r.directories ≡ 16
  pub kept_paths : every is_path r.directories ≡ true

pub registry_parts : (r : Registry) → is_registry r ≡ true → RegistryParts r
unfolding is_registry accounts
registry_parts r h =
    let n = length r.directories in
    let i = and_both (eqb (length r.sessions) 16) (eqb n 16 && every is_path r.directories) h in
    let j = and_both (eqb n 16) (every is_path r.directories) i.1 in
    record { sessions = eqb-true (length r.sessions) 16 i.0; directories = eqb-true n 16 j.0; kept_paths = j.1 }

-- and makes it so
pub is_registered : (r : Registry) → RegistryParts r → is_registry r ≡ true
unfolding is_registry accounts
is_registered r p = rw (eq-eqb (length r.sessions) 16 p.sessions, eq-eqb (length r.directories) 16 p.directories) p.kept_paths

-- `/` has a path's form
pub root_is_path : is_path root ≡ true
unfolding is_path has_names depth most_names
root_is_path = refl

-- so has every account's working directory
pub working_directory_is_path : (r : Registry) (uid : Uid) → is_registry r ≡ true → is_path (working_directory uid r) ≡ true
unfolding working_directory
working_directory_is_path r uid h = every_get_or is_path r.directories uid.0 root (registry_parts r h).kept_paths root_is_path

-- ---- a session replaced

module _ (r : Registry) (uid : Uid) (z : Option BoundedRole) where
  -- it stands in the account's place
  pub session_is_set : (set_session uid z r).sessions ≡ set r.sessions uid.0 z
  unfolding set_session
  session_is_set = refl

  -- and no working directory moves
  pub session_keeps_directories : (set_session uid z r).directories ≡ r.directories
  unfolding set_session
  session_keeps_directories = refl

  pub session_keeps_working_directory : (v : Uid) → working_directory v (set_session uid z r) ≡ working_directory v r
  unfolding set_session working_directory
  session_keeps_working_directory v = refl

  -- the registry stays well-formed
  pub set_session_keeps : is_registry r ≡ true → is_registry (set_session uid z r) ≡ true
  unfolding set_session
  set_session_keeps h =
      let p = registry_parts r h in
      is_registered (set_session uid z r)
      (record { sessions = simp length-set p.sessions; directories = p.directories; kept_paths = p.kept_paths })

-- ---- a working directory replaced

module _ (r : Registry) (uid : Uid) (p : Path) where
  -- it stands in the account's place
  pub directory_is_set : (set_directory uid p r).directories ≡ set r.directories uid.0 p
  unfolding set_directory
  directory_is_set = refl

  pub directory_set : is_registry r ≡ true → uid.0 < 16 → working_directory uid (set_directory uid p r) ≡ p
  unfolding working_directory set_directory
  directory_set h l = get_or-set_same r.directories uid.0 p root (omega (arith, (registry_parts r h).directories))

  -- another account's stays
  pub directory_of_another : (v : Uid) → (v.0 ≡ uid.0 → ⊥) → working_directory v (set_directory uid p r) ≡ working_directory v r
  unfolding working_directory set_directory
  directory_of_another v n = get_or-set_other r.directories uid.0 v.0 p root n

  -- and so do the sessions
  pub directory_keeps_sessions : (set_directory uid p r).sessions ≡ r.sessions
  unfolding set_directory
  directory_keeps_sessions = refl

  -- with a path's form the registry stays well-formed
  pub set_directory_keeps : is_registry r ≡ true → is_path p ≡ true → is_registry (set_directory uid p r) ≡ true
  unfolding set_directory
  set_directory_keeps h k =
      let i = registry_parts r h in
      is_registered (set_directory uid p r)
      (record {
        sessions = i.sessions;
        directories = simp length-set i.directories;
        kept_paths = every_set is_path r.directories uid.0 p i.kept_paths k;
      })
