-- A state is well-formed just if its parts are.
use Rattle.std.specs.Prelude.{◌≡◌, true, ◌&&◌, length}
use Rattle.buffers.specs.Cases.{and_both}
use Rattle.buffers.specs.Text.{every}
use Rattle.syntax.specs.Path.{is_path}
use Rattle.setup.specs.Setup.{Setup, is_setup}
use Rattle.tree.specs.WellFormed.{is_tree}
use Rattle.store.specs.State.{Store, State, state_of, is_registry, well_formed}
use Rattle.store.proofs.RegistryLaws.{registry_parts}

-- what is known of a well-formed state
pub record Parts (s : State) : Type 0 where
  pub setup : is_setup s.setup ≡ true
  pub registry : is_registry s.store.registry ≡ true
  pub sessions : length s.store.registry.sessions ≡ 16
  pub directories : length s.store.registry.directories ≡ 16
  pub kept_paths : every is_path s.store.registry.directories ≡ true
  pub tree : is_tree s.store.tree ≡ true

-- a well-formed state has its parts well-formed
pub parts : (s : State) → well_formed s ≡ true → Parts s
unfolding well_formed
parts s h =
    let r = s.store.registry in
    let i = and_both (is_setup s.setup) (is_registry r && is_tree s.store.tree) h in
    let j = and_both (is_registry r) (is_tree s.store.tree) i.1 in
    let p = registry_parts r j.0 in
    record { setup = i.0; registry = j.0; sessions = p.sessions; directories = p.directories; kept_paths = p.kept_paths; tree = j.1 }

-- a state with its parts well-formed is well-formed
pub formed : (u : Setup) → is_setup u ≡ true → (s : Store) → is_registry s.registry ≡ true → is_tree s.tree ≡ true → well_formed (state_of u s) ≡ true
unfolding well_formed
formed u g s r t = rw (g, r) t
