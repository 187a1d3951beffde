-- Document 01's sound, of the store's bytes: "A store is sound if its nodes form one tree under `/`, siblings differ, only
-- directories have children and they have no content, no path passes 6 names, and every value is in range."
--
-- The clauses on nodes are the fields of `SoundTree`, the ranges of a setup those of `SoundSetup`. `SoundStoreLaws` proves that the
-- bytes which `decode` reads, those that no call refuses by 18, are just the sound ones.
use Rattle.std.specs.Prelude.{◌≡◌, List, true, ℕ, length}
use Rattle.buffers.specs.Text.{every}
use Rattle.syntax.specs.Path.{is_path}
use Rattle.setup.specs.SoundSetup.{SoundSetup}
use Rattle.tree.specs.SoundTree.{SoundTree}
use Rattle.store.specs.State.{State}
use Rattle.store.specs.StoreBytes.{encode}

pub record Sound (b : List ℕ) : Type 0 where
  -- "The store buffer has exactly 65,536 bytes"
  pub width : length b ≡ 65536
  -- it holds a setup, sessions, working directories and a tree, laid out as the team chose: "provided it reads as the stated tree"
  pub state : State
  pub bytes : encode state ≡ b
  -- "its nodes form one tree under `/`" and all that follows, of the nodes
  pub tree : SoundTree state.store.tree
  -- "every value is in range", of persons, role pairs and login grants
  pub setup : SoundSetup state.setup
  -- "A session is one role or none for each account", of which there are 16; a role's range is in its type
  pub sixteen_sessions : length state.store.registry.sessions ≡ 16
  -- document 02: "Soundness now includes that each kept path has a path's form", one for each account
  pub sixteen_directories : length state.store.registry.directories ≡ 16
  pub kept_paths : every is_path state.store.registry.directories ≡ true
