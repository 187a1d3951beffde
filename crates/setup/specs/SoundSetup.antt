-- Document 01's "every value is in range", of a setup: what its persons, role pairs and login grants are, with a field for each
-- clause.
--
-- `SoundSetupLaws` proves that the setups which pass the test `is_setup` are just these.
use Rattle.std.specs.Prelude.{◌≡◌, ◌⊎◌, true, ℕ, ◌≤◌, ◌<◌, length}
use Rattle.std.proofs.Math.Option.{none, some}
use Rattle.std.proofs.Math.ListN.{get_elem?}
use Rattle.accounts.specs.declared.Uid.{Uid}
use Rattle.accounts.specs.declared.Gid.{Gid}
use Rattle.accounts.specs.declared.Pair.{Pair}
use Rattle.accounts.specs.Groups.{member}
use Rattle.syntax.specs.Path.{is_name}
use Rattle.setup.specs.Setup.{Person, Grant, Setup, person}

-- "Persons' groups are 1 to 15"
pub record PersonsGroup (g : Gid) : Type 0 where
  pub from : 1 ≤ g.0
  pub to : g.0 ≤ 15

pub record SoundPerson (p : Person) : Type 0 where
  -- "a person and primary group"
  pub primary : PersonsGroup p.primary
  -- "a further group of a person", each
  pub further : (g : Gid) → member g p.further ≡ true → PersonsGroup g

pub record SoundPair (p : Pair) : Type 0 where
  -- "senior < junior"
  pub falls : p.senior.0 < p.junior.0
  -- "Roles are 0 to 7": so the junior, and with it the senior
  pub roles : p.junior.0 ≤ 7

pub record SoundGrant (s : Setup) (g : Grant) : Type 0 where
  -- "uid named or 0"
  pub named_or_0 : ((p : Person) × (person s g.uid ≡ some p)) ⊎ (g.uid.0 ≡ 0)
  -- "Roles are 0 to 7"
  pub role : g.role.0 ≤ 7
  -- "A name or password is 1 to 8 bytes of a-z, 0-9, `_`"
  pub password : is_name g.password ≡ true

pub record SoundSetup (s : Setup) : Type 0 where
  -- "Persons are accounts 1 to 15": an entry for each account from 0 on,
  pub sixteen_accounts : length s.persons ≡ 16
  -- "root is 0", and no person
  pub root_is_no_person : person s (record { 0 = 0 }) ≡ none
  -- every person's groups
  pub persons : (u : Uid) (p : Person) → person s u ≡ some p → SoundPerson p
  -- "at most 28 lines" `r,senior,junior`
  pub at_most_28_pairs : length s.pairs ≤ 28
  -- every pair's roles
  pub pairs : (i : ℕ) (p : Pair) → get_elem? s.pairs i ≡ some p → SoundPair p
  -- "at most 32 lines" `l,uid,role,password`
  pub at_most_32_grants : length s.grants ≤ 32
  -- every grant's uid, role and password
  pub grants : (i : ℕ) (g : Grant) → get_elem? s.grants i ≡ some g → SoundGrant s g
