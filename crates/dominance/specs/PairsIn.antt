-- The role pairs that bytes say.
use Rattle.std.specs.Prelude.{List, ℕ}
use Rattle.buffers.specs.Fields.{all_from}
use Rattle.accounts.specs.declared.Pair.{Pair}
use Rattle.accounts.specs.PairBytes.{pair_of}

-- the first n pairs, two bytes each
abbrev pub pairs_in : ℕ → List ℕ → List Pair
pairs_in n b = all_from 2 pair_of n b
