-- `setups::header_values::write_pair` meets its contract: a pair is its two roles.
use Rattle.accounts.proofs.PairBytesLaws.{pair_bytes_are}
use Rattle.setups.proofs.header_values.write_pair.Goals as goal

pub returns : goal.returns
returns c = rw pair_bytes_are c.write_two.ensures
