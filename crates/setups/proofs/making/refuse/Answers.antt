-- `setups::making::refuse` meets its contract: a header of zeros is the one of nothing.
use Rattle.setups.specs.MakingLaws.{refused}
use Rattle.setups.proofs.making.refuse.Goals as goal

pub returns : goal.returns
returns c =
    refused c.args.header.now _ c.args.number c.requires c.clear.ensures
