-- `stored_header::change_directory` meets its contract: what was decided on the tree is refused, or kept.
use Rattle.std.proofs.Common.{refl}
use Rattle.stored_header.specs.StoredLaws.{cd_refused, cd_carries}
use Rattle.stored_header.proofs.change_directory.Goals as goal

pub returns-in_err-may_enter : goal.returns-in_err-may_enter
returns-in_err-may_enter c s p h q =
    cd_refused h c.args.caller p (c.in_err-may_enter.ensures s p h q) refl c.from_residual.ensures.1

pub returns : goal.returns
returns c s p h q =
    cd_carries h c.args.caller p (c.in_ok-may_enter.ensures s p h q) refl c.put_directory.new.store (c.put_directory.ensures s p h q)
