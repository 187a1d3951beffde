-- `attributes::checks::test` meets its contract: each deed has its own tests.
use Rattle.attributes.specs.Checks.{tests}
use Rattle.attributes.proofs.checks.test.Goals as goal

pub returns-in-Read : goal.returns-in-Read
unfolding tests
returns-in-Read c = rw (c.in-Read.is, ← c.may_at.ensures) c.require.ensures

pub returns-in-Write : goal.returns-in-Write
returns-in-Write c = rw c.in-Write.is c.test_write.ensures

pub returns-in-Chmod : goal.returns-in-Chmod
returns-in-Chmod c = rw c.in-Chmod.is c.test_chmod.ensures

pub returns-in-Chgrp : goal.returns-in-Chgrp
unfolding tests
returns-in-Chgrp c = rw (c.in-Chgrp.is, ← c.may_give.ensures) c.require-in-Chgrp.ensures

pub returns-in-Chown : goal.returns-in-Chown
unfolding tests
returns-in-Chown c = rw (c.in-Chown.is, ← c.is_root.ensures) c.require-in-Chown.ensures

pub returns-in-Enter : goal.returns-in-Enter
returns-in-Enter c = rw c.in-Enter.is c.test_enter.ensures
