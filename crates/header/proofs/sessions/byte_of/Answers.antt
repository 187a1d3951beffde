-- `header::sessions::byte_of` meets its contract: the two cases of a session.
use Rattle.std.proofs.Common.{sym, ap, ◌∙◌, arith}
use Rattle.accounts.specs.Session.{holding}
use Rattle.header.specs.SessionBytesLaws.{nobody_byte, role_byte, role_bounded}
use Rattle.header.proofs.sessions.byte_of.Goals as goal

pub overflow_add-result : goal.overflow_add-result
overflow_add-result c =
    omega (arith, role_bounded c.in-Some.role (c.requires.0, ap holding (sym c.in-Some.is) ∙ c.requires.1))

pub returns-in-None : goal.returns-in-None
returns-in-None c o e = nobody_byte o (ap holding (sym c.in-None.is) ∙ e)

pub returns-in-Some : goal.returns-in-Some
returns-in-Some c o e = role_byte c.in-Some.role o (ap holding (sym c.in-Some.is) ∙ e)
