-- Document 01's table of causes: the number by which a call is refused.
use Rattle.std.specs.Prelude.{ℕ}
use Rattle.tree.specs.declared.Cause.{Cause}
use Rattle.tree.specs.declared.Cause.TheVariants.{NoForm, UnknownCaller, Missing, NotDirectory, Access, Exists, WrongKind, NotEmpty, Reserved, Full, IntoItself, NoSession, NoGrant, Stale, Untagged, RevisionsSpent, Unsound, TooDeep, ShortAnswer}

unfoldable pub number : Cause → ℕ
number NoForm = 1
number UnknownCaller = 2
number Missing = 3
number NotDirectory = 4
number Access = 5
number Exists = 6
number WrongKind = 7
number NotEmpty = 8
number Reserved = 9
number Full = 10
number IntoItself = 11
number NoSession = 12
number NoGrant = 13
number Stale = 14
number Untagged = 15
number RevisionsSpent = 16
number Unsound = 18
number TooDeep = 19
number ShortAnswer = 20

-- a wrong setup line, which is answered with its number and has no cause of its own
unfoldable pub wrong_setup : ℕ
wrong_setup = 17
