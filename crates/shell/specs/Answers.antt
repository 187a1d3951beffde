-- What a command answers: a cause of its own, or no more than the longest text.
use Rattle.std.specs.Prelude.{◌≡◌, Bool, true, false, ◌≤◌, length}
use Rattle.std.proofs.Math.Option.{Option, some}
use Rattle.buffers.specs.Text.{Text}
use Rattle.tree.specs.declared.Cause.{Cause}
use Rattle.tree.specs.declared.Cause.TheVariants.{NoForm, UnknownCaller, Missing, NotDirectory, Access, Exists, WrongKind, NotEmpty, Reserved, Full, IntoItself, NoSession, NoGrant, Stale, Untagged, RevisionsSpent, Unsound, TooDeep, ShortAnswer}
use Rattle.shell.specs.Steps.{longest_text}

-- all causes but 18 and 20, which come before a command line is read
abbrev own : Cause → Bool
own NoForm = true
own UnknownCaller = true
own Missing = true
own NotDirectory = true
own Access = true
own Exists = true
own WrongKind = true
own NotEmpty = true
own Reserved = true
own Full = true
own IntoItself = true
own NoSession = true
own NoGrant = true
own Stale = true
own Untagged = true
own RevisionsSpent = true
own Unsound = false
own TooDeep = true
own ShortAnswer = false

abbrev pub Own : Cause → Type 0
Own why = own why ≡ true

-- no text, or one of at most 2294 bytes
abbrev pub TextFits : Option Text → Type 0
TextFits o = (x : Text) → o ≡ some x → length x ≤ longest_text
