-- `printing::replies::number` meets its contract: each arm has the number of its row in the table.
use Rattle.tree.proofs.CausesLaws.{no_form_number, unknown_caller_number, missing_number, not_directory_number, access_number, exists_number, wrong_kind_number, not_empty_number, reserved_number, full_number, into_itself_number, no_session_number, no_grant_number, stale_number, untagged_number, revisions_spent_number, unsound_number, too_deep_number, short_answer_number}
use Rattle.printing.proofs.replies.number.Goals as goal

pub returns-in-NoForm : goal.returns-in-NoForm
returns-in-NoForm c = rw (c.in-NoForm.is, no_form_number)

pub returns-in-UnknownCaller : goal.returns-in-UnknownCaller
returns-in-UnknownCaller c = rw (c.in-UnknownCaller.is, unknown_caller_number)

pub returns-in-Missing : goal.returns-in-Missing
returns-in-Missing c = rw (c.in-Missing.is, missing_number)

pub returns-in-NotDirectory : goal.returns-in-NotDirectory
returns-in-NotDirectory c = rw (c.in-NotDirectory.is, not_directory_number)

pub returns-in-Access : goal.returns-in-Access
returns-in-Access c = rw (c.in-Access.is, access_number)

pub returns-in-Exists : goal.returns-in-Exists
returns-in-Exists c = rw (c.in-Exists.is, exists_number)

pub returns-in-WrongKind : goal.returns-in-WrongKind
returns-in-WrongKind c = rw (c.in-WrongKind.is, wrong_kind_number)

pub returns-in-NotEmpty : goal.returns-in-NotEmpty
returns-in-NotEmpty c = rw (c.in-NotEmpty.is, not_empty_number)

pub returns-in-Reserved : goal.returns-in-Reserved
returns-in-Reserved c = rw (c.in-Reserved.is, reserved_number)

pub returns-in-Full : goal.returns-in-Full
returns-in-Full c = rw (c.in-Full.is, full_number)

pub returns-in-IntoItself : goal.returns-in-IntoItself
returns-in-IntoItself c = rw (c.in-IntoItself.is, into_itself_number)

pub returns-in-NoSession : goal.returns-in-NoSession
returns-in-NoSession c = rw (c.in-NoSession.is, no_session_number)

pub returns-in-NoGrant : goal.returns-in-NoGrant
returns-in-NoGrant c = rw (c.in-NoGrant.is, no_grant_number)

pub returns-in-Stale : goal.returns-in-Stale
returns-in-Stale c = rw (c.in-Stale.is, stale_number)

pub returns-in-Untagged : goal.returns-in-Untagged
returns-in-Untagged c = rw (c.in-Untagged.is, untagged_number)

pub returns-in-RevisionsSpent : goal.returns-in-RevisionsSpent
returns-in-RevisionsSpent c = rw (c.in-RevisionsSpent.is, revisions_spent_number)

pub returns-in-Unsound : goal.returns-in-Unsound
returns-in-Unsound c = rw (c.in-Unsound.is, unsound_number)

pub returns-in-TooDeep : goal.returns-in-TooDeep
returns-in-TooDeep c = rw (c.in-TooDeep.is, too_deep_number)

pub returns-in-ShortAnswer : goal.returns-in-ShortAnswer
returns-in-ShortAnswer c = rw (c.in-ShortAnswer.is, short_answer_number)
