-- `runner::sessions_part::as_role` meets its contract: the rows tell the role's account, which acts in the session.
use Rattle.runner.specs.SessionStepLaws.{acting, acting_as}
use Rattle.runner.proofs.sessions_part.as_role.Goals as goal

pub dominance_in-dominance-requires : goal.dominance_in-dominance-requires
dominance_in-dominance-requires c = c.requires.some_store

pub account-account-requires : goal.account-account-requires
account-account-requires c = c.requires.role_bound

pub entry_command-requires : goal.entry_command-requires
entry_command-requires c =
    let s = c.requires.some_store.0 in
    let h = c.requires.some_store.1 in
    let kept = c.requires.held_role s h in
    let rows = c.dominance_in-dominance.ensures s h in
    let told = c.account-account.ensures in
    let j = acting h c.args.caller kept rows told in
    record {
      acts_by = (j, h, acting_as h c.args.caller kept rows told, rows);
      some_entry_command = c.requires.some_entry_command;
      in_bounds = c.requires.in_bounds;
    }

pub returns : goal.returns
returns c s k h m =
    let kept = c.requires.held_role s h in
    let rows = c.dominance_in-dominance.ensures s h in
    let told = c.account-account.ensures in
    let j = acting h c.args.caller kept rows told in
    c.entry_command.ensures j k h m (acting_as h c.args.caller kept rows told) rows

pub shape_of-store : goal.shape_of-store
shape_of-store c = c.entry_command.auto.store

pub shape_of-answer : goal.shape_of-answer
shape_of-answer c = c.entry_command.auto.answer
