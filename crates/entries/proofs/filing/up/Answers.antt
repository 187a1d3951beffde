-- `entries::filing::up` meets its contract: the rows it acts on are those that the steps lead to, and a refusal leaves all.
use Rattle.std.proofs.Common.{refl}
use Rattle.accounts.specs.declared.Right.TheVariants.{W}
use Rattle.shell.proofs.CommandBytesLaws.{passed_follows, silence_follows}
use Rattle.entries.specs.EntrySteps.{link, after_up}
use Rattle.entries.specs.LinkLaws.{links_to, links_not, link_linked}
use Rattle.entries.specs.EntryStepsLaws.{comes_to, comes_not}
use Rattle.entries.proofs.filing.up.Goals as goal

pub returns-in_err-rows : goal.returns-in_err-rows
returns-in_err-rows c t w tree e =
    let a = c.args in
    let steps = link a.caller.account W a.account t w in
    passed_follows a.tree.now c.from_residual.ensures.1
    (comes_not steps (after_up t) (links_not t steps (c.in_err-rows.ensures t w tree e) refl))

pub bring_up-requires : goal.bring_up-requires
bring_up-requires c =
    let a = c.args in
    let t = c.requires.whole.0 in
    let w = c.requires.path_text.0 in
    let x = links_to t (link a.caller.account W a.account t w) (c.in_ok-rows.ensures t w c.requires.whole.1 c.requires.path_text.1) refl in
    (t, x.0, link_linked a.caller.account a.account W w c.requires.whole.1 x.1 x.2)

pub returns : goal.returns
returns c t w tree e =
    let a = c.args in
    let steps = link a.caller.account W a.account t w in
    let x = links_to t steps (c.in_ok-rows.ensures t w tree e) refl in
    let l = link_linked a.caller.account a.account W w tree x.1 x.2 in
    silence_follows a.tree.now c.bring_up.new.tree (comes_to steps (after_up t) x.1) (c.bring_up.ensures t x.0 l)
