-- `adding::add` meets its contract: the row and the gap that it acts on are those that the steps lead to, and a refusal leaves all.
use Rattle.std.proofs.Common.{refl}
use Rattle.shell.proofs.CommandBytesLaws.{passed_follows, silence_follows}
use Rattle.adding.specs.AddSteps.{add_tests}
use Rattle.entries.specs.LinkLaws.{judged_to, judged_not}
use Rattle.adding.specs.AddLaws.{add_stands, add_not, addition_of, add_unwalked, add_unroomed, add_made}
use Rattle.adding.proofs.add.Goals as goal

pub returns-in_err-spot : goal.returns-in_err-spot
returns-in_err-spot c w e reads read t z tree q =
    let a = c.args in
    let person = a.caller.account in
    passed_follows a.tree.now c.from_residual.ensures.1 (add_unwalked person a.account a.dominated z t w e
    (judged_not person (add_tests person a.dominated) t w tree (c.in_err-spot.ensures t w tree reads) refl))

pub returns-in_err-gap : goal.returns-in_err-gap
returns-in_err-gap c w e reads read t z tree q =
    let a = c.args in
    let person = a.caller.account in
    let x = judged_to person (add_tests person a.dominated) t w tree (c.in_ok-spot.ensures t w tree reads) refl in
    passed_follows a.tree.now c.from_residual-in_err-gap.ensures.1 (add_unroomed person a.account a.dominated z t w e x.walked
    (add_not a.account t e tree (c.in_err-gap.ensures t e tree read) refl))

pub file_entry-requires : goal.file_entry-requires
file_entry-requires c =
    let a = c.args in
    let person = a.caller.account in
    let t = c.requires.whole.0 in
    let tree = c.requires.whole.1 in
    let w = c.requires.path_text.0 in
    let e = c.requires.entry_path_text.0 in
    let x = judged_to person (add_tests person a.dominated) t w tree (c.in_ok-spot.ensures t w tree c.requires.path_text.1) refl in
    let g = add_stands a.account t e tree (c.in_ok-gap.ensures t e tree c.requires.entry_path_text.1) refl in
    record {
      addition = addition_of a.entry.now x.at c.requires.entry_path_text.1 g.0 g.1.1;
      role_bound = c.requires.role_bound;
    }

pub returns : goal.returns
returns c w e reads read t z tree q =
    let a = c.args in
    let person = a.caller.account in
    let x = judged_to person (add_tests person a.dominated) t w tree (c.in_ok-spot.ensures t w tree reads) refl in
    let g = add_stands a.account t e tree (c.in_ok-gap.ensures t e tree read) refl in
    silence_follows a.tree.now c.file_entry.new.tree (add_made person a.account a.dominated z t w e x.walked g.1.0)
    (c.file_entry.ensures (addition_of a.entry.now x.at read g.0 g.1.1) z q)
