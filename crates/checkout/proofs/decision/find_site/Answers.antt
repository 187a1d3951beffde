-- `checkout::decision::find_site` meets its contract: a refusal is that of the first part that refuses, else the site is the checkout's.
use Rattle.std.proofs.Common.{refl}
use Rattle.gaps.specs.GapsLaws.{room_to, room_not}
use Rattle.checkout.specs.CheckoutLaws.{entry_came, entry_not, co_no_room, co_no_entry, site_found, site_told, site_passed}
use Rattle.checkout.proofs.decision.find_site.Goals as goal

pub returns-in_err-gap : goal.returns-in_err-gap
returns-in_err-gap c t e tree reads_entry d reads =
    let w = c.args.who in
    let no = room_not tree w.caller.account d (c.in_err-gap.ensures t d tree reads) refl in
    site_passed w t e d c.args.tree.now c.args.entry.now c.args.to.now c.from_residual.result c.from_residual.ensures.1 (co_no_room w t e d no)

pub returns-in_err-filed : goal.returns-in_err-filed
returns-in_err-filed c t e tree reads_entry d reads =
    let w = c.args.who in
    let stands = room_to tree w.caller.account d (c.in_ok-gap.ensures t d tree reads) refl in
    let no = entry_not tree w.reader e (c.in_err-filed.ensures t e tree reads_entry) refl in
    site_passed w t e d c.args.tree.now c.args.entry.now c.args.to.now c.from_residual-in_err-filed.result c.from_residual-in_err-filed.ensures.1 (co_no_entry w t e d stands.found no)

pub returns : goal.returns
returns c t e tree reads_entry d reads =
    let w = c.args.who in
    let entry = c.args.entry.now in
    let to = c.args.to.now in
    let stands = room_to tree w.caller.account d (c.in_ok-gap.ensures t d tree reads) refl in
    let came = entry_came tree w.reader e (c.in_ok-filed.ensures t e tree reads_entry) refl in
    site_told w t e d c.args.tree.now entry to (site_found w entry to _ reads_entry reads stands came)
