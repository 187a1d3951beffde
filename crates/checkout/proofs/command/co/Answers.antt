-- `checkout::command::co` meets its contract: what is left at the site that is found are the command's steps, and a refusal is theirs.
use Rattle.std.proofs.Common.{refl}
use Rattle.shell.proofs.CommandBytesLaws.{passed_follows}
use Rattle.checkout.specs.Checkout.{copier}
use Rattle.checkout.specs.CheckoutLaws.{site_of, missed_of, site_follows}
use Rattle.checkout.proofs.command.co.Goals as goal

pub returns-in_err-site : goal.returns-in_err-site
returns-in_err-site c t e tree reads_entry d reads =
    let w = copier c.args.account c.args.caller in
    let b = c.args.tree.now in
    let entry = c.args.entry.now in
    let to = c.args.to.now in
    passed_follows b c.from_residual.ensures.1 (missed_of w t e d b entry to (c.in_err-site.ensures t e tree reads_entry d reads) refl)

pub co_at-requires : goal.co_at-requires
co_at-requires c =
    let w = copier c.args.account c.args.caller in
    let tree = c.requires.whole in
    let e = c.requires.entry_path_text in
    let d = c.requires.path_text in
    (site_of w tree.0 e.0 d.0 c.args.tree.now c.args.entry.now c.args.to.now (c.in_ok-site.ensures tree.0 e.0 tree.1 e.1 d.0 d.1) refl).job

pub returns : goal.returns
returns c t e tree reads_entry d reads =
    let w = copier c.args.account c.args.caller in
    let b = c.args.tree.now in
    let entry = c.args.entry.now in
    let to = c.args.to.now in
    let site = site_of w t e d b entry to (c.in_ok-site.ensures t e tree reads_entry d reads) refl in
    site_follows w t e d b entry to site c.co_at.ensures
