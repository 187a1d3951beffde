-- `entries::filing::commit_at` meets its contract: the rows it acts on are those that the steps lead to, and a refusal leaves all.
use Rattle.std.proofs.Common.{refl, sym, ◌∙◌}
use Rattle.tree.proofs.ResultLaws.{outcome_err, outcome_passed}
use Rattle.entries.specs.EntrySteps.{commit_at}
use Rattle.entries.specs.LinkLaws.{links_not}
use Rattle.entries.specs.FiledLaws.{fileable, is_filed, is_kept}
use Rattle.entries.proofs.filing.commit_at.Goals as goal

pub returns-in_err-rows : goal.returns-in_err-rows
returns-in_err-rows c t p d at =
    let a = c.args in
    let o = c.in_err-rows.ensures t p d at in
    is_kept (outcome_passed c.from_residual.result c.from_residual.ensures.1 ∙ sym (outcome_err _) ∙ o)
    (links_not t (commit_at a.person a.account t p d) o refl)

pub file_content-requires : goal.file_content-requires
file_content-requires c =
    let p = c.requires in
    let x = fileable c.args.person c.args.account p.3 (c.in_ok-rows.ensures p.0 p.1 p.2 p.3) refl in
    record {
      some_link = (p.0, x.link, x.rows);
      bound = x.below;
    }

pub returns : goal.returns
returns c t p d at =
    let a = c.args in
    let o = c.in_ok-rows.ensures t p d at in
    let x = fileable a.person a.account at o refl in
    is_filed o x.comes (c.file_content.ensures t x.link x.rows)
