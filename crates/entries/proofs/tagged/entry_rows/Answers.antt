-- `entries::tagged::entry_rows` meets its contract: an empty text is no tag, and any other reads as the entry's path.
use Rattle.std.proofs.Common.{sym, ap, ◌∙◌, refl, length}
use Rattle.std.proofs.lemmas.Bool.{eqb-true, eqb-false}
use Rattle.syntax.specs.Path.{path}
use Rattle.tree.proofs.ResultLaws.{outcome_ok, outcome_err, outcome_passed}
use Rattle.entries.specs.LinkLaws.{at_has_row, tag_path, entry_untagged, entry_came, entry_refused}
use Rattle.entries.proofs.tagged.entry_rows.Goals as goal

pub tag_path_at-path-requires : goal.tag_path_at-path-requires
tag_path_at-path-requires c = at_has_row c.requires.3

pub returns-then-is_empty : goal.returns-then-is_empty
returns-then-is_empty c t p d at =
    let empty = eqb-true (length c.tag_path_at-path.result.now) 0 (sym c.is_empty.ensures ∙ c.if-is_empty.true) in
    outcome_err _ ∙ entry_untagged at c.args.account (ap length (sym c.tag_path_at-path.ensures) ∙ empty)

pub walk_file-requires : goal.walk_file-requires
walk_file-requires c =
    let s = c.requires in
    let text = c.tag_path_at-path.ensures in
    let filled = eqb-false (length c.tag_path_at-path.result.now) 0 (sym c.is_empty.ensures ∙ c.if-is_empty.false) in
    record {
      whole = (s.0, s.3.tree);
      path_text = rw text (tag_path s.3 (λ z. filled (ap length text ∙ z)));
    }

pub returns-in_err-spot : goal.returns-in_err-spot
returns-in_err-spot c t p d at =
    let text = c.tag_path_at-path.ensures in
    let filled = eqb-false (length c.tag_path_at-path.result.now) 0 (sym c.is_empty.ensures ∙ c.if-is_empty.false) in
    outcome_passed c.from_residual.result c.from_residual.ensures.1
    ∙ entry_refused at c.args.account (λ z. filled (ap length text ∙ z)) (λ q z. c.in_err-spot.ensures t q at.tree (ap path text ∙ z)) refl

pub returns : goal.returns
returns c t p d at =
    let text = c.tag_path_at-path.ensures in
    let filled = eqb-false (length c.tag_path_at-path.result.now) 0 (sym c.is_empty.ensures ∙ c.if-is_empty.false) in
    outcome_ok _
    ∙ entry_came at c.args.account (λ z. filled (ap length text ∙ z)) (λ q z. c.in_ok-spot.ensures t q at.tree (ap path text ∙ z)) refl
