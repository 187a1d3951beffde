-- `sound_store::padded::holds_padded` meets its contract: the text's form, then the zeros behind it.
use mathlib.Core.Path.{◌≡◌, sym, ◌∙◌, ap}
use native.Mathlib.Omega.{arith}
use lib.ListN.{length}
use Rattle.std.proofs.Common.{rules}
use Rattle.buffers.specs.Fields.{text_at}
use Rattle.buffers.specs.FieldsLaws.{field_text_fits}
use Rattle.soundness.specs.BothLaws.{both, not_both}
use Rattle.sound_store.specs.StoreStepLaws.{filled_by}
use Rattle.sound_store.proofs.padded.holds_padded.Goals as goal
use Rattle.sound_store.proofs.padded.holds_padded.Goals.{then-has_form, else-has_form}

pub is_zero-requires-clause-from_le_to : goal.is_zero-requires-clause-from_le_to
is_zero-requires-clause-from_le_to g c =
    let a = c.args in
    let f = field_text_fits a.s.now a.at a.width in
    let e = ap length c.text-field.ensures in
    omega arith

pub returns : goal.returns
returns g c test each =
    let a = c.args in
    let t = text_at a.at a.width a.s.now in
    let form : c.has_form.result ≡ test t = each t c.has_form.result (search rules) in
    elim c.if-has_form.branch [
      | then-has_form w ↦ both form w.if-has_form.true (w.result-is ∙ w.is_zero.ensures ∙ sym (filled_by a.at a.width a.s.now (length c.text-field.result.now) (ap length c.text-field.ensures)))
      | else-has_form w ↦ not_both _ form w.if-has_form.false w.result-is
    ]
