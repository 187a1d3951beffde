-- `line_fields::parts::fields_of` meets its contract: each part is that of its field.
use Rattle.line_fields.proofs.parts.fields_of.Goals as goal

pub returns : goal.returns
returns c =
    let word = c.span.ensures in
    let first = c.span-2.ensures in
    let second = c.span-3.ensures in
    let third = c.span-4.ensures in
    λ i. record {
      word = record { start = word.0 i; end = word.1 i };
      first = record { start = first.0 i; end = first.1 i };
      second = record { start = second.0 i; end = second.1 i };
      third = record { start = third.0 i; end = third.1 i };
      count = c.behind_word-count.ensures i;
    }
