-- `whole_paths::writing::place` meets its contract: the argument is written from the place on, and stands there.
use Rattle.whole_paths.proofs.writing.place.Goals as goal

pub write_argument-end-requires : goal.write_argument-end-requires
write_argument-end-requires c = rw c.of.ensures c.requires.span_in_bounds

pub returns : goal.returns
returns c =
    let w = rw c.of.ensures at c.write_argument-end.ensures in
    record {
      value = (λ i. record { start = c.args.at; end = w.ends i });
      text_after = w.holds;
    }
