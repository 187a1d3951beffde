-- `whole_paths::making::write_arguments` meets its contract: each argument fits its room, and is written at its beginning.
use native.Mathlib.Omega.{arith}
use Rattle.whole_paths.specs.WholeText.{first_text, second_text, third_text, whole_typed, whole_text}
use Rattle.whole_paths.specs.StandsLaws.{first_fits, second_fits, third_fits}
use Rattle.whole_paths.proofs.making.write_arguments.Goals as goal

pub place-first-requires : goal.place-first-requires
unfolding first_text
place-first-requires c =
    let f = first_fits c.args.directory.now c.requires.path_text c.args.line.now c.args.typed c.requires.typed_read in
    record {
      inside = c.requires.typed_read.first.inside;
      span_in_bounds = omega (arith, c.requires.text_len);
    }

pub place-second-requires : goal.place-second-requires
unfolding second_text
place-second-requires c =
    let f = second_fits c.args.directory.now c.requires.path_text c.args.line.now c.args.typed c.requires.typed_read in
    record {
      inside = c.requires.typed_read.second.inside;
      span_in_bounds = omega (arith, c.requires.text_len, c.place-first.auto.text);
    }

pub place-third-requires : goal.place-third-requires
unfolding third_text
place-third-requires c =
    let f = third_fits c.args.directory.now c.requires.path_text c.args.line.now c.args.typed c.requires.typed_read in
    record {
      inside = c.requires.typed_read.third.inside;
      span_in_bounds = omega (arith, c.requires.text_len, c.place-second.auto.text, c.place-first.auto.text);
    }

pub returns : goal.returns
unfolding whole_typed whole_text first_text second_text third_text
returns c =
    let v = c.args.typed in
    let x = c.place-first in
    let y = c.place-second in
    let z = c.place-third in record {
      value = (λ i. record {
        word = v.word;
        shape = v.shape;
        fields = record { word = v.fields.word; first = x.ensures.value i; second = y.ensures.value i; third = z.ensures.value i; count = v.fields.count };
        first = v.first;
        second = v.second;
        third = v.third;
      });
      text_after = rw (z.ensures.text_after, y.ensures.text_after, x.ensures.text_after);
    }
