-- `whole_paths::making::make_whole` meets its contract: the arguments are written, then tested where they stand.
use Rattle.std.specs.Prelude.{Ok, Err}
use mathlib.Core.Path.{◌≡◌, ap}
use mathlib.Core.List.{List}
use mathlib.Core.Bool.{Bool, true, false}
use Prim.Native.Nat.{ℕ}
use Rattle.buffers.specs.Text.{Text}
use Rattle.commands.specs.declared.Typed.{Typed}
use Rattle.tree.specs.declared.Cause.TheVariants.{TooDeep}
use Rattle.whole_paths.specs.WholeText.{is_deep, any_argument, any_deep, whole_typed, whole_text, whole_or_deep}
use Rattle.whole_paths.specs.StandsLaws.{whole_inside}
use Rattle.whole_paths.proofs.making.make_whole.Goals as goal

-- the answer by the test of what was written
module _ (d t : Text) (v : Typed) (b : List ℕ) {e : Typed} {u : Text} {r : Bool} (p : e ≡ whole_typed d t v) (q : u ≡ whole_text d t v b) (h : r ≡ any_argument is_deep u e) where
  tells : {x : Bool} → r ≡ x → any_deep (whole_text d t v b) (whole_typed d t v) ≡ x
  unfolding any_deep
  tells k = let g : r ≡ any_deep u e = h in cc

  deep : r ≡ true → Err TooDeep ≡ whole_or_deep d t v b
  unfolding whole_or_deep
  deep k = rw (tells k)

  not-deep : r ≡ false → Ok e ≡ whole_or_deep d t v b
  unfolding whole_or_deep
  not-deep k = rw (tells k) (ap Ok p)

pub any_found-requires-clause-inside : goal.any_found-requires-clause-inside
any_found-requires-clause-inside c =
    rw (c.write_arguments-moved.ensures.value, c.write_arguments-moved.ensures.text_after) (whole_inside c.args.directory.now c.requires.path_text c.args.line.now c.args.typed c.requires.typed_read c.args.text.now c.requires.text_len)

pub returns-then-any_found : goal.returns-then-any_found
returns-then-any_found c =
    record {
      value = deep c.args.directory.now c.args.line.now c.args.typed c.args.text.now c.write_arguments-moved.ensures.value c.write_arguments-moved.ensures.text_after (c.any_found.ensures is_deep (λ k x r h. h.1)) c.if-any_found.true;
      text_after = c.write_arguments-moved.ensures.text_after;
    }

pub returns : goal.returns
returns c =
    record {
      value = not-deep c.args.directory.now c.args.line.now c.args.typed c.args.text.now c.write_arguments-moved.ensures.value c.write_arguments-moved.ensures.text_after (c.any_found.ensures is_deep (λ k x r h. h.1)) c.if-any_found.false;
      text_after = c.write_arguments-moved.ensures.text_after;
    }
