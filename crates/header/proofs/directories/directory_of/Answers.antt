-- `header::directories::directory_of` meets its contract: the text of the account's field is that of its working directory.
use mathlib.Core.Path.{◌∙◌, ap}
use Prim.Native.Nat.{ℕ}
use native.Mathlib.Omega.{arith}
use Rattle.buffers.specs.Fields.{text_at}
use Rattle.store.specs.HeaderLayout.{directory_width}
use Rattle.header.specs.HeaderBytesLaws.{headed_wide, directory_stands}
use Rattle.header.proofs.directories.directory_of.Goals as goal

pub text-requires : goal.text-requires
text-requires c = omega (arith, headed_wide c.requires.headed)

pub returns : goal.returns
returns c u z h =
    let b = c.args.header.now in
    c.text.ensures ∙ ap (λ (n : ℕ). text_at n directory_width b) c.start_of-at.ensures ∙ directory_stands h c.args.uid c.requires.uid_bound
