-- `setups::header_values::write_grant` meets its contract: uid and role with the password behind them are one piece.
use mathlib.Core.Path.{◌∙◌, ap}
use mathlib.Core.List.{List}
use Prim.Native.Nat.{ℕ, ◌+◌}
use native.Mathlib.Omega.{arith}
use lib.Seq.{paste}
use Rattle.buffers.specs.Fields.{padded}
use Rattle.setups.specs.HeaderValuesLaws.{grant_stored}
use Rattle.setups.proofs.header_values.write_grant.Goals as goal

pub returns : goal.returns
returns c =
    let a = c.args in
    c.write_padded.ensures
    ∙ ap (λ (l : List ℕ). paste l (a.at + 2) (padded 8 a.password.now) 8) c.write_two.ensures
    ∙ grant_stored a.header.now a.at (record { uid = a.uid; role = a.role; password = a.password.now }) (omega arith) c.requires.password_len_bound
