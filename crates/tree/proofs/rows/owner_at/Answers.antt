-- `tree::rows::owner_at` meets its contract: the owner is byte 2 of the row.
use mathlib.Core.Path.{ap, sym}
use Prim.Native.Nat.{ℕ}
use native.Mathlib.Omega.{arith}
use Rattle.accounts.specs.declared.Uid.{Uid}
use Rattle.tree.specs.Encoding.{read_row}
use Rattle.tree.specs.RowAt.{row_at}
use Rattle.tree.proofs.RowAtLaws.{byte_in_row}
use Rattle.tree.proofs.rows.owner_at.Goals as goal

pub returns : goal.returns
unfolding row_at read_row
returns c = ap {B = Uid} (λ (b : ℕ). record { 0 = b }) (sym (byte_in_row c.args.tree.now c.args.i 2 (omega arith)))
