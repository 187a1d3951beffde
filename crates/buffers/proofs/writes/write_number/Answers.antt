-- `buffers::writes::write_number` meets its contract: the high byte is below 256.
use Rattle.std.proofs.Common.{◌≡◌, ◌∷◌, [], ℕ, List, length, ◌/◌, ◌%◌, arith, ◌∙◌, ap}
use Rattle.std.proofs.Math.Seq.{paste}
use Rattle.buffers.specs.Fields.{two_bytes}
use Rattle.buffers.proofs.writes.write_number.Goals as goal

pub returns : goal.returns
unfolding two_bytes
returns c =
    let a = c.args in
    let high : a.n / 256 % 256 ≡ a.n / 256 = omega arith in
    let e : c.to_le_bytes.result ≡ two_bytes a.n = c.to_le_bytes.ensures ∙ ap (λ (h : ℕ). a.n % 256 ∷ h ∷ []) high in
    c.write.ensures ∙ ap (λ (x : List ℕ). paste a.b.now a.at x (length x)) e
