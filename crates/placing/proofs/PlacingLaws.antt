-- The copies judged and put in, as the code's answers tell it.
--
-- In order: the steps (place-too-deep to place-done); copies that are ready (prepared-ready to ready-follows).
use Rattle.std.specs.Prelude.{◌≡◌, List, Ok, Err, None}
use Rattle.std.specs.Prelude as code
use Rattle.std.proofs.Common.{◌∙◌, arith}
use Rattle.std.proofs.Math.Option.{none}
use Prim.Native.Nat.{ℕ, suc, ◌+◌, ◌≤◌, ◌<◌}
use Rattle.std.proofs.Math.ListN as L
use borrow.Author.Tests.{le-leb, lt-leb}
use Rattle.accounts.specs.declared.Caller.{Caller}
use Rattle.syntax.specs.Path.{Path, parent, last, depth, most_names}
use Rattle.tree.specs.declared.Cause.{Cause}
use Rattle.tree.specs.declared.Cause.TheVariants.{Full, TooDeep}
use Rattle.tree.specs.Result.{Result, refused, done, Outcome}
use Rattle.tree.proofs.ResultLaws.{done_then, refused_then, require_true, require_false}
use Rattle.tree.specs.Forest.{Place, update, put, size, height}
use Rattle.tree.specs.Node.{Node}
use Rattle.tree.specs.WellFormed.{nodes}
use Rattle.tree.proofs.WellFormedLaws.{most_nodes_is}
use Rattle.edits.specs.Changes.{rows_put}
use Rattle.shell.specs.Steps.{fit}
use Rattle.shell.specs.CommandBytes.{FollowsSilently}
use Rattle.shell.proofs.CommandBytesLaws.{silence_follows}
use Rattle.placing.specs.Placing.{place_copies, ReadyFor, Prepared}

-- ---- the copies judged

module _ (c : Caller) (t : Place Node) (d : Path) (x : Place Node) where
  -- some copy lies too deep
  pub place_too_deep : 6 < depth d + height x.below → place_copies c t d x ≡ refused TooDeep
  unfolding place_copies most_names
  place_too_deep h = rw (lt-leb (depth d + height x.below) 6 h, require_false, refused_then)

  module _ (low : depth d + height x.below ≤ 6) where
    -- there are too many
    pub place_too_many : 256 < nodes t + suc (size x.below) → place_copies c t d x ≡ refused Full
    unfolding place_copies most_names fit
    place_too_many h =
        rw (le-leb (depth d + height x.below) 6 low, require_true, done_then)
        (rw (most_nodes_is, lt-leb (nodes t + 0 + suc (size x.below)) 256 (omega (arith, h)), require_false, refused_then))

    -- they are put in
    pub place_done : nodes t + suc (size x.below) ≤ 256 → place_copies c t d x ≡ done (record { text = none; state = update (parent d) (put (last d) x) t })
    unfolding place_copies most_names fit
    place_done h =
        rw (le-leb (depth d + height x.below) 6 low, require_true, done_then)
        (rw (most_nodes_is, le-leb (nodes t + 0 + suc (size x.below)) 256 (omega (arith, h)), require_true, done_then))

-- ---- copies that are ready

module _ {steps : Result (Outcome (Place Node))} (b z : List ℕ) (at : ℕ) where
  -- copies are answered
  pub prepared_ready : {n : ℕ} → ReadyFor steps b z at n → Prepared steps b z at (Ok n)
  unfolding Prepared
  prepared_ready h = h

  -- or a refusal
  pub prepared_not : {k : Cause} → steps ≡ refused k → Prepared steps b z at (Err k)
  unfolding Prepared
  prepared_not h = h

  module _ {r : code.Result ℕ Cause} (p : Prepared steps b z at r) where
    -- what was answered, then
    pub ready_of : {n : ℕ} → r ≡ Ok n → ReadyFor steps b z at n
    unfolding Prepared
    ready_of e = rw e at p

    pub refused_of : {k : Cause} → r ≡ Err k → steps ≡ refused k
    unfolding Prepared
    refused_of e = rw e at p

-- copies that are ready, put in, follow the steps
pub ready_follows : {steps : Result (Outcome (Place Node))} {b z : List ℕ} {at n : ℕ} (b' : List ℕ) → ReadyFor steps b z at n → b' ≡ rows_put b at n (L.drop 2 z)
    → FollowsSilently steps b (Ok None) b'
ready_follows {b = b} b' h e = silence_follows b b' h.come (e ∙ h.make)
