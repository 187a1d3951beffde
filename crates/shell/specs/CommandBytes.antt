-- What the code of a command promises: what it answers, and what it leaves of a state's bytes and of the answer buffer, by the steps. The state is
-- a tree for most commands, the sessions for two, and a store for all of them.
use Rattle.std.specs.Prelude.{◌≡◌, List, ℕ}
use Rattle.buffers.specs.Text.{Text}
use Rattle.syntax.specs.Path.{Path}
use Rattle.tree.specs.Result.{Result, refused, done, Outcome}
use Rattle.tree.specs.Forest.{Place}
use Rattle.tree.specs.Node.{Node}
use Rattle.tree.specs.Encoding.{encode_tree}
use Rattle.tree.specs.TreeBytes.{Whichever}
use Rattle.shell.specs.Replies.{Answer, reply, answer_of, written}

-- the bytes after what the steps come to, where a state's are given: a refusal leaves them
unfoldable pub bytes_after : {S : Type 0} → (S → List ℕ) → List ℕ → Result (Outcome S) → List ℕ
bytes_after bytes_of b (refused why) = b
bytes_after bytes_of b (done o) = bytes_of o.state

-- the answer r, the state's bytes b' and the answer buffer's a' are those of the steps, from b and a
pub record Carries {S : Type 0} (bytes_of : S → List ℕ) (steps : Result (Outcome S)) (b a : List ℕ) (r : Answer) (b' a' : List ℕ) : Type 0 where
  pub tells : r ≡ answer_of (reply steps)
  pub bytes : b' ≡ bytes_after bytes_of b steps
  pub text : a' ≡ written (reply steps) a

-- and so of a command without a text, whatever the answer buffer holds
abbrev pub CarriesSilently : {S : Type 0} → (S → List ℕ) → Result (Outcome S) → List ℕ → Answer → List ℕ → Type 0
CarriesSilently bytes_of steps b r b' = (a : List ℕ) → Carries bytes_of steps b a r b' a

-- on a tree's bytes
abbrev pub Follows : Result (Outcome (Place Node)) → List ℕ → List ℕ → Answer → List ℕ → List ℕ → Type 0
Follows steps b a r b' a' = Carries encode_tree steps b a r b' a'

abbrev pub FollowsSilently : Result (Outcome (Place Node)) → List ℕ → Answer → List ℕ → Type 0
FollowsSilently steps b r b' = CarriesSilently encode_tree steps b r b'

-- for whatever tree the bytes are of, and whatever path a text reads as
abbrev pub FollowsAt : (Place Node → Path → Result (Outcome (Place Node))) → List ℕ → Text → Answer → List ℕ → Type 0
FollowsAt steps b s r b' = Whichever b s (λ t p. FollowsSilently (steps t p) b r b')
