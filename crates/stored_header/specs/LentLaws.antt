-- A store's bytes of which the tree is lent: what is put back, and what follows for the store where a command follows its steps on the tree.
use Rattle.std.specs.Prelude.{◌≡◌, refl, ℕ, ◌-◌, length, take, drop}
use Rattle.std.proofs.Common.{sym, ◌∙◌, arith, length-drop, drop_of_length-le}
use Rattle.std.proofs.Math.Path.{ap, ap₂}
use mathlib.Core.List.{List, [], ◌++◌, append-nil}
use Rattle.std.proofs.Math.ListN.{take-append-drop}
use Rattle.tree.specs.Result.{Result, refused, done, Outcome}
use Rattle.tree.proofs.ResultLaws.{refused_bind, done_bind}
use Rattle.tree.specs.TreeBytes.{Encodes}
use Rattle.shell.specs.Replies.{Answer, reply, answer_of, written}
use Rattle.shell.specs.CommandBytes.{bytes_after, Carries, Follows}
use Rattle.store.specs.HeaderLayout.{header_width}
use Rattle.store.specs.State.{Store, State}
use Rattle.store.specs.StoreBytes.{header_bytes, encode}
use Rattle.machine.specs.Acting.{on_tree_steps}
use Rattle.stored_header.specs.Stored.{Stored, bytes_with}
use Rattle.stored_header.specs.StoredLaws.{lent_tree, lent_is}

-- ---- a store's bytes lent in two parts

-- the store with other bytes in place of the tree's that were lent
abbrev pub tree_back : List ℕ → List ℕ → List ℕ
tree_back b T = take header_width b ++ (T ++ drop (length b - header_width) (drop header_width b))

pub back_is : (b T : List ℕ) → tree_back b T ≡ take header_width b ++ T
back_is b T =
    let gone : drop (length b - header_width) (drop header_width b) ≡ [] = drop_of_length-le (drop header_width b) {i = length b - header_width} (omega (arith, length-drop header_width b)) in
    rw (gone, append-nil T)

-- ---- what follows for the store

module _ {b : List ℕ} {s : State} (h : Stored b s) where
  -- what is left of the tree, behind the header
  abbrev with_tree : List ℕ → List ℕ
  with_tree T = take header_width b ++ T

  -- steps on the tree that leave the registry
  tree_carries : (steps : Result (Outcome Store)) → ((o : Outcome Store) → steps ≡ done o → o.state.registry ≡ s.store.registry)
      → (a a' : List ℕ) (r : Answer) (T b' : List ℕ) → Follows (on_tree_steps steps) (drop header_width b) a r T a' → b' ≡ take header_width b ++ T
      → Carries (bytes_with s.setup) steps b a r b' a'
  unfolding reply answer_of written on_tree_steps bytes_after encode
  tree_carries (refused k) keeps a a' r T b' f₀ e = let f = rw refused_bind at f₀ in record {
    tells = f.tells;
    bytes = e ∙ ap with_tree f.bytes ∙ take-append-drop header_width b;
    text = f.text;
  }
  tree_carries (done o) keeps a a' r T b' f₀ e = let f = rw done_bind at f₀ in record {
    tells = f.tells;
    bytes = e ∙ ap₂ ◌++◌ (h.header.bytes ∙ ap (header_bytes s.setup) (sym (keeps o refl))) f.bytes;
    text = f.text;
  }

module _ {b : List ℕ} {s : State} (h : Stored b s) where
  -- steps that follow on the tree as it is lent
  pub lent_carries : (steps : Result (Outcome Store)) → ((o : Outcome Store) → steps ≡ done o → o.state.registry ≡ s.store.registry)
      → (a a' : List ℕ) (r : Answer) (T : List ℕ) → (Encodes (lent_tree b) s.store.tree → Follows (on_tree_steps steps) (lent_tree b) a r T a')
      → Carries (bytes_with s.setup) steps b a r (tree_back b T) a'
  lent_carries steps keeps a a' r T f =
      let g : Encodes (drop header_width b) s.store.tree → Follows (on_tree_steps steps) (drop header_width b) a r T a' = rw (lent_is b) at f in
      tree_carries h steps keeps a a' r T (tree_back b T) (g h.tree) (back_is b T)
