-- What the calls are where the code answers: at each refusal before a command, and where a command or a listing was carried out.
--
-- In order: setup (unset-elsewhere, made-called); before a command or a listing (short-call, unsound-call, sound-call); a command
-- carried out (carried-call) and a line of the listing written (line-called).
use Rattle.std.specs.Prelude.{◌≡◌, List, ◌++◌, true, false, ℕ, ◌-◌, ◌≤◌, ◌<◌, length, take, drop, Ok, Err, Some, None}
use Rattle.std.proofs.Math.Path.{refl, ap}
use Rattle.std.proofs.Common.{sym, ◌∙◌, arith, length-drop, take_all}
use Rattle.std.proofs.Math.Option.{none, some}
use borrow.Author.Tests.{le-leb, lt-leb, eq-eqb, ne_eqb}
use Rattle.std.proofs.Math.ListN.{get_elem?}
use Rattle.buffers.specs.Text.{Text}
use Rattle.syntax.specs.Form.{is_some}
use Rattle.syntax.proofs.FormLaws.{is_none, the_some}
use Rattle.setup.specs.Setup.{Setup, SetupAnswer, accepted, wrong_line, setup}
use Rattle.tree.specs.declared.Cause.{Cause}
use Rattle.tree.specs.declared.Cause.TheVariants.{Missing, Unsound, ShortAnswer}
use Rattle.tree.specs.Result.{Result, refused, done, ◌>>=◌, Outcome}
use Rattle.tree.proofs.ResultLaws.{present_of, present_none, done_bind, refused_bind, done_then, refused_then, require_true, require_false}
use Rattle.tree.specs.TreeBytes.{Encodes}
use Rattle.tree.specs.declared.Refusal.TheVariants.{For, WrongLine}
use Rattle.shell.specs.Replies.{reply, after, answer_of, written, Answer}
use Rattle.shell.specs.CommandBytes.{bytes_after, Carries}
use Rattle.store.specs.HeaderLayout.{header_width}
use Rattle.store.specs.State.{Store, State}
use Rattle.store.specs.StoreBytes.{store_width, decode}
use Rattle.store.proofs.StoreBytesLaws.{decode_length}
use Rattle.store.proofs.DecodeLaws.{tree_read}
use Rattle.machine.proofs.RunsLaws.{least_room_is}
use Rattle.listing.specs.Listing.{listing}
use Rattle.calls.specs.Calls.{set_up, setup_call, Called, called, encoded, on_state, listing_on, listing_result, listing_call}
use Rattle.stored_header.specs.Stored.{bytes_with}
use Rattle.setups.specs.Making.{TextRead, TextDone, text_as, store_made}
use Rattle.library.specs.CallBytes.{set_up_as, called_as}

-- ---- setup

-- the answer to a setup text that was read
unfoldable pub setup_told : TextRead → Answer
setup_told (Ok u) = Ok None
setup_told (Err n) = Err (WrongLine n.0)

module _ (b : List ℕ) (text : Text) where
  -- what is made of a text is what the call says of its answer
  set_up_made : (a : SetupAnswer) → set_up_as (setup_told (store_made b a).answer) (store_made b a).bytes ≡ set_up b a
  unfolding store_made set_up setup_told
  set_up_made (accepted u) = refl
  set_up_made (wrong_line n) = refl

  -- a buffer of another length is refused by 18
  pub unset_elsewhere : (length b ≡ 65536 → ⊥) → set_up_as (Err (For Unsound)) b ≡ setup_call b text
  unfolding setup_call store_width
  unset_elsewhere h = rw (ne_eqb (length b) 65536 h)

  -- the code's answer to a text of the right length, whatever it is
  pub made_called : (r : TextRead) (b' : List ℕ) → length b ≡ 65536 → text_as r b' ≡ store_made b (setup text) → set_up_as (setup_told r) b' ≡ setup_call b text
  unfolding setup_call store_width
  made_called r b' h e = ap (λ (x : TextDone). set_up_as (setup_told x.answer) x.bytes) e ∙ set_up_made (setup text) ∙ rw (eq-eqb (length b) 65536 h)

-- ---- before a command or a listing

module _ (b a : List ℕ) where
  -- what is refused leaves both buffers
  pub refused_call : {r : Result (Outcome (List ℕ))} {k : Cause} → r ≡ refused k → called_as (Err (For k)) b a ≡ called b a r
  unfolding called answer_of written reply after
  refused_call e = rw e

  module _ (act : State → Result (Outcome (List ℕ))) where
    -- an answer buffer that is too short
    pub short_call : length a < 4096 → on_state b (length a) act ≡ refused ShortAnswer
    unfolding on_state
    short_call l = rw (least_room_is, lt-leb 4096 (length a) l, require_false, refused_then)

    -- bytes that are no state's
    pub unsound_call : 4096 ≤ length a → decode b ≡ none → on_state b (length a) act ≡ refused Unsound
    unfolding on_state
    unsound_call l e = rw (least_room_is, le-leb 4096 (length a) l, require_true, done_then, e, present_none, refused_bind)

    -- those of a state
    pub sound_call : (s : State) → 4096 ≤ length a → decode b ≡ some s → on_state b (length a) act ≡ act s
    unfolding on_state
    sound_call s l e = rw (least_room_is, le-leb 4096 (length a) l, require_true, done_then, e, present_of, done_bind)

-- ---- carried out

-- a command that was carried out on the store
pub carried_call : (u : Setup) (b a : List ℕ) (steps : Result (Outcome Store)) {r : Answer} {b' a' : List ℕ} → Carries (bytes_with u) steps b a r b' a'
    → called_as r b' a' ≡ called b a (steps >>= λ o. done (encoded u o))
unfolding called reply after answer_of written bytes_after encoded
carried_call u b a (refused k) f = rw refused_bind (λ i. called_as (f.tells i) (f.bytes i) (f.text i))
carried_call u b a (done o) f = rw done_bind (λ i. called_as (f.tells i) (f.bytes i) (f.text i))

module _ (b a : List ℕ) (n : ℕ) (s : State) where
  -- a line of the listing in front of the answer buffer
  pub line_called : (x : Text) (m : ℕ) (a' : List ℕ) → get_elem? (listing s.store.tree) n ≡ some x → m ≡ length x → a' ≡ x ++ drop (length x) a
      → called_as (Ok (Some m)) b a' ≡ called b a (listing_on b n s)
  unfolding called reply after answer_of written listing_on
  line_called x m a' e l q = rw (e, present_of, done_bind) (λ i. called_as (Ok (Some (l i))) b (q i))

  -- past the last there is none
  pub no_listed_line : get_elem? (listing s.store.tree) n ≡ none → listing_on b n s ≡ refused Missing
  unfolding listing_on
  no_listed_line e = rw (e, present_none, refused_bind)

-- ---- a listing

module _ (b a : List ℕ) (n : ℕ) where
  pub listing_short : length a < 4096 → called_as (Err (For ShortAnswer)) b a ≡ listing_call b n a
  unfolding listing_call listing_result
  listing_short l = refused_call b a (short_call b a (listing_on b n) l)

  pub listing_unsound : 4096 ≤ length a → is_some (decode b) ≡ false → called_as (Err (For Unsound)) b a ≡ listing_call b n a
  unfolding listing_call listing_result
  listing_unsound l e = refused_call b a (unsound_call b a (listing_on b n) l (is_none (decode b) e))

  -- of the state that the bytes are read as
  pub listing_sound : {x : Called} → 4096 ≤ length a → is_some (decode b) ≡ true
      → ((s : State) → decode b ≡ some s → x ≡ called b a (listing_on b n s)) → x ≡ listing_call b n a
  unfolding listing_call listing_result
  listing_sound l e k =
      let s = the_some (decode b) e in
      k s.0 s.1 ∙ ap (called b a) (sym (sound_call b a (listing_on b n) s.0 l s.1))

-- the tree of a sound store, as a part that ends with the store
pub tree_part : (b : List ℕ) (s : State) → decode b ≡ some s → Encodes (take (length b - header_width) (drop header_width b)) s.store.tree
tree_part b s e = rw (take_all (length b - header_width) (drop header_width b) (omega (arith, length-drop header_width b))) (tree_read b s e)

-- a sound store has room for its header
pub store_reaches : (b : List ℕ) → is_some (decode b) ≡ true → header_width ≤ length b
unfolding store_width
store_reaches b e = let s = the_some (decode b) e in omega (arith, decode_length b s.0 s.1)
