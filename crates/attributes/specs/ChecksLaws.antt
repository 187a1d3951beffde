-- The checks are those of the steps, and what was answered and left follows the steps.
--
-- In order:
--   the steps by the checks: read-checked to chown-checked, enter-checked;
--   the tests at a node, one by one: passes to passes-first;
--   the decision, from the walk and the tests at the row: tested, not-walked;
--   the text of a row: file-text to text-there;
--   the commands, from the decision: decided-refused to told-there, row-used, row-there.
use Rattle.std.specs.Prelude.{◌≡◌, List, ◌++◌, Bool, true, false, ◌||◌, ℕ, length, drop, Ok, Err, Some, None, IsErrAnd}
use Rattle.std.specs.Prelude as code
use Rattle.std.proofs.Common.{sym, ◌∙◌, ap, zero-add}
use Rattle.std.proofs.Math.Option.{none, some}
use Rattle.std.proofs.Math.Bool.{not}
use Rattle.std.proofs.Math.Seq.{take-length, paste}
use Rattle.buffers.specs.Text.{Text}
use Rattle.accounts.specs.declared.Account.{Account}
use Rattle.accounts.specs.declared.Caller.{Caller}
use Rattle.accounts.specs.declared.Gid.{Gid}
use Rattle.accounts.specs.declared.Uid.{Uid}
use Rattle.accounts.specs.declared.Right.TheVariants.{W, X}
use Rattle.syntax.specs.Number.{set_gid}
use Rattle.syntax.specs.Path.{Path, path}
use Rattle.tree.specs.declared.Kind.TheVariants.{File, Directory}
use Rattle.tree.specs.declared.Cause.{Cause}
use Rattle.tree.specs.declared.Cause.TheVariants.{Access, WrongKind, Reserved}
use Rattle.tree.specs.Result.{Result, outcome, refused, done, ◌>>=◌, ◌>>◌, require, Outcome}
use Rattle.tree.proofs.ResultLaws.{outcome_ok, outcome_err, bind_done, then_done, done_then, refused_then, done_bind, refused_bind}
use Rattle.tree.proofs.ResultLaws.{require_true, require_false, then_then, then_bind, bind_bind}
use Rattle.tree.specs.Forest.{Place, place_at, update, alter}
use Rattle.tree.specs.Node.{is_directory, Node, allows, owns, set_owner, set_group, set_mode, set_content}
use Rattle.tree.proofs.JudgeLaws.{file_is_none, directory_is_one}
use Rattle.tree.specs.Walk.{by_modes, walk}
use Rattle.tree.proofs.UpdateLaws.{walked_at}
use Rattle.tree.specs.Encoding.{encode_tree}
use Rattle.tree.specs.RowAt.{row_at, all_rows}
use Rattle.tree.specs.TreeBytes.{HasRow, Used, Encodes, Whole, PathText, Whichever, At}
use Rattle.tree.proofs.TreeBytesLaws.{used_row, at_here, at_used}
use Rattle.walks.specs.declared.Spot.{Spot}
use Rattle.walks.specs.RowBelow.{child_text_in}
use Rattle.walks.specs.RowBelowLaws.{at_child_text}
use Rattle.walks.specs.RowWalk.{walk_in}
use Rattle.walks.specs.NamesWritten.{Answers}
use Rattle.walks.specs.WalkBytes.{spot_of, Came}
use Rattle.walks.specs.WalkBytesLaws.{came_to, came_not, walk_to, walk_not, came_spot}
use Rattle.tree.specs.declared.Refusal.TheVariants.{For}
use Rattle.shell.specs.Replies.{Answer}
use Rattle.shell.specs.Steps.{text_of, run_read, run_write, run_chmod, run_chgrp, run_chown}
use Rattle.shell.specs.CommandBytes.{Follows, FollowsSilently}
use Rattle.shell.proofs.CommandBytesLaws.{passed_follows, silence_follows, text_follows}
use Rattle.attributes.specs.declared.Deed.{Deed}
use Rattle.attributes.specs.declared.Deed.TheVariants.{Read, Write, Chmod, Chgrp, Chown, Enter}
use Rattle.attributes.specs.Checks.{two_tests, may_give, tests, may_do, may_do_at, row_text}

-- ---- the steps by the checks

-- done without text, the tree changed at a path
abbrev changed : Place Node → Path → (Node → Node) → Outcome (Place Node)
changed t p g = record { text = none; state = update p (alter g) t }

then_go_on : {A B : Type 0} (r : Result (Unit {0})) (d : A) (k : A → Result B) → ((r >> done d) >>= k) ≡ (r >> k d)
then_go_on r d k = then_bind r (done d) k ∙ ap (λ x. r >> x) (done_bind d k)

-- done with the text of a place, the tree as it was
abbrev told : Place Node → Place Node → Outcome (Place Node)
told t d = record { text = some (text_of d); state = t }

-- what follows the checks follows the walk and the tests
after_tests : {B : Type 0} (a : Account) (deed : Deed) (t : Place Node) (p : Path) (k : Place Node → Result B)
    → (walk (by_modes a) t p >>= λ d. tests a deed d.here >> k d) ≡ (may_do a deed t p >>= k)
unfolding may_do
after_tests a deed t p k =
    let w = walk (by_modes a) t p in
    sym (bind_bind w (λ d. tests a deed d.here >> done d) k ∙ ap (λ f. w >>= f) (λ i d. then_go_on (tests a deed d.here) d k i))

-- two tests are made one after the other
by_two : {B : Type 0} (w : Result (Place Node)) (x y : Place Node → Result (Unit {0})) (k : Place Node → Result B)
    → (w >>= λ d. x d >> (y d >> k d)) ≡ (w >>= λ d. (x d >> y d) >> k d)
by_two w x y k = ap (λ f. w >>= f) (λ i d. sym (then_then (x d) (y d) (k d)) i)

module _ (c : Caller) (n : ℕ) (t : Place Node) (p : Path) where
  pub read_checked : run_read c n t p ≡ (may_do c.account Read t p >>= λ d. done (told t d))
  unfolding run_read tests
  read_checked = after_tests c.account Read t p (λ d. done (told t d))

  pub write_checked : (x : Text) → run_write c n t p x ≡ (may_do c.account Write t p >>= λ d. done (changed t p (set_content x)))
  unfolding run_write tests
  write_checked x =
      by_two (walk (by_modes c.account) t p) (λ d. require (not (is_directory d.here.kind)) WrongKind)
      (λ d. require (allows c.account W d.here) Access) (λ d. done (changed t p (set_content x)))
      ∙ after_tests c.account Write t p (λ d. done (changed t p (set_content x)))

  pub chmod_checked : (mode : ℕ) → run_chmod c n t p mode ≡ (may_do c.account (Chmod mode) t p >>= λ d. done (changed t p (set_mode mode)))
  unfolding run_chmod tests
  chmod_checked mode =
      by_two (walk (by_modes c.account) t p) (λ d. require (is_directory d.here.kind || not (set_gid mode)) WrongKind)
      (λ d. require (owns c.account d.here) Reserved) (λ d. done (changed t p (set_mode mode)))
      ∙ after_tests c.account (Chmod mode) t p (λ d. done (changed t p (set_mode mode)))

  pub chgrp_checked : (group : Gid) → run_chgrp c n t p group ≡ (may_do c.account (Chgrp group) t p >>= λ d. done (changed t p (set_group group)))
  unfolding run_chgrp tests may_give
  chgrp_checked group = after_tests c.account (Chgrp group) t p (λ d. done (changed t p (set_group group)))

  pub chown_checked : (owner : Uid) → run_chown c n t p owner ≡ (may_do c.account Chown t p >>= λ d. done (changed t p (set_owner owner)))
  unfolding run_chown tests
  chown_checked owner = after_tests c.account Chown t p (λ d. done (changed t p (set_owner owner)))

-- into a directory, whatever follows
pub enter_checked : {B : Type 0} (a : Account) (t : Place Node) (p : Path) (k : Place Node → Result B)
    → (walk (by_modes a) t p >>= λ d. require (is_directory d.here.kind) WrongKind >> (require (allows a X d.here) Access >> k d)) ≡ (may_do a Enter t p >>= k)
unfolding tests
enter_checked a t p k =
    by_two (walk (by_modes a) t p) (λ d. require (is_directory d.here.kind) WrongKind) (λ d. require (allows a X d.here) Access) k
    ∙ after_tests a Enter t p k

-- ---- the tests at a node

-- a test decides
pub passes : {x : Bool} (k : Cause) → x ≡ true → outcome (Ok tt) ≡ require x k
passes k e = rw (e, require_true) (outcome_ok tt)

pub fails : {x : Bool} (k : Cause) → x ≡ false → outcome (Err k) ≡ require x k
fails k e = rw (e, require_false) (outcome_err k)

module _ (x y : Bool) (k l : Cause) where
  -- so does the first of two that fails
  pub fails_first : {why : Cause} → outcome (Err why) ≡ require x k → refused why ≡ two_tests x k y l
  fails_first e = let shut = sym e ∙ outcome_err _ in sym (rw (shut, refused_then))

  -- and after one that passes the second
  pub passes_first : outcome (Ok tt) ≡ require x k → require y l ≡ two_tests x k y l
  passes_first e = let passed = sym e ∙ outcome_ok tt in sym (rw (passed, done_then))

-- ---- the decision

module _ {b : List ℕ} {t : Place Node} (tree : Encodes b t) (a : Account) (s : Text) {p : Path} (reads : path s ≡ some p) (deed : Deed)
    {w : code.Result Spot Cause} (walked : outcome w ≡ walk_in a (all_rows b) s) where
  -- after a walk that came to a row the tests of that row decide
  pub tested : {there : Spot} → w ≡ Ok there → (tests a deed (row_at b there.row).here >> done there) ≡ may_do_at a deed t p
  tested {there} e =
      let c = walk_to tree a s reads walked e in
      ap (λ (n : Node). tests a deed n >> done there) (at_here c.at)
      ∙ ap (λ (z : Spot). tests a deed c.place.here >> done z) (came_spot c)
      ∙ sym (done_bind c.place (λ d. tests a deed d.here >> done (spot_of t p)))
      ∙ sym (ap (λ (r : Result (Place Node)). r >>= λ d. tests a deed d.here >> done (spot_of t p)) c.walked)
      ∙ after_tests a deed t p (λ d. done (spot_of t p))

  -- after one that was refused nothing is tested
  pub not_walked : {k : Cause} → w ≡ Err k → refused k ≡ may_do_at a deed t p
  not_walked {k} e =
      sym (refused_bind k (λ d. tests a deed d.here >> done (spot_of t p)))
      ∙ sym (ap (λ (r : Result (Place Node)). r >>= λ d. tests a deed d.here >> done (spot_of t p)) (walk_not tree a s reads walked e))
      ∙ after_tests a deed t p (λ d. done (spot_of t p))

-- ---- the text of a row

pub file_text : (b : List ℕ) (i : ℕ) → (row_at b i).here.kind ≡ File → (row_at b i).here.content ≡ row_text b i
unfolding row_text
file_text b i e = rw (e, file_is_none)

pub directory_text : (b : List ℕ) (i : ℕ) → (row_at b i).here.kind ≡ Directory → child_text_in (all_rows b) i ≡ row_text b i
unfolding row_text
directory_text b i e = rw (e, directory_is_one)

-- a text written in front
pub front_written : (a t : List ℕ) → paste a 0 t (length t) ≡ t ++ drop (length t) a
front_written a t = rw (take-length t, zero-add (length t))

-- an answer with a text is one with an equal text
pub answers_with : {x y : Text} (a : List ℕ) {b : List ℕ} {n : ℕ} → x ≡ y → Answers x a n b → Answers y a n b
answers_with a e h = rw (← e) h

-- the text of a place's row is the place's
text_there : {b : List ℕ} {t : Place Node} {p : Path} {i : ℕ} {d : Place Node} → At b t p i d → row_text b i ≡ text_of d
unfolding row_text text_of
text_there a = rw (at_here a, at_child_text a)

-- ---- the commands

-- the checks that are passed lead to the place
leads : (a : Account) (deed : Deed) (t : Place Node) (p : Path) (d : Place Node) → may_do a deed t p ≡ done d → place_at t p ≡ some d
unfolding may_do
leads a deed t p d e =
    let i = bind_done (walk (by_modes a) t p) (λ x. tests a deed x.here >> done x) e in
    let j = then_done (tests a deed i.0.here) (done i.0) i.2 in
    let q : i.0 ≡ d = cc j.1 in
    walked_at t (by_modes a) p i.0 i.1 ∙ ap some q

module _ {b : List ℕ} {t : Place Node} (tree : Encodes b t) (a : Account) (deed : Deed) (p : Path) {r : code.Result Spot Cause}
    (same : outcome r ≡ may_do_at a deed t p) where
  pub came_there : {there : Spot} → r ≡ Ok there → Came b t p (may_do a deed t p) there.row there.above
  came_there e = came_to tree (may_do a deed t p) p same (leads a deed t p) e

  module _ {B : Type 0} (k : Place Node → Result B) where
    -- a refused decision is the refusal of all that follows
    pub decided_refused : {cause : Cause} → r ≡ Err cause → (may_do a deed t p >>= k) ≡ refused cause
    decided_refused {cause} e = ap (λ (x : Result (Place Node)). x >>= k) (came_not tree (may_do a deed t p) p same e) ∙ refused_bind cause k

    -- after one that is not it goes on at the row's place
    pub decided_there : {there : Spot} (e : r ≡ Ok there) → (may_do a deed t p >>= k) ≡ k (came_there e).place
    decided_there e = let c = came_there e in ap (λ (x : Result (Place Node)). x >>= k) c.walked ∙ done_bind c.place k

  module _ {steps : Result (Outcome (Place Node))} (k : Place Node → Outcome (Place Node))
      (checked : steps ≡ (may_do a deed t p >>= λ d. done (k d))) where
    pub refused_there : {cause : Cause} {x : Answer} → r ≡ Err cause → IsErrAnd x (λ e. e ≡ For cause) → FollowsSilently steps b x b
    refused_there e passed = passed_follows b passed (checked ∙ decided_refused (λ d. done (k d)) e)

    done_there : {there : Spot} (e : r ≡ Ok there) → steps ≡ done (k (came_there e).place)
    done_there e = checked ∙ decided_there (λ d. done (k d)) e

  module _ {steps : Result (Outcome (Place Node))} {there : Spot} (e : r ≡ Ok there) where
    -- one node changed
    pub changed_there : (g : Node → Node) → steps ≡ (may_do a deed t p >>= λ d. done (changed t p g))
        → (b' : List ℕ) → ((d : Place Node) → At b t p there.row d → b' ≡ encode_tree (update p (alter g) t)) → FollowsSilently steps b (Ok None) b'
    changed_there g checked b' is =
        let c = came_there e in
        silence_follows b b' (done_there (λ d. changed t p g) checked e) (is c.place c.at)

    -- the text of the place told
    pub told_there : steps ≡ (may_do a deed t p >>= λ d. done (told t d))
        → (s s' : List ℕ) (n : ℕ) → Answers (row_text b there.row) s n s' → Follows steps b s (Ok (Some n)) b s'
    told_there checked s s' n is =
        let c = came_there e in
        let text = answers_with s (text_there c.at) is in
        text_follows b s s' (text_of c.place) n (done_there (told t) checked e) tree.bytes text.0 text.1

module _ {b : List ℕ} (s : Text) (whole : Whole b) (reads : PathText s) (a : Account) (deed : Deed) {r : code.Result Spot Cause}
    (decided : Whichever b s (λ t p. outcome r ≡ may_do_at a deed t p)) {there : Spot} (e : r ≡ Ok there) where
  -- a row that was decided on is one of the tree's
  pub row_used : Used b there.row
  row_used = at_used (came_there whole.1 a deed reads.0 (decided whole.0 reads.0 whole.1 reads.1) e).at

  pub row_there : HasRow b there.row
  row_there = used_row row_used
