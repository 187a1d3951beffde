-- What the code of `commit` and `up` goes by: tests at a row are those at its place, rows that were found are those of the nodes that the
-- steps lead to, and each change of the bytes is that of the tree.
--
-- In order:
--   tests before an answer: tests_then, passing_barred, passing_done;
--   the walk to a node that passes tests, as to a file: judged-came to file-walked;
--   from a working file to its entry: has-tag to entry-refused;
--   with the person's tests before: link-at-came, link-at-refused; and the person's walk: link-came, link-refused;
--   what an answer says, links-not, links-to, and what a link is: Link-facts to link-linked;
--   `commit`: commit-came to revision-below;
--   the changes: commit-law, up-law.
use Rattle.std.specs.Prelude.{◌≡◌, refl, true, false, not, ℕ, suc, ◌<◌, eqb, length, Ok, Err}
use Rattle.std.specs.Prelude as code
use Rattle.std.proofs.Math.Path.{sym, ap}
use Rattle.std.proofs.Common.{◌∙◌, arith, leb-true, le-leb}
use mathlib.Core.List.{List}
use Rattle.std.proofs.Math.Option.{none, some}
use Rattle.std.proofs.lemmas.Bool.{not-true, eqb-false}
use Rattle.buffers.specs.TextLaws.{no_bytes}
use Rattle.buffers.specs.Fields.{two_bytes}
use Rattle.accounts.specs.declared.Account.{Account}
use Rattle.accounts.specs.declared.Right.{Right}
use Rattle.accounts.specs.declared.Right.TheVariants.{R, W}
use Rattle.syntax.specs.Path.{Path, parent, in_rep, entry_location, path}
use Rattle.syntax.proofs.PathLaws.{entry_reads}
use Rattle.tree.specs.declared.Cause.{Cause}
use Rattle.tree.specs.declared.Cause.TheVariants.{Access, WrongKind, Stale, Untagged, RevisionsSpent}
use Rattle.tree.specs.Layout.{revision_offset, tag_revision_offset, content_offset}
use Rattle.tree.specs.Result.{Result, outcome, refused, done, ◌>>=◌, ◌>>◌, require, present}
use Rattle.tree.proofs.ResultLaws.{not_done, by_result, outcome_ok, outcome_err, present_some, present_of, present_none, required, bind_done, then_done, refused_before, done_then, refused_then, done_bind, refused_bind, then_bind}
use Rattle.tree.specs.Forest.{Place, update, alter}
use Rattle.tree.specs.Node.{is_directory, Tag, Node, allows, set_revision, set_tag, set_content}
use Rattle.tree.proofs.NodeLaws.{node_ranges, node_of_revision, node_of_tag, node_of_content, kind_of_set_revision, kind_of_set_tag, kind_of_set_content}
use Rattle.tree.proofs.JudgeLaws.{set_revision_is, set_tag_is, set_content_is}
use Rattle.tree.specs.Walk.{by_modes, walk}
use Rattle.tree.proofs.StepLaws.{walked}
use Rattle.tree.specs.WellFormed.{last_revision, is_node}
use Rattle.tree.proofs.WellFormedLaws.{place_node, place_below, tree_parts}
use Rattle.tree.proofs.UpdateLaws.{by_option, walked_at}
use Rattle.tree.proofs.AlterLaws.{alter_twice, alter_alike, altered_at, kept_part}
use Rattle.tree.specs.Encoding.{encode_tree}
use Rattle.tree.specs.RowAt.{row_at, tag_text_at, tag_number_at}
use Rattle.tree.specs.TreeBytes.{HasRow, Encodes, At, PathText}
use Rattle.tree.proofs.TreeBytesLaws.{used_row, at_used, at_here}
use Rattle.tree.proofs.TagBytesLaws.{tag_reads, tag_written, tag_blank}
use Rattle.edits.specs.Changes.{field_put, content_field}
use Rattle.node_fields.specs.FieldEditLaws.{revision_law, tag_revision_law, copy_content_law}
use Rattle.copying.proofs.CopyRowLaws.{row_held}
use Rattle.walks.specs.declared.Spot.{Spot}
use Rattle.walks.specs.RowWalk.{spot}
use Rattle.walks.specs.WalkBytes.{spot_of, Came, spot_from}
use Rattle.walks.specs.WalkBytesLaws.{came_to, came_not, came_spot}
use Rattle.machine.specs.Working.{tagged}
use Rattle.machine.specs.StoreMachine.{next_node}
use Rattle.entries.specs.declared.LinkRows.{LinkRows}
use Rattle.entries.specs.EntrySteps.{file_tests, judged_walk, file_walk, Link, link_on, link_at, link, commit_tests, commit_at, after_commit, after_up, link_rows, three_rows, link_rows_from, passing, Linked}

-- ---- steps and tests

-- tests before an answer, and before the step to it
pub tests_then : {A B : Type 0} (r : Result (Unit {0})) (d : A) (f : A → B) → (r >> done (f d)) ≡ ((r >> done d) >>= λ y. done (f y))
tests_then {B = B} r d f = sym (then_bind r (done d) (λ y. done (f y)) ∙ ap (λ (k : Result B). r >> k) (done_bind d (λ y. done (f y))))

-- what comes of an answer where tests that were done as code refuse it, and where they pass
module _ {A : Type 0} {tests : Result (Unit {0})} (x : A) where
  pub passing_barred : {k : Cause} → outcome (Err k) ≡ tests → refused k ≡ passing tests x
  passing_barred {k} e = rw (← e, outcome_err, refused_then)

  pub passing_done : outcome (Ok tt) ≡ tests → done x ≡ passing tests x
  passing_done e = rw (← e, outcome_ok, done_then)

-- tests that are refused before an answer
tests_refused : {A : Type 0} (r : Result (Unit {0})) (x : A) {k : Cause} → passing r x ≡ refused k → r ≡ refused k
tests_refused r x {k} e =
    by_result r
    (λ c q. let s : refused c ≡ refused k = rw (q, refused_then) at e in let z : c ≡ k = cc in q ∙ ap refused z)
    (λ u q. not_done (sym (rw (q, done_then) at e)))

-- a place has a row, and its node is in range
module _ {b : List ℕ} {t : Place Node} {p : Path} {i : ℕ} {d : Place Node} (a : At b t p i d) where
  pub at_has_row : HasRow b i
  at_has_row = used_row (at_used a)

  pub at_node : is_node d.here ≡ true
  at_node = place_node d (place_below t p d (tree_parts t a.tree.whole).whole a.there)

-- a row has room where the length stays
pub has_still : {b b' : List ℕ} {i : ℕ} → HasRow b i → length b' ≡ length b → HasRow b' i
has_still h e = record { room = omega (arith, h.room) }

-- ---- the walk to a node that passes tests

module _ (a : Account) (tests : Node → Result (Unit {0})) (t : Place Node) (p : Path) where
  -- the tests at the row that a walk came to are those of the judged walk
  pub judged_came : {b : List ℕ} {row above : ℕ} {x : Result Spot} → Came b t p (walk (by_modes a) t p) row above
      → x ≡ passing (tests (row_at b row).here) (spot row above) → x ≡ spot_from t p (judged_walk a tests t p)
  unfolding judged_walk
  judged_came c o =
      o ∙ rw (at_here c.at, came_spot c, c.walked, done_bind c.place (λ (d : Place Node). tests d.here >> done d))
      (tests_then (tests c.place.here) c.place (λ d. spot_of t p))

  pub judged_refused : {k : Cause} → walk (by_modes a) t p ≡ refused k → refused k ≡ spot_from t p (judged_walk a tests t p)
  unfolding judged_walk
  judged_refused {k} e = rw (e, refused_bind k (λ (d : Place Node). tests d.here >> done d), refused_bind k (λ (d : Place Node). done (spot_of t p)))

  -- it leads where the walk leads, and the tests pass there
  judged_walked : {d : Place Node} → judged_walk a tests t p ≡ done d → (walk (by_modes a) t p ≡ done d) × (tests d.here ≡ done tt)
  unfolding judged_walk
  judged_walked {d} e =
      let w = bind_done (walk (by_modes a) t p) (λ x. tests x.here >> done x) e in
      let v = then_done (tests w.0.here) (done w.0) w.2 in
      let q : d ≡ w.0 = cc v.1 in
      rw q (w.1, v.0)

  module _ {b : List ℕ} (tree : Encodes b t) {r : code.Result Spot Cause} (o : outcome r ≡ spot_from t p (judged_walk a tests t p)) where
    pub judged_to : {s : Spot} → r ≡ Ok s → Came b t p (judged_walk a tests t p) s.row s.above
    judged_to e = came_to tree (judged_walk a tests t p) p o (λ d w. walked_at t (by_modes a) p d (judged_walked w).0) e

    pub judged_not : {k : Cause} → r ≡ Err k → judged_walk a tests t p ≡ refused k
    judged_not e = came_not tree (judged_walk a tests t p) p o e

-- the tests of a file pass at a file
file_plain : (a : Account) (right : Right) (n : Node) → file_tests a right n ≡ done tt → is_directory n.kind ≡ false
unfolding file_tests
file_plain a right n e =
    let i = then_done (require (not (is_directory n.kind)) WrongKind) (require (allows a right n) Access) e in
    not-true (is_directory n.kind) (required (not (is_directory n.kind)) WrongKind i.0)

-- ---- from a working file to its entry

-- no tag
link_on_missing : (account : Account) (t : Place Node) (p : Path) (d : Place Node) → d.here.tag ≡ none → link_on account t p d ≡ refused Untagged
unfolding link_on
link_on_missing account t p d e = simp (e, present_none, refused_bind)

module _ (account : Account) (t : Place Node) (p : Path) (d : Place Node) {g : Tag} (e : d.here.tag ≡ some g) where
  link_on_goes : link_on account t p d ≡ (file_walk account R t (entry_location g.path) >>= λ x. done (record { path = p; found = d; tag = g; filed = x }))
  unfolding link_on
  link_on_goes = simp (e, present_of, done_bind)

  link_on_done : {x : Place Node} → file_walk account R t (entry_location g.path) ≡ done x
      → link_on account t p d ≡ done (record { path = p; found = d; tag = g; filed = x })
  link_on_done w = link_on_goes ∙ rw (w, done_bind)

  link_on_refused : {k : Cause} → file_walk account R t (entry_location g.path) ≡ refused k → link_on account t p d ≡ refused k
  link_on_refused w = link_on_goes ∙ rw (w, refused_bind)

module _ {b : List ℕ} {t : Place Node} {p : Path} {i : ℕ} {d : Place Node} (a : At b t p i d) where
  -- a text at the row is a tag's
  has_tag : (length (tag_text_at b i) ≡ 0 → ⊥) → (g : Tag) × (d.here.tag ≡ some g)
  has_tag n = by_option d.here.tag
      (λ z. absurd (n (ap length (tag_blank a (row_held b t i a.tree (at_used a).used).bytes z))))
      (λ g e. (g, e))

  -- which reads as the entry's location
  tag_located : (g : Tag) → d.here.tag ≡ some g → path (tag_text_at b i) ≡ some (entry_location g.path)
  tag_located g e = entry_reads (tag_text_at b i) g.path (tag_reads a g e).0

  pub tag_path : (length (tag_text_at b i) ≡ 0 → ⊥) → PathText (tag_text_at b i)
  tag_path n = let g = has_tag n in (entry_location g.0.path, tag_located g.0 g.1)

  module _ (account : Account) where
    -- nothing at the row is no tag
    pub entry_untagged : length (tag_text_at b i) ≡ 0 → refused Untagged ≡ link_rows_from t (link_on account t p d)
    entry_untagged z =
        let none_there : d.here.tag ≡ none = by_option d.here.tag (λ e. e) (λ g e. absurd (tag_written a g e (no_bytes (tag_text_at b i) z))) in
        sym (ap (link_rows_from t) (link_on_missing account t p d none_there) ∙ refused_bind Untagged (λ (l : Link). done (link_rows t l)))

    module _ (n : length (tag_text_at b i) ≡ 0 → ⊥) {r : code.Result Spot Cause}
        (o : (q : Path) → path (tag_text_at b i) ≡ some q → outcome r ≡ spot_from t q (file_walk account R t q)) where
      -- the entry's row
      pub entry_came : {s : Spot} → r ≡ Ok s → done (three_rows i s.row s.above) ≡ link_rows_from t (link_on account t p d)
      unfolding link_rows
      entry_came {s} e =
          let g = has_tag n in
          let c = judged_to account (file_tests account R) t (entry_location g.0.path) a.tree (o (entry_location g.0.path) (tag_located g.0 g.1)) e in
          let l : Link = record { path = p; found = d; tag = g.0; filed = c.place } in
          let on = link_on_done account t p d g.1 c.walked in
          let rows : done (three_rows i s.row s.above) ≡ done (link_rows t l) = λ j. done (record { working = a.row j; entry = c.at.row j; above = c.over_at.row j }) in
          rows ∙ sym (ap (λ (x : Result Link). x >>= λ y. done (link_rows t y)) on ∙ done_bind l (λ y. done (link_rows t y)))

      pub entry_refused : {k : Cause} → r ≡ Err k → refused k ≡ link_rows_from t (link_on account t p d)
      entry_refused {k} e =
          let g = has_tag n in
          let q = entry_location g.0.path in
          let on = link_on_refused account t p d g.1 (judged_not account (file_tests account R) t q a.tree (o q (tag_located g.0 g.1)) e) in
          sym (ap (λ (x : Result Link). x >>= λ y. done (link_rows t y)) on ∙ refused_bind k (λ y. done (link_rows t y)))

-- ---- the person's part before

module _ (person account : Account) (right : Right) {b : List ℕ} {t : Place Node} {w : Path} {row : ℕ} {d : Place Node} (at : At b t w row d) {r : code.Result (Unit {0}) Cause}
    (o : outcome r ≡ file_tests person right (row_at b row).here) where
  -- the tests at the row are those at its place, and after them comes the account's part
  pub link_at_came : {x : Result LinkRows} → r ≡ Ok tt → x ≡ link_rows_from t (link_on account t w d)
      → x ≡ link_rows_from t (link_at person right account t w d)
  unfolding link_at
  link_at_came e f =
      let passed = sym o ∙ ap outcome e ∙ outcome_ok tt in
      f ∙ rw (ap (file_tests person right) (sym (at_here at)) ∙ passed, done_then)

  pub link_at_refused : {k : Cause} → r ≡ Err k → refused k ≡ link_rows_from t (link_at person right account t w d)
  unfolding link_at
  link_at_refused {k} e =
      let barred = sym o ∙ ap outcome e ∙ outcome_err k in
      rw (ap (file_tests person right) (sym (at_here at)) ∙ barred, refused_then) (sym (refused_bind k (λ (l : Link). done (link_rows t l))))

module _ (person account : Account) (right : Right) (t : Place Node) (w : Path) where
  -- from the row on to which the walk led
  pub link_came : {d : Place Node} {x : Result LinkRows} → walk (by_modes person) t w ≡ done d → x ≡ link_rows_from t (link_at person right account t w d)
      → x ≡ link_rows_from t (link person right account t w)
  unfolding link
  link_came e o = o ∙ rw (e, done_bind)

  pub link_refused : {k : Cause} → walk (by_modes person) t w ≡ refused k → refused k ≡ link_rows_from t (link person right account t w)
  unfolding link
  link_refused {k} e = rw (e, refused_bind) (sym (refused_bind k (λ (l : Link). done (link_rows t l))))

-- what an answer says of the steps to a link
module _ (t : Place Node) (steps : Result Link) {r : code.Result LinkRows Cause} (o : outcome r ≡ link_rows_from t steps) where
  pub links_not : {k : Cause} → r ≡ Err k → steps ≡ refused k
  links_not {k} e = refused_before steps (link_rows t) (sym o ∙ ap outcome e ∙ outcome_err k)

  pub links_to : {s : LinkRows} → r ≡ Ok s → (l : Link) × (steps ≡ done l) × (link_rows t l ≡ s)
  links_to {s} e =
      let v = bind_done steps (λ l. done (link_rows t l)) (sym o ∙ ap outcome e ∙ outcome_ok s) in
      let q : link_rows t v.0 ≡ s = cc v.2 in
      (v.0, v.1, q)

-- what a link is: the working file found, and where the account's walk leads
pub record LinkFacts (account : Account) (t : Place Node) (w : Path) (d : Place Node) (l : Link) : Type 0 where
  pub path : l.path ≡ w
  pub found : l.found ≡ d
  pub plain : is_directory d.here.kind ≡ false
  pub tagged : d.here.tag ≡ some l.tag
  pub filed : walk (by_modes account) t (entry_location l.tag.path) ≡ done l.filed
  pub original_plain : is_directory l.filed.here.kind ≡ false

pub link_facts : (person account : Account) (right : Right) (t : Place Node) (w : Path) (d : Place Node) {l : Link}
    → link_at person right account t w d ≡ done l → LinkFacts account t w d l
unfolding link_at link_on
link_facts person account right t w d {l} e =
    let made : Tag → Place Node → Link = λ g y. record { path = w; found = d; tag = g; filed = y } in
    let x = then_done (file_tests person right d.here) (link_on account t w d) e in
    let y = bind_done (present d.here.tag Untagged) (λ g. file_walk account R t (entry_location g.path) >>= λ v. done (made g v)) x.1 in
    let q = entry_location y.0.path in
    let z = bind_done (file_walk account R t q) (λ v. done (made y.0 v)) y.2 in
    let g = judged_walked account (file_tests account R) t q z.1 in
    let is : l ≡ made y.0 z.0 = cc z.2 in
    rw is (record {
      path = refl;
      found = refl;
      plain = file_plain person right d.here x.0;
      tagged = present_some d.here.tag Untagged y.1;
      filed = g.0;
      original_plain = file_plain account R z.0.here g.1;
    })

module _ (person account : Account) (right : Right) {b : List ℕ} {t : Place Node} {w : Path} {j : ℕ} {d : Place Node} (at : At b t w j d) {l : Link} {s : LinkRows}
    (e : link_at person right account t w d ≡ done l) (rows : link_rows t l ≡ s) where
  -- its rows are linked
  pub linked : Linked b t l s.working s.entry
  unfolding link_rows
  linked =
      let f = link_facts person account right t w d e in
      record {
        file = record { tree = at.tree; there = rw (f.path, f.found) at.there; row = sym (ap (λ (x : LinkRows). x.working) rows) };
        tagged = rw f.found f.tagged;
        original = record {
          tree = at.tree;
          there = walked_at t (by_modes account) (entry_location l.tag.path) l.filed f.filed;
          row = sym (ap (λ (x : LinkRows). x.entry) rows);
        };
        plain = rw f.found f.plain;
        original_plain = f.original_plain;
      }

  -- and the third is that of the directory above the entry
  pub linked_above : (o : Place Node) × (walk (by_modes account) t (in_rep l.tag.path.folder) ≡ done o) × At b t (in_rep l.tag.path.folder) s.above o
  unfolding link_rows entry_location parent
  linked_above =
      let p = in_rep l.tag.path.folder in
      let v = walked (by_modes account) t p l.tag.path.name (link_facts person account right t w d e).filed in
      (v.0, v.1, record { tree = at.tree; there = walked_at t (by_modes account) p v.0 v.1; row = sym (ap (λ (x : LinkRows). x.above) rows) })

-- the rows of a link that a walk led to
pub link_linked : (person account : Account) (right : Right) {b : List ℕ} {t : Place Node} (w : Path) {l : Link} {s : LinkRows} → Encodes b t
    → link person right account t w ≡ done l → link_rows t l ≡ s → Linked b t l s.working s.entry
unfolding link
link_linked person account right {t = t} w tree e rows =
    let x = bind_done (walk (by_modes person) t w) (λ d. link_at person right account t w d) e in
    linked person account right (record { tree = tree; there = walked_at t (by_modes person) w x.0 x.1; row = refl }) x.2 rows

-- ---- `commit`

module _ (person account : Account) {b : List ℕ} {t : Place Node} {w : Path} {j : ℕ} {d : Place Node} (at : At b t w j d) where
  -- the tests at the rows are those at the nodes
  pub commit_came : {l : Link} {s : LinkRows} {x : Result LinkRows} → link_at person R account t w d ≡ done l → link_rows t l ≡ s
      → x ≡ passing (commit_tests account (row_at b s.above).here (tag_number_at b s.working) (row_at b s.entry).here.revision) s
      → x ≡ link_rows_from t (commit_at person account t w d)
  unfolding commit_at
  commit_came {l} {s} e rows o =
      let x = linked person account R at e rows in
      let above = linked_above person account R at e rows in
      let v = above.0 in
      let tests = commit_tests account v.here l.tag.revision l.filed.here.revision in
      let goes : commit_at person account t w d ≡ (tests >> done l) = rw (e, done_bind, above.1, done_bind) in
      o ∙ rw (at_here above.2, at_here x.original, (tag_reads x.file l.tag x.tagged).1)
      (ap (λ (y : LinkRows). tests >> done y) (sym rows) ∙ tests_then tests l (link_rows t) ∙ ap (λ (y : Result Link). y >>= λ z. done (link_rows t z)) (sym goes))

  pub commit_refused : {k : Cause} → link_at person R account t w d ≡ refused k → refused k ≡ link_rows_from t (commit_at person account t w d)
  unfolding commit_at
  commit_refused {k} e = rw (e, refused_bind) (sym (refused_bind k (λ (x : Link). done (link_rows t x))))

-- where they pass, the nodes are linked and the entry's revision is not the last
pub commit_parts : (person account : Account) (t : Place Node) (w : Path) (d : Place Node) {l : Link} → commit_at person account t w d ≡ done l
    → (link_at person R account t w d ≡ done l) × (eqb l.filed.here.revision last_revision ≡ false)
unfolding commit_at commit_tests
commit_parts person account t w d {l} e =
    let tests : Link → Place Node → Result (Unit {0}) = λ y v. commit_tests account v.here y.tag.revision y.filed.here.revision in
    let x = bind_done (link_at person R account t w d) (λ y. walk (by_modes account) t (in_rep y.tag.path.folder) >>= λ v. tests y v >> done y) e in
    let m = x.0 in
    let y = bind_done (walk (by_modes account) t (in_rep m.tag.path.folder)) (λ v. tests m v >> done m) x.2 in
    let z = then_done (tests m y.0) (done m) y.2 in
    let u = m.filed.here.revision in
    let spent = require (not (eqb u last_revision)) RevisionsSpent in
    let first = then_done (require (allows account W y.0.here) Access) (require (eqb m.tag.revision u) Stale >> spent) z.0 in
    let second = then_done (require (eqb m.tag.revision u) Stale) spent first.1 in
    let q : l ≡ m = cc z.1 in
    rw q (x.1, not-true (eqb u last_revision) (required (not (eqb u last_revision)) RevisionsSpent second.1))

-- so the next is in range
pub revision_below : {b : List ℕ} {t : Place Node} {q : Path} {k : ℕ} {d : Place Node} (a : At b t q k d) → eqb d.here.revision last_revision ≡ false
    → (row_at b k).here.revision < last_revision
revision_below {d = d} a e =
    let v = d.here.revision in
    let low = leb-true v last_revision (node_ranges d.here (at_node a)).revision in
    rw (at_here a) (omega (arith, low, eqb-false v last_revision e))

-- ---- the changes of `commit` and `up`

module _ {b : List ℕ} {t : Place Node} {l : Link} {i k : ℕ} (x : Linked b t l i k) where
  -- content and revision of the entry, then the tag of the working file, which may be the same node
  pub commit_law : (next : ℕ) → next ≡ suc l.filed.here.revision → l.filed.here.revision < last_revision
      → {b₁ b₂ b₃ : List ℕ} → b₁ ≡ field_put b k content_offset (content_field b i) → b₂ ≡ field_put b₁ k revision_offset (two_bytes next)
      → b₃ ≡ field_put b₂ i tag_revision_offset (two_bytes next) → b₃ ≡ encode_tree (after_commit t l)
  unfolding after_commit next_node
  commit_law next n low {b₁} {b₂} {b₃} h₁ h₂ h₃ =
      let q = entry_location l.tag.path in
      let c = l.found.here.content in
      let y = l.filed.here in
      let own = at_node x.original in
      let filled = node_of_content c y own x.original_plain (node_ranges l.found.here (at_node x.file)).content in
      let e₁ = h₁ ∙ copy_content_law x.original x.file in
      let k₁ = altered_at x.original (set_content c) x.original.there filled (kind_of_set_content c y) e₁ in
      let one : update q (alter (set_revision next)) (update q (alter (set_content c)) t) ≡ update q (alter (next_node c)) t =
      alter_twice q (set_revision next) (set_content c) t
      ∙ alter_alike t q l.filed (λ z. set_revision next (set_content c z)) (next_node c) x.original.there (ap (λ (v : ℕ). set_revision v (set_content c y)) n) in
      let e₂ = h₂ ∙ revision_law k₁.at next ∙ ap encode_tree one in
      let raised = node_of_revision (suc y.revision) (set_content c y) filled (le-leb (suc y.revision) last_revision (omega (arith, low))) in
      let kind = kind_of_set_revision (suc y.revision) (set_content c y) ∙ kind_of_set_content c y in
      let k₂ = altered_at x.file (next_node c) x.original.there raised kind e₂ in
      let f = l.found.here in
      let kept = kept_part k₂ (λ z. z.tag)
      (ap (λ (z : Node). z.tag) (set_revision_is (set_content c f) (suc f.revision)) ∙ ap (λ (z : Node). z.tag) (set_content_is f c)) in
      h₃ ∙ tag_revision_law k₂.at l.tag next (kept ∙ x.tagged)
      ∙ ap (λ (v : ℕ). encode_tree (tagged l.path l.tag.path v (update q (alter (next_node c)) t))) n

  -- the tag of the working file, then its content
  pub up_law : (v : ℕ) → v ≡ l.filed.here.revision → {b₁ b₂ : List ℕ} → b₁ ≡ field_put b i tag_revision_offset (two_bytes v)
      → b₂ ≡ field_put b₁ i content_offset (content_field b₁ k) → b₂ ≡ encode_tree (after_up t l)
  unfolding after_up
  up_law v n {b₁} {b₂} h₁ h₂ =
      let p = l.path in
      let f = l.found.here in
      let y = l.filed.here in
      let g : Tag = record { path = l.tag.path; revision = y.revision } in
      let own = at_node x.file in
      let marked = node_of_tag g f own ((node_ranges f own).tag l.tag x.tagged).0 (node_ranges y (at_node x.original)).revision in
      let e₁ = h₁ ∙ ap (λ (u : ℕ). field_put b i tag_revision_offset (two_bytes u)) n ∙ tag_revision_law x.file l.tag y.revision x.tagged in
      let there = altered_at x.file (set_tag g) x.file.there marked (kind_of_set_tag g f) e₁ in
      let from = altered_at x.original (set_tag g) x.file.there marked (kind_of_set_tag g f) e₁ in
      let same = kept_part from (λ z. z.content) (ap (λ (z : Node). z.content) (set_tag_is y g)) in
      h₂ ∙ copy_content_law there.at from.at
      ∙ ap (λ (c : List ℕ). encode_tree (update p (alter (set_content c)) (update p (alter (set_tag g)) t))) same
      ∙ ap encode_tree (alter_twice p (set_content y.content) (set_tag g) t)
