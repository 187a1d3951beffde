-- The steps of `co` as the code's answers tell them, one after the other.
--
-- In order: the account's walk (walk-refused-entry to entry-not); the parts of the command (co-no-room to co-goes-on); the site found and
-- told (site-found to site-follows).
use Rattle.std.specs.Prelude.{◌≡◌, List, Bool, true, false, ℕ, Ok, Err, IsErrAnd}
use Rattle.std.proofs.lemmas.Result.{err_from_is_err_and}
use Rattle.std.specs.Prelude as code
use Rattle.std.proofs.Common.{sym, ◌∙◌}
use Rattle.std.proofs.Math.Path.{ap}
use Rattle.std.proofs.Math.Option.{some}
use Rattle.buffers.specs.Text.{Text}
use Rattle.accounts.specs.declared.Account.{Account}
use Rattle.syntax.specs.Path.{Path, EntryPath, path, entry_path, entry_location}
use Rattle.syntax.proofs.PathLaws.{entry_reads}
use Rattle.tree.specs.declared.Cause.{Cause}
use Rattle.tree.specs.declared.Cause.TheVariants.{Access}
use Rattle.tree.specs.Result.{outcome, refused, done, ◌>>◌, require}
use Rattle.tree.proofs.ResultLaws.{bind_done, then_done, done_then, refused_then, done_bind, refused_bind, require_true, require_false}
use Rattle.tree.specs.Forest.{Place, place_at}
use Rattle.tree.specs.Node.{Node}
use Rattle.tree.specs.Walk.{by_modes, walk, room}
use Rattle.tree.proofs.UpdateLaws.{walked_at}
use Rattle.tree.specs.RowAt.{row_at, all_rows}
use Rattle.tree.specs.TreeBytes.{HasRow, Encodes}
use Rattle.tree.proofs.TreeBytesLaws.{used_row, at_used, at_here}
use Rattle.walks.specs.declared.Spot.{Spot}
use Rattle.walks.specs.RowWalk.{walk_in}
use Rattle.walks.specs.WalkBytes.{Came}
use Rattle.walks.specs.WalkBytesLaws.{came_to, came_not, walk_to, walk_not, came_spot}
use Rattle.gaps.specs.GapsLaws.{Standing}
use Rattle.copying.specs.declared.Copier.{Copier}
use Rattle.copying.specs.Copying.{copy}
use Rattle.copying.specs.CopyRows.{read_by}
use Rattle.shell.specs.Replies.{Answer}
use Rattle.shell.specs.CommandBytes.{FollowsSilently}
use Rattle.placing.specs.declared.Site.{Site}
use Rattle.placing.specs.Placing.{place_copies, Checkout, checkout_copies, CheckedOut}
use Rattle.checkout.specs.Checkout.{readable_walk, entry_spot, co_steps, SiteFor, SiteTold}

-- ---- one answer after the other

module _ (a : Account) (t : Place Node) (e : EntryPath) where
  -- the walk to an entry is refused
  pub walk_refused_entry : {k : Cause} → walk (by_modes a) t (entry_location e) ≡ refused k → readable_walk a t e ≡ refused k
  unfolding readable_walk
  walk_refused_entry w = rw (w, refused_bind)

  module _ {d : Place Node} (w : walk (by_modes a) t (entry_location e) ≡ done d) where
    -- the entry may not be read
    pub entry_unreadable : (by_modes a).readable d.here ≡ false → readable_walk a t e ≡ refused Access
    unfolding readable_walk
    entry_unreadable h = rw (w, done_bind, h, require_false, refused_then)

    -- the entry may be read
    pub entry_readable : (by_modes a).readable d.here ≡ true → readable_walk a t e ≡ done d
    unfolding readable_walk
    entry_readable h = rw (w, done_bind, h, require_true, done_then)

  -- it leads to the entry
  readable_leads : (d : Place Node) → readable_walk a t e ≡ done d → place_at t (entry_location e) ≡ some d
  unfolding readable_walk
  readable_leads d h =
      let i = bind_done (walk (by_modes a) t (entry_location e)) (λ x. require ((by_modes a).readable x.here) Access >> done x) h in
      let k = then_done (require ((by_modes a).readable i.0.here) Access) (done i.0) i.2 in
      let q : i.0 ≡ d = cc k.1 in
      walked_at t (by_modes a) (entry_location e) d (i.1 ∙ ap done q)

-- what the code's walk along an entry's text tells
module _ {b : List ℕ} {t : Place Node} (tree : Encodes b t) (a : Account) (s : Text) {e : EntryPath} (reads : entry_path s ≡ some e) {r : code.Result Spot Cause}
    (w : outcome r ≡ walk_in a (all_rows b) s) where
  -- that it is refused
  pub entry_told_not : {k : Cause} → r ≡ Err k → entry_spot a t e ≡ refused k
  unfolding entry_spot
  entry_told_not {k} h = rw (walk_refused_entry a t e (walk_not tree a s (entry_reads s e reads) w h), refused_bind)

  module _ {spot : Spot} (h : r ≡ Ok spot) where
    came : Came b t (entry_location e) (walk (by_modes a) t (entry_location e)) spot.row spot.above
    came = walk_to tree a s (entry_reads s e reads) w h

    -- a row of the tree
    pub entry_told_row : HasRow b spot.row
    entry_told_row = used_row (at_used came.at)

    module _ {v : Bool} (read : v ≡ (by_modes a).readable (row_at b spot.row).here) where
      at_entry : (by_modes a).readable came.place.here ≡ v
      at_entry = ap (λ (x : Node). (by_modes a).readable x) (sym (at_here came.at)) ∙ sym read

      -- of an entry that may not be read
      pub entry_told_shut : v ≡ false → entry_spot a t e ≡ refused Access
      unfolding entry_spot
      entry_told_shut f = rw (entry_unreadable a t e came.walked (at_entry ∙ f), refused_bind)

      -- and of one that may
      pub entry_told_open : v ≡ true → entry_spot a t e ≡ done spot
      unfolding entry_spot
      entry_told_open f = rw (entry_readable a t e came.walked (at_entry ∙ f), done_bind, ← came_spot came)

module _ {b : List ℕ} {t : Place Node} (tree : Encodes b t) (a : Account) (e : EntryPath) {r : code.Result Spot Cause} (same : outcome r ≡ entry_spot a t e) where
  -- an answer that tells a row came to the entry
  pub entry_came : {spot : Spot} → r ≡ Ok spot → Came b t (entry_location e) (readable_walk a t e) spot.row spot.above
  unfolding entry_spot
  entry_came = came_to tree (readable_walk a t e) (entry_location e) same (readable_leads a t e)

  -- one that tells a refusal tells why it did not
  pub entry_not : {k : Cause} → r ≡ Err k → readable_walk a t e ≡ refused k
  unfolding entry_spot
  entry_not = came_not tree (readable_walk a t e) (entry_location e) same

module _ (w : Copier) (t : Place Node) (e : EntryPath) (d : Path) where
  -- there is no room
  pub co_no_room : {k : Cause} → room (by_modes w.caller.account) t d ≡ refused k → co_steps w t e d ≡ refused k
  unfolding co_steps
  co_no_room h = rw (h, refused_bind)

  module _ {f : Place Node} (h : room (by_modes w.caller.account) t d ≡ done f) where
    -- the account does not come to the entry
    pub co_no_entry : {k : Cause} → readable_walk w.reader t e ≡ refused k → co_steps w t e d ≡ refused k
    unfolding co_steps
    co_no_entry g = rw (h, done_bind, g, refused_bind)

    -- it does
    pub co_goes_on : {x : Place Node} → readable_walk w.reader t e ≡ done x
        → co_steps w t e d ≡ place_copies w.caller t d (copy w.caller (read_by w) f.here e x)
    unfolding co_steps
    co_goes_on g = rw (h, done_bind, g, done_bind)

-- ---- the site

-- the first checks have passed
module _ (w : Copier) (entry to : Text) {b : List ℕ} {t : Place Node} {e : EntryPath} {d : Path} (site : Site) {above : ℕ} (reads_entry : entry_path entry ≡ some e)
    (reads : path to ≡ some d) (stands : Standing b t d w.caller.account site.row site.at site.depth)
    (came : Came b t (entry_location e) (readable_walk w.reader t e) site.filed above) where
  abbrev checkout_of : Checkout w b entry to site
  checkout_of = record { top = t; source = e; target = d; place = came.place; reads_entry = reads_entry; reads = reads; stands = stands; found = came.at }

  -- and what follows them are the steps that are left
  pub site_found : SiteFor w t e d b entry to site
  unfolding checkout_copies
  site_found = record { job = checkout_of; left = co_goes_on w t e d stands.found came.walked }

module _ (w : Copier) (t : Place Node) (e : EntryPath) (d : Path) (b : List ℕ) (entry to : Text) where
  -- a site is told
  pub site_told : {s : Site} → SiteFor w t e d b entry to s → SiteTold w t e d b entry to (Ok s)
  unfolding SiteTold
  site_told h = h

  -- or a refusal
  pub site_not : {k : Cause} → co_steps w t e d ≡ refused k → SiteTold w t e d b entry to (Err k)
  unfolding SiteTold
  site_not h = h

  -- passed on by `?`
  pub site_passed : {k : Cause} (r : code.Result Site Cause) → IsErrAnd r (λ j. j ≡ k) → co_steps w t e d ≡ refused k → SiteTold w t e d b entry to r
  site_passed r p h = let q = err_from_is_err_and r p in rw (q.1, q.2) (site_not h)

  module _ {r : code.Result Site Cause} (p : SiteTold w t e d b entry to r) where
    -- what was told, then
    pub site_of : {s : Site} → r ≡ Ok s → SiteFor w t e d b entry to s
    unfolding SiteTold
    site_of q = rw q at p

    pub missed_of : {k : Cause} → r ≡ Err k → co_steps w t e d ≡ refused k
    unfolding SiteTold
    missed_of q = rw q at p

  -- what follows the steps that are left at a site follows those of `co`
  pub site_follows : {s : Site} {r : Answer} {b' : List ℕ} → SiteFor w t e d b entry to s → CheckedOut w b entry to s r b' → FollowsSilently (co_steps w t e d) b r b'
  site_follows h f = rw h.left (f h.job)
