-- What each test of a command says where it fails, and that all are done where they pass.
use Rattle.std.specs.Prelude.{◌≡◌, Bool, true, false, ℕ, eqb}
use Rattle.accounts.specs.declared.Account.{Account}
use Rattle.accounts.specs.declared.Right.{Right}
use Rattle.accounts.specs.declared.Right.TheVariants.{W}
use Rattle.tree.specs.declared.Kind.TheVariants.{File, Directory}
use Rattle.tree.specs.declared.Cause.TheVariants.{Access, WrongKind, NotEmpty, Stale, RevisionsSpent}
use Rattle.tree.specs.Result.{refused, done}
use Rattle.tree.proofs.ResultLaws.{done_then, refused_then, require_true, require_false}
use Rattle.tree.specs.Node.{Node, allows}
use Rattle.tree.proofs.JudgeLaws.{file_is_none, directory_is_one}
use Rattle.tree.specs.Walk.{by_modes}
use Rattle.tree.specs.WellFormed.{last_revision}
use Rattle.entries.specs.EntrySteps.{file_tests, commit_tests, del_tests}

module _ (a : Account) where
  -- ---- a file

  module _ (right : Right) (n : Node) where
    pub file_directory : n.kind ≡ Directory → refused WrongKind ≡ file_tests a right n
    unfolding file_tests
    file_directory k = simp (k, directory_is_one, require_false, refused_then)

    pub file_shut : n.kind ≡ File → allows a right n ≡ false → refused Access ≡ file_tests a right n
    unfolding file_tests
    file_shut k e = simp (k, file_is_none, e, require_true, done_then, require_false)

    pub file_open : n.kind ≡ File → allows a right n ≡ true → done tt ≡ file_tests a right n
    unfolding file_tests
    file_open k e = simp (k, file_is_none, e, require_true, done_then)

  -- ---- `commit`

  module _ (above : Node) (given v : ℕ) where
    pub commit_shut : allows a W above ≡ false → refused Access ≡ commit_tests a above given v
    unfolding commit_tests
    commit_shut e = simp (e, require_false, refused_then)

    pub commit_stale : allows a W above ≡ true → eqb given v ≡ false → refused Stale ≡ commit_tests a above given v
    unfolding commit_tests
    commit_stale e f = simp (e, f, require_true, done_then, require_false, refused_then)

    pub commit_spent : allows a W above ≡ true → eqb given v ≡ true → eqb v last_revision ≡ true
        → refused RevisionsSpent ≡ commit_tests a above given v
    unfolding commit_tests
    commit_spent e f g = simp (e, f, g, require_true, done_then, require_false)

    pub commit_open : allows a W above ≡ true → eqb given v ≡ true → eqb v last_revision ≡ false → done tt ≡ commit_tests a above given v
    unfolding commit_tests
    commit_open e f g = simp (e, f, g, require_true, done_then)

  -- ---- `del`

  module _ (n above : Node) (empty : Bool) where
    pub del_unread : (by_modes a).readable n ≡ false → refused Access ≡ del_tests a n above empty
    unfolding del_tests
    del_unread e = simp (e, require_false, refused_then)

    pub del_shut : (by_modes a).readable n ≡ true → allows a W above ≡ false → refused Access ≡ del_tests a n above empty
    unfolding del_tests
    del_shut e f = simp (e, f, require_true, done_then, require_false, refused_then)

    pub del_full : (by_modes a).readable n ≡ true → allows a W above ≡ true → empty ≡ false → refused NotEmpty ≡ del_tests a n above empty
    unfolding del_tests
    del_full e f g = simp (e, f, g, require_true, done_then, require_false)

    pub del_open : (by_modes a).readable n ≡ true → allows a W above ≡ true → empty ≡ true → done tt ≡ del_tests a n above empty
    unfolding del_tests
    del_open e f g = simp (e, f, g, require_true, done_then)
