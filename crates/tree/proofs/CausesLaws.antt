-- Laws of the table: no cause has the number 0, which tells that a call is done; a wrong setup line has 17, and an unsound
-- store alone 18.
use Rattle.std.specs.Prelude.{◌≡◌, refl, true, false, eqb}
use Rattle.buffers.specs.Cases.{contra}
use denote.Enum.Bare.{sameb}
use Rattle.tree.specs.contracts.Cause.{the_type}
use Rattle.tree.specs.declared.Cause.{Cause}
use Rattle.tree.specs.declared.Cause.TheVariants.{NoForm, UnknownCaller, Missing, NotDirectory, Access, Exists, WrongKind, NotEmpty, Reserved, Full, IntoItself, NoSession, NoGrant, Stale, Untagged, RevisionsSpent, Unsound, TooDeep, ShortAnswer}
use Rattle.tree.specs.Causes.{number, wrong_setup}

-- a wrong setup line
pub wrong_setup_is : wrong_setup ≡ 17
unfolding wrong_setup
wrong_setup_is = refl

-- the table, row by row
pub no_form_number : number NoForm ≡ 1
unfolding number
no_form_number = refl

pub unknown_caller_number : number UnknownCaller ≡ 2
unfolding number
unknown_caller_number = refl

pub missing_number : number Missing ≡ 3
unfolding number
missing_number = refl

pub not_directory_number : number NotDirectory ≡ 4
unfolding number
not_directory_number = refl

pub access_number : number Access ≡ 5
unfolding number
access_number = refl

pub exists_number : number Exists ≡ 6
unfolding number
exists_number = refl

pub wrong_kind_number : number WrongKind ≡ 7
unfolding number
wrong_kind_number = refl

pub not_empty_number : number NotEmpty ≡ 8
unfolding number
not_empty_number = refl

pub reserved_number : number Reserved ≡ 9
unfolding number
reserved_number = refl

pub full_number : number Full ≡ 10
unfolding number
full_number = refl

pub into_itself_number : number IntoItself ≡ 11
unfolding number
into_itself_number = refl

pub no_session_number : number NoSession ≡ 12
unfolding number
no_session_number = refl

pub no_grant_number : number NoGrant ≡ 13
unfolding number
no_grant_number = refl

pub stale_number : number Stale ≡ 14
unfolding number
stale_number = refl

pub untagged_number : number Untagged ≡ 15
unfolding number
untagged_number = refl

pub revisions_spent_number : number RevisionsSpent ≡ 16
unfolding number
revisions_spent_number = refl

pub unsound_number : number Unsound ≡ 18
unfolding number
unsound_number = refl

pub too_deep_number : number TooDeep ≡ 19
unfolding number
too_deep_number = refl

pub short_answer_number : number ShortAnswer ≡ 20
unfolding number
short_answer_number = refl

-- no cause's number is 0
pub number_not_0 : (why : Cause) → eqb (number why) 0 ≡ false
unfolding number
number_not_0 NoForm = refl
number_not_0 UnknownCaller = refl
number_not_0 Missing = refl
number_not_0 NotDirectory = refl
number_not_0 Access = refl
number_not_0 Exists = refl
number_not_0 WrongKind = refl
number_not_0 NotEmpty = refl
number_not_0 Reserved = refl
number_not_0 Full = refl
number_not_0 IntoItself = refl
number_not_0 NoSession = refl
number_not_0 NoGrant = refl
number_not_0 Stale = refl
number_not_0 Untagged = refl
number_not_0 RevisionsSpent = refl
number_not_0 Unsound = refl
number_not_0 TooDeep = refl
number_not_0 ShortAnswer = refl

-- and only one is 18
pub only_unsound_is_18 : (why : Cause) → eqb (number why) 18 ≡ true → why ≡ Unsound
unfolding number
only_unsound_is_18 NoForm e = contra e refl
only_unsound_is_18 UnknownCaller e = contra e refl
only_unsound_is_18 Missing e = contra e refl
only_unsound_is_18 NotDirectory e = contra e refl
only_unsound_is_18 Access e = contra e refl
only_unsound_is_18 Exists e = contra e refl
only_unsound_is_18 WrongKind e = contra e refl
only_unsound_is_18 NotEmpty e = contra e refl
only_unsound_is_18 Reserved e = contra e refl
only_unsound_is_18 Full e = contra e refl
only_unsound_is_18 IntoItself e = contra e refl
only_unsound_is_18 NoSession e = contra e refl
only_unsound_is_18 NoGrant e = contra e refl
only_unsound_is_18 Stale e = contra e refl
only_unsound_is_18 Untagged e = contra e refl
only_unsound_is_18 RevisionsSpent e = contra e refl
only_unsound_is_18 Unsound e = refl
only_unsound_is_18 TooDeep e = contra e refl
only_unsound_is_18 ShortAnswer e = contra e refl

-- a cause is that of 3 just where it has this number, by the derived `==`
pub missing_compared : (why : Cause) → sameb the_type why Missing ≡ eqb (number Missing) (number why)
unfolding number
missing_compared NoForm = refl
missing_compared UnknownCaller = refl
missing_compared Missing = refl
missing_compared NotDirectory = refl
missing_compared Access = refl
missing_compared Exists = refl
missing_compared WrongKind = refl
missing_compared NotEmpty = refl
missing_compared Reserved = refl
missing_compared Full = refl
missing_compared IntoItself = refl
missing_compared NoSession = refl
missing_compared NoGrant = refl
missing_compared Stale = refl
missing_compared Untagged = refl
missing_compared RevisionsSpent = refl
missing_compared Unsound = refl
missing_compared TooDeep = refl
missing_compared ShortAnswer = refl
