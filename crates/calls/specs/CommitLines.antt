-- `commit` as command lines: of one path, and of files one after another; and how many of the lines were done.
use Rattle.std.specs.Prelude.{List, [], ◌∷◌, map, cond, ℕ, suc, eqb}
use Rattle.buffers.specs.Text.{Text}
use Rattle.accounts.specs.declared.Uid.{Uid}
use Rattle.syntax.specs.Pieces.{bytes, comma, joined}
use Rattle.syntax.specs.Number.{decimal_text}
use Rattle.syntax.specs.Path.{Path, path_text}
use Rattle.calls.specs.CallLists.{Request, Response}

-- the line by which a caller commits what stands at a path: `uid,commit,path`
unfoldable pub commit_line : Uid → Path → Text
commit_line v w = joined comma (decimal_text v.0 ∷ (bytes "commit" ∷ (path_text w ∷ [])))

-- such a line for each of the files, each with an answer buffer of these bytes
unfoldable pub commit_requests : Uid → List ℕ → List Path → List Request
commit_requests v answer ws = map (λ w. record { line = commit_line v w; answer = answer }) ws

-- how many of the responses tell that the line was done, by number 0
unfoldable pub how_many_done : List Response → ℕ
how_many_done [] = 0
how_many_done (r ∷ rs) = let rest = how_many_done rs in cond (eqb r.tells.number 0) (suc rest) rest
