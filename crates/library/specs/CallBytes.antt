-- What the code of a call promises: the answer and the lent bytes after it, put together as the specification's call has them.
use Rattle.std.specs.Prelude.{List, ℕ}
use Rattle.shell.specs.Replies.{told, Answer}
use Rattle.calls.specs.Calls.{SetUp, Called}

-- what a setup answered, and the store's bytes after it
abbrev pub set_up_as : Answer → List ℕ → SetUp
set_up_as r b = record { tells = told r; store = b }

-- what a call answered, and the bytes of store and answer buffer after it
abbrev pub called_as : Answer → List ℕ → List ℕ → Called
called_as r b a = record { tells = told r; store = b; answer = a }
