-- The session that holds a role or none.
use Rattle.std.specs.Prelude.{Option, Some, None}
use Rattle.accounts.specs.declared.Role.{Role}
use Rattle.accounts.specs.declared.Session.{Session}

abbrev pub holding : Option Role → Session
holding held = record { 0 = held }

abbrev pub nobody : Session
nobody = holding None

abbrev pub as_role : Role → Session
as_role role = holding (Some role)
