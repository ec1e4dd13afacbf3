-- The calls of a server on its host, and their results.
use Rattle.std.specs.Prelude.{ℕ, Option, Result}
use Rattle.bay_server.specs.declared.host.BindFault.{BindFault}

-- one call, with what it answered: a port of 127.0.0.1, for how many seconds a connection may send
-- nothing, if that is limited, and a link on it, or why there is none; the times of the system's
-- clock and of the steady clock; a pause; a wait until the steady clock shows a time
pub data HostCall (L : Type 0) : Type 0 where
  Binds : ℕ → Option ℕ → Result L BindFault → HostCall L
  ReadsTimes : ℕ → ℕ → HostCall L
  Pauses : HostCall L
  WaitsUntil : ℕ → HostCall L
