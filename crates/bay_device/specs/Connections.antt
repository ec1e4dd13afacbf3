-- The states of a device's connections.
use Rattle.std.specs.Prelude.{ℕ, ◌≡◌, List, length, map, slice_get, Option, None, Some}
use Rattle.bay_transport.specs.Feeding.{AcceptsOctets}
use Rattle.bay_connection.specs.Feeding.{ConnectionData}
use Rattle.bay_connection.specs.ConnectionStates.{ConnectionState}
use Rattle.bay_device.specs.Outcomes.{associations}

-- the state of a connection, without its last PDU
abbrev pub state_without_pdu : Option ConnectionData → Option ConnectionState
state_without_pdu None = None
state_without_pdu (Some client) = Some client.state

-- the state of each connection
abbrev pub connection_states : List (Option ConnectionData) → List (Option ConnectionState)
connection_states clients = map state_without_pdu clients

-- Each open association accepts octets.
abbrev pub AllAcceptOctets : List (Option ConnectionState) → Type 0
AllAcceptOctets connections =
    (slot : ℕ) (t : ConnectionState) → slice_get connections slot ≡ Some (Some t)
    → AcceptsOctets t.stream.state

-- There are eight slots.
pub record AreEight (connections : List (Option ConnectionState)) : Type 0 where
  pub sized : length connections ≡ associations
  pub going : AllAcceptOctets connections
