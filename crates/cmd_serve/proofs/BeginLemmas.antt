-- A server as it is made, and what is so of its turns.
use Rattle.std.proofs.Common.{ℕ, List, [], Option, refl, replicate, sym, subst}
use Rattle.bay_device.specs.Device.{State}
use Rattle.bay_device.specs.Fresh.{IsHistory}
use Rattle.bay_device.specs.Load.{LoadsDevice}
use Rattle.bay_load.specs.declared.load.Form.{Form}
use Rattle.bay_server_turn.specs.Recorded.{Recording}
use Rattle.bay_server_turn.specs.Turns.{ServerData}
use Rattle.bay_server_turn_laws.specs.Flows.{IsTidy}
use Rattle.bay_server_turn_laws.proofs.RoomLemmas.{made-tidy}
use Rattle.cmd_serve.specs.Requests.{AreRequested}
use Rattle.cmd_serve.specs.Service.{AreTurns, DoneTurn, IsBegun}
use Rattle.cmd_serve.proofs.HistoryLemmas.{stands-first}
use Rattle.cmd_serve.proofs.OrderLemmas.{all-ordered}

came-of : (bay : List ℕ) (form : Form) (program : List ℕ) (s : State)
    → LoadsDevice bay form program s → IsHistory [] s
came-of bay form program s is = (is.0.bay, is.0.image, is.2)

pub begun-of : (bay : List ℕ) (form : Form) (program : List ℕ) (device : State)
    (recording : Option Recording) → LoadsDevice bay form program device
    → IsBegun (record { device = device; queues = replicate 8 []; recording = recording })
begun-of bay form program device recording loads =
    record { loaded = came-of bay form program device loads; empty = refl }

-- such a server owes nothing
pub begun-tidy : (begun : ServerData) → IsBegun begun → IsTidy begun
begun-tidy begun is =
    subst (λ (qs : List (List ℕ)). IsTidy (record {
      device = begun.device;
      queues = qs;
      recording = begun.recording;
    })) (sym is.empty) (made-tidy begun.device begun.recording)

pub ordered-from : (begun : ServerData) (turns : List DoneTurn) → IsBegun begun
    → AreTurns begun turns
    → AreRequested begun.device begun [] turns
ordered-from begun turns is are =
    all-ordered begun.device begun [] turns are (begun-tidy begun is)
    (stands-first begun.device is.loaded)
