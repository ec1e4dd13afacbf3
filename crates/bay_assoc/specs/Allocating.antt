-- Which TSDUs make the code allocate: those that are answered.
use Rattle.std.specs.Prelude.{Option, Some, IsSome}
use Rattle.bay_assoc.specs.declared.receive.Phase.{Phase}
use Rattle.bay_assoc.specs.declared.receive.Phase.TheVariants.{Idle, Open}
use Rattle.bay_assoc.specs.Presentation.{request_mode}
use Rattle.bay_assoc.specs.Session.{Spdu, connect, finish}

-- ---- own: which TSDUs make the code allocate

-- A request for a connection of the normal mode, which is answered.
abbrev pub IsConnect : Spdu → Type 0
IsConnect (connect user) = IsSome (request_mode.reads user)
IsConnect s = ⊥

-- A request for a release, which is answered.
abbrev pub IsFinish : Spdu → Type 0
IsFinish (finish user) = Unit {0}
IsFinish s = ⊥

-- A CONNECT before the association, and a FINISH in an open one.
abbrev pub MayAllocate : Phase → Option Spdu → Type 0
MayAllocate Idle (Some s) = IsConnect s
MayAllocate (Open terms) (Some s) = IsFinish s
MayAllocate phase s = ⊥
