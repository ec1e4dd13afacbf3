-- Lemmas on what is printed for a turn of a server.
use Rattle.std.proofs.Common.{◌≡◌, ℕ, ◌+◌, ◌<◌, List, ◌∷◌, ◌++◌, length, drop, get_or, refl, ap, add-one}
use Rattle.std.proofs.Math.Seq.{drop-cons}
use Rattle.bay_device.specs.declared.event.Why.TheVariants.{Fault, Memory}
use Rattle.bay_report.specs.Lines.{closing_text}
use Rattle.bay_server.specs.TurnLines.{closings_text, memory_closings_text}
use Rattle.bay_server_turn.specs.Code.{code_of}
use Rattle.bay_server_turn.specs.declared.turn_report.CloseReason.{CloseReason}

pub closings-turn : (now : ℕ) (closed : List (ℕ × CloseReason)) (k : ℕ) (d : ℕ × CloseReason)
    → k < length closed
    → closings_text now (drop k closed)
    ≡ closing_text now (get_or closed k d).0 (Fault (code_of (get_or closed k d).1))
    ++ closings_text now (drop (k + 1) closed)
closings-turn now closed k d lt =
    let next : drop k closed ≡ get_or closed k d ∷ drop (k + 1) closed =
    rw (add-one, drop-cons closed k d) refl in
    ap (closings_text now) next

pub memories-turn : (now : ℕ) (memory : List ℕ) (k d : ℕ) → k < length memory
    → memory_closings_text now (drop k memory)
    ≡ closing_text now (get_or memory k d) Memory ++ memory_closings_text now (drop (k + 1) memory)
memories-turn now memory k d lt =
    let next : drop k memory ≡ get_or memory k d ∷ drop (k + 1) memory =
    rw (add-one, drop-cons memory k d) refl in
    ap (memory_closings_text now) next
