-- The front of a line is kept while its process is there, and is no line behind it.
use Rattle.std.proofs.Common.{◌≡◌, ℕ, false, List, [], ◌∷◌, ◌++◌, None, refl, ap, ◌∙◌, append-nil, arith}
use Rattle.std.specs.declared.net.socket_addr.SocketAddrV4.{SocketAddrV4}
use Rattle.bay_device.specs.Device.{State}
use Rattle.bay_lines.specs.LineRemovals.{AreLines}
use Rattle.bay_server_turn.specs.Calls.{StreamEnd, Silence}
use Rattle.bay_process_port.specs.Examples.{sent_after_a}
use Rattle.bay_process_port.specs.ProcessOutput.{ReportedTurn}
use Rattle.bay_process_port.specs.Uses.{LosesNoLine}

pub keeps-front : (t : ReportedTurn) (s : State) (from : SocketAddrV4)
    → LosesNoLine false None (sent_after_a Silence t s from)
keeps-front t s from = record { lines = []; text = []; are = refl; given = refl; lines_read = refl }

nothing-ends : (content rest : List ℕ) → [] ≡ (content ++ 10 ∷ []) ++ rest → ⊥
nothing-ends [] rest is = absurd cc
nothing-ends (x ∷ content) rest is = absurd cc

no-end : (content rest : List ℕ) → 65 ∷ [] ≡ (content ++ 10 ∷ []) ++ rest → ⊥
no-end [] rest is = let no : ◌≡◌ {A = ℕ} 65 10 = cc in omega (arith, no)
no-end (x ∷ content) rest is =
    let behind : [] ≡ (content ++ 10 ∷ []) ++ rest = cc in nothing-ends content rest behind

no-lines : (lines : List (List ℕ)) (text : List ℕ) → AreLines lines text → 65 ∷ [] ≡ text → ⊥
no-lines [] text are is = let no : 65 ∷ [] ≡ [] = is ∙ are in absurd cc
no-lines (line ∷ lines) text (piece, rest, whole, ended, are) is =
    no-end ended.content rest (is ∙ whole ∙ ap (λ p. p ++ rest) ended.ended)

pub loses-front : (t : ReportedTurn) (s : State) (from : SocketAddrV4)
    → LosesNoLine false None (sent_after_a StreamEnd t s from) → ⊥
loses-front t s from h =
    let given : 65 ∷ [] ≡ h.text ++ [] = h.given in
    no-lines h.lines h.text h.are (given ∙ append-nil h.text)
