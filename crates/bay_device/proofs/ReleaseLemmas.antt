-- The text that is kept of the releases is that of the rows.
use Rattle.std.proofs.Common.{◌≡◌, ℕ, ◌+◌, List, [], ◌∷◌, ◌++◌, codes, Some, refl, ap, ◌∙◌}
use Rattle.bay_nodes.specs.declared.switch.Switch.{Switch}
use Rattle.bay_process.specs.Releases.{released_text}
use Rattle.bay_process.specs.ReportedRows.{AreStored, enabled_from}
use Rattle.bay_process.specs.declared.releases.Releases.{Releases}
use Rattle.bay_device.specs.Device.{State}
use Rattle.bay_device.specs.LookUps.{switch_part, switches_text}

text-from : (s : State) (k : ℕ) (ss : List Switch)
    → released_text ss (enabled_from s.rows k ss) ≡ switches_text s k ss
text-from s k [] = refl
text-from s k (switch ∷ ss) = ap (λ t. switch_part s k (Some switch) ++ t) (text-from s (k + 1) ss)

pub kept-text : (s : State) (r : Releases) → AreStored s.rows s.switches 0 r
    → r.text.items ≡ switches_text s 0 s.switches ++ codes "\n"
kept-text s r kept =
    kept.shows.text_is ∙ ap (λ t. t ++ codes "\n") (text-from s 0 s.switches)
