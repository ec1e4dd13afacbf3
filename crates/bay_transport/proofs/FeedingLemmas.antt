-- What one feeding says of the whole piece.
use Rattle.std.proofs.Common.{◌≡◌, ℕ, List, ◌∷◌, ◌++◌, take, drop, sym, ap, ◌∙◌}
use Rattle.bay_transport.specs.Doings.{Doing, Stream, doings, after}
use Rattle.bay_transport.specs.Feeding.{CompletesDoing}
use Rattle.bay_transport.proofs.RunLemmas.{doings-take, after-take}

pub leaves-doings : (old new : Stream) (piece : List ℕ) (used : ℕ) (doing : Doing)
    → new ≡ after old (take used piece) → CompletesDoing old piece used doing
    → doings old piece ≡ doing ∷ doings new (drop used piece)
leaves-doings old new piece used doing is completes =
    doings-take old piece used
    ∙ ap (λ (s : Stream). doings old (take used piece) ++ doings s (drop used piece)) (sym is)
    ∙ ap (λ (ds : List Doing). ds ++ doings new (drop used piece)) completes.does

pub leaves-after : (old new : Stream) (piece : List ℕ) (used : ℕ)
    → new ≡ after old (take used piece) → after old piece ≡ after new (drop used piece)
leaves-after old new piece used is =
    after-take old piece used ∙ ap (λ (s : Stream). after s (drop used piece)) (sym is)
