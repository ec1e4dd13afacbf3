-- The machine's slots hold what the program reads, but for what was noted.
use Rattle.std.proofs.Common.{◌≡◌, ◌≢◌, ◌<◌, ◌≤◌, ◌^◌, inl, inr, ℕ, max, min, List, [], ◌∷◌, length, map, slice_get, Option, Some, None, option_map, get_or, refl, ap, ap₂, sym, subst, ◌∙◌, arith}
use Rattle.std.proofs.lemmas.List.{length-map}
use Rattle.std.proofs.lemmas.Option.{slice_get-get_or, slice_get-map}
use Rattle.bay_base.specs.declared.point.Source.{Source}
use Rattle.bay_base.specs.declared.point.Source.TheVariants as source
use Rattle.bay_base.specs.declared.point.SwitchPoint.{SwitchPoint}
use Rattle.il_image.specs.declared.value.Value.{Value}
use Rattle.il_scan.specs.Scans.{AreHeld, IsOutside, inputs_in}
use Rattle.il_scan.specs.declared.span.Span.{Span}
use Rattle.il_scan.proofs.HoldLemmas.{all-held}
use Rattle.bay_nodes.specs.Names.{switch_names}
use Rattle.bay_nodes.specs.declared.switch.Switch.{Switch}
use Rattle.bay_base.specs.declared.position.Dbpos.{Dbpos}
use Rattle.bay_tree.specs.declared.row.Row.{Row}
use Rattle.bay_process.specs.Layout.{layout_of, switches_of}
use Rattle.bay_process.specs.Scans.{HasPoints, source_value, rows_after_outputs}
use Rattle.bay_process.specs.ReportedRows.{AreInterlocked}
use Rattle.bay_process.specs.Values.{rows_after_contact}
use Rattle.bay_process.specs.declared.switch.BoundSwitch.{BoundSwitch}
use Rattle.bay_process.proofs.ReadLemmas.{contact-same, scan-same}
use Rattle.bay_device.specs.declared.state.DeviceState.{DeviceState}

-- where all are noted, nothing is held
pub all-noted : (span : Span) (f : Source → Value) (reads : List Source) (held : List Value)
    → span.from ≡ 0 → span.to ≡ length reads → AreHeld span (map f reads) held
all-noted span f reads held first last =
    let many = length-map reads f in
    all-held span (map f reads) held first (omega (arith, many, last))

-- where a switch is noted, all is held that is not read of it
module _ (unread own with_own : Span) (reads : List Source) (k : ℕ) (f g : Source → Value)
    (held : List Value) (from : with_own.from ≡ min unread.from own.from)
    (to : with_own.to ≡ max unread.to own.to) (has : HasPoints reads k own)
    (are : AreHeld unread (map f reads) held)
    (same : (o : Source) → ((point : SwitchPoint) → o ≢ source.Switch k point) → g o ≡ f o) where
  outside : (n : ℕ) → IsOutside with_own n
      → IsOutside unread n × ((own.from ≤ n) × (n < own.to) → ⊥)
  outside n (inl a) = (inl (omega (arith, a, from)), λ h. omega (arith, a, from, h.0))
  outside n (inr a) = (inr (omega (arith, a, to)), λ h. omega (arith, a, to, h.1))

  held-source : (n : ℕ) (v : Value) → IsOutside with_own n → (o : Option Source)
      → slice_get reads n ≡ o → option_map g o ≡ Some v → slice_get held n ≡ Some v
  held-source n v out None here e = absurd cc
  held-source n v out (Some o) here e =
      let is : g o ≡ f o = same o (λ point this.
      (outside n out).1 (has n point (here ∙ ap (λ (s : Source). Some s) this))) in
      are n v (outside n out).0
      (slice_get-map f reads n ∙ ap (option_map f) here ∙ ap (λ (w : Value). Some w) (sym is) ∙ e)

  pub switch-noted : AreHeld with_own (map g reads) held
  switch-noted n v out e =
      held-source n v out (slice_get reads n) refl (sym (slice_get-map g reads n) ∙ e)

map-same : (f g : Source → Value) (reads : List Source) → ((o : Source) → g o ≡ f o)
    → map f reads ≡ map g reads
map-same f g [] same = refl
map-same f g (o ∷ reads) same =
    ap₂ (λ (v : Value) (vs : List Value). v ∷ vs) (sym (same o)) (map-same f g reads same)

-- behind a scan all is held
pub nothing-noted : (span : Span) (f g : Source → Value) (reads : List Source)
    (held : List Value) → held ≡ map f reads → ((o : Source) → g o ≡ f o)
    → AreHeld span (map g reads) held
nothing-noted span f g reads held is same n v out e =
    ap (λ (vs : List Value). slice_get vs n) (is ∙ map-same f g reads same) ∙ e

-- what a contact of a switch leaves held
pub contact-held : (d : DeviceState) (tree : List Row) (switches : List BoundSwitch) (k : ℕ)
    (s : Switch) (position : Dbpos) (now : ℕ) (spans : List Span) (with_own : Span)
    → k < length d.bay.switches → spans ≡ d.spans
    → slice_get (switches_of d.bay.switches) k ≡ Some s
    → tree ≡ rows_after_contact (switch_names (switches_of d.bay.switches) k s) position now
    d.bay.tree
    → layout_of tree ≡ layout_of d.bay.tree → switches ≡ d.bay.switches
    → with_own.from ≡ min d.unread.from (get_or spans k (record { from = 0; to = 0 })).from
    → with_own.to ≡ max d.unread.to (get_or spans k (record { from = 0; to = 0 })).to
    → AreHeld with_own (map (source_value tree switches d.input_values d.meters) d.reads)
    (inputs_in d.machine.image.points d.machine.slots)
contact-held d tree switches k s position now spans with_own lt all is written layout same from to =
    let own : Span = get_or spans k (record { from = 0; to = 0 }) in
    let sized : length (switches_of d.bay.switches) ≡ length d.bay.switches =
    length-map d.bay.switches (λ (b : BoundSwitch). b.switch) in
    let few : length (switches_of d.bay.switches) < 2 ^ 64 =
    omega (arith, sized, d.spans_sized, d.few) in
    let here : slice_get d.spans k ≡ Some own =
    slice_get-get_or d.spans k (record { from = 0; to = 0 })
    (omega (arith, lt, d.spans_sized))
    ∙ ap (λ (ss : List Span). Some (get_or ss k (record { from = 0; to = 0 }))) (sym all) in
    subst (λ (bs : List BoundSwitch). AreHeld with_own
    (map (source_value tree bs d.input_values d.meters) d.reads)
    (inputs_in d.machine.image.points d.machine.slots)) (sym same)
    (switch-noted d.unread own with_own d.reads k
    (source_value d.bay.tree d.bay.switches d.input_values d.meters)
    (source_value tree d.bay.switches d.input_values d.meters)
    (inputs_in d.machine.image.points d.machine.slots) from to (d.spanned k own here) d.held
    (contact-same d.bay.tree tree layout d.bay.switches d.input_values d.meters d.writes d.bound
    d.metered k s position now few is written))

-- and a scan holds all
pub scan-held : (d : DeviceState) (tree : List Row) (switches : List BoundSwitch)
    (outputs : List Value) (now : ℕ) (span : Span) (held : List Value)
    → AreInterlocked (layout_of d.bay.tree) d.bay.switches
    → tree ≡ rows_after_outputs (layout_of d.bay.tree) d.bay.switches outputs now d.bay.tree
    → layout_of tree ≡ layout_of d.bay.tree → switches ≡ d.bay.switches
    → held ≡ map (source_value d.bay.tree d.bay.switches d.input_values d.meters) d.reads
    → AreHeld span (map (source_value tree switches d.input_values d.meters) d.reads) held
scan-held d tree switches outputs now span held named written layout same is =
    subst (λ (bs : List BoundSwitch). AreHeld span
    (map (source_value tree bs d.input_values d.meters) d.reads) held) (sym same)
    (nothing-noted span (source_value d.bay.tree d.bay.switches d.input_values d.meters)
    (source_value tree d.bay.switches d.input_values d.meters) d.reads held is
    (scan-same d.bay.tree tree layout d.bay.switches d.input_values d.meters d.writes d.bound
    d.metered outputs now named written))
