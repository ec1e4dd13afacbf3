-- What the loss of the process passes on, and what it leaves.
use Rattle.std.proofs.Common.{◌≡◌, ℕ, ◌+◌, Bool, true, false, cond, nat_eq, ◌&&◌, List, [], ◌∷◌, drop, slice_get, Option, Some, None, refl, ap, ap₂, add-one, sym, ◌∙◌}
use Rattle.std.proofs.Math.Seq.{drop-cons}
use Rattle.std.proofs.lemmas.Option.{get_or_from_slice_get, slice_get_within}
use Rattle.bay_base.specs.declared.point.MeterField.{MeterField}
use Rattle.bay_base.specs.declared.point.MeterField.TheVariants.{TotW, TotVAr, Hz, PhaseA, PhaseB, PhaseC}
use Rattle.bay_base.specs.declared.point.Source.{Source}
use Rattle.bay_base.specs.declared.switch.Operation.{Operation}
use Rattle.bay_base.specs.declared.switch.Operation.TheVariants.{Open, Close}
use Rattle.bay_nodes.specs.declared.switch.Switch.{Switch}
use Rattle.bay_base.specs.declared.position.Dbpos.TheVariants.{Bad}
use Rattle.bay_nodes.specs.Names.{meter_names}
use Rattle.bay_nodes.specs.declared.profile.Profile.{Profile}
use Rattle.bay_process.specs.Names.{field_names}
use Rattle.bay_process.proofs.ToldLemmas.{Keeps, field-away, keeps-contact, keeps-doubt}
use Rattle.bay_process.proofs.ModelLemmas.{lost-inputs-keep}
use Rattle.bay_control.specs.Decisions as control
use Rattle.bay_control.specs.Decisions.{after_contact, is_done}
use Rattle.bay_control.specs.Requests.{is_reached}
use Rattle.bay_control.specs.declared.selection.Execution.{Execution}
use Rattle.bay_connection.specs.ConnectionStates.{ConnectionState}
use Rattle.il_scan.specs.Scans.{MachineData}
use Rattle.bay_device.specs.Device.{State, device_after_contact, device_after_bad_measure, inputs_lost, device_after_loss, measures_lost, meter_lost, positions_lost}
use Rattle.bay_device.specs.declared.termination.PendingTermination.{PendingTermination}

-- What a bad position, inputs that become FALSE and a doubt pass on, the loss passes on.
module _ (P : State → Type 0) (now : ℕ)
    (contact : (k : ℕ) (switch : Switch) (s : State) → P s
    → P (device_after_contact now k switch Bad s))
    (doubt : (k : ℕ) (field : MeterField) (s : State) → P s
    → P (device_after_bad_measure now k field s)) where
  pub positions-pass : (k : ℕ) (switches : List Switch) (s : State) → P s
      → P (positions_lost now k switches s)
  positions-pass k [] s p = p
  positions-pass k (switch ∷ switches) s p =
      positions-pass (k + 1) switches (device_after_contact now k switch Bad s)
      (contact k switch s p)

  meter-passes : (k : ℕ) (s : State) → P s → P (meter_lost now k s)
  meter-passes k s p =
      doubt k PhaseC _ (doubt k PhaseB _ (doubt k PhaseA _ (doubt k Hz _ (doubt k TotVAr _
      (doubt k TotW s p)))))

  pub measures-pass : (k : ℕ) (ids : List (List ℕ)) (s : State) → P s
      → P (measures_lost now k ids s)
  measures-pass k [] s p = p
  measures-pass k (id ∷ ids) s p =
      measures-pass (k + 1) ids (meter_lost now k s) (meter-passes k s p)

  pub loss-passes : ((s : State) → P s → P (inputs_lost now s))
      → ((s : State) → P s → P (record s { is_lost = true })) → (s : State) → P s
      → P (device_after_loss now s)
  loss-passes inputs noted s p =
      noted _ (measures-pass 0 s.meters _ (inputs _ (positions-pass 0 s.switches s p)))

-- ---- lists, from a place on

pub next-behind : {A : Type 0} (xs : List A) (k : ℕ) (x : A) → slice_get xs k ≡ Some x
    → drop k xs ≡ x ∷ drop (k + 1) xs
next-behind xs k x here =
    drop-cons xs k x (slice_get_within xs k x here)
    ∙ ap₂ (λ y n. y ∷ drop n xs) (get_or_from_slice_get xs k x x here) (sym (add-one k))

-- ---- what it leaves

-- what no event of the process changes
pub record Fixed : Type 0 where
  pub domain : List ℕ
  pub switches : List Switch
  pub names : List (List ℕ)
  pub meters : List (List ℕ)
  pub profile : Profile
  pub reads : List Source
  pub writes : List Source
  pub machine : MachineData
  pub age : ℕ
  pub moment : ℕ
  pub scans : Option ℕ
  pub connections : List (Option ConnectionState)

abbrev pub fixed_of : State → Fixed
fixed_of s = record {
  domain = s.domain;
  switches = s.switches;
  names = s.inputs;
  meters = s.meters;
  profile = s.profile;
  reads = s.reads;
  writes = s.writes;
  machine = s.machine;
  age = s.scan_max_age_ms;
  moment = s.moment;
  scans = s.last_scan;
  connections = s.connections;
}

pub positions-fixed : (now : ℕ) (s : State) (k : ℕ) (switches : List Switch)
    → fixed_of (positions_lost now k switches s) ≡ fixed_of s
positions-fixed now s k switches =
    positions-pass (λ t. fixed_of t ≡ fixed_of s) now (λ j switch t p. p) (λ j field t p. p) k
    switches s refl

pub lost-fixed : (now : ℕ) (s : State) → fixed_of (device_after_loss now s) ≡ fixed_of s
lost-fixed now s =
    loss-passes (λ t. fixed_of t ≡ fixed_of s) now (λ k switch t p. p) (λ k field t p. p)
    (λ t p. p) (λ t p. p) s refl

-- the interlocking values stay
pub lost-keeps : (now : ℕ) (s : State) → Keeps s.rows (device_after_loss now s).rows
lost-keeps now s =
    loss-passes (λ t. Keeps s.rows t.rows) now
    (λ k switch t p i x. keeps-contact t.switches k switch Bad now t.rows i x ∙ p i x)
    (λ k field t p i x. keeps-doubt (field_names field (meter_names k)) now t.rows
    (field-away k field) i x ∙ p i x)
    (λ t p i x. lost-inputs-keep t.profile t.inputs t.switches now t.rows i x ∙ p i x) (λ t p. p) s
    (λ i x. refl)

-- a bad position is not the one that is asked for
not-reached : (b : Bool) (operation : Operation) → (b && is_reached operation Bad) ≡ false
not-reached false operation = refl
not-reached true Open = refl
not-reached true Close = refl

never-done : (k : ℕ) (o : Option Execution) → is_done k Bad o ≡ false
never-done k None = refl
never-done k (Some e) = not-reached (nat_eq e.switch k) e.operation

-- the controls, and what is due of what operates
pub record Operating : Type 0 where
  pub controls : control.State
  pub pending : Option PendingTermination

abbrev pub operating_of : State → Operating
operating_of s = record { controls = s.controls; pending = s.pending }

still-operating : (now k : ℕ) (switch : Switch) (s : State)
    → operating_of (device_after_contact now k switch Bad s) ≡ operating_of s
still-operating now k switch s =
    ap (λ (b : Bool). let o : Operating = record {
      controls = record s.controls {
        execution = cond b None s.controls.execution;
      };
      pending = cond b None s.pending;
    } in o) (never-done k s.controls.execution)

pub lost-operating : (now : ℕ) (s : State) → operating_of (device_after_loss now s) ≡ operating_of s
lost-operating now s =
    loss-passes (λ t. operating_of t ≡ operating_of s) now
    (λ k switch t p. still-operating now k switch t ∙ p) (λ k field t p. p) (λ t p. p) (λ t p. p)
    s refl
