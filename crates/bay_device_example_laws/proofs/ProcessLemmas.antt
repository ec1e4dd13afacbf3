-- When a process tells the same.
use Rattle.std.proofs.Common.{◌≡◌, ◌≢◌, Bool, ◌∷◌, [], Some, refl}
use Rattle.bay_base.specs.declared.point.MeterField.TheVariants.{TotW}
use Rattle.std.specs.Fmt.{digits}
use Rattle.bay_base.specs.declared.switch.SwitchKind.TheVariants.{Breaker}
use Rattle.bay_tree.specs.declared.leaf.Leaf.{Leaf}
use Rattle.bay_device.specs.Device.{State}
use Rattle.bay_device.specs.Fresh.{IsSameProcess}
use Rattle.bay_device_example_laws.specs.Scans.{state_after_reports}

pub same-itself : (s : State) → IsSameProcess s s
same-itself s = record {
  positions = λ kind number. record { value = refl; quality = refl };
  inputs = refl;
  measures = λ k field. record { value = refl; quality = refl };
}

pub moved-differs : (a b quality power doubt : Leaf) (input : Bool) (s : State) → a ≢ b
    → IsSameProcess (state_after_reports a quality input power doubt s)
    (state_after_reports b quality input power doubt s)
    → ⊥
unfolding digits
moved-differs a b quality power doubt input s other h =
    let is : Some b ≡ Some a = (h.positions Breaker 1).value in other cc

pub doubted-differs : (a b position power doubt : Leaf) (input : Bool) (s : State) → a ≢ b
    → IsSameProcess (state_after_reports position a input power doubt s)
    (state_after_reports position b input power doubt s) → ⊥
unfolding digits
doubted-differs a b position power doubt input s other h =
    let is : Some b ≡ Some a = (h.positions Breaker 1).quality in other cc

pub input-differs : (position quality power doubt : Leaf) (a b : Bool) (s : State) → a ≢ b
    → IsSameProcess (state_after_reports position quality a power doubt s)
    (state_after_reports position quality b power doubt s) → ⊥
input-differs position quality power doubt a b s other h =
    let is : b ∷ [] ≡ a ∷ [] = h.inputs in other cc

pub measured-differs : (a b position quality doubt : Leaf) (input : Bool) (s : State) → a ≢ b
    → IsSameProcess (state_after_reports position quality input a doubt s)
    (state_after_reports position quality input b doubt s) → ⊥
unfolding digits
measured-differs a b position quality doubt input s other h =
    let is : Some b ≡ Some a = (h.measures 0 TotW).value in other cc

pub measure-doubted-differs : (a b position quality power : Leaf) (input : Bool) (s : State)
    → a ≢ b → IsSameProcess (state_after_reports position quality input power a s)
    (state_after_reports position quality input power b s) → ⊥
unfolding digits
measure-doubted-differs a b position quality power input s other h =
    let is : Some b ≡ Some a = (h.measures 0 TotW).quality in other cc
