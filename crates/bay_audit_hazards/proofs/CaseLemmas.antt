-- What is known in a case, and whether the operation is a hazard in its processes.
use Rattle.std.proofs.Common.{◌≡◌, ℕ, Bool, true, false, List, cond, length, nat_lt, Option, None, Some, refl, sym, ap₂, subst, ◌∙◌}
use Rattle.std.proofs.Math.Path.{fun_ext}
use Rattle.bay_base.specs.declared.position.Dbpos.{Dbpos}
use Rattle.bay_base.specs.declared.switch.Operation.{Operation}
use Rattle.bay_audit_rules.specs.Process.{Process}
use Rattle.bay_audit.specs.Cases.{example_of, input_may, is_in, may_be}
use Rattle.bay_audit.specs.Process.{IsProcess}
use Rattle.bay_audit.specs.declared.case.TestAnswer.{TestAnswer}
use Rattle.bay_audit.proofs.CaseLemmas.{example-is, input-may, position-may}
use Rattle.bay_audit.proofs.ToldLemmas.{examples-there}
use Rattle.bay_config.specs.declared.bay.Bay.{Bay}
use Rattle.bay_diagram.specs.declared.network.Network.{Network}
use Rattle.bay_diagram.specs.declared.reading.Bound.{Bound}
use Rattle.bay_diagram.specs.declared.reading.Bound.TheVariants.{Worst, Best}
use Rattle.bay_diagram.specs.declared.reading.Known.{Known}
use Rattle.bay_diagram.specs.declared.shown.ShownHazard.{ShownHazard}
use Rattle.bay_diagram.specs.Hazards.{is_hazard}
use Rattle.bay_diagram.specs.Reading.{Allowed, IsAllowed, Reading, allowed_by, reading_at, reading_in, worst_of}
use Rattle.bay_diagram.specs.Shown.{IsShownOf, is_shown}
use Rattle.bay_diagram.proofs.GrowthLemmas.{hazards-are-bounded}
use Rattle.bay_diagram.proofs.ShownGrowth.{shown-best}
use Rattle.bay_audit_hazards.specs.Judged.{IsExplained, IsHazard, allowed_in, is_hazard_of, is_surely_hazard}
use Rattle.bay_audit_hazards.specs.Parts.{AllowInputs, AllowPositions, IsKnown}

-- ---- what is known

abbrev allowed_from : (ℕ → Dbpos → Bool) → (ℕ → Bool → Bool) → Allowed
allowed_from positions inputs = record { position = positions; input = inputs }

-- sets that have what the case allows are what is known in the case
pub sets-allow : (bay : Bay) (case : List TestAnswer) (known : Known)
    → AllowPositions case (length bay.switches) known.positions
    → AllowInputs case (length bay.inputs) known.inputs → allowed_by known ≡ allowed_in bay case
sets-allow bay case known positions inputs =
    ap₂ allowed_from (fun_ext (λ k. fun_ext (λ d. positions k d)))
    (fun_ext (λ k. fun_ext (λ v. inputs k v)))

either-true : (t b : Bool) → b ≡ true → cond t b true ≡ true
either-true true b h = h
either-true false b h = refl

-- a case allows each of its processes
case-allows : (bay : Bay) (case : List TestAnswer) (p : Process) → is_in case p ≡ true
    → IsAllowed (allowed_in bay case) p
case-allows bay case p inside = record {
  positions = λ k. either-true (nat_lt k (length bay.switches)) (may_be case k (p.position k))
      (position-may p case inside k);
  inputs = λ k. either-true (nat_lt k (length bay.inputs)) (input_may case k (p.input k))
      (input-may p case inside k);
}

-- what is known in a case
known-reading : (bay : Bay) (bound : Bound) (case : List TestAnswer) (known : Known)
    → IsKnown bay bound case known → reading_in known ≡ reading_at bound (allowed_in bay case)
known-reading bay bound case known is = ap₂ reading_at is.bounds is.allows

-- ---- hazards

contrapose : (a b : Bool) → (a ≡ true → b ≡ true) → b ≡ false → a ≡ false
contrapose true b f h = absurd (let e : true ≡ false = sym (f refl) ∙ h in cc)
contrapose false b f h = refl

module _ (bay : Bay) (net : Network) (k : ℕ) (operation : Operation) (case : List TestAnswer)
    (known : Known)
  where
    -- no hazard in the worst is none in any process of the case
    pub none-hazard : IsKnown bay Worst case known
        → is_hazard net (reading_in known) k operation ≡ false
        → (p : Process) → IsProcess p → is_in case p ≡ true → is_hazard_of net k operation p ≡ false
    none-hazard is h p ip inside =
        contrapose (is_hazard_of net k operation p)
        (is_hazard net (worst_of (allowed_in bay case)) k operation)
        (hazards-are-bounded net (allowed_in bay case) p (case-allows bay case p inside) k
        operation).worst
        (subst (λ (r : Reading). is_hazard net r k operation ≡ false)
        (known-reading bay Worst case known is) h)

    -- a hazard in the best that is known is one in the best that the case allows
    pub sure-hazard : IsKnown bay Best case known
        → is_hazard net (reading_in known) k operation ≡ true
        → is_surely_hazard bay net k operation case ≡ true
    sure-hazard is h =
        subst (λ (r : Reading). is_hazard net r k operation ≡ true)
        (known-reading bay Best case known is) h

    -- a hazard in the best is one in each process of the case
    pub each-hazard : IsKnown bay Best case known
        → is_hazard net (reading_in known) k operation ≡ true
        → is_in case (example_of case) ≡ true → IsHazard net k operation case
    each-hazard is h there = record {
      some = (example_of case, example-is case, there);
      each = λ p ip inside.
          (hazards-are-bounded net (allowed_in bay case) p (case-allows bay case p inside) k
          operation).best (sure-hazard is h);
    }

    -- what the best shows is shown in each process of the case
    pub explained : IsKnown bay Best case known → (o : Option ShownHazard)
        → IsShownOf net (reading_in known) k operation o → IsExplained bay net k operation case o
    explained is None h =
        subst (λ (r : Reading). is_hazard net r k operation ≡ false)
        (known-reading bay Best case known is) h
    explained is (Some shown) h = λ p inside.
        shown-best net (allowed_in bay case) p (case-allows bay case p inside) k operation shown
        (subst (λ (r : Reading). is_shown net r k operation shown ≡ true)
        (known-reading bay Best case known is) h)

-- a case without its example has no process
pub no-process : (case : List TestAnswer) → is_in case (example_of case) ≡ false → (p : Process)
    → IsProcess p → is_in case p ≡ false
no-process case none p ip =
    contrapose (is_in case p) (is_in case (example_of case)) (examples-there case p ip) none
