-- Lemmas on the verdict on a text of rules.
use Rattle.std.proofs.Common.{◌≡◌, ◌≢◌, ◌⊎◌, inl, inr, List, ℕ, Result, Ok, Err, IfOk}
use Rattle.bay_load.specs.Loads.{LoadData}
use Rattle.bay_audit_rules.specs.Meaning.{TextRead}
use Rattle.bay_audit_rules.specs.declared.fault.RuleFault.{RuleFault}
use Rattle.bay_audit_rules.specs.declared.fault.RuleFault.TheVariants as fault
use Rattle.cmd_audit.specs.Judging.{JudgesText}
use Rattle.cmd_audit.specs.declared.judging.RulesVerdict.{RulesVerdict}
use Rattle.cmd_audit.specs.declared.judging.RulesVerdict.TheVariants.{Refused}

not-memory : {A : Type 0} (why : RuleFault) → (why ≡ fault.OutOfMemory) ⊎ A
    → why ≢ fault.OutOfMemory → A
not-memory why (inl memory) other = absurd (other memory)
not-memory why (inr a) other = a

-- a text that is refused has its fault
pub refused-text : {E : Type 0} (loaded : LoadData) (text : List ℕ) (why : RuleFault)
    → (why ≡ fault.OutOfMemory) ⊎ TextRead loaded.bay text (Err why) → (r : Result RulesVerdict E)
    → IfOk r (λ verdict. (verdict ≡ Refused why) × (why ≢ fault.OutOfMemory))
    → IfOk r (JudgesText loaded text)
refused-text loaded text why parses (Ok verdict) written =
    record { parsed = Err why; parses = not-memory why parses written.1; judges = written.0 }
refused-text loaded text why parses (Err e) written = tt
