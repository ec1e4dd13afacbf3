-- The line of an audit for a rule that holds.
use Rattle.std.specs.Fmt.{decimal}
use Rattle.std.specs.List.{Contains}
use Rattle.std.specs.Prelude.{ℕ, ◌≡◌, ◌⊎◌, List, slice_get, Option, Some, Ok}
use Rattle.cmd_audit.specs.Auditing.{AuditReport}
use Rattle.cmd_audit.specs.Text.{id_of}
use Rattle.cmd_audit.specs.Verdicts.{PrintedHold, printed_hold}
use Rattle.bay_config.specs.declared.bay.Bay.{Bay}
use Rattle.bay_load.specs.Loads.{parsed_bay}
use Rattle.bay_load.specs.declared.load.Form.{Form}
use Rattle.bay_replay_laws.specs.Printed.{lines_in}
use Rattle.bay_audit_rules.specs.declared.rule.Rule.{Rule}
use Rattle.cmd_audit_laws.specs.Audited.{ByTimer, IsAudited, Plainly, octets_with}
use Rattle.cmd_audit_laws.specs.Served.{IsFile}

-- The line is that of a rule with this line in the text of rules, for this operation of the switch
-- of the bay with this id, and with the answer that it holds, or that a timer establishes it.
pub record IsLineOfRule (bay : List ℕ) (form : Form) (program rules : List ℕ) (hold : PrintedHold)
    : Type 0 where
  pub own : Bay
  pub read : parsed_bay bay ≡ Ok own
  pub rule : Rule
  pub line : decimal rule.line ≡ hold.line
  pub switch : id_of (slice_get own.switches rule.switch) ≡ hold.id
  pub operation : rule.operation ≡ hold.operation
  pub audited : IsAudited Plainly bay form program rules rule
      ⊎ IsAudited ByTimer bay form program rules rule

-- Each such line of the text of an audit, with a diagram or without, is that of such a rule.
abbrev pub HoldsAreAudited : Type 0
HoldsAreAudited =
    (bay : List ℕ) (form : Form) (program rules : List ℕ) (diagram log : Option (List ℕ))
    (text : List ℕ) (status : ℕ) → IsFile form program
    → AuditReport form (octets_with bay program (Some rules) diagram) log text status
    → (line : List ℕ) (hold : PrintedHold)
    → Contains (lines_in text) line → printed_hold line ≡ Some hold
    → IsLineOfRule bay form program rules hold
