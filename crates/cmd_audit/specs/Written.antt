-- Inner: what was put into a writer so far.
use Rattle.std.specs.Prelude.{◌≡◌, ℕ, Bool, List, [], ◌++◌, ◌⊎◌, codes, flat_map, map, zip, Option, None}
use Rattle.std.specs.List.{list_all}
use Rattle.bay_audit.specs.Rules.{AreReleases, AreRightAnswers, IsRelease, BoundProgram, direction_of}
use Rattle.bay_audit.specs.declared.answer.Release.{Release}
use Rattle.bay_audit.specs.declared.answer.RuleAnswer.{RuleAnswer}
use Rattle.bay_audit_rules.specs.declared.rule.Rule.{Rule}
use Rattle.bay_base.specs.declared.switch.Operation.{Operation}
use Rattle.bay_config.specs.declared.bay.Bay.{Bay}
use Rattle.bay_io.specs.Calls.{WriteCall}
use Rattle.bay_io.specs.Sent.{Puts}
use Rattle.bay_io.specs.Watched.{WriterState}
use Rattle.bay_load.specs.Loads.{LoadData}
use Rattle.bay_report.specs.LogLines.{IsLoggedOutput}
use Rattle.bay_diagram_file.specs.declared.diagram.Diagram.{Diagram}
use Rattle.cmd_audit.specs.Auditing.{RulesReport}
use Rattle.cmd_audit.specs.HazardText.{hazard_lines}
use Rattle.cmd_audit.specs.Judged.{AreJudged, is_safe, judged_way}
use Rattle.cmd_audit.specs.Names.{ProgramNames}
use Rattle.cmd_audit.specs.Text.{answers_text, is_passed, release_text}
use Rattle.cmd_audit.specs.declared.judged.JudgedRelease.{JudgedRelease}
use Rattle.cmd_audit.specs.declared.loaded.AuditTexts.{AuditTexts}

module _ {W : Type 0} (contents : W → Option (List ℕ)) (does : W → WriteCall → W → Type 0) where
  -- the lines of right answers to these rules, and whether each holds
  pub record PutsAnswers (bay : Bay) (names : ProgramNames) (g : BoundProgram) (rules : List Rule)
      (passed : Bool) (old new : WriterState W) : Type 0 where
    pub answers : List RuleAnswer
    pub right : AreRightAnswers g rules answers
    pub passed_is : passed ≡ list_all is_passed answers
    pub put : Puts contents does old (answers_text bay names (zip rules answers)) new

  -- the lines of right answers to the first of these rules
  pub record PutsFirstAnswers (bay : Bay) (names : ProgramNames) (g : BoundProgram)
      (rules : List Rule)
      (old new : WriterState W) : Type 0 where
    pub answered : List Rule
    pub others : List Rule
    pub parts : rules ≡ answered ++ others
    pub passed : Bool
    pub put : PutsAnswers bay names g answered passed old new

  -- the lines of a right release of this switch and operation
  pub record PutsRelease (bay : Bay) (names : ProgramNames) (g : BoundProgram) (way : ℕ × Operation)
      (r : Release) (old new : WriterState W) : Type 0 where
    pub right : IsRelease bay g r
    pub is : direction_of r ≡ way
    pub put : Puts contents does old (release_text bay names r) new

  -- the lines of a right release of this switch and operation, or nothing
  abbrev pub PutsReleaseIfAny : Bay → ProgramNames → BoundProgram → ℕ × Operation → WriterState W
      → WriterState W
      → Type 0
  PutsReleaseIfAny bay names g way old new =
      (new ≡ old) ⊎ ((r : Release) × PutsRelease bay names g way r old new)

  -- the lines of these releases, which are right and are those of these switches and operations
  pub record PutsReleases (bay : Bay) (names : ProgramNames) (g : BoundProgram)
      (these : List (ℕ × Operation)) (releases : List Release) (old new : WriterState W)
      : Type 0 where
    pub right : AreReleases bay g releases
    pub all : map direction_of releases ≡ these
    pub put : Puts contents does old (flat_map (release_text bay names) releases) new

  -- the lines of right releases of the first of these switches and operations
  pub record PutsFirstReleases (bay : Bay) (names : ProgramNames) (g : BoundProgram)
      (these : List (ℕ × Operation)) (old new : WriterState W) : Type 0 where
    pub found : List (ℕ × Operation)
    pub later : List (ℕ × Operation)
    pub parts : these ≡ found ++ later
    pub releases : List Release
    pub put : PutsReleases bay names g found releases old new

  -- a text, up to the line of a fault if it stopped, which is such a text with this status
  pub record PutsText (Says : List ℕ → ℕ → Type 0) (fault : List ℕ) (status : ℕ)
      (old new : WriterState W) : Type 0 where
    pub text : List ℕ
    pub put : Puts contents does old text new
    pub prints : Says (text ++ fault) status

  -- the lines of judged releases, which are right and are those of these switches and operations,
  -- and whether each of them holds
  pub record PutsJudged (bay : Bay) (d : Diagram) (g : BoundProgram)
      (these : List (ℕ × Operation)) (passed : Bool) (old new : WriterState W) : Type 0 where
    pub releases : List JudgedRelease
    pub right : AreJudged g d.network releases
    pub all : map judged_way releases ≡ these
    pub passed_is : passed ≡ list_all is_safe releases
    pub put : Puts contents does old (hazard_lines bay d releases) new

  -- the lines of judged releases of the first of these switches and operations
  pub record PutsFirstJudged (bay : Bay) (d : Diagram) (g : BoundProgram)
      (these : List (ℕ × Operation)) (old new : WriterState W) : Type 0 where
    pub found : List (ℕ × Operation)
    pub later : List (ℕ × Operation)
    pub parts : these ≡ found ++ later
    pub passed : Bool
    pub put : PutsJudged bay d g found passed old new

  -- the text after the line of a load
  pub record PutsRulesText (loaded : LoadData) (texts : AuditTexts) (log : Option (List ℕ))
      (status : ℕ)
      (old new : WriterState W) : Type 0 where
    pub text : List ℕ
    pub put : Puts contents does old text new
    pub prints : RulesReport loaded texts.rules texts.diagram log text status

  -- the text after the line of a load, without the line of a fault, before which it stopped; or
  -- nothing
  pub record PutsStopped (loaded : LoadData) (texts : AuditTexts) (old new : WriterState W)
      : Type 0 where
    pub text : List ℕ
    pub put : Puts contents does old text new
    pub prints : RulesReport loaded texts.rules texts.diagram None (text ++ codes "fault memory\n")
        3
        ⊎ (text ≡ [])

  -- the text after the line of a load, also if it stopped
  pub record PutsRest (loaded : LoadData) (texts : AuditTexts) (log : Option (List ℕ)) (status : ℕ)
      (old new : WriterState W) : Type 0 where
    pub rest : List ℕ
    pub put : Puts contents does old rest new
    pub prints : RulesReport loaded texts.rules texts.diagram log rest status
        ⊎ IsLoggedOutput None (codes "fault memory\n") 3 log rest status
