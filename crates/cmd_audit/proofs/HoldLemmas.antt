-- The lines of a whole audit, or of one for which memory ran out, are read back.
use Rattle.std.proofs.Common.{◌≡◌, ◌⊎◌, inl, inr, ℕ, List, [], ◌∷◌, ◌++◌, codes, zip, None, Some, refl, sym, subst, ◌∙◌}
use Rattle.bay_config.specs.declared.bay.Bay.{Bay}
use Rattle.bay_audit_rules.specs.declared.rule.Rule.{Rule}
use Rattle.bay_audit.specs.Rules.{AreRightAnswers, BoundProgram, program_of}
use Rattle.bay_audit.specs.declared.answer.RuleAnswer.{RuleAnswer}
use Rattle.bay_audit.specs.declared.answer.Release.{Release}
use Rattle.bay_replay_laws.proofs.LineLemmas.{AreLines, each-line, map-lines, more-lines, no-lines, one-line}
use Rattle.bay_load.specs.Loads.{LoadData}
use Rattle.cmd_audit.specs.Auditing.{AuditText, IsCut, IsWhole}
use Rattle.cmd_audit.specs.Names.{AreWords, HasWords, ProgramNames, program_names}
use Rattle.cmd_audit.specs.Text as spec
use Rattle.cmd_audit.specs.Verdicts.{HoldsAreRead, IsHold, PrintedHold, printed_hold}
use Rattle.cmd_audit.proofs.VerdictLemmas as lines

module _ (bay : Bay) (names : ProgramNames) (g : BoundProgram) (words : HasWords bay)
    (known : AreWords names) where
  abbrev Said : List (Rule × RuleAnswer) → List ℕ → Type 0
  Said pairs line = lines.Says bay names g words known pairs line

  -- the answers that were printed before memory ran out are some of all
  answers-parts : (rules : List Rule) (answers : List RuleAnswer)
      (shown hidden : List (Rule × RuleAnswer)) → AreRightAnswers g rules answers
      → zip rules answers ≡ shown ++ hidden
      → AreLines (Said (zip rules answers)) (spec.answers_text bay names shown)
  answers-parts rules answers [] hidden right parts = no-lines
  answers-parts [] [] (p ∷ shown) hidden right parts = absurd cc
  answers-parts [] (a ∷ answers) (p ∷ shown) hidden right parts = absurd right
  answers-parts (rule ∷ rules) [] (p ∷ shown) hidden right parts = absurd right
  answers-parts (rule ∷ rules) (a ∷ answers) (p ∷ shown) hidden right parts =
      let same : (rule, a) ≡ p = cc in
      let rest : zip rules answers ≡ shown ++ hidden = cc in
      more-lines
      (subst (λ (q : Rule × RuleAnswer). AreLines (Said ((rule, a) ∷ zip rules answers))
      (spec.answer_text bay names q)) same
      (lines.answer-lines bay names g words known rule a ((rule, a) ∷ zip rules answers)
      (lines.here bay names g words known (rule, a) (zip rules answers))
      right.0))
      (map-lines (lines.lift bay names g words known (rule, a) (zip rules answers))
      (answers-parts rules answers shown hidden right.1 rest))

  fault-line : (pairs : List (Rule × RuleAnswer))
      → AreLines (Said pairs) (codes "fault memory\n")
  fault-line pairs =
      one-line (codes "fault memory") refl
      (lines.says-word bay names g words known pairs (codes "fault memory") refl)

  said-lines : (rules : List Rule) (answers : List RuleAnswer) (releases : List Release)
      (text : List ℕ) (status : ℕ) → AreRightAnswers g rules answers
      → IsWhole bay names rules answers releases text status
      ⊎ IsCut bay names rules answers releases text status
      → AreLines (Said (zip rules answers)) text
  said-lines rules answers releases text status right (inl whole) =
      subst (AreLines (Said (zip rules answers))) (sym whole.written)
      (more-lines (lines.answers-lines bay names g words known rules answers right)
      (lines.releases-lines bay names g words known (zip rules answers) releases))
  said-lines rules answers releases text status right (inr cut) =
      subst (AreLines (Said (zip rules answers))) (sym cut.written)
      (more-lines (answers-parts rules answers cut.shown cut.hidden right cut.parts)
      (more-lines (lines.shown-lines bay names g words known (zip rules answers) releases)
      (fault-line (zip rules answers))))

-- the line is that of a rule that holds, if it is read so
abbrev pub SaysHold : (loaded : LoadData) → List (Rule × RuleAnswer) → List ℕ → Type 0
SaysHold loaded pairs line =
    (hold : PrintedHold) → printed_hold line ≡ Some hold
    → IsHold loaded.bay (program_of loaded.bay loaded.image) pairs hold

pub says-no-hold : (loaded : LoadData) (pairs : List (Rule × RuleAnswer)) (line : List ℕ)
    → printed_hold line ≡ None → SaysHold loaded pairs line
says-no-hold loaded pairs line none hold e =
    absurd (let bad : None ≡ Some hold = sym none ∙ e in cc)

-- each line of the answers is that of a rule that holds, if it is read so
pub holds-lines : (loaded : LoadData) (rules : List Rule) (text : List ℕ) (status : ℕ)
    → HasWords loaded.bay → AreWords (program_names loaded)
    → (written : AuditText loaded rules text status)
    → AreLines (SaysHold loaded (zip rules written.answers)) text
holds-lines loaded rules text status words known written =
    said-lines loaded.bay (program_names loaded) (program_of loaded.bay loaded.image) words known
    rules written.answers written.releases text status written.right written.written

pub holds-are-read : HoldsAreRead
holds-are-read loaded rules text status words known written line hold at e =
    each-line (holds-lines loaded rules text status words known written)
    (says-no-hold loaded (zip rules written.answers) [] refl) line at hold e
