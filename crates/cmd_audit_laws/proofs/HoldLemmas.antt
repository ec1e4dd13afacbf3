-- A line of an audit that says that a rule holds is of a rule that it answers so.
use Rattle.std.proofs.Common.{◌≡◌, ◌⊎◌, ◌==◌, ℕ, zero, suc, nat_le, Bool, true, false, cond, List, [], ◌∷◌, ◌++◌, append-nil, append_assoc, codes, slice_get, zip, Option, Some, None, Result, Ok, Err, inl, inr, refl, ap, sym, subst, ◌∙◌, arith}
use Rattle.std.proofs.lemmas.Bool.Decides.{nat_tests}
use Rattle.std.proofs.lemmas.List.Elements.{Contains-append_cases}
use Rattle.std.specs.Fmt.{decimal}
use Rattle.std.specs.List.{Contains}
use Rattle.std.specs.Str.{bytes_eq}
use Rattle.bay_audit.specs.Rules.{program_of}
use Rattle.bay_audit.specs.declared.answer.RuleAnswer.{RuleAnswer}
use Rattle.bay_audit.specs.declared.answer.RuleAnswer.TheVariants.{Broken, Holds, Open, Since, TooMany}
use Rattle.cmd_audit.specs.Auditing.{AuditText, AreAnswered, AuditReport, DiagramRead, JudgementsIf, RulesReport, ParsedRulesReport, IsTextWith, RulesRead, status_of}
use Rattle.cmd_audit.specs.Names.{HasDiagramWords, HasWords}
use Rattle.cmd_audit.specs.Refusals.{diagram_refusal, number_of, numbered_diagram, table_of, table_text}
use Rattle.cmd_audit.specs.Text.{is_passed, numbered_text}
use Rattle.cmd_audit.specs.Verdicts.{IsHold, PrintedHold, hold_in, printed_hold}
use Rattle.cmd_audit.proofs.BayNameLemmas.{bays-have-words}
use Rattle.cmd_audit.proofs.DiagramLineLemmas.{judgements-lines}
use Rattle.cmd_audit.proofs.DiagramNameLemmas.{diagrams-have-words}
use Rattle.cmd_audit.proofs.NameLemmas.{names-are-words}
use Rattle.cmd_audit.proofs.HoldLemmas.{holds-lines, says-no-hold}
use Rattle.bay_config.specs.declared.bay.Bay.{Bay}
use Rattle.bay_device.proofs.LoadLemmas.{image-is}
use Rattle.bay_diagram_file.specs.declared.diagram.Diagram.{Diagram}
use Rattle.bay_diagram_file.specs.Code.{code_of as diagram_code}
use Rattle.bay_diagram_file.specs.declared.fault.DiagramFault.{DiagramFault}
use Rattle.bay_diagram_file.specs.declared.fault.Place.{Place}
use Rattle.bay_diagram_file.specs.declared.fault.Place.TheVariants as places
use Rattle.bay_load.specs.declared.report.Report.{Report}
use Rattle.bay_load.specs.Errors as error_code
use Rattle.bay_load.specs.Loads.{IsImageOf, LoadData, LoadsTo}
use Rattle.bay_load.specs.declared.error.LoadError.{LoadError}
use Rattle.bay_load.proofs.LoadLemmas.{load-made}
use Rattle.bay_report.specs.LogLines.{IsLoggedOutput}
use Rattle.bay_report.specs.Report.{coded_refusal, load_refusal_text, report_text}
use Rattle.bay_load.specs.declared.load.Form.{Form}
use Rattle.bay_load.specs.declared.load.Form.TheVariants as form
use Rattle.bay_replay_laws.specs.Printed.{lines_in, words_in}
use Rattle.bay_replay_laws.proofs.LineLemmas.{AreLines, decimal-free, each-line, free, free-append, map-lines, more-lines, no-lines, one-line, split-at}
use Rattle.bay_replay_laws.proofs.PrintLemmas.{load-is}
use Rattle.bay_replay_laws.proofs.ReadLemmas.{load_line, no-end, no-space}
use Rattle.bay_replay_laws.proofs.WithinLemmas.{load-free}
use Rattle.bay_audit_rules.specs.Code.{code_of, line_of}
use Rattle.bay_audit_rules.specs.declared.fault.RuleFault.{RuleFault}
use Rattle.bay_audit_rules.specs.declared.rule.Rule.{Rule}
use Rattle.il_check.proofs.TypedLemmas.{typed-of}
use Rattle.il_compile.specs.Compiled.{compiled_of, image_of, image_size, most_octets}
use Rattle.il_compile.specs.declared.fault.CompileFault.TheVariants.{CodeTooLong}
use Rattle.il_compile.proofs.CompiledLemmas.{is-image}
use Rattle.il_check.specs.Program.{Checked}
use Rattle.il_image.specs.Images.{Image, IsImage}
use Rattle.il_image.proofs.ImageLemmas.{spelled-image}
use Rattle.cmd_audit_laws.specs.Audited.{AfterLoad, AnswersRuleIn, ByTimer, IfDrawn, IfRead, IsAnswered, IsAudited, Plainly, octets_with}
use Rattle.cmd_audit_laws.specs.Served.{IsFile}
use Rattle.cmd_audit_laws.specs.PrintedHolds.{HoldsAreAudited, IsLineOfRule}

-- ---- the image of a program

compiled-image : (c : Checked) (image : Image) → IsImage (image_of c)
    ⊎ (compiled_of c ≡ Ok image → ⊥) → compiled_of c ≡ Ok image → IsImage image
compiled-image c image (inr none) e = absurd (none e)
compiled-image c image (inl is) e = subst IsImage (sym (image-is c image e)) is

image-kept : (f : Form) (program : List ℕ) (own : Bay) (image : Image) → IsFile f program
    → IsImageOf f program own image → IsImage image
image-kept form.Logic program own image file made =
    let c : Checked = made.checked in
    compiled-image c image
    (by-size (nat_le (image_size c) most_octets) refl) made.compiles
  where
    by-size : (b : Bool) → nat_le (image_size made.checked) most_octets ≡ b
        → IsImage (image_of made.checked) ⊎ (compiled_of made.checked ≡ Ok image → ⊥)
    by-size true small =
        inl (is-image made.checked (typed-of own.points made.program made.checked made.passes)
        (grind (arith, nat_tests)))
    by-size false large = inr (λ e. let no : Err CodeTooLong ≡ Ok image = rw large at e in cc)
image-kept form.Image program own image file made = (spelled-image program image file made).0

-- ---- lines that say nothing of a rule

abbrev SaysNone : List ℕ → Type 0
SaysNone line = printed_hold line ≡ None

other-words : (word : List ℕ) (ws : List (List ℕ)) → bytes_eq word (codes "rule") ≡ false
    → hold_in (word ∷ ws) ≡ None
other-words word [] other = refl
other-words word (a ∷ []) other = refl
other-words word (a ∷ b ∷ []) other = refl
other-words word (a ∷ b ∷ c ∷ []) other = refl
other-words word (a ∷ b ∷ c ∷ d ∷ ws) other = rw other refl

other-line : (word rest : List ℕ) → free 32 word ≡ true → bytes_eq word (codes "rule") ≡ false
    → SaysNone (word ++ 32 ∷ rest)
other-line word rest plain other =
    ap hold_in (split-at 32 word rest plain) ∙ other-words word (words_in rest) other

numbered : (a m c end : List ℕ) → a ++ (32 ∷ m) ++ (c ++ end) ≡ (a ++ 32 ∷ (m ++ c)) ++ end
numbered a m c end = simp append_assoc

numbered-right : (a m c end : List ℕ) → a ++ ((32 ∷ m) ++ (c ++ end)) ≡ (a ++ 32 ∷ (m ++ c)) ++ end
numbered-right a m c end = simp append_assoc

load-lines : (b : Bool) (code line : ℕ)
    → AreLines SaysNone (cond b (codes "load refused " ++ (decimal code ++ codes "\n"))
    (codes "load refused " ++ decimal code ++ codes " line " ++ (decimal line ++ codes "\n")))
load-lines true code line =
    one-line (codes "load" ++ 32 ∷ (codes "refused " ++ decimal code)) (decimal-free 10 code no-end)
    (other-line (codes "load") (codes "refused " ++ decimal code) refl refl)
load-lines false code line =
    let rest : List ℕ = decimal code ++ 32 ∷ (codes "line " ++ decimal line) in
    subst (AreLines SaysNone)
    (sym (ap (λ t. codes "load refused " ++ t)
    (numbered (decimal code) (codes "line ") (decimal line) (codes "\n"))))
    (one-line (codes "load" ++ 32 ∷ (codes "refused " ++ rest))
    (free-append 10 (decimal code) (32 ∷ (codes "line " ++ decimal line))
    (decimal-free 10 code no-end) (decimal-free 10 line no-end))
    (other-line (codes "load") (codes "refused " ++ rest) refl refl))

refused-by : (code : Option ℕ) (line : ℕ) → AreLines SaysNone (coded_refusal code line)
refused-by None line = one-line (codes "load refused memory") refl refl
refused-by (Some code) line = load-lines (line == 0) code line

refused-lines : (error : LoadError) → AreLines SaysNone (load_refusal_text error)
refused-lines error = refused-by (error_code.code_of error) (error_code.line_of error)

rules-lines : (code : Option ℕ) (line : ℕ) → AreLines SaysNone (numbered_text code line)
rules-lines None line = no-lines
rules-lines (Some code) line =
    let rest : List ℕ = decimal code ++ 32 ∷ (codes "line " ++ decimal line) in
    subst (AreLines SaysNone)
    (sym (ap (λ t. codes "rules refused " ++ t)
    (numbered-right (decimal code) (codes "line ") (decimal line) (codes "\n"))))
    (one-line (codes "rules" ++ 32 ∷ (codes "refused " ++ rest))
    (free-append 10 (decimal code) (32 ∷ (codes "line " ++ decimal line))
    (decimal-free 10 code no-end) (decimal-free 10 line no-end))
    (other-line (codes "rules") (codes "refused " ++ rest) refl refl))

-- the line of a diagram file that is refused
refused-diagram : (code : Option ℕ) (table : Option (List ℕ × ℕ))
    → free 10 (table_text table) ≡ true → AreLines SaysNone (numbered_diagram code table)
refused-diagram None table plain = no-lines
refused-diagram (Some code) table plain =
    let rest : List ℕ = decimal code ++ table_text table in
    subst (AreLines SaysNone)
    (ap (λ t. codes "diagram refused " ++ t) (append_assoc (decimal code) (table_text table)
    (codes "\n")))
    (one-line (codes "diagram" ++ 32 ∷ (codes "refused " ++ rest))
    (free-append 10 (decimal code) (table_text table) (decimal-free 10 code no-end) plain)
    (other-line (codes "diagram") (codes "refused " ++ rest) refl refl))

place-free : (place : Place) → free 10 (table_text (table_of place)) ≡ true
place-free places.File = refl
place-free (places.Node k) =
    free-append 10 (codes " node ") (decimal (number_of k)) refl
    (decimal-free 10 (number_of k) no-end)
place-free (places.Between k) =
    free-append 10 (codes " between ") (decimal (number_of k)) refl
    (decimal-free 10 (number_of k) no-end)
place-free (places.Switch k) =
    free-append 10 (codes " switch ") (decimal (number_of k)) refl
    (decimal-free 10 (number_of k) no-end)

diagram-lines : (fault : DiagramFault) → AreLines SaysNone (diagram_refusal fault)
diagram-lines fault =
    refused-diagram (diagram_code fault.kind) (table_of fault.place) (place-free fault.place)

-- ---- the releases that a diagram judges

-- the names of the diagram are words, if there is one
abbrev MayHaveWords : Option Diagram → Type 0
MayHaveWords None = Unit {0}
MayHaveWords (Some d) = HasDiagramWords d

may-have-words : (bay : Bay) (diagram : Option (List ℕ)) (d : Option Diagram)
    → DiagramRead bay diagram (Ok d) → MayHaveWords d
may-have-words bay diagram None read = tt
may-have-words bay None (Some d) read = absurd cc
may-have-words bay (Some file) (Some d) read = diagrams-have-words bay file d read

judged-lines : (l : LoadData) (d : Option Diagram) (text : List ℕ) (ended : ℕ) → HasWords l.bay
    → MayHaveWords d → JudgementsIf l d text ended → AreLines SaysNone text
judged-lines l None text ended ids words j = subst (AreLines SaysNone) (sym j.0) no-lines
judged-lines l (Some d) text ended ids words j = judgements-lines l d text ended ids words j

-- ---- answers

zip-at : (rules : List Rule) (answers : List RuleAnswer) (pair : Rule × RuleAnswer)
    → Contains (zip rules answers) pair
    → (k : ℕ) × (slice_get rules k ≡ Some pair.0) × (slice_get answers k ≡ Some pair.1)
zip-at [] answers pair c = absurd (let low = c.1 in omega (arith, low))
zip-at (r ∷ rules) [] pair c = absurd (let low = c.1 in omega (arith, low))
zip-at (r ∷ rules) (a ∷ answers) pair (zero, low, is) =
    (0, ap (λ (p : Rule × RuleAnswer). Some p.0) is, ap (λ (p : Rule × RuleAnswer). Some p.1) is)
zip-at (r ∷ rules) (a ∷ answers) pair (suc k, low, is) =
    let rest = zip-at rules answers pair (k, omega (arith, low), is) in
    (suc rest.0, rest.1, rest.2)

passed : (answer : RuleAnswer) → is_passed answer ≡ true → Plainly answer ⊎ ByTimer answer
passed (Holds cases) how = inl tt
passed (Since timer cases) how = inr tt
passed (Broken case) how = absurd cc
passed (Open case kept) how = absurd cc
passed TooMany how = absurd cc

-- ---- an audit

no-line : (text line : List ℕ) (hold : PrintedHold) → AreLines SaysNone text
    → Contains (lines_in text) line → printed_hold line ≡ Some hold → ⊥
no-line text line hold are at e =
    let none : SaysNone line = each-line are refl line at in
    let bad : None ≡ Some hold = sym none ∙ e in cc

module _ (bay : List ℕ) (f : Form) (program rules : List ℕ) (log : Option (List ℕ))
    (whole : List ℕ) (status : ℕ) (file : IsFile f program) (line : List ℕ) (hold : PrintedHold)
    (e : printed_hold line ≡ Some hold) where
  of-answers : (l : LoadData) → LoadsTo bay f program (Ok l) → (rs : List Rule)
      (text : List ℕ) (ended : ℕ) (written : AuditText l rs text ended)
      → IsHold l.bay (program_of l.bay l.image) (zip rs written.answers) hold
      → ((How : RuleAnswer → Type 0) (rule : Rule) → IsAnswered How rs written.answers rule
      → IsAudited How bay f program rules rule) → IsLineOfRule bay f program rules hold
  of-answers l loads rs text ended written h more =
      let made = load-made bay f program l loads in
      let index = zip-at rs written.answers h.pair h.among in
      record {
        own = l.bay;
        read = made.read;
        rule = h.pair.0;
        line = h.line;
        switch = h.switch;
        operation = h.operation;
        audited = elim (passed h.pair.1 h.holds) [
          | inl how ↦ inl (more Plainly h.pair.0 (record {
            index = index.0;
            here = index.1;
            answer = h.pair.1;
            answered = index.2;
            how = how;
          }))
          | inr how ↦ inr (more ByTimer h.pair.0 (record {
            index = index.0;
            here = index.1;
            answer = h.pair.1;
            answered = index.2;
            how = how;
          }))
        ];
      }

  -- the lines of the answers, and then lines that say of no rule that it holds
  of-lines : (l : LoadData) → LoadsTo bay f program (Ok l) → (rs : List Rule)
      (answered judged : List ℕ) (ended : ℕ) (written : AuditText l rs answered ended)
      → AreLines SaysNone judged → Contains (lines_in (answered ++ judged)) line
      → IsHold l.bay (program_of l.bay l.image) (zip rs written.answers) hold
  of-lines l loads rs answered judged ended written none at =
      let made = load-made bay f program l loads in
      let kept : IsImage l.image = image-kept f program l.bay l.image file made.made in
      let pairs = zip rs written.answers in
      each-line
      (more-lines
      (holds-lines l rs answered ended (bays-have-words bay l.bay made.read)
      (names-are-words bay f program l loads kept) written)
      (map-lines (says-no-hold l pairs) none))
      (says-no-hold l pairs [] refl) line at hold e

  of-both : (l : LoadData) → LoadsTo bay f program (Ok l) → (rs : List Rule) (d : Option Diagram)
      → MayHaveWords d → (text : List ℕ) (prints : AreAnswered l (Some rs) d text status)
      → Contains (lines_in text) line
      → ((How : RuleAnswer → Type 0) (rule : Rule)
      → AnswersRuleIn How rule l (Some rs) d text status prints
      → IsAudited How bay f program rules rule) → IsLineOfRule bay f program rules hold
  of-both l loads rs d words text (inl both) at more =
      let made = load-made bay f program l loads in
      of-answers l loads rs both.answered (status_of both.passed) both.answers
      (of-lines l loads rs both.answered both.judged (status_of both.passed) both.answers
      (judged-lines l d both.judged both.ended (bays-have-words bay l.bay made.read) words
      both.judgements)
      (subst (λ t. Contains (lines_in t) line) both.whole at))
      more
  of-both l loads rs d words text (inr cut) at more =
      of-answers l loads rs text 3 cut.1
      (of-lines l loads rs text [] 3 cut.1 no-lines
      (subst (λ t. Contains (lines_in t) line) (sym (append-nil text)) at))
      more

  of-drawn : (l : LoadData) → LoadsTo bay f program (Ok l) → (rs : List Rule)
      (diagram : Option (List ℕ)) (parsed : Result (Option Diagram) DiagramFault)
      → DiagramRead l.bay diagram parsed → (text : List ℕ)
      (prints : IsTextWith l (Some rs) parsed log text status) → Contains (lines_in text) line
      → ((How : RuleAnswer → Type 0) (rule : Rule)
      → IfDrawn (AnswersRuleIn How rule) l (Some rs) parsed log text status prints
      → IsAudited How bay f program rules rule) → IsLineOfRule bay f program rules hold
  of-drawn l loads rs diagram (Ok d) read text prints at more =
      of-both l loads rs d (may-have-words l.bay diagram d read) text prints.1 at more
  of-drawn l loads rs diagram (Err fault) read text prints at more =
      absurd (no-line text line hold
      (subst (AreLines SaysNone) (sym prints.1.0) (diagram-lines fault)) at e)

  of-rules : (l : LoadData) → LoadsTo bay f program (Ok l) → (diagram : Option (List ℕ))
      (parsed : Result (Option (List Rule)) RuleFault) → RulesRead l.bay (Some rules) parsed
      → (text : List ℕ) (prints : ParsedRulesReport l parsed diagram log text status)
      → Contains (lines_in text) line
      → ((How : RuleAnswer → Type 0) (rule : Rule)
      → IfRead (AnswersRuleIn How rule) l parsed diagram log text status prints
      → IsAudited How bay f program rules rule) → IsLineOfRule bay f program rules hold
  of-rules l loads diagram (Err fault) parses text prints at more =
      absurd (no-line text line hold
      (subst (AreLines SaysNone) (sym prints.1.0) (rules-lines (code_of fault) (line_of fault))) at
      e)
  of-rules l loads diagram (Ok None) parses text prints at more = absurd parses
  of-rules l loads diagram (Ok (Some rs)) parses text prints at more =
      of-drawn l loads rs diagram prints.parsed prints.parses text prints.prints at more

  of-load : (report : Report) (rest : List ℕ) → whole ≡ report_text report ++ rest
      → Contains (lines_in whole) line → Contains (lines_in rest) line
  of-load report rest is at =
      let i = report.instructions in
      let d = report.depth in
      let b = report.budget in
      let cut : lines_in whole ≡ (load_line i d b ∷ []) ++ lines_in rest =
      ap lines_in (is ∙ ap (λ t. t ++ rest) (load-is report)
      ∙ append_assoc (load_line i d b) (10 ∷ []) rest)
      ∙ split-at 10 (load_line i d b) rest (load-free i d b) in
      by-case (load_line i d b)
      (other-line (codes "instructions=" ++ decimal i)
      ((codes "depth=" ++ decimal d) ++ 32 ∷ (codes "budget=" ++ decimal b))
      (decimal-free 32 i no-space) refl)
      (Contains-append_cases (load_line i d b ∷ []) (lines_in rest) line
      (subst (λ ls. Contains ls line) cut at))
    where
      by-case : (first : List ℕ) → SaysNone first
          → Contains (first ∷ []) line ⊎ Contains (lines_in rest) line
          → Contains (lines_in rest) line
      by-case first none (inr later) = later
      by-case first none (inl (zero, low, same)) =
          absurd (let bad : None ≡ Some hold = sym none ∙ ap printed_hold same ∙ e in cc)
      by-case first none (inl (suc k, low, same)) = absurd (omega (arith, low))

  of-audit : (diagram : Option (List ℕ))
      (audit : AuditReport f (octets_with bay program (Some rules) diagram) log whole status)
      → Contains (lines_in whole) line → IsLineOfRule bay f program rules hold
  of-audit diagram (inr refused) at =
      absurd (no-line whole line hold
      (subst (AreLines SaysNone) (sym refused.reports.1.0) (refused-lines refused.error)) at e)
  of-audit diagram (inl load) at =
      of-says load.reports.prints
      (of-load load.reports.report load.reports.rest load.reports.whole at)
      (λ How rule prints. record {
        diagram = diagram;
        log = log;
        text = whole;
        status = status;
        audit = inl load;
        prints = prints;
      })
    where
      of-says : (prints : RulesReport load.loaded (Some rules) diagram log load.reports.rest status
          ⊎ IsLoggedOutput None (codes "fault memory\n") 3 log load.reports.rest status)
          → Contains (lines_in load.reports.rest) line
          → ((How : RuleAnswer → Type 0) (rule : Rule)
          → AfterLoad (AnswersRuleIn How rule) _ load.loaded (Some rules) diagram log
          load.reports.rest status prints
          → IsAudited How bay f program rules rule)
          → IsLineOfRule bay f program rules hold
      of-says (inr memory) there more =
          absurd (no-line load.reports.rest line hold
          (subst (AreLines SaysNone) (sym memory.1.0) (one-line (codes "fault memory") refl refl))
          there e)
      of-says (inl prints) there more =
          of-rules load.loaded load.loads diagram prints.parsed prints.parses load.reports.rest
          prints.prints there more

pub holds-audited : HoldsAreAudited
holds-audited bay f program rules diagram log text status file audit line hold at e =
    of-audit bay f program rules log text status file line hold e diagram audit at
