-- Lemmas on the text after the line of a load.
use Rattle.std.proofs.Common.{◌≡◌, ◌∙◌, ◌⊎◌, inl, inr, ℕ, ◌==◌, Bool, true, false, ◌&&◌, cond, List, [], ◌++◌, codes, Option, None, Some, Result, Ok, Err, MatchResult, refl, ap, subst, sym, append-nil, append_assoc}
use Rattle.bay_audit_rules.specs.declared.fault.RuleFault.{RuleFault}
use Rattle.bay_audit_rules.specs.declared.rule.Rule.{Rule}
use Rattle.bay_diagram_file.specs.declared.diagram.Diagram.{Diagram}
use Rattle.bay_diagram_file.specs.declared.fault.DiagramFault.{DiagramFault}
use Rattle.bay_io.specs.Calls.{WriteCall}
use Rattle.bay_io.specs.Sent.{Puts}
use Rattle.bay_io.specs.Watched.{WriterState}
use Rattle.bay_io.proofs.SentLemmas.{Puts-nil, Puts-then}
use Rattle.bay_load.specs.Loads.{LoadData}
use Rattle.bay_report.specs.LogLines.{IsLoggedOutput}
use Rattle.bay_report.specs.Report.{code_of}
use Rattle.cmd_audit.specs.Auditing.{AnswersIf, AreAnswered, DiagramRead, RulesReport, JudgementsIf, RulesRead, status_of}
use Rattle.cmd_audit.specs.Refusals.{diagram_refusal, log_in}
use Rattle.cmd_audit.specs.Text.{refusal_text}
use Rattle.cmd_audit.specs.Written.{PutsRest, PutsRulesText, PutsStopped, PutsText}
use Rattle.cmd_audit.specs.declared.loaded.AuditEnd.{AuditEnd}
use Rattle.cmd_audit.specs.declared.loaded.AuditTexts.{AuditTexts}
use Rattle.cmd_audit.specs.declared.refusal.Refusal.{Refusal}
use Rattle.cmd_audit.specs.declared.refusal.Refusal.TheVariants.{Rules, DiagramFile}

-- the status of two parts that were written to their end
status-of : (passed safe : Bool)
    → status_of (passed && safe)
    ≡ cond (status_of safe == 0) (status_of passed) (status_of safe)
status-of true true = refl
status-of true false = refl
status-of false true = refl
status-of false false = refl

module _ {W : Type 0} {contents : W → Option (List ℕ)} {does : W → WriteCall → W → Type 0}
    (loaded : LoadData) (rules : Option (List Rule)) (d : Option Diagram) where
  -- both parts were written to their end
  pub answered-whole : (passed safe : Bool) (status : ℕ) {old mid new : WriterState W}
      → PutsText contents does (AnswersIf loaded rules) [] (status_of passed) old mid
      → PutsText contents does (JudgementsIf loaded d) [] (status_of safe) mid new
      → status ≡ status_of (passed && safe)
      → PutsText contents does (AreAnswered loaded rules d) [] status old new
  answered-whole passed safe status {old} {mid} {new} a j ends = record {
    text = a.text ++ j.text;
    put = Puts-then a.put j.put;
    prints = inl (record {
      passed = passed;
      answered = a.text ++ [];
      answers = a.prints;
      judged = j.text ++ [];
      ended = status_of safe;
      judgements = j.prints;
      whole = append-nil (a.text ++ j.text)
          ∙ sym (ap (λ (t : List ℕ). (a.text ++ []) ++ t) (append-nil j.text)
          ∙ ap (λ (t : List ℕ). t ++ j.text) (append-nil a.text));
      ends = ends ∙ status-of passed safe;
    });
  }

  -- memory ran out in the first part
  pub answered-first : {old new : WriterState W}
      → PutsText contents does (AnswersIf loaded rules) (codes "fault memory\n") 3 old new
      → PutsText contents does (AreAnswered loaded rules d) (codes "fault memory\n") 3 old new
  answered-first {old} {new} a =
      record { text = a.text; put = a.put; prints = inr (refl, a.prints) }

  -- memory ran out in the second part
  pub answered-second : (passed : Bool) {old mid new : WriterState W}
      → PutsText contents does (AnswersIf loaded rules) [] (status_of passed) old mid
      → PutsText contents does (JudgementsIf loaded d) (codes "fault memory\n") 3 mid new
      → PutsText contents does (AreAnswered loaded rules d) (codes "fault memory\n") 3 old new
  answered-second passed {old} {mid} {new} a j = record {
    text = a.text ++ j.text;
    put = Puts-then a.put j.put;
    prints = inl (record {
      passed = passed;
      answered = a.text ++ [];
      answers = a.prints;
      judged = j.text ++ codes "fault memory\n";
      ended = 3;
      judgements = j.prints;
      whole = append_assoc a.text j.text (codes "fault memory\n")
          ∙ ap (λ (t : List ℕ). t ++ (j.text ++ codes "fault memory\n")) (sym (append-nil a.text));
      ends = refl;
    });
  }

-- nothing was written for rules or a diagram that are not there
pub none-answered : {W : Type 0} {contents : W → Option (List ℕ)}
    {does : W → WriteCall → W → Type 0} (loaded : LoadData) (w : WriterState W)
    → PutsText contents does (AnswersIf loaded None) [] 0 w w
none-answered loaded w = record { text = []; put = Puts-nil w; prints = (refl, refl) }

pub none-judged : {W : Type 0} {contents : W → Option (List ℕ)}
    {does : W → WriteCall → W → Type 0} (loaded : LoadData) (w : WriterState W)
    → PutsText contents does (JudgementsIf loaded None) [] 0 w w
none-judged loaded w = record { text = []; put = Puts-nil w; prints = (refl, refl) }

module _ {W : Type 0} {contents : W → Option (List ℕ)} {does : W → WriteCall → W → Type 0}
    (loaded : LoadData) (texts : AuditTexts) where
  -- nothing was put
  pub put-nothing : (w : WriterState W) → PutsStopped contents does loaded texts w w
  put-nothing w = record { text = []; put = Puts-nil w; prints = inr refl }

  pub put-stopped : (rules : Option (List Rule)) (d : Option Diagram) {old new : WriterState W}
      → RulesRead loaded.bay texts.rules (Ok rules) → DiagramRead loaded.bay texts.diagram (Ok d)
      → PutsText contents does (AreAnswered loaded rules d) (codes "fault memory\n") 3 old new
      → PutsStopped contents does loaded texts old new
  put-stopped rules d {old} {new} parses are p = record {
    text = p.text;
    put = p.put;
    prints = inl (record {
      parsed = Ok rules;
      parses = parses;
      prints = record { parsed = Ok d; parses = are; prints = (refl, p.prints) };
    });
  }

  pub put-said : (rules : Option (List Rule)) (d : Option Diagram) (status : ℕ)
      {old new : WriterState W}
      → RulesRead loaded.bay texts.rules (Ok rules) → DiagramRead loaded.bay texts.diagram (Ok d)
      → PutsText contents does (AreAnswered loaded rules d) [] status old new
      → PutsRulesText contents does loaded texts None status old new
  put-said rules d status {old} {new} parses are p = record {
    text = p.text;
    put = p.put;
    prints = record {
      parsed = Ok rules;
      parses = parses;
      prints = record {
        parsed = Ok d;
        parses = are;
        prints = (
          refl,
          subst (λ (t : List ℕ). AreAnswered loaded rules d t status) (append-nil p.text) p.prints,
        );
      };
    };
  }

  pub put-refused : (fault : RuleFault) {old new : WriterState W}
      → RulesRead loaded.bay texts.rules (Err fault)
      → Puts contents does old (refusal_text fault) new
      → PutsRulesText contents does loaded texts (log_in (Some (Rules fault))) 1 old new
  put-refused fault {old} {new} parses put = record {
    text = refusal_text fault;
    put = put;
    prints = record { parsed = Err fault; parses = parses; prints = (refl, (refl, refl)) };
  }

  pub put-refused-diagram : (rules : Option (List Rule)) (fault : DiagramFault)
      {old new : WriterState W}
      → RulesRead loaded.bay texts.rules (Ok rules)
      → DiagramRead loaded.bay texts.diagram (Err fault)
      → Puts contents does old (diagram_refusal fault) new
      → PutsRulesText contents does loaded texts (log_in (Some (DiagramFile fault))) 1 old new
  put-refused-diagram rules fault {old} {new} parses are put = record {
    text = diagram_refusal fault;
    put = put;
    prints = record {
      parsed = Ok rules;
      parses = parses;
      prints = record { parsed = Err fault; parses = are; prints = (refl, (refl, refl)) };
    };
  }

  pub rest-stopped : {old mid new : WriterState W}
      → PutsStopped contents does loaded texts old mid
      → Puts contents does mid (codes "fault memory\n") new
      → PutsRest contents does loaded texts None 3 old new
  rest-stopped {old} {mid} {new} p fault = record {
    rest = p.text ++ codes "fault memory\n";
    put = Puts-then p.put fault;
    prints = by-case p.prints;
  }
    where
      by-case
          : RulesReport loaded texts.rules texts.diagram None (p.text ++ codes "fault memory\n") 3
          ⊎ (p.text ≡ [])
          → RulesReport loaded texts.rules texts.diagram None (p.text ++ codes "fault memory\n") 3
          ⊎ IsLoggedOutput None (codes "fault memory\n") 3 None (p.text ++ codes "fault memory\n") 3
      by-case (inl prints) = inl prints
      by-case (inr none) =
          inr (refl, (ap (λ (t : List ℕ). t ++ codes "fault memory\n") none, refl))

-- the text for rules and a diagram that were read
pub said-of : {W : Type 0} (contents : W → Option (List ℕ)) (does : W → WriteCall → W → Type 0)
    (loaded : LoadData) (texts : AuditTexts) (rules : Option (List Rule)) (d : Option Diagram)
    {E : Type 0} (old new : WriterState W) (r : Result AuditEnd E)
    → RulesRead loaded.bay texts.rules (Ok rules) → DiagramRead loaded.bay texts.diagram (Ok d)
    → MatchResult r
    (λ end. (end.refused ≡ None)
    × PutsText contents does (AreAnswered loaded rules d) [] (code_of end.status) old new)
    (λ e. PutsText contents does (AreAnswered loaded rules d) (codes "fault memory\n") 3 old new)
    → MatchResult r
    (λ end. PutsRulesText contents does loaded texts (log_in end.refused) (code_of end.status) old
    new)
    (λ e. PutsStopped contents does loaded texts old new)
said-of contents does loaded texts rules d old new (Ok end) parses are p =
    subst (λ (refused : Option Refusal). PutsRulesText contents does loaded texts (log_in refused)
    (code_of end.status) old new) (sym p.0)
    (put-said loaded texts rules d (code_of end.status) parses are p.1)
said-of contents does loaded texts rules d old new (Err e) parses are p =
    put-stopped loaded texts rules d parses are p
