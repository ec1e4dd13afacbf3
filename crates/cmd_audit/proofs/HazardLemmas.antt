-- Lemmas on the lines of judged releases that were written so far.
use Rattle.std.proofs.Common.{◌≡◌, ◌∙◌, inl, inr, ℕ, ◌+◌, Bool, true, false, ◌&&◌, List, [], ◌∷◌, ◌++◌, codes, length, take, drop, take-append-drop, Option, None, Some, Result, Ok, Err, MatchResult, refl, sym, ap, ap₂, subst, append-nil}
use Rattle.std.specs.List.{list_all}
use Rattle.std.proofs.lemmas.Grind.{flat_map-append}
use Rattle.std.proofs.lemmas.List.{map-append}
use Rattle.std.proofs.lemmas.List.Folds.{list_all-append}
use Rattle.bay_audit.specs.Rules.{BoundProgram, program_of, directions}
use Rattle.bay_audit.specs.declared.case.TestAnswer.{TestAnswer}
use Rattle.bay_audit_hazards.specs.Judged.{IsExplained, IsSureAnswer, is_surely_hazard}
use Rattle.bay_audit_hazards.specs.declared.answer.HazardAnswer.{HazardAnswer}
use Rattle.bay_audit_hazards.specs.declared.answer.HazardAnswer.TheVariants.{Holds, Broken, Open, Undecided}
use Rattle.bay_base.specs.declared.switch.Operation.{Operation}
use Rattle.bay_config.specs.declared.bay.Bay.{Bay}
use Rattle.bay_diagram.specs.declared.network.Network.{Network}
use Rattle.bay_diagram.specs.declared.shown.ShownHazard.{ShownHazard}
use Rattle.bay_diagram_file.specs.declared.diagram.Diagram.{Diagram}
use Rattle.bay_io.specs.Calls.{WriteCall}
use Rattle.bay_io.specs.Sent.{Puts}
use Rattle.bay_io.specs.Watched.{WriterState}
use Rattle.bay_io.proofs.SentLemmas.{Puts-as, Puts-nil, Puts-then}
use Rattle.bay_load.specs.Loads.{LoadData}
use Rattle.cmd_audit.specs.Auditing.{Judgements, status_of}
use Rattle.cmd_audit.specs.HazardText.{hazard_line, hazard_lines}
use Rattle.cmd_audit.specs.Judged.{AreJudged, IsCaseShown, IsExplainedAnswer, IsJudgedRelease, IsShown, is_safe, judged_way}
use Rattle.cmd_audit.specs.Written.{PutsFirstJudged, PutsJudged, PutsText}
use Rattle.cmd_audit.specs.declared.judged.JudgedRelease.{JudgedRelease}

pub judged-more : (g : BoundProgram) (net : Network) (releases : List JudgedRelease)
    (r : JudgedRelease) → AreJudged g net releases → IsJudgedRelease g net r
    → AreJudged g net (releases ++ r ∷ [])
judged-more g net [] r all one = (one, tt)
judged-more g net (first ∷ releases) r all one =
    (all.0, judged-more g net releases r all.1 one)

no-yes : true ≡ false → ⊥
no-yes h = cc

-- a hazard of the case is shown, since it is one in the best that can be known in the case
case-shown : (bay : Bay) (net : Network) (k : ℕ) (operation : Operation) (case : List TestAnswer)
    (shown : Option ShownHazard) → is_surely_hazard bay net k operation case ≡ true
    → IsExplained bay net k operation case shown → IsCaseShown net k operation case shown
case-shown bay net k operation case None sure is = no-yes (sym sure ∙ is)
case-shown bay net k operation case (Some shown) sure is = is

pub answer-shown : (bay : Bay) (net : Network) (k : ℕ) (operation : Operation)
    (answer : HazardAnswer) (shown : Option ShownHazard)
    → IsSureAnswer bay net k operation answer
    → IsExplainedAnswer bay net k operation answer shown → IsShown net k operation answer shown
answer-shown bay net k operation (Holds cases) shown sure is = is
answer-shown bay net k operation (Broken case) shown sure is =
    case-shown bay net k operation case shown sure is
answer-shown bay net k operation (Open case) shown sure is =
    case-shown bay net k operation case shown sure is
answer-shown bay net k operation Undecided shown sure is = is

and-true : (b : Bool) → (b && true) ≡ b
and-true true = refl
and-true false = refl

module _ {W : Type 0} {contents : W → Option (List ℕ)} {does : W → WriteCall → W → Type 0}
    (bay : Bay) (d : Diagram) (g : BoundProgram) where
  pub none-put : (w : WriterState W) → PutsJudged contents does bay d g [] true w w
  none-put w = record {
    releases = [];
    right = tt;
    all = refl;
    passed_is = refl;
    put = Puts-nil w;
  }

  pub more-put : (these : List (ℕ × Operation)) (way : ℕ × Operation) (passed : Bool)
      (r : JudgedRelease) {old mid new : WriterState W}
      → PutsJudged contents does bay d g these passed old mid
      → IsJudgedRelease g d.network r → judged_way r ≡ way
      → Puts contents does mid (hazard_line bay d r) new
      → PutsJudged contents does bay d g (these ++ way ∷ []) (passed && is_safe r) old new
  more-put these way passed r {old} {mid} {new} p right is put =
      let written : hazard_lines bay d (p.releases ++ r ∷ [])
      ≡ hazard_lines bay d p.releases ++ hazard_line bay d r =
      flat_map-append (hazard_line bay d) p.releases (r ∷ [])
      ∙ ap (λ (t : List ℕ). hazard_lines bay d p.releases ++ t)
      (append-nil (hazard_line bay d r)) in
      record {
        releases = p.releases ++ r ∷ [];
        right = judged-more g d.network p.releases r p.right right;
        all = map-append judged_way p.releases (r ∷ [])
            ∙ ap₂ (λ (ws : List (ℕ × Operation)) (w : ℕ × Operation). ws ++ w ∷ []) p.all is;
        passed_is = ap (λ (b : Bool). b && is_safe r) p.passed_is
            ∙ ap (λ (b : Bool). list_all is_safe p.releases && b) (sym (and-true (is_safe r)))
            ∙ sym (list_all-append is_safe p.releases (r ∷ []));
        put = Puts-as (hazard_lines bay d (p.releases ++ r ∷ [])) (sym written)
            (Puts-then p.put put);
      }

  -- one more of the first ways
  pub next-put : (these : List (ℕ × Operation)) (k : ℕ) (passed : Bool) (way : ℕ × Operation)
      (r : JudgedRelease) (text : List ℕ) {old mid new : WriterState W}
      → take (k + 1) these ≡ take k these ++ way ∷ []
      → PutsJudged contents does bay d g (take k these) passed old mid
      → IsJudgedRelease g d.network r → judged_way r ≡ way → text ≡ hazard_line bay d r
      → Puts contents does mid text new
      → PutsJudged contents does bay d g (take (k + 1) these) (passed && is_safe r) old new
  next-put these k passed way r text {old} {mid} {new} taken p right is written put =
      subst (λ (ws : List (ℕ × Operation)). PutsJudged contents does bay d g ws
      (passed && is_safe r) old new)
      (sym taken)
      (more-put (take k these) way passed r p right is (Puts-as (hazard_line bay d r) written put))

  pub first-put : (these : List (ℕ × Operation)) (k : ℕ) (passed : Bool) {old new : WriterState W}
      → PutsJudged contents does bay d g (take k these) passed old new
      → PutsFirstJudged contents does bay d g these old new
  first-put these k passed {old} {new} p = record {
    found = take k these;
    later = drop k these;
    parts = sym (take-append-drop k these);
    passed = passed;
    put = p;
  }

module _ {W : Type 0} {contents : W → Option (List ℕ)} {does : W → WriteCall → W → Type 0}
    (loaded : LoadData) (d : Diagram) where
  -- nothing was written
  pub cut-at-once : (w : WriterState W)
      → PutsText contents does (Judgements loaded d) (codes "fault memory\n") 3 w w
  cut-at-once w = record {
    text = [];
    put = Puts-nil w;
    prints = record {
      releases = [];
      right = tt;
      written = inr (record {
        later = directions (length loaded.bay.switches);
        first = refl;
        written = refl;
        ends = refl;
      });
    };
  }

  pub cut-judged : (g : BoundProgram) (these : List (ℕ × Operation)) {old new : WriterState W}
      → g ≡ program_of loaded.bay loaded.image → these ≡ directions (length loaded.bay.switches)
      → PutsFirstJudged contents does loaded.bay d g these old new
      → PutsText contents does (Judgements loaded d) (codes "fault memory\n") 3 old new
  cut-judged g these {old} {new} f all p = record {
    text = hazard_lines loaded.bay d p.put.releases;
    put = p.put.put;
    prints = record {
      releases = p.put.releases;
      right = subst (λ (h : BoundProgram). AreJudged h d.network p.put.releases) f p.put.right;
      written = inr (record {
        later = p.later;
        first = ap (λ (ws : List (ℕ × Operation)). ws ++ p.later) p.put.all ∙ sym p.parts ∙ all;
        written = refl;
        ends = refl;
      });
    };
  }

  pub whole-judged : (g : BoundProgram) (these : List (ℕ × Operation)) (passed : Bool)
      {old new : WriterState W}
      → g ≡ program_of loaded.bay loaded.image → these ≡ directions (length loaded.bay.switches)
      → PutsJudged contents does loaded.bay d g these passed old new
      → PutsText contents does (Judgements loaded d) [] (status_of passed) old new
  whole-judged g these passed {old} {new} f all p = record {
    text = hazard_lines loaded.bay d p.releases;
    put = p.put;
    prints = record {
      releases = p.releases;
      right = subst (λ (h : BoundProgram). AreJudged h d.network p.releases) f p.right;
      written = inl (record {
        all = p.all ∙ all;
        written = append-nil (hazard_lines loaded.bay d p.releases);
        ends = ap status_of p.passed_is;
      });
    };
  }

-- all lines were written, or only the first, as memory ran out
pub judged-of : {W : Type 0} (contents : W → Option (List ℕ)) (does : W → WriteCall → W → Type 0)
    (loaded : LoadData) (d : Diagram) (g : BoundProgram) (these : List (ℕ × Operation)) {E : Type 0}
    (old new : WriterState W) (r : Result Bool E)
    → g ≡ program_of loaded.bay loaded.image → these ≡ directions (length loaded.bay.switches)
    → MatchResult r (λ passed. PutsJudged contents does loaded.bay d g these passed old new)
    (λ e. PutsFirstJudged contents does loaded.bay d g these old new)
    → MatchResult r
    (λ passed. PutsText contents does (Judgements loaded d) [] (status_of passed) old new)
    (λ e. PutsText contents does (Judgements loaded d) (codes "fault memory\n") 3 old new)
judged-of contents does loaded d g these old new (Ok passed) f all p =
    whole-judged loaded d g these passed f all p
judged-of contents does loaded d g these old new (Err e) f all p =
    cut-judged loaded d g these f all p
