-- Lemmas on what was written so far.
use Rattle.std.proofs.Common.{◌≡◌, ◌∙◌, inl, inr, ℕ, zero, suc, ◌+◌, ◌-◌, ◌≤◌, Bool, true, false, ◌&&◌, List, [], ◌∷◌, ◌++◌, codes, length, map, take, drop, take-append-drop, zip, Option, None, Some, Result, Ok, Err, IsErr, MatchOption, MatchResult, refl, sym, ap, ap₂, subst, append-nil, append_assoc, arith}
use Rattle.std.specs.List.{flat_map, list_all}
use Rattle.std.proofs.lemmas.Grind.{flat_map-append}
use Rattle.std.proofs.lemmas.List.{map-append}
use Rattle.std.proofs.lemmas.List.Folds.{list_all-append}
use Rattle.bay_audit.specs.Rules.{AreRightAnswers, BoundProgram, IsAnswer, IsRightAnswer, IsTimedAnswerOf, plain_demand, program_of, direction_of, directions}
use Rattle.bay_audit.specs.declared.answer.Release.{Release}
use Rattle.bay_audit.specs.declared.answer.RuleAnswer.{RuleAnswer}
use Rattle.bay_audit.specs.declared.answer.RuleAnswer.TheVariants.{TooMany}
use Rattle.bay_audit.proofs.ReleaseLemmas.{releases-more}
use Rattle.bay_audit.proofs.SearchLemmas.{right-more}
use Rattle.bay_audit_rules.specs.declared.rule.Rule.{Rule}
use Rattle.bay_audit_rules.specs.declared.rule.RuleKind.{RuleKind}
use Rattle.bay_audit_rules.specs.declared.rule.RuleKind.TheVariants.{Never, Always}
use Rattle.bay_audit_rules.specs.declared.rule.Timing.{Timing}
use Rattle.bay_base.specs.declared.switch.Operation.{Operation}
use Rattle.bay_base.specs.declared.switch.Operation.TheVariants as operations
use Rattle.bay_config.specs.declared.bay.Bay.{Bay}
use Rattle.bay_io.specs.Calls.{WriteCall}
use Rattle.std.specs.Io.KnownBytes.{Appends}
use Rattle.bay_io.specs.Sent.{Finishes, Puts, SendsPart}
use Rattle.bay_io.specs.Watched.{WriterState}
use Rattle.bay_io.proofs.SentLemmas.{Puts-as, Puts-nil, Puts-out, Puts-then}
use Rattle.cmd_audit.specs.Auditing.{AuditText, status_of}
use Rattle.bay_load.specs.Loads.{LoadData}
use Rattle.cmd_audit.specs.Names.{ProgramNames, program_names}
use Rattle.cmd_audit.specs.Text.{answer_text, answers_text, is_passed, release_text, states_text}
use Rattle.cmd_audit.specs.Written.{PutsAnswers, PutsFirstAnswers, PutsReleaseIfAny, PutsRelease, PutsReleases, PutsFirstReleases, PutsText}

-- what is known if a result is an error
pub when-err : {A E : Type 0} {P : Type 0} (F : A → Type 0) (r : Result A E) → IsErr r → P
    → MatchResult r F (λ e. P)
when-err F (Ok a) is p = absurd cc
when-err F (Err e) is p = p

-- ---- answers that are not known

many-of : (g : BoundProgram) (rule : Rule) (timed : Option Timing)
    → MatchOption timed (IsAnswer g (plain_demand rule) TooMany)
    (λ timing. IsTimedAnswerOf rule.kind g rule timing TooMany)
many-of g rule None = tt
many-of g rule (Some timing) = by-kind rule.kind
  where
    by-kind : (kind : RuleKind) → IsTimedAnswerOf kind g rule timing TooMany
    by-kind Never = tt
    by-kind Always = tt

abbrev too_many : Rule → RuleAnswer
too_many rule = TooMany

many-right : (g : BoundProgram) (rules : List Rule) → AreRightAnswers g rules (map too_many rules)
many-right g [] = tt
many-right g (rule ∷ rules) = (many-of g rule rule.timed, many-right g rules)

right-append : (g : BoundProgram) (rules others : List Rule) (answers more : List RuleAnswer)
    → AreRightAnswers g rules answers → AreRightAnswers g others more
    → AreRightAnswers g (rules ++ others) (answers ++ more)
right-append g [] others [] more all rest = rest
right-append g (r ∷ rules) others (a ∷ answers) more all rest =
    (all.0, right-append g rules others answers more all.1 rest)
right-append g [] others (a ∷ answers) more all rest = absurd all
right-append g (r ∷ rules) others [] more all rest = absurd all

zip-parts : (g : BoundProgram) (rules others : List Rule) (answers more : List RuleAnswer)
    → AreRightAnswers g rules answers
    → zip (rules ++ others) (answers ++ more) ≡ zip rules answers ++ zip others more
zip-parts g [] others [] more all = refl
zip-parts g (r ∷ rules) others (a ∷ answers) more all =
    ap (λ pairs. (r, a) ∷ pairs) (zip-parts g rules others answers more all.1)
zip-parts g [] others (a ∷ answers) more all = absurd all
zip-parts g (r ∷ rules) others [] more all = absurd all

-- ---- switches and operations

ways-plus : (k d : ℕ) → (later : List (ℕ × Operation))
    × (directions (k + d) ≡ directions k ++ later)
ways-plus k zero =
    let e : k + 0 ≡ k = omega arith in ([], ap directions e ∙ sym (append-nil (directions k)))
ways-plus k (suc d) =
    let before = ways-plus k d in
    let e : k + suc d ≡ suc (k + d) = omega arith in
    let two : List (ℕ × Operation) = (k + d, operations.Open) ∷ (k + d, operations.Close) ∷ [] in (
      before.0 ++ two,
      ap directions e ∙ ap (λ ws. ws ++ two) before.1 ∙ append_assoc (directions k) before.0 two,
    )

-- those of the first switches are the first of all
ways-rest : (k n : ℕ) → k ≤ n
    → (later : List (ℕ × Operation)) × (directions n ≡ directions k ++ later)
ways-rest k n low =
    let more = ways-plus k (n - k) in
    let e : n ≡ k + (n - k) = omega (arith, low) in
    (more.0, ap directions e ∙ more.1)

pub ways-at : (k n : ℕ) → k + 1 ≤ n
    → (later : List (ℕ × Operation))
    × (directions n ≡ directions k ++ (k, operations.Open) ∷ (k, operations.Close) ∷ later)
ways-at k n low =
    let more = ways-rest (suc k) n (omega (arith, low)) in (
      more.0,
      more.1 ∙ append_assoc (directions k) ((k, operations.Open) ∷ (k, operations.Close) ∷ [])
          more.0,
    )

pub ways-next : (k : ℕ)
    → (directions k ++ (k, operations.Open) ∷ []) ++ (k, operations.Close) ∷ [] ≡ directions (k + 1)
ways-next k =
    let e : suc k ≡ k + 1 = omega arith in
    append_assoc (directions k) ((k, operations.Open) ∷ []) ((k, operations.Close) ∷ [])
    ∙ ap directions e

pub ways-half : (k n : ℕ) → k + 1 ≤ n
    → (later : List (ℕ × Operation))
    × (directions n ≡ (directions k ++ (k, operations.Open) ∷ []) ++ (k, operations.Close) ∷ later)
ways-half k n low =
    let more = ways-rest (suc k) n (omega (arith, low)) in (
      more.0,
      more.1
          ∙ append_assoc (directions k) ((k, operations.Open) ∷ (k, operations.Close) ∷ []) more.0
          ∙ sym (append_assoc (directions k) ((k, operations.Open) ∷ [])
          ((k, operations.Close) ∷ more.0)),
    )

module _ {W : Type 0} {contents : W → Option (List ℕ)} {does : W → WriteCall → W → Type 0} where
  -- the buffer was written out
  pub Finishes-puts : {X E : Type 0} {old new : WriterState W} (r : Result X E)
      → Finishes contents does old new r → Puts contents does old [] new
  Finishes-puts {X} {E} {old} {new} (Ok x) f =
      Puts-out {X = X} {E = E} old new [] (Ok x)
      (subst (λ t. Appends (contents old.inner) (contents new.inner)
      t) (sym (append-nil old.pending)) f.ends.1)
      tt f.ends.2 (sym f.ends.3.0) (λ failed. let well = f.ends.0 in absurd cc) f.calls_made
      f.same_logs
  Finishes-puts {X} {E} {old} {new} (Err e) f =
      Puts-out {X = X} {E = E} old new [] (Err e) tt
      (subst (λ t. SendsPart (contents old.inner) (contents new.inner) t)
      (sym (append-nil old.pending)) f.ends.0)
      tt (sym f.ends.2) (λ failed. (f.ends.1 failed, f.ends.2)) f.calls_made f.same_logs

  -- a text was put, and the buffer was written out
  pub put-flushed : {X E : Type 0} {old mid new : WriterState W} (text : List ℕ) (r : Result X E)
      → Puts contents does old text mid → Finishes contents does mid new r
      → Puts contents does old text new
  put-flushed {X} {E} {old} {mid} {new} text r put f =
      Puts-as text (append-nil text) (Puts-then put (Finishes-puts {X = X} {E = E} r f))

  module _ (bay : Bay) (names : ProgramNames) (g : BoundProgram) where
    -- ---- answers

    pub no-answers : (w : WriterState W) → PutsAnswers contents does bay names g [] true w w
    no-answers w = record { answers = []; right = tt; passed_is = refl; put = Puts-nil w }

    pub more-answers : (rules : List Rule) (passed : Bool) (rule : Rule) (answer : RuleAnswer)
        {old mid new : WriterState W} → PutsAnswers contents does bay names g rules passed old mid
        → IsRightAnswer g rule answer
        → Puts contents does mid (answer_text bay names (rule, answer)) new
        → PutsAnswers contents does bay names g (rules ++ rule ∷ []) (passed && is_passed answer)
        old new
    more-answers rules passed rule answer {old} {mid} {new} p right put =
        let pairs = zip rules p.answers in
        let one : List (Rule × RuleAnswer) = (rule, answer) ∷ [] in
        let written : answers_text bay names (zip (rules ++ rule ∷ []) (p.answers ++ answer ∷ []))
        ≡ answers_text bay names pairs ++ answer_text bay names (rule, answer) =
        ap (answers_text bay names) (zip-parts g rules (rule ∷ []) p.answers (answer ∷ []) p.right)
        ∙ flat_map-append (answer_text bay names) pairs one
        ∙ ap (λ t. answers_text bay names pairs ++ t)
        (append-nil (answer_text bay names (rule, answer))) in
        record {
          answers = p.answers ++ answer ∷ [];
          right = right-more g rules p.answers rule answer p.right right;
          passed_is = ap (λ b. b && is_passed answer) p.passed_is
              ∙ ap (λ b. list_all is_passed p.answers && b) (sym (and-true (is_passed answer)))
              ∙ sym (list_all-append is_passed p.answers (answer ∷ []));
          put = Puts-as (answers_text bay names
              (zip (rules ++ rule ∷ []) (p.answers ++ answer ∷ []))) (sym written)
              (Puts-then p.put put);
        }
      where
        and-true : (b : Bool) → (b && true) ≡ b
        and-true true = refl
        and-true false = refl

    pub first-of : (rules answered others : List Rule) (passed : Bool) {old new : WriterState W}
        → rules ≡ answered ++ others
        → PutsAnswers contents does bay names g answered passed old new
        → PutsFirstAnswers contents does bay names g rules old new
    first-of rules answered others passed parts p = record {
      answered = answered;
      others = others;
      parts = parts;
      passed = passed;
      put = p;
    }

    pub first-rules : (rules : List Rule) (k : ℕ) (passed : Bool) {old new : WriterState W}
        → PutsAnswers contents does bay names g (take k rules) passed old new
        → PutsFirstAnswers contents does bay names g rules old new
    first-rules rules k passed p =
        first-of rules (take k rules) (drop k rules) passed (sym (take-append-drop k rules)) p

    pub more-rules : (rules : List Rule) (k : ℕ) (passed : Bool) (rule : Rule)
        (answer : RuleAnswer) (text : List ℕ) {old mid new : WriterState W}
        → take (k + 1) rules ≡ take k rules ++ rule ∷ []
        → PutsAnswers contents does bay names g (take k rules) passed old mid
        → IsRightAnswer g rule answer → text ≡ answer_text bay names (rule, answer)
        → Puts contents does mid text new
        → PutsAnswers contents does bay names g (take (k + 1) rules) (passed && is_passed answer)
        old new
    more-rules rules k passed rule answer text {old} {mid} {new} taken p right is put =
        subst (λ (rs : List Rule). PutsAnswers contents does bay names g rs
        (passed && is_passed answer) old new)
        (sym taken)
        (more-answers (take k rules) passed rule answer p right
        (Puts-as (answer_text bay names (rule, answer)) is put))

    -- ---- releases

    pub no-releases : (w : WriterState W) → PutsReleases contents does bay names g [] [] w w
    no-releases w = record { right = tt; all = refl; put = Puts-nil w }

    pub more-releases : (these : List (ℕ × Operation)) (releases : List Release)
        (way : ℕ × Operation) (r : Release) {old mid new : WriterState W}
        → PutsReleases contents does bay names g these releases old mid
        → PutsRelease contents does bay names g way r mid new
        → PutsReleases contents does bay names g (these ++ way ∷ []) (releases ++ r ∷ []) old new
    more-releases these releases way r {old} {mid} {new} p q =
        let written : flat_map (release_text bay names) (releases ++ r ∷ [])
        ≡ flat_map (release_text bay names) releases ++ release_text bay names r =
        flat_map-append (release_text bay names) releases (r ∷ [])
        ∙ ap (λ t. flat_map (release_text bay names) releases ++ t)
        (append-nil (release_text bay names r)) in
        record {
          right = releases-more bay g releases r p.right q.right;
          all = map-append direction_of releases (r ∷ [])
              ∙ ap₂ (λ ws w. ws ++ w ∷ []) p.all q.is;
          put = Puts-as (flat_map (release_text bay names) (releases ++ r ∷ [])) (sym written)
              (Puts-then p.put q.put);
        }

    pub some-of : (all found later : List (ℕ × Operation)) (releases : List Release)
        {old new : WriterState W} → all ≡ found ++ later
        → PutsReleases contents does bay names g found releases old new
        → PutsFirstReleases contents does bay names g all old new
    some-of all found later releases parts p = record {
      found = found;
      later = later;
      parts = parts;
      releases = releases;
      put = p;
    }

    -- it stopped at a release: its lines were written, or nothing was
    pub stopped-at : (all found later : List (ℕ × Operation)) (way : ℕ × Operation)
        (releases : List Release) {old mid new : WriterState W} → all ≡ found ++ way ∷ later
        → PutsReleases contents does bay names g found releases old mid
        → PutsReleaseIfAny contents does bay names g way mid new
        → PutsFirstReleases contents does bay names g all old new
    stopped-at all found later way releases {old} {mid} {new} parts p (inl same) =
        some-of all found (way ∷ later) releases parts
        (subst (λ w. PutsReleases contents does bay names g found releases old w) (sym same) p)
    stopped-at all found later way releases parts p (inr told) =
        some-of all (found ++ way ∷ []) later (releases ++ told.0 ∷ [])
        (parts ∙ sym (append_assoc found (way ∷ []) later))
        (more-releases found releases way told.0 p told.1)

  -- ---- texts

  module _ (loaded : LoadData) (rules : List Rule) where
    pub cut-answers : {old new : WriterState W}
        → PutsFirstAnswers contents does loaded.bay (program_names loaded)
        (program_of loaded.bay loaded.image)
        rules old new
        → PutsText contents does (AuditText loaded rules) (codes "fault memory\n") 3 old new
    cut-answers {old} {new} p =
        let many = map too_many p.others in
        record {
          text = answers_text loaded.bay (program_names loaded) (zip p.answered p.put.answers);
          put = p.put.put;
          prints = record {
            answers = p.put.answers ++ many;
            right = subst (λ rs. AreRightAnswers (program_of loaded.bay loaded.image) rs
                (p.put.answers ++ many))
                (sym p.parts)
                (right-append (program_of loaded.bay loaded.image) p.answered p.others p.put.answers
                many
                p.put.right
                (many-right (program_of loaded.bay loaded.image) p.others));
            releases = [];
            released = tt;
            written = inr (record {
              shown = zip p.answered p.put.answers;
              hidden = zip p.others many;
              parts = ap (λ rs. zip rs (p.put.answers ++ many)) p.parts
                  ∙ zip-parts (program_of loaded.bay loaded.image) p.answered p.others p.put.answers
                  many
                  p.put.right;
              later = directions (length loaded.bay.switches);
              first = refl;
              order = inr refl;
              written = refl;
              ends = refl;
            });
          };
        }

    pub cut-none : (w : WriterState W)
        → PutsText contents does (AuditText loaded rules) (codes "fault memory\n") 3 w w
    cut-none w =
        cut-answers (first-of loaded.bay (program_names loaded) (program_of loaded.bay loaded.image)
        rules [] rules true refl
        (no-answers loaded.bay (program_names loaded) (program_of loaded.bay loaded.image) w))

    pub cut-releases : (passed : Bool) {old mid new : WriterState W}
        → PutsAnswers contents does loaded.bay (program_names loaded)
        (program_of loaded.bay loaded.image) rules passed old mid
        → PutsFirstReleases contents does loaded.bay (program_names loaded)
        (program_of loaded.bay loaded.image)
        (directions (length loaded.bay.switches)) mid
        new
        → PutsText contents does (AuditText loaded rules) (codes "fault memory\n") 3 old new
    cut-releases passed {old} {mid} {new} a s =
        let pairs = zip rules a.answers in
        let written = answers_text loaded.bay (program_names loaded) pairs in
        let lines = flat_map (release_text loaded.bay (program_names loaded)) s.releases in
        record {
          text = written ++ lines;
          put = Puts-then a.put s.put.put;
          prints = record {
            answers = a.answers;
            right = a.right;
            releases = s.releases;
            released = s.put.right;
            written = inr (record {
              shown = pairs;
              hidden = [];
              parts = sym (append-nil pairs);
              later = s.later;
              first = ap (λ ws. ws ++ s.later) s.put.all ∙ sym s.parts;
              order = inl refl;
              written = append_assoc written lines (codes "fault memory\n");
              ends = refl;
            });
          };
        }

    pub whole-text : (passed : Bool) (releases : List Release) {old mid last new : WriterState W}
        → PutsAnswers contents does loaded.bay (program_names loaded)
        (program_of loaded.bay loaded.image) rules passed old mid
        → PutsReleases contents does loaded.bay (program_names loaded)
        (program_of loaded.bay loaded.image) (directions (length loaded.bay.switches))
        releases mid last
        → Puts contents does last (states_text loaded.bay (program_names loaded) releases) new
        → PutsText contents does (AuditText loaded rules) [] (status_of passed) old new
    whole-text passed releases {old} {mid} {last} {new} a r lost =
        let written = answers_text loaded.bay (program_names loaded) (zip rules a.answers) in
        let lines = flat_map (release_text loaded.bay (program_names loaded)) releases in
        let lasts = states_text loaded.bay (program_names loaded) releases in
        record {
          text = written ++ (lines ++ lasts);
          put = Puts-then a.put (Puts-then r.put lost);
          prints = record {
            answers = a.answers;
            right = a.right;
            releases = releases;
            released = r.right;
            written = inl (record {
              all = r.all;
              written = append-nil (written ++ (lines ++ lasts));
              ends = ap status_of a.passed_is;
            });
          };
        }

    -- ---- the same, by the names and the program that were made

    module _ (these : ProgramNames) (g : BoundProgram) (e : these ≡ (program_names loaded))
        (f : g ≡ program_of loaded.bay loaded.image)
      where
        pub stopped-answers : {old new : WriterState W}
            → PutsFirstAnswers contents does loaded.bay these g rules old new
            → PutsText contents does (AuditText loaded rules) (codes "fault memory\n") 3 old new
        stopped-answers {old} {new} p =
            cut-answers
            (subst (λ (n : ProgramNames). PutsFirstAnswers contents does loaded.bay n
            (program_of loaded.bay loaded.image)
            rules old new) e
            (subst (λ (h : BoundProgram). PutsFirstAnswers contents does loaded.bay these h rules
            old new)
            f p))

        pub stopped-releases : (passed : Bool) {old mid new : WriterState W}
            → PutsAnswers contents does loaded.bay these g rules passed old mid
            → PutsFirstReleases contents does loaded.bay these g
            (directions (length loaded.bay.switches)) mid new
            → PutsText contents does (AuditText loaded rules) (codes "fault memory\n") 3 old new
        stopped-releases passed {old} {mid} {new} a s =
            cut-releases passed
            (subst (λ (n : ProgramNames). PutsAnswers contents does loaded.bay n
            (program_of loaded.bay loaded.image)
            rules passed old mid) e
            (subst (λ (h : BoundProgram). PutsAnswers contents does loaded.bay these h rules passed
            old
            mid)
            f a))
            (subst (λ (n : ProgramNames). PutsFirstReleases contents does loaded.bay n
            (program_of loaded.bay loaded.image)
            (directions (length loaded.bay.switches)) mid new) e
            (subst (λ (h : BoundProgram). PutsFirstReleases contents does loaded.bay these h
            (directions (length loaded.bay.switches)) mid new) f s))

        pub whole : (passed : Bool) (releases : List Release) (text : List ℕ)
            {old mid last new : WriterState W}
            → PutsAnswers contents does loaded.bay these g rules passed old mid
            → PutsReleases contents does loaded.bay these g
            (directions (length loaded.bay.switches))
            releases mid last
            → text ≡ states_text loaded.bay these releases
            → Puts contents does last text new
            → PutsText contents does (AuditText loaded rules) [] (status_of passed) old new
        whole passed releases text {old} {mid} {last} {new} a r is put =
            whole-text passed releases
            (subst (λ (n : ProgramNames). PutsAnswers contents does loaded.bay n
            (program_of loaded.bay loaded.image)
            rules passed old mid) e
            (subst (λ (h : BoundProgram). PutsAnswers contents does loaded.bay these h rules passed
            old
            mid)
            f a))
            (subst (λ (n : ProgramNames). PutsReleases contents does loaded.bay n
            (program_of loaded.bay loaded.image)
            (directions (length loaded.bay.switches)) releases mid last) e
            (subst (λ (h : BoundProgram). PutsReleases contents does loaded.bay these h
            (directions (length loaded.bay.switches)) releases mid last) f r))
            (Puts-as (states_text loaded.bay (program_names loaded) releases)
            (is ∙ ap (λ (n : ProgramNames). states_text loaded.bay n releases) e) put)
