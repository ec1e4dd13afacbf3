-- No line of the text for a diagram is read as that of a rule that holds.
use Rattle.std.proofs.Common.{◌≡◌, ℕ, List, [], ◌∷◌, ◌++◌, codes, flat_map, slice_get, unwrap_or, ◌⊎◌, Option, None, Some, inl, inr, refl, ap, sym, subst, append_assoc}
use Rattle.std.specs.Fmt.{decimal}
use Rattle.std.specs.Str.{bytes_eq}
use Rattle.bay_audit.specs.declared.case.TestAnswer.{TestAnswer}
use Rattle.bay_audit_hazards.specs.declared.answer.HazardAnswer.{HazardAnswer}
use Rattle.bay_audit_hazards.specs.declared.answer.HazardAnswer.TheVariants.{Broken, Holds, Open, Undecided}
use Rattle.bay_config.specs.declared.bay.Bay.{Bay}
use Rattle.bay_diagram.specs.declared.shown.HazardKind.{HazardKind}
use Rattle.bay_diagram.specs.declared.shown.HazardKind.TheVariants.{Breaks, Bridges, Earths, Joins, Leaves, Makes, Uncouples, Unearths}
use Rattle.bay_diagram.specs.declared.shown.ShownHazard.{ShownHazard}
use Rattle.bay_diagram.specs.declared.shown.ShownWalk.{ShownWalk}
use Rattle.bay_diagram.specs.declared.shown.Step.{Step}
use Rattle.bay_diagram_file.specs.Words.{beside_text, effect_text, hazard_text, moving_text, name_at, other_text, step_text, switch_text, walk_text}
use Rattle.bay_diagram_file.specs.declared.diagram.Diagram.{Diagram}
use Rattle.bay_load.specs.Loads.{LoadData}
use Rattle.bay_replay_laws.specs.Printed.{words_in}
use Rattle.bay_replay_laws.proofs.LineLemmas.{AreLines, each-line, free-append, more-lines, no-lines, one-line, split-at}
use Rattle.cmd_audit.specs.Auditing.{AreAllJudged, AreSomeJudged, Judgements}
use Rattle.cmd_audit.specs.HazardText.{hazard_answer_text, hazard_case_text, hazard_line, hazard_lines, hazard_start_text, shown_text}
use Rattle.cmd_audit.specs.Names.{HasDiagramWords, HasWords, IsWord}
use Rattle.cmd_audit.specs.Text.{case_text, id_of, operation_text}
use Rattle.cmd_audit.specs.Verdicts.{NoJudgementIsRead, printed_hold}
use Rattle.cmd_audit.specs.declared.judged.JudgedRelease.{JudgedRelease}
use Rattle.cmd_audit.proofs.VerdictLemmas.{IsFree, Maybe, case-free, each-get, first, flat-all, id-word, name-free, number-free, operation-free, other-words}

-- the line says of no rule that it holds
abbrev pub SaysNoHold : List ℕ → Type 0
SaysNoHold line = printed_hold line ≡ None

-- ---- a hazard in words

module _ (d : Diagram) (words : HasDiagramWords d) where
  name-at-free : (o : Option (List ℕ)) → Maybe IsWord o → IsFree (unwrap_or o [])
  name-at-free None is = refl
  name-at-free (Some name) is = name-free name is

  node-free : (n : ℕ) → IsFree (name_at d.nodes n)
  node-free n = name-at-free (slice_get d.nodes n) (each-get IsWord d.nodes n words.nodes)

  switch-name-free : (n : ℕ) → IsFree (name_at d.switches n)
  switch-name-free n =
      name-at-free (slice_get d.switches n) (each-get IsWord d.switches n words.switches)

  switch-text-free : (o : Option ℕ) → IsFree (switch_text d o)
  switch-text-free None = refl
  switch-text-free (Some n) =
      free-append 10 (codes " - ") (name_at d.switches n) refl (switch-name-free n)

  step-free : (s : Step) → IsFree (step_text d s)
  step-free s =
      free-append 10 (switch_text d (Some s.branch)) (codes " - " ++ name_at d.nodes s.node)
      (switch-text-free (Some s.branch))
      (free-append 10 (codes " - ") (name_at d.nodes s.node) refl (node-free s.node))

  walk-free : (w : ShownWalk) → IsFree (walk_text d w)
  walk-free w =
      free-append 10 (name_at d.nodes w.start) (flat_map (step_text d) w.steps) (node-free w.start)
      (flat-all (step_text d) w.steps step-free)

  beside-free : (o : Option ShownWalk) → IsFree (beside_text d o)
  beside-free None = refl
  beside-free (Some w) = free-append 10 (codes ", beside ") (walk_text d w) refl (walk-free w)

  other-free : (o : Option ℕ) → IsFree (other_text d o)
  other-free None = refl
  other-free (Some n) = switch-name-free n

  moving-free : (effect : List ℕ) (o : Option ℕ) → IsFree effect → IsFree (moving_text d effect o)
  moving-free effect o plain =
      free-append 10 effect (other_text d o ++ codes ", which may be on its way") plain
      (free-append 10 (other_text d o) (codes ", which may be on its way") (other-free o) refl)

  effect-free : (s : ShownHazard) (kind : HazardKind) → IsFree (effect_text d s kind)
  effect-free s Earths =
      free-append 10 (codes "earths ")
      (name_at d.nodes s.walk.start ++ codes ", which is not isolated")
      refl
      (free-append 10 (name_at d.nodes s.walk.start) (codes ", which is not isolated")
      (node-free s.walk.start) refl)
  effect-free s Bridges =
      free-append 10 (codes "joins ") (name_at d.nodes s.walk.start ++ codes " to earth") refl
      (free-append 10 (name_at d.nodes s.walk.start) (codes " to earth") (node-free s.walk.start)
      refl)
  effect-free s Breaks = refl
  effect-free s Makes = moving-free (codes "makes a current through ") s.other refl
  effect-free s Leaves = moving-free (codes "leaves a current to ") s.other refl
  effect-free s Joins = refl
  effect-free s Uncouples = refl
  effect-free s Unearths =
      free-append 10 (codes "opens an earth that ")
      (name_at d.nodes s.walk.start ++ codes " may feed")
      refl
      (free-append 10 (name_at d.nodes s.walk.start) (codes " may feed") (node-free s.walk.start)
      refl)

  hazard-free : (s : ShownHazard) → IsFree (hazard_text d s)
  hazard-free s =
      let end : List ℕ = switch_text d s.earth ++ beside_text d s.beside in
      let walks : List ℕ = walk_text d s.walk ++ end in
      free-append 10 (effect_text d s s.kind) (codes ": " ++ walks) (effect-free s s.kind)
      (free-append 10 (codes ": ") walks refl
      (free-append 10 (walk_text d s.walk) end (walk-free s.walk)
      (free-append 10 (switch_text d s.earth) (beside_text d s.beside) (switch-text-free s.earth)
      (beside-free s.beside))))

  shown-free : (o : Option ShownHazard) → IsFree (shown_text d o)
  shown-free None = refl
  shown-free (Some s) = free-append 10 (codes ": ") (hazard_text d s) refl (hazard-free s)

  -- ---- the line of a release

  module _ (bay : Bay) (ids : HasWords bay) where
    hazard-case-free : (word : List ℕ) (case : List TestAnswer) (shown : Option ShownHazard)
        → IsFree word → IsFree (hazard_case_text bay d word case shown)
    hazard-case-free word case shown plain =
        free-append 10 word (case_text bay case ++ shown_text d shown) plain
        (free-append 10 (case_text bay case) (shown_text d shown) (case-free bay case ids)
        (shown-free shown))

    answer-free : (a : HazardAnswer) (shown : Option ShownHazard)
        → IsFree (hazard_answer_text bay d a shown)
    answer-free (Holds cases) shown =
        free-append 10 (codes " holds cases=") (decimal cases) refl (number-free cases)
    answer-free (Broken case) shown = hazard-case-free (codes " broken") case shown refl
    answer-free (Open case) shown = hazard-case-free (codes " open") case shown refl
    answer-free Undecided shown = refl

    id-free : (k : ℕ) → IsFree (id_of (slice_get bay.switches k))
    id-free k =
        name-free (id_of (slice_get bay.switches k))
        (id-word (slice_get bay.switches k)
        (each-get (λ s. IsWord s.id) bay.switches k ids.switches))

    start-free : (r : JudgedRelease) → IsFree (hazard_start_text bay r)
    start-free r =
        let id : List ℕ = id_of (slice_get bay.switches r.switch) in
        free-append 10 (codes "diagram ") (id ++ operation_text r.operation) refl
        (free-append 10 id (operation_text r.operation) (id-free r.switch)
        (operation-free r.operation))

    says-no-hold : (r : JudgedRelease) (rest : List ℕ)
        → SaysNoHold (hazard_start_text bay r ++ rest)
    says-no-hold r rest =
        let id : List ℕ = id_of (slice_get bay.switches r.switch) in
        let later : List ℕ = (id ++ operation_text r.operation) ++ rest in
        other-words (words_in (codes "diagram" ++ 32 ∷ later))
        (ap (λ ws. bytes_eq (first ws) (codes "rule"))
        (split-at 32 (codes "diagram") later refl))

    judged-line : (r : JudgedRelease) → AreLines SaysNoHold (hazard_line bay d r)
    judged-line r =
        let start : List ℕ = hazard_start_text bay r in
        let answer : List ℕ = hazard_answer_text bay d r.answer r.shown in
        subst (AreLines SaysNoHold) (append_assoc start answer (codes "\n"))
        (one-line (start ++ answer)
        (free-append 10 start answer (start-free r) (answer-free r.answer r.shown))
        (says-no-hold r answer))

    judged-lines : (rs : List JudgedRelease) → AreLines SaysNoHold (hazard_lines bay d rs)
    judged-lines [] = no-lines
    judged-lines (r ∷ rs) = more-lines (judged-line r) (judged-lines rs)

-- ---- the text for a diagram

pub judgements-lines : (loaded : LoadData) (d : Diagram) (text : List ℕ) (status : ℕ)
    → HasWords loaded.bay → HasDiagramWords d → Judgements loaded d text status
    → AreLines SaysNoHold text
judgements-lines loaded d text status ids words j = by-end j.written
  where
    by-end : AreAllJudged loaded.bay d j.releases text status
        ⊎ AreSomeJudged loaded.bay d j.releases text status → AreLines SaysNoHold text
    by-end (inl all) =
        subst (AreLines SaysNoHold) (sym all.written)
        (judged-lines d words loaded.bay ids j.releases)
    by-end (inr some) =
        subst (AreLines SaysNoHold) (sym some.written)
        (more-lines (judged-lines d words loaded.bay ids j.releases)
        (one-line (codes "fault memory") refl refl))

pub no-judgement-is-read : NoJudgementIsRead
no-judgement-is-read loaded d text status ids words j line at =
    each-line (judgements-lines loaded d text status ids words j) refl line at
