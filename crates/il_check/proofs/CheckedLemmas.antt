-- What checking a program comes to.
use Rattle.std.proofs.Common.{◌≡◌, ℕ, List, [], ◌++◌, map, Option, None, Some, Ok, Err, refl, ap, sym, ◌∙◌, subst}
use Rattle.std.proofs.Math.Path.{fun_ext}
use Rattle.std.specs.BTreeMap.{get_by_text}
use Rattle.bay_base.specs.Exact.{unless_refused}
use Rattle.bay_base.specs.Names.{upper}
use Rattle.bay_base.specs.declared.point.Point.{Point}
use Rattle.il_text.specs.Listing as text
use Rattle.il_text.specs.Views.{plain_program, declared_name, entry_of}
use Rattle.il_text.specs.declared.program.Declaration.{Declaration}
use Rattle.il_text.specs.declared.program.Item as source
use Rattle.il_text.specs.declared.program.Program as program
use Rattle.il_check.specs.Checking.{faults_of, checked_program, checked_of}
use Rattle.il_check.specs.Declaring.{names_in, labels_from, looked_up, meanings_of, variables_of, timers_of, declarations_faults}
use Rattle.il_check.specs.Faults.{first_fault_of, least_fault}
use Rattle.il_check.specs.SourceOperands.{ProgramNames}
use Rattle.il_check.specs.LabelsView.{AreLabels}
use Rattle.il_check.specs.NamesView.{names_of}
use Rattle.il_check.specs.Program.{Checked, ProgramItem}
use Rattle.il_check.specs.DeclarationsView.{AreDeclarations}
use Rattle.il_check.specs.WellTyped.{Progress, start_progress, no_reach, items_faults, typed_items_of}
use Rattle.il_check.specs.declared.declare.Declarations.{Declarations}
use Rattle.il_check.specs.declared.labels.Labels.{Labels}
use Rattle.il_check.specs.declared.source_operand.Meaning.{Meaning}
use Rattle.il_check.specs.declared.names.ProgramNames as code
use Rattle.il_check.specs.declared.fault.CheckFault.{CheckFault}
use Rattle.il_check.specs.declared.typed.External.{External}
use Rattle.il_check.specs.declared.typed.Variable.{Variable}
use Rattle.il_check.specs.declared.typed.Timer.{Timer}
use Rattle.il_check.specs.Sound.{AreDistinct}
use Rattle.il_check.proofs.ApartLemmas.{all-apart}
use Rattle.il_check.proofs.NotedLemmas.{noted-append, least_fault-none, append-none}

-- what is known once all is read
pub record IsRead (points : List Point) (program : text.PlainProgram) (d : Declarations)
    (l : Labels) (names : code.ProgramNames) (items : List ProgramItem) (answer : Option CheckFault)
    : Type 0 where
  pub stands : AreDeclarations points program.declarations d
  pub declared : d.found ≡ least_fault (declarations_faults points [] program.declarations)
  pub labels : AreLabels (labels_from 0 program.items) l
  pub meanings : names.meanings ≡ d.meanings
  pub numbers : names.labels ≡ l.numbers
  pub items_read : answer ≡ None
      → items ≡ typed_items_of (names_of names) program.items
      (start_progress l.arrivals.items)
  pub found : answer ≡ first_fault_of d.found
      (items_faults (names_of names) program.items (start_progress l.arrivals.items))

module _ (points : List Point) (program : text.PlainProgram) (d : Declarations) (l : Labels)
    (names : code.ProgramNames) (items : List ProgramItem) (answer : Option CheckFault)
    (read : IsRead points program d l names items answer) where
  meanings-same : (let f : List ℕ
      → Option Meaning = λ name. get_by_text names.meanings (upper name) in
      let g : List ℕ → Option Meaning =
      λ name. looked_up (meanings_of points program.declarations) (upper name) in f ≡ g)
  meanings-same =
      fun_ext (λ name. ap (λ m. get_by_text m (upper name)) read.meanings
      ∙ read.stands.meanings (upper name))

  labels-same : (let f : List ℕ → Option ℕ = λ name. get_by_text names.labels (upper name) in
      let g : List ℕ → Option ℕ =
      λ name. looked_up (labels_from 0 program.items) (upper name) in f ≡ g)
  labels-same =
      fun_ext (λ name. ap (λ m. get_by_text m (upper name)) read.numbers
      ∙ read.labels.numbers (upper name))

  names-same : names_of names ≡ names_in points program
  names-same =
      let with_both : (List ℕ → Option Meaning) → (List ℕ → Option ℕ) → ProgramNames =
      λ m n. record { meaning = m; label = n } in
      ap (λ (m : List ℕ → Option Meaning). with_both m
      (λ name. get_by_text names.labels (upper name))) meanings-same
      ∙ ap (λ (n : List ℕ → Option ℕ). with_both
      (λ name. looked_up (meanings_of points program.declarations) (upper name)) n) labels-same

  started : start_progress l.arrivals.items
      ≡ start_progress (map (λ x. no_reach) (labels_from 0 program.items))
  started = ap start_progress read.labels.arrivals

  found-is : answer ≡ least_fault (faults_of points program)
  found-is =
      read.found
      ∙ ap (λ (n : ProgramNames). first_fault_of d.found
      (items_faults n program.items (start_progress l.arrivals.items)))
      names-same
      ∙ ap (λ (s : Progress). first_fault_of d.found
      (items_faults (names_in points program) program.items s)) started
      ∙ ap (λ (o : Option CheckFault). first_fault_of o
      (items_faults (names_in points program) program.items
      (start_progress (map (λ x. no_reach) (labels_from 0 program.items))))) read.declared
      ∙ sym (noted-append None (declarations_faults points [] program.declarations)
      (items_faults (names_in points program) program.items
      (start_progress (map (λ x. no_reach) (labels_from 0 program.items)))))

  -- the fault that is found is the answer
  pub refused : (f : CheckFault) → answer ≡ Some f → checked_of points program ≡ Err f
  refused f is =
      ap (λ (o : Option CheckFault). unless_refused o (checked_program points program))
      (sym found-is ∙ is)

  items-same : answer ≡ None
      → items ≡ typed_items_of (names_in points program) program.items
      (start_progress (map (λ x. no_reach) (labels_from 0 program.items)))
  items-same none =
      read.items_read none
      ∙ ap (λ (n : ProgramNames). typed_items_of n program.items
      (start_progress l.arrivals.items))
      names-same
      ∙ ap (λ (s : Progress). typed_items_of (names_in points program) program.items s)
      started

  -- no declaration has a fault where none is found
  pub declared-right : answer ≡ None → declarations_faults points [] program.declarations ≡ []
  declared-right none =
      (append-none _ _ (least_fault-none (faults_of points program) (sym found-is ∙ none))).0

  -- without a fault, the answer is what is left
  pub passed : answer ≡ None → checked_of points program
      ≡ Ok (record {
        externals = d.externals.items;
        variables = d.variables.items;
        timers = d.timers.items;
        items = items;
      })
  passed none =
      let left : List ProgramItem =
      typed_items_of (names_in points program) program.items
      (start_progress (map (λ x. no_reach) (labels_from 0 program.items))) in
      let with_all : List External → List Variable → List Timer → List ProgramItem → Checked =
      λ es vs ts is. record { externals = es; variables = vs; timers = ts; items = is } in
      ap (λ (o : Option CheckFault). unless_refused o (checked_program points program))
      (sym found-is ∙ none)
      ∙ ap Ok
      (ap (λ (es : List External). with_all es (variables_of program.declarations)
      (timers_of program.declarations) left) (sym read.stands.externals)
      ∙ ap (λ (vs : List Variable). with_all d.externals.items vs (timers_of program.declarations)
      left) (sym read.stands.variables)
      ∙ ap (λ (ts : List Timer). with_all d.externals.items d.variables.items ts left)
      (sym read.stands.timers)
      ∙ ap (λ (is : List ProgramItem). with_all d.externals.items d.variables.items d.timers.items
      is)
      (sym (items-same none)))

  -- without a fault, the names of the slots differ
  pub apart-names : answer ≡ None
      → AreDistinct (map (λ e. e.name) d.externals.items ++ map (λ v. v.name) d.variables.items)
  apart-names none =
      subst (λ (vs : List Variable). AreDistinct
      (map (λ e. e.name) d.externals.items ++ map (λ v. v.name) vs)) (sym read.stands.variables)
      (subst (λ (es : List External). AreDistinct
      (map (λ e. e.name) es ++ map (λ v. v.name) (variables_of program.declarations)))
      (sym read.stands.externals)
      (all-apart points program.declarations (declared-right none)))

pub is_read : (points : List Point) (p : program.Program) (declarations : List Declaration)
    (first_items items : List source.Item) (d : Declarations) (l : Labels) (left : List ProgramItem)
    (answer : Option CheckFault)
    → declarations ≡ p.declarations.items → first_items ≡ p.items.items → items ≡ p.items.items
    → AreDeclarations points (map declared_name declarations) d
    → d.found ≡ least_fault (declarations_faults points [] (map declared_name declarations))
    → AreLabels (labels_from 0 (map entry_of first_items)) l
    → (answer ≡ None → left ≡ typed_items_of
    (names_of (record { meanings = d.meanings; labels = l.numbers })) (map entry_of items)
    (start_progress l.arrivals.items))
    → answer ≡ first_fault_of d.found
    (items_faults (names_of (record { meanings = d.meanings; labels = l.numbers }))
    (map entry_of items) (start_progress l.arrivals.items))
    → IsRead points (plain_program p) d l (record { meanings = d.meanings; labels = l.numbers })
    left answer
is_read points p declarations first_items items d l left answer these those them stands declared
    labels read found = record {
      stands =
          subst (λ (ds : List Declaration). AreDeclarations points (map declared_name ds) d) these
          stands;
      declared =
          declared ∙ ap (λ (ds : List Declaration). least_fault
          (declarations_faults points [] (map declared_name ds))) these;
      labels =
          subst (λ (is : List source.Item). AreLabels (labels_from 0 (map entry_of is)) l) those
          labels;
      meanings = refl;
      numbers = refl;
      items_read =
          λ (none : answer ≡ None). read none
          ∙ ap (λ (is : List source.Item). typed_items_of
          (names_of (record { meanings = d.meanings; labels = l.numbers })) (map entry_of is)
          (start_progress l.arrivals.items)) them;
      found = found ∙ ap (λ (is : List source.Item). first_fault_of d.found
          (items_faults (names_of (record { meanings = d.meanings; labels = l.numbers }))
          (map entry_of is) (start_progress l.arrivals.items))) them;
    }
