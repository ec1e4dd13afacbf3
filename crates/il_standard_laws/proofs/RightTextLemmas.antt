-- A program passes the checks exactly where it is right by the language's tables.
use Rattle.std.proofs.Common.{◌≡◌, ◌↔◌, ℕ, ◌-◌, List, [], ◌∷◌, Option, Some, None, option_map, Ok, refl, sym, ap, subst, ◌∙◌}
use Rattle.bay_base.specs.declared.types.ElementaryType.{ElementaryType}
use Rattle.bay_base.specs.declared.point.Point.{Point}
use Rattle.il_text.specs.Listing as text
use Rattle.il_text.specs.declared.program.Condition.TheVariants.{Always, IfTrue, IfFalse}
use Rattle.il_check.specs.Checking.{checked_of}
use Rattle.il_check.specs.Declaring.{names_in}
use Rattle.il_check.specs.SourceOperands.{ProgramNames, resolution_of}
use Rattle.il_check.specs.Labelling.{AreRightEntries, FlowState, Incoming, AreReachedItems, IsCombined, IsRightEntry, JumpAgrees, Labelling, initial_flow, flow_after_label, flow_state, incoming_after_action, with_target}
use Rattle.il_check.specs.Program.{Checked}
use Rattle.il_check.specs.RightProgram.{IsRightProgram}
use Rattle.il_check.specs.Rules.{type_of_result, target_of, type_after}
use Rattle.il_check.specs.WellTyped.{type_after_entry, type_after_entries}
use Rattle.il_check.proofs.RightLemmas.{right_programs_pass}
use Rattle.il_check.specs.Limits.{most_nested}
use Rattle.il_standard_laws.specs.RightText.{EntriesObeyTable, EntryObeysTable, IsRightText, ItemsObeyTable, incoming_after, label_of}
use Rattle.il_standard_laws.proofs.InstructionLemmas.{acts, block-is, right-by}

-- ---- parentheses

mutual
  entry-right : (names : ProgramNames) (room passed : ℕ) (e : text.Entry)
      (t u : Option ElementaryType)
      → IsRightEntry names room passed e t → type_after_entry names e t ≡ u
      → EntryObeysTable names room passed e t u
  entry-right names room passed (text.label line name) t u h e = sym e
  entry-right names room passed (text.action line a) t u h e = acts names passed a t u h e
  entry-right names room passed (text.block line operator negated items end) t u h e =
      let inner = type_after_entries names items None in (
        inner,
        h.0,
        entries-right names (room - 1) passed items None inner h.1 refl,
        (block-is operator negated inner t u).0 (h.2, e),
      )

  entries-right : (names : ProgramNames) (room passed : ℕ) (es : text.Entries)
      (t u : Option ElementaryType) → AreRightEntries names room passed es t
      → type_after_entries names es t ≡ u → EntriesObeyTable names room passed es t u
  entries-right names room passed text.no_entries t u h e = sym e
  entries-right names room passed (text.entry e es) t u h is =
      let w = type_after_entry names e t in (
        w,
        entry-right names room passed e t w h.0 refl,
        entries-right names room passed es w u h.1 is,
      )

mutual
  entry-back : (names : ProgramNames) (room passed : ℕ) (e : text.Entry)
      (t u : Option ElementaryType)
      → EntryObeysTable names room passed e t u
      → IsRightEntry names room passed e t × (type_after_entry names e t ≡ u)
  entry-back names room passed (text.label line name) t u h = (tt, sym h)
  entry-back names room passed (text.action line a) t u h = right-by names passed a t u h
  entry-back names room passed (text.block line operator negated items end) t u h =
      let es = entries-back names (room - 1) passed items None h.0 h.2 in
      let b = (block-is operator negated h.0 t u).1 h.3 in (
        (
          h.1,
          es.0,
          subst (λ (x : Option ElementaryType). IsCombined operator negated x t) (sym es.1) b.0,
        ),
        b.1,
      )

  entries-back : (names : ProgramNames) (room passed : ℕ) (es : text.Entries)
      (t u : Option ElementaryType) → EntriesObeyTable names room passed es t u
      → AreRightEntries names room passed es t × (type_after_entries names es t ≡ u)
  entries-back names room passed text.no_entries t u h = (tt, sym h)
  entries-back names room passed (text.entry e es) t u h =
      let one = entry-back names room passed e t h.0 h.1 in
      let more = entries-back names room passed es h.0 u h.2 in (
        (
          one.0,
          subst (λ (x : Option ElementaryType). AreRightEntries names room passed es x)
              (sym one.1) more.0,
        ),
        ap (type_after_entries names es) one.1 ∙ more.1,
      )

-- ---- the items

label-same : (names : ProgramNames) (a : text.Action)
    → target_of (resolution_of names a) ≡ label_of names a
label-same names (text.load negated source) = refl
label-same names (text.jump condition name) = refl
label-same names a = refl

comes-same : (names : ProgramNames) (a : text.Action) (t : Option ElementaryType)
    → incoming_after_action (resolution_of names a) t
    ≡ incoming_after a (type_after (resolution_of names a) t)
comes-same names (text.jump Always name) t = refl
comes-same names (text.jump IfTrue name) t = refl
comes-same names (text.jump IfFalse name) t = refl
comes-same names (text.leave Always) t = refl
comes-same names (text.leave IfTrue) t = refl
comes-same names (text.leave IfFalse) t = refl
comes-same names a t = refl

carried-same : (k : FlowState) (l m : Option ℕ) (x y : Incoming) → l ≡ m → x ≡ y
    → flow_state k.passed (with_target l k.named) x ≡ flow_state k.passed (with_target m k.named) y
carried-same k l m x y e f =
    ap (λ (n : Option ℕ). flow_state k.passed (with_target n k.named) x) e
    ∙ ap (flow_state k.passed (with_target m k.named)) f

module _ (names : ProgramNames) (labels : Labelling) where
  items-right : (es : List text.Entry) (k : FlowState) → AreReachedItems names labels es k
      → ItemsObeyTable names labels es k
  items-right [] k h = tt
  items-right (text.label line name ∷ es) k h =
      (h.0, items-right es (flow_after_label labels k) h.1)
  items-right (text.action line a ∷ es) k h =
      let r = resolution_of names a in
      let u = type_after r h.0 in
      let label = label-same names a in (
        h.0,
        u,
        h.1.0,
        acts names k.passed a h.0 u h.1.1 refl,
        subst (λ (n : Option ℕ). JumpAgrees labels n h.0) label h.1.2,
        items-right es
            (flow_state k.passed (with_target (label_of names a) k.named) (incoming_after a u))
            (subst (AreReachedItems names labels es)
            (carried-same k (target_of r) (label_of names a) (incoming_after_action r h.0)
            (incoming_after a u) label (comes-same names a h.0)) h.2),
      )
  items-right (text.block line operator negated items end ∷ es) k h =
      let b = text.block line operator negated items end in
      let u = option_map (type_of_result operator) h.0 in (
        h.0,
        u,
        h.1.0,
        entry-right names most_nested k.passed b h.0 u h.1.1 refl,
        items-right es (flow_state k.passed k.named (Some u)) h.2,
      )

  items-back : (es : List text.Entry) (k : FlowState) → ItemsObeyTable names labels es k
      → AreReachedItems names labels es k
  items-back [] k h = tt
  items-back (text.label line name ∷ es) k h =
      (h.0, items-back es (flow_after_label labels k) h.1)
  items-back (text.action line a ∷ es) k h =
      let r = resolution_of names a in
      let one = right-by names k.passed a h.0 h.1 h.3 in
      let label = label-same names a in (
        h.0,
        (h.2, one.0, subst (λ (n : Option ℕ). JumpAgrees labels n h.0) (sym label) h.4),
        subst (AreReachedItems names labels es)
            (sym (carried-same k (target_of r) (label_of names a) (incoming_after_action r h.0)
            (incoming_after a h.1) label (comes-same names a h.0 ∙ ap (incoming_after a) one.1)))
            (items-back es
            (flow_state k.passed (with_target (label_of names a) k.named) (incoming_after a h.1))
            h.5),
      )
  items-back (text.block line operator negated items end ∷ es) k h =
      let one =
      entry-back names most_nested k.passed (text.block line operator negated items end) h.0 h.1
      h.3 in (
        h.0,
        (h.2, one.0),
        subst (λ (u : Option ElementaryType). AreReachedItems names labels es
            (flow_state k.passed k.named (Some u))) (sym one.1)
            (items-back es (flow_state k.passed k.named (Some h.1)) h.4),
      )

-- ---- a program

-- a text is accepted exactly where it is right
pub pass : (points : List Point) (program : text.PlainProgram)
    → ((c : Checked) × (checked_of points program ≡ Ok c)) ↔ IsRightText points program
pass points program =
    let names = names_in points program in
    let both = right_programs_pass points program in (
      λ c. let h : IsRightProgram points program = both.0 c in
          record {
            declarations = h.declarations;
            labels = h.instructions.0;
            instructions =
                items-right names h.instructions.0 program.items initial_flow h.instructions.1;
          },
      λ h. both.1 (record {
        declarations = h.declarations;
        instructions =
            (h.labels, items-back names h.labels program.items initial_flow h.instructions);
      }),
    )
