-- One turn of the machine of words is one turn of the machine of typed values.
use Rattle.std.proofs.Common.{◌≡◌, ℕ, ◌+◌, ◌<◌, ◌≤◌, ℤ, pos, Bool, true, false, cond, List, [], ◌∷◌, length, refl, sym, ap, subst, ◌∙◌, arith, Option, Some, None, ◌⊎◌, inl, inr}
use Rattle.std.proofs.lemmas.Option.{same_Some}
use Rattle.std.specs.Prelude.{IsSome, slice_get}
use Rattle.std.specs.Ordering.{int_eq}
use Rattle.std.proofs.lemmas.Bool.{both_ways}
use Rattle.il_image.specs.declared.instr.Instr.{Instr}
use Rattle.il_image.specs.declared.instr.Instr.TheVariants.{Halt, Slot, Jump, Timer}
use Rattle.il_image.specs.declared.kind.CellKind.{CellKind}
use Rattle.il_image.specs.declared.opcode.SlotUse.TheVariants.{Load, Store, SetIf, ResetIf}
use Rattle.il_image.specs.declared.opcode.When.TheVariants.{Always, IfTrue, IfFalse}
use Rattle.il_image.specs.declared.opcode.TimerUse.TheVariants.{Run}
use Rattle.il_image.specs.Effects.{kinds_after}
use Rattle.il_image.specs.Images.{Image}
use Rattle.il_image.specs.Machine.{Continues, State, act, step_at, step_of_read, most_cells}
use Rattle.il_image.specs.Octets.{AreOctets}
use Rattle.il_image.specs.Reading.{instr_at}
use Rattle.il_image.specs.Tables.{FitsTable, InstrBegins, LeadsTo, slot_types}
use Rattle.il_image.specs.Kinds.{AreWithin}
use Rattle.il_image.proofs.BegunLemmas.{begun}
use Rattle.il_image.proofs.KindLemmas.{kind-above}
use Rattle.il_image.proofs.PlaceLemmas.{stands}
use Rattle.il_verify.specs.Judging.{is_read_only, writes_read_only}
use Rattle.il_verify.specs.Slots.{slots_of}
use Rattle.il_verify.proofs.TableLemmas.{same-instr, some-way}
use Rattle.il_verify.proofs.WithinLemmas.{within-length}
use Rattle.il_image.specs.declared.value.Value.{Value}
use Rattle.il_image.proofs.SetLemmas.{set-elsewhere}
use Rattle.il_scan.specs.MachineStates.{HaveKinds, KeepsSlots, IsAllowedAt, EncodesStateAt, StepsTo, words_at}
use Rattle.il_scan.specs.WordEffects.{IsReady, Words, next_offset, top, words_after}
use Rattle.il_scan.proofs.CellLemmas.{fit-length}
use Rattle.il_scan.proofs.DoesLemmas.{Does}
use Rattle.il_scan.proofs.SimLemmas.{does}

-- ---- where words lead

chosen : (b : Bool) (x y to : ℕ) → Some (cond b x y) ≡ Some to → (to ≡ x) ⊎ (to ≡ y)
chosen true x y to e = inl (sym (same_Some x to e))
chosen false x y to e = inr (sym (same_Some y to e))

turned-round : {A B : Type 0} → A ⊎ B → B ⊎ A
turned-round h = elim h [ inl a ↦ inr a | inr b ↦ inl b ]

leads-there : (i : Instr) (next : ℕ) (stack : List ℤ) (to : ℕ) → next_offset i next stack ≡ Some to
    → LeadsTo i next to
leads-there Halt next stack to e = absurd cc
leads-there (Jump Always distance) next stack to e = sym (same_Some (next + distance) to e)
leads-there (Jump IfTrue distance) next stack to e =
    chosen (int_eq (top stack) (pos 0)) next (next + distance) to e
leads-there (Jump IfFalse distance) next stack to e =
    turned-round (chosen (int_eq (top stack) (pos 0)) (next + distance) next to e)
leads-there i next stack to e = sym (same_Some next to e)

-- ---- slots of points that may only be read

module _ (image : Image) (now n : ℕ) (only : is_read_only (slots_of image) n ≡ true) where
  other : (k : ℕ) → is_read_only (slots_of image) k ≡ false → n ≡ k → ⊥
  other k e same =
      both_ways (is_read_only (slots_of image) k) e
      (ap (λ (j : ℕ). is_read_only (slots_of image) j) (sym same) ∙ only)

  keeps : (i : Instr) (m : Words) → writes_read_only (slots_of image) i ≡ false
      → slice_get (words_after now i m).slots n ≡ slice_get m.slots n
  keeps (Slot Load k) m e = refl
  keeps (Slot Store k) m e = set-elsewhere m.slots k n _ (other k e)
  keeps (Slot SetIf k) m e = set-elsewhere m.slots k n _ (other k e)
  keeps (Slot ResetIf k) m e = set-elsewhere m.slots k n _ (other k e)
  keeps (Timer Run k) m e = refl
  keeps i m e = refl

-- ---- values within other kinds

fit-within : (values : List Value) (xs ys : List CellKind) → AreWithin xs ys → HaveKinds values xs
    → HaveKinds values ys
fit-within [] [] [] h g = tt
fit-within [] [] (y ∷ ys) h g = absurd h
fit-within [] (x ∷ xs) ys h g = absurd g
fit-within (v ∷ values) [] ys h g = absurd g
fit-within (v ∷ values) (x ∷ xs) [] h g = absurd h
fit-within (v ∷ values) (x ∷ xs) (y ∷ ys) h g =
    ((kind-above v x y h.0 g.0.0, g.0.1), fit-within values xs ys h.1 g.1)

some-there : {A : Type 0} (o : Option A) (x : A) → o ≡ Some x → IsSome o
some-there None x e = absurd cc
some-there (Some y) x e = refl

-- ---- one turn

-- what the table says of an instruction that stands at the state's place
record Allows (image : Image) (s : State) (h : IsAllowedAt image s) (i : Instr) (next : ℕ)
    : Type 0 where
  after : List CellKind
  effect_is : kinds_after (slot_types image) (length image.timers) i h.kinds ≡ Some after
  enters : (to : ℕ) → LeadsTo i next to → FitsTable h.table to after

module _ (image : Image) (now : ℕ) (s : State) (h : IsAllowedAt image s) where
  is_place : InstrBegins image.code s.offset
  is_place = (h.agrees.places s.offset).0 (some-there (h.table s.offset) h.kinds h.here)

  pub place-within : s.offset < length image.code
  place-within = is_place.0

  pub read_some : IsSome (instr_at image.code s.offset)
  read_some = let a = h.agrees.allowed s.offset h.kinds h.here in
      some-there (instr_at image.code s.offset) (a.instr, a.next) a.here

  pub cells-room : length s.cells ≡ length h.kinds
  cells-room = fit-length s.cells h.kinds h.fit

  module _ (i : Instr) (next : ℕ) (here : instr_at image.code s.offset ≡ Some (i, next))
      (octets : AreOctets image.code) where
    allows : Allows image s h i next
    allows =
        let a = h.agrees.allowed s.offset h.kinds h.here in
        let same = same-instr image.code s.offset a.instr i a.next next a.here here in
        record {
          after = a.after;
          effect_is =
              ap (λ (j : Instr). kinds_after (slot_types image) (length image.timers) j h.kinds)
              (sym same.0) ∙ a.effect;
          enters =
              λ to way. a.enters to
              (subst (λ (n : ℕ). LeadsTo a.instr n to) (sym same.1)
              (subst (λ (j : Instr). LeadsTo j next to) (sym same.0) way));
        }

    turn-is : step_at image.code now s ≡ act now i next s
    turn-is =
        ap (λ (o : Option (Instr × ℕ)). step_of_read now o s)
        (begun image.code s.offset is_place ∙ here)

    goes-somewhere : (to : ℕ) → LeadsTo i next to → i ≡ Halt → ⊥
    goes-somewhere to way e = subst (λ (j : Instr). LeadsTo j next to) e way

    doing : (to : ℕ) → LeadsTo i next to
        → Does (slot_types image) (length image.timers) now i next s.offset s.cells s.slots s.timers
        allows.after
    doing to way =
        let a = allows in
        let e = a.enters to way in
        let most : length e.0 ≤ most_cells = h.agrees.room to e.0 e.1 in
        let size : length a.after ≡ length e.0 = within-length a.after e.0 e.2 in
        does (slot_types image) (length image.timers) now next s.offset s.slots s.timers a.after
        h.typed i s.cells h.kinds a.effect_is
        (stands image.code s.offset i next octets here).is_instr (goes-somewhere to way) h.fit
        (omega arith)

    halt-ready : i ≡ Halt → IsReady i (words_at s)
    halt-ready e = subst (λ (j : Instr). IsReady j (words_at s)) (sym e) tt

    pub ready : IsReady i (words_at s)
    ready = elim (some-way i next) [ inl e ↦ halt-ready e | inr way ↦ (doing way.0 way.1).ready ]

    halted : (after : Words) → i ≡ Halt → after ≡ words_after now i (words_at s)
        → StepsTo image now s None after
    unfolding act
    halted after e done = (
      turn-is ∙ ap (λ (j : Instr). act now j next s) e,
      done ∙ ap (λ (j : Instr). words_after now j (words_at s)) e,
      (next, here ∙ ap (λ (j : Instr). Some (j, next)) e),
    )

    kept : KeepsSlots image (words_at s) (words_after now i (words_at s))
    kept n only = keeps image now n only i (words_at s) (h.writes s.offset i next is_place here)

    went : (to : ℕ) (after : Words) → next_offset i next (words_at s).stack ≡ Some to
        → after ≡ words_after now i (words_at s) → StepsTo image now s (Some to) after
    went to after e done =
        let way : LeadsTo i next to = leads-there i next (words_at s).stack to e in
        let d = doing to way in
        let a = allows in
        let enter = a.enters to way in
        let there : d.to ≡ to = same_Some d.to to (sym d.leads_to ∙ e) in
        let t : State =
        record { offset = to; cells = d.new_cells; slots = d.new_slots; timers = d.new_timers }
        in (
          record { instr = i; next = next; here = here; leads = way },
          (
            t,
            turn-is ∙ d.goes_on ∙ ap
                (λ (n : ℕ). Continues (record
                { offset = n; cells = d.new_cells; slots = d.new_slots; timers = d.new_timers }))
                there,
            record {
              allowed =
                  record {
                    table = h.table;
                    agrees = h.agrees;
                    writes = h.writes;
                    kinds = enter.0;
                    here = enter.1;
                    fit = fit-within d.new_cells a.after enter.0 enter.2 d.fit;
                    typed = d.typed;
                  };
              there = refl;
              are = sym d.words_are ∙ sym done;
            },
          ),
          (λ n only. ap (λ (m : Words). slice_get m.slots n) done ∙ kept n only),
        )

    no-way : (stack : List ℤ) → next_offset i next stack ≡ None → (to : ℕ)
        → next_offset i next stack ≡ Some to
        → ⊥
    no-way stack e to f = let no : ◌≡◌ {A = Option ℕ} None (Some to) = sym e ∙ f in cc

    pub turned : (to : Option ℕ) (after : Words) → to ≡ next_offset i next (words_at s).stack
        → after ≡ words_after now i (words_at s) → StepsTo image now s to after
    turned (Some to) after e done = went to after (sym e) done
    turned None after e done = elim (some-way i next) [
      | inl is ↦ halted after is done
      | inr way ↦ absurd (let d = doing way.0 way.1 in
          no-way (words_at s).stack (sym e) d.to d.leads_to)
    ]

-- ---- the same at a place where words stand

module _ (image : Image) (now offset : ℕ) (w : Words) (s : State)
    (h : EncodesStateAt image offset w s)
  where
    at_place : (f : ℕ → Option (Instr × ℕ)) → f s.offset ≡ f offset
    at_place f = ap f h.there

    pub some-at : IsSome (instr_at image.code offset)
    some-at =
        subst (λ (p : ℕ). IsSome (instr_at image.code p)) h.there (read_some image now s h.allowed)

    module _ (read : Instr × ℕ) (here : instr_at image.code offset ≡ Some read)
        (octets : AreOctets image.code) where
      here-so : instr_at image.code s.offset ≡ Some (read.0, read.1)
      here-so = at_place (instr_at image.code) ∙ here

      pub ready-at : IsReady read.0 w
      ready-at =
          subst (IsReady read.0) h.are (ready image now s h.allowed read.0 read.1 here-so octets)

      pub turned-at : (to : Option ℕ) (after : Words) → to ≡ next_offset read.0 read.1 w.stack
          → after ≡ words_after now read.0 w → StepsTo image now s to after
      turned-at to after e done =
          turned image now s h.allowed read.0 read.1 here-so octets to after
          (e ∙ ap (λ (m : Words). next_offset read.0 read.1 m.stack) (sym h.are))
          (done ∙ ap (words_after now read.0) (sym h.are))
