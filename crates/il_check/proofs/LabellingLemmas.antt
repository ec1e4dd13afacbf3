-- A program without a fault is one with a labelling.
use Rattle.std.proofs.Common.{◌≡◌, ℕ, suc, ◌+◌, ◌<◌, ◌≤◌, Bool, true, false, not, ◌&&◌, ◌||◌, cond, List, [], ◌∷◌, ◌++◌, length, slice_get, slice_set, refl, sym, ap, subst, ◌∙◌, arith, Option, Some, None, ◌↔◌, inl, inr}
use Rattle.std.proofs.lemmas.Option.{same_Some, cond_some}
use Rattle.std.specs.Prelude.{◌==◌, is_some, option_map}
use Rattle.std.proofs.lemmas.Bool.{cases_eq, not-false}
use Rattle.std.specs.Str.{bytes_eq}
use Rattle.bay_base.specs.Names.{upper}
use Rattle.bay_base.specs.declared.types.ElementaryType.{ElementaryType}
use Rattle.bay_base.specs.declared.point.Point.{Point}
use Rattle.il_text.specs.Listing as text
use Rattle.il_text.specs.declared.program.Operator.{Operator}
use Rattle.il_check.specs.Checking.{initial_progress}
use Rattle.il_check.specs.Declaring.{labels_from, names_in, looked_up}
use Rattle.il_check.specs.SourceOperands.{ProgramNames, resolution_of}
use Rattle.il_check.specs.Labelling.{Labelling, Becomes, IsRight, Incoming, FallAgrees, JumpAgrees, is_named, with_target, flow_state, initial_flow, type_after_label, incoming_after_action, with_result, AreReachedItems, IsWellTyped, progress_after_entries, type_after_items}
use Rattle.il_check.specs.Rules.{type_after, type_of_result, falls_through, target_of}
use Rattle.il_check.specs.WellTyped.{Progress, is_first_label, items_faults, join, arrival, arrival_at, progress_after_action, progress_after_entry}
use Rattle.il_check.specs.declared.reach.Reach.{Reach}
use Rattle.il_check.specs.declared.source_operand.Resolved.{Resolved}
use Rattle.il_check.proofs.FaultlessLemmas.{both-none, none-both, if-none, none-if, right-from, right-to, entry-reached, becomes-along, becomes-under, right-under, after-under, or-true, entry-under, entry-to, entry-from}
use Rattle.il_check.proofs.ArrivalLemmas.{join-reached, join-left, join-right, join-under, there-within, none-arrived, mapped-length, same-number, other-number, few, few-back, no-less, less-one, not_before, some-if, InRange, target-in, target-ahead, Brought, brings, brings-under}
use Rattle.il_check.specs.Limits.{most_nested}
use Rattle.il_image.proofs.SetLemmas.{set-here, set-elsewhere}

-- ---- with a labelling there is no fault

-- What is known before items with the least types, beside what flows there with a labelling.
record Stands (labels : Labelling) (count : ℕ) (named : List ℕ) (s : Progress) (now : Incoming)
    : Type 0 where
  reached : s.now.is_reached ≡ is_some now
  typed : (t : Option ElementaryType) → now ≡ Some t → Becomes s.now.kind t
  brought : Brought named s.arrivals count
  under : (n : ℕ) → is_named named n ≡ true
      → Becomes (arrival (slice_get s.arrivals n)).kind (labels n)

falls-in : (labels : Labelling) (number : ℕ) (kind : Option ElementaryType) (now : Incoming)
    → FallAgrees labels number now → is_some now ≡ true
    → ((t : Option ElementaryType) → now ≡ Some t → Becomes kind t) → Becomes kind (labels number)
falls-in labels number kind None falls is typed = absurd (cc)
falls-in labels number kind (Some t) falls is typed =
    becomes-along kind t (labels number) (typed t refl) falls

stands-behind-label : (labels : Labelling) (count line : ℕ) (names : ProgramNames) (name : List ℕ)
    (named : List ℕ) (s : Progress) (now : Incoming) → FallAgrees labels s.passed now
    → Stands labels count named s now
    → Stands labels count named (progress_after_entry names (text.label line name) s)
    (type_after_label labels (flow_state s.passed named now))
stands-behind-label labels count line names name named s now falls st =
    let come = arrival (slice_get s.arrivals s.passed) in
    let either : (join s.now come).is_reached ≡ is_some now || is_named named s.passed =
    join-reached s.now come ∙ ap (λ (x : Bool). x || come.is_reached) st.reached
    ∙ ap (λ (x : Bool). is_some now || x) (st.brought.arrived s.passed) in
    record {
      reached = either ∙ sym (some-if (is_some now || is_named named s.passed) (labels s.passed));
      typed = λ t e.
          let c = cond_some (is_some now || is_named named s.passed) (labels s.passed) t e in
          let left =
          λ (r : s.now.is_reached ≡ true). falls-in labels s.passed s.now.kind now falls
          (sym st.reached ∙ r) st.typed in
          let right =
          λ (r : come.is_reached ≡ true). st.under s.passed
          (sym (st.brought.arrived s.passed) ∙ r) in
          subst (λ (u : Option ElementaryType). Becomes (join s.now come).kind u) c.1
          (join-under s.now come (labels s.passed) left right (either ∙ c.0));
      brought = st.brought;
      under = st.under;
    }

stands-behind-action : (labels : Labelling) (count : ℕ) (r : Resolved) (t : Option ElementaryType)
    (named : List ℕ) (s : Progress) (now : Incoming) → now ≡ Some t
    → JumpAgrees labels (target_of r) t
    → ((n : ℕ) → target_of r ≡ Some n → n < count)
    → Stands labels count named s now
    → Stands labels count (with_target (target_of r) named) (progress_after_action r s)
    (incoming_after_action r t)
stands-behind-action labels count r t named s now is jumps range st =
    let reached : s.now.is_reached ≡ true = st.reached ∙ ap is_some is in
    let goes : s.now.is_reached && falls_through r ≡ falls_through r =
    ap (λ (x : Bool). x && falls_through r) reached in
    record {
      reached = goes ∙ sym (some-if (falls_through r) (type_after r t));
      typed = λ u e. subst (λ (v : Option ElementaryType). Becomes (type_after r s.now.kind) v)
          (cond_some (falls_through r) (type_after r t) u e).1
          (after-under r s.now.kind t (st.typed t is));
      brought = brings (target_of r) s.now named s.arrivals count reached range st.brought;
      under = brings-under labels (target_of r) s.now t named s.arrivals count reached
          (st.typed t is) jumps range st.brought st.under;
    }

stands-behind-block : (labels : Labelling) (count : ℕ) (names : ProgramNames) (line : ℕ)
    (operator : Operator) (negated : Bool) (items : text.Entries) (end : ℕ)
    (t : Option ElementaryType) (named : List ℕ) (s : Progress) (now : Incoming) → now ≡ Some t
    → Stands labels count named s now
    → Stands labels count named
    (progress_after_entry names (text.block line operator negated items end) s)
    (Some (option_map (type_of_result operator) t))
stands-behind-block labels count names line operator negated items end t named s now is st =
    record {
      reached = st.reached ∙ ap is_some is;
      typed = λ u e. subst (λ (v : Option ElementaryType). Becomes
          (option_map (type_of_result operator) s.now.kind) v)
          (same_Some (option_map (type_of_result operator) t) u e)
          (becomes-under (type_of_result operator) s.now.kind t (st.typed t is));
      brought = st.brought;
      under = st.under;
    }

flows-to : (names : ProgramNames) (labels : Labelling) (count : ℕ) → InRange names count
    → (es : List text.Entry) (s : Progress) (named : List ℕ) (now : Incoming)
    → AreReachedItems names labels es (flow_state s.passed named now)
    → Stands labels count named s now
    → items_faults names es s ≡ []
flows-to names labels count range [] s named now f st = refl
flows-to names labels count range (text.label line name ∷ es) s named now f st =
    none-both _ _
    (none-both _ _ (none-if _ _ (ap not f.0.0)) (none-if _ _ (few s.passed f.0.1)))
    (flows-to names labels count range es (progress_after_entry names (text.label line name) s)
    named
    (type_after_label labels (flow_state s.passed named now)) f.1
    (stands-behind-label labels count line names name named s now f.0.2 st))
flows-to names labels count range (text.action line a ∷ es) s named now f st =
    let r = resolution_of names a in
    let reached : s.now.is_reached ≡ true = st.reached ∙ ap is_some f.1.0 in
    none-both _ _
    (right-to s.now.is_reached s.passed line r s.now.kind reached
    (right-under s.passed r s.now.kind f.0 (st.typed f.0 f.1.0) f.1.1))
    (flows-to names labels count range es (progress_after_action r s)
    (with_target (target_of r) named)
    (incoming_after_action r f.0) f.2
    (stands-behind-action labels count r f.0 named s now f.1.0 f.1.2
    (λ n e. target-in names count a n range e) st))
flows-to names labels count range (text.block line operator negated items end ∷ es) s named now f
    st =
    let b = text.block line operator negated items end in
    let reached : s.now.is_reached ≡ true = st.reached ∙ ap is_some f.1.0 in
    none-both _ _
    (entry-to names most_nested s.now.is_reached s.passed b s.now.kind reached
    (entry-under names most_nested s.passed b s.now.kind f.0 (st.typed f.0 f.1.0) f.1.1))
    (flows-to names labels count range es (progress_after_entry names b s) named
    (Some (option_map (type_of_result operator) f.0)) f.2
    (stands-behind-block labels count names line operator negated items end f.0 named s now
    f.1.0 st))

stands-behind-all : (names : ProgramNames) (labels : Labelling) (count : ℕ) → InRange names count
    → (es : List text.Entry) (s : Progress) (named : List ℕ) (now : Incoming)
    (t : Option ElementaryType) → AreReachedItems names labels es (flow_state s.passed named now)
    → Stands labels count named s now
    → type_after_items names labels es (flow_state s.passed named now) ≡ Some t
    → Becomes (progress_after_entries names es s).now.kind t
stands-behind-all names labels count range [] s named now t f st is = st.typed t is
stands-behind-all names labels count range (text.label line name ∷ es) s named now t f st is =
    stands-behind-all names labels count range es
    (progress_after_entry names (text.label line name) s) named
    (type_after_label labels (flow_state s.passed named now)) t f.1
    (stands-behind-label labels count line names name named s now f.0.2 st) is
stands-behind-all names labels count range (text.action line a ∷ es) s named now t f st is =
    let r = resolution_of names a in
    stands-behind-all names labels count range es (progress_after_action r s)
    (with_target (target_of r) named)
    (incoming_after_action r f.0) t f.2
    (stands-behind-action labels count r f.0 named s now f.1.0 f.1.2
    (λ n e. target-in names count a n range e) st)
    (subst (λ (c : Incoming). type_after_items names labels es
    (flow_state s.passed (with_target (target_of r) named)
    (with_result (incoming_after_action r) c)) ≡ Some t) f.1.0 is)
stands-behind-all names labels count range (text.block line operator negated items end ∷ es) s named
    now t f st is =
    stands-behind-all names labels count range es
    (progress_after_entry names (text.block line operator negated items end) s) named
    (Some (option_map (type_of_result operator) f.0)) t f.2
    (stands-behind-block labels count names line operator negated items end f.0 named s now f.1.0
    st)
    (subst (λ (c : Incoming). type_after_items names labels es
    (flow_state s.passed named (with_result (λ u. Some (option_map (type_of_result operator) u)) c))
    ≡ Some t) f.1.0 is)

-- ---- without a fault there is a labelling

-- the type of the current result at the label of this number with the least types
abbrev pub least : ProgramNames → List text.Entry → Progress → ℕ → Option ElementaryType
least names [] s n = None
least names (text.label line name ∷ es) s n =
    cond (n == s.passed) (join s.now (arrival (slice_get s.arrivals s.passed))).kind
    (least names es (progress_after_entry names (text.label line name) s) n)
least names (text.action line a ∷ es) s n =
    least names es (progress_after_action (resolution_of names a) s) n
least names (text.block line operator negated items end ∷ es) s n =
    least names es (progress_after_entry names (text.block line operator negated items end) s) n

-- what one more jump brings to a label
brought-by : (names : ProgramNames) (es : List text.Entry) (r : Resolved) (s : Progress) (n : ℕ)
    (v : Reach) (target : Option ℕ) → target_of r ≡ target → slice_get s.arrivals n ≡ Some v
    → v.is_reached ≡ true
    → ((w : Reach) → slice_get (arrival_at (target_of r) s.now s.arrivals) n ≡ Some w
    → w.is_reached ≡ true → Becomes w.kind (least names es (progress_after_action r s) n))
    → Becomes v.kind (least names es (progress_after_action r s) n)
brought-by names es r s n v None t is reached more =
    more v (ap (λ (o : Option ℕ). slice_get (arrival_at o s.now s.arrivals) n) t ∙ is) reached
brought-by names es r s n v (Some m) t is reached more =
    let old = arrival (slice_get s.arrivals m) in
    let here = join old s.now in
    elim (cases_eq n m) [
      | inl e ↦ (
          let was : old ≡ v =
          ap (λ (q : ℕ). arrival (slice_get s.arrivals q)) (sym e) ∙ ap arrival is in
          let there : slice_get (slice_set s.arrivals m here) n ≡ Some here =
          subst (λ (q : ℕ). slice_get (slice_set s.arrivals m here) q ≡ Some here) (sym e)
          (set-here s.arrivals m here
          (subst (λ (q : ℕ). q < length s.arrivals) e (there-within s.arrivals n v is))) in
          let is_met : here.is_reached ≡ true =
          join-reached old s.now
          ∙ ap (λ (x : Bool). x || s.now.is_reached)
          (ap (λ (x : Reach). x.is_reached) was ∙ reached) in
          let left : Becomes old.kind here.kind =
          join-left old s.now (ap (λ (x : Reach). x.is_reached) was ∙ reached) in
          becomes-along v.kind here.kind _
          (subst (λ (x : Reach). Becomes x.kind here.kind) was left)
          (more here (ap (λ (o : Option ℕ). slice_get (arrival_at o s.now s.arrivals) n) t ∙ there)
          is_met))
      | inr ne ↦ more v (ap (λ (o : Option ℕ). slice_get (arrival_at o s.now s.arrivals) n) t
          ∙ set-elsewhere s.arrivals m n here ne ∙ is) reached
    ]

-- what has come to a label becomes its type
brought-becomes : (names : ProgramNames) (es : List text.Entry) (s : Progress) (n : ℕ) (v : Reach)
    → slice_get s.arrivals n ≡ Some v → v.is_reached ≡ true → Becomes v.kind (least names es s n)
brought-becomes names [] s n v is reached = inr refl
brought-becomes names (text.label line name ∷ es) s n v is reached = elim (cases_eq n s.passed) [
  | inl e ↦ (
      let come : arrival (slice_get s.arrivals s.passed) ≡ v =
      ap (λ (q : ℕ). arrival (slice_get s.arrivals q)) (sym e) ∙ ap arrival is in
      let here : Becomes v.kind (join s.now (arrival (slice_get s.arrivals s.passed))).kind =
      subst (λ (b : Reach). Becomes v.kind (join s.now b).kind) (sym come)
      (join-right s.now v reached) in
      subst (λ (b : Bool). Becomes v.kind
      (cond b (join s.now (arrival (slice_get s.arrivals s.passed))).kind
      (least names es (progress_after_entry names (text.label line name) s) n)))
      (sym (same-number n s.passed e)) here)
  | inr ne ↦
      subst (λ (b : Bool). Becomes v.kind
      (cond b (join s.now (arrival (slice_get s.arrivals s.passed))).kind
      (least names es (progress_after_entry names (text.label line name) s) n)))
      (sym (other-number n s.passed ne))
      (brought-becomes names es (progress_after_entry names (text.label line name) s) n v is
      reached)
]
brought-becomes names (text.action line a ∷ es) s n v is reached =
    brought-by names es (resolution_of names a) s n v (target_of (resolution_of names a)) refl is
    reached
    (λ w. brought-becomes names es (progress_after_action (resolution_of names a) s) n w)
brought-becomes names (text.block line operator negated items end ∷ es) s n v is reached =
    brought-becomes names es
    (progress_after_entry names (text.block line operator negated items end) s) n v is
    reached

-- What is known before items with the least types is just what flows there.
pub record Exact (count : ℕ) (named : List ℕ) (s : Progress) (now : Incoming) : Type 0 where
  pub is : now ≡ cond s.now.is_reached (Some s.now.kind) None
  pub brought : Brought named s.arrivals count

exact-some : (count : ℕ) (named : List ℕ) (s : Progress) (now : Incoming) → Exact count named s now
    → is_some now ≡ s.now.is_reached
exact-some count named s now x = ap is_some x.is ∙ some-if s.now.is_reached s.now.kind

pub exact-now : (count : ℕ) (named : List ℕ) (s : Progress) (now : Incoming)
    → Exact count named s now
    → s.now.is_reached ≡ true → now ≡ Some s.now.kind
exact-now count named s now x reached =
    x.is ∙ ap (λ (b : Bool). cond b (Some s.now.kind) None) reached

falls-out : (labels : Labelling) (number : ℕ) (r : Reach) (b : Bool) → r.is_reached ≡ b
    → (r.is_reached ≡ true → Becomes r.kind (labels number))
    → FallAgrees labels number (cond b (Some r.kind) None)
falls-out labels number r true e h = h e
falls-out labels number r false e h = tt

pub jumps-out : (labels : Labelling) (names : ProgramNames) (es : List text.Entry) (count : ℕ)
    (r : Resolved) (s : Progress) (named : List ℕ) (target : Option ℕ) → target_of r ≡ target
    → s.now.is_reached ≡ true → IsRight s.passed r s.now.kind
    → ((n : ℕ) → target_of r ≡ Some n → n < count) → Brought named s.arrivals count
    → ((n : ℕ) → s.passed ≤ n → labels n ≡ least names es (progress_after_action r s) n)
    → JumpAgrees labels target s.now.kind
jumps-out labels names es count r s named None t reached ok range b same = tt
jumps-out labels names es count r s named (Some m) t reached ok range b same =
    let old = arrival (slice_get s.arrivals m) in
    let here = join old s.now in
    let there : slice_get (slice_set s.arrivals m here) m ≡ Some here =
    set-here s.arrivals m here (let h = range m t in let k = b.size in omega arith) in
    let is_met : here.is_reached ≡ true =
    join-reached old s.now ∙ ap (λ (x : Bool). old.is_reached || x) reached
    ∙ or-true old.is_reached in
    let more =
    brought-becomes names es (progress_after_action r s) m here
    (ap (λ (o : Option ℕ). slice_get (arrival_at o s.now s.arrivals) m) t ∙ there) is_met in
    subst (λ (u : Option ElementaryType). Becomes s.now.kind u)
    (sym (same m (target-ahead s.passed r m t ok.forward)))
    (becomes-along s.now.kind here.kind (least names es (progress_after_action r s) m)
    (join-right old s.now reached) more)

-- the labels have the least types
abbrev pub AreLeast : Labelling → ProgramNames → List text.Entry → Progress → Type 0
AreLeast labels names es s = (n : ℕ) → s.passed ≤ n → labels n ≡ least names es s n

label-least : (names : ProgramNames) (labels : Labelling) (line : ℕ) (name : List ℕ)
    (es : List text.Entry)
    (s : Progress) → AreLeast labels names (text.label line name ∷ es) s
    → labels s.passed ≡ (join s.now (arrival (slice_get s.arrivals s.passed))).kind
label-least names labels line name es s same =
    let come = arrival (slice_get s.arrivals s.passed) in
    let after = progress_after_entry names (text.label line name) s in
    same s.passed (no-less s.passed)
    ∙ ap (λ (b : Bool). cond b (join s.now come).kind (least names es after s.passed))
    (same-number s.passed s.passed refl)

pub least-behind-label : (names : ProgramNames) (labels : Labelling) (line : ℕ) (name : List ℕ)
    (es : List text.Entry) (s : Progress) → AreLeast labels names (text.label line name ∷ es) s
    → AreLeast labels names es (progress_after_entry names (text.label line name) s)
least-behind-label names labels line name es s same n le =
    let come = arrival (slice_get s.arrivals s.passed) in
    let after = progress_after_entry names (text.label line name) s in
    same n (less-one s.passed n le)
    ∙ ap (λ (b : Bool). cond b (join s.now come).kind (least names es after n))
    (other-number n s.passed (not_before s.passed n le))

pub exact-behind-label : (names : ProgramNames) (labels : Labelling) (count : ℕ) (line : ℕ)
    (name : List ℕ)
    (es : List text.Entry) (s : Progress) (named : List ℕ) (now : Incoming)
    → AreLeast labels names (text.label line name ∷ es) s → Exact count named s now
    → Exact count named (progress_after_entry names (text.label line name) s)
    (type_after_label labels (flow_state s.passed named now))
exact-behind-label names labels count line name es s named now same x =
    let come = arrival (slice_get s.arrivals s.passed) in
    let here = label-least names labels line name es s same in
    let either : is_some now || is_named named s.passed ≡ (join s.now come).is_reached =
    ap (λ (b : Bool). b || is_named named s.passed) (exact-some count named s now x)
    ∙ ap (λ (b : Bool). s.now.is_reached || b) (sym (x.brought.arrived s.passed))
    ∙ sym (join-reached s.now come) in
    record {
      is = ap (λ (b : Bool). cond b (Some (labels s.passed)) None) either
          ∙ ap (λ (u : Option ElementaryType). cond (join s.now come).is_reached (Some u) None)
          here;
      brought = x.brought;
    }

pub exact-behind-action : (names : ProgramNames) (count : ℕ) (range : InRange names count)
    (a : text.Action) (s : Progress) (named : List ℕ) (now : Incoming) → s.now.is_reached ≡ true
    → Exact count named s now
    → Exact count (with_target (target_of (resolution_of names a)) named)
    (progress_after_action (resolution_of names a) s)
    (incoming_after_action (resolution_of names a) s.now.kind)
exact-behind-action names count range a s named now reached x =
    let r = resolution_of names a in
    record {
      is = ap (λ (b : Bool). cond (b && falls_through r) (Some (type_after r s.now.kind)) None)
          (sym reached);
      brought =
          brings (target_of r) s.now named s.arrivals count reached
          (λ n e. target-in names count a n range e) x.brought;
    }

pub exact-behind-block : (names : ProgramNames) (count line : ℕ) (operator : Operator)
    (negated : Bool)
    (items : text.Entries) (end : ℕ) (s : Progress) (named : List ℕ) (now : Incoming)
    → s.now.is_reached ≡ true → Exact count named s now
    → Exact count named (progress_after_entry names (text.block line operator negated items end) s)
    (Some (option_map (type_of_result operator) s.now.kind))
exact-behind-block names count line operator negated items end s named now reached x = record {
  is = ap (λ (b : Bool). cond b (Some (option_map (type_of_result operator) s.now.kind)) None)
      (sym reached);
  brought = x.brought;
}

pub flows-from : (names : ProgramNames) (labels : Labelling) (count : ℕ) → InRange names count
    → (es : List text.Entry) (s : Progress) (named : List ℕ) (now : Incoming)
    → AreLeast labels names es s → items_faults names es s ≡ []
    → Exact count named s now → AreReachedItems names labels es (flow_state s.passed named now)
flows-from names labels count range [] s named now same none x = tt
flows-from names labels count range (text.label line name ∷ es) s named now same none x =
    let h = both-none _ _ none in
    let own = both-none _ _ h.0 in
    let here = label-least names labels line name es s same in
    let fall =
    λ (r : s.now.is_reached ≡ true). subst (λ (u : Option ElementaryType). Becomes s.now.kind u)
    (sym here) (join-left s.now (arrival (slice_get s.arrivals s.passed)) r) in
    let falls : FallAgrees labels s.passed now =
    subst (FallAgrees labels s.passed) (sym x.is)
    (falls-out labels s.passed s.now s.now.is_reached refl fall) in (
      (
        not-false (is_first_label s.passed (names.label name)) (if-none _ _ own.0),
        few-back s.passed (if-none _ _ own.1),
        falls,
      ),
      flows-from names labels count range es (progress_after_entry names (text.label line name) s)
          named
          (type_after_label labels (flow_state s.passed named now))
          (least-behind-label names labels line name es s same) h.1
          (exact-behind-label names labels count line name es s named now same x),
    )
flows-from names labels count range (text.action line a ∷ es) s named now same none x =
    let r = resolution_of names a in
    let h = both-none _ _ none in
    let right = right-from s.now.is_reached s.passed line r s.now.kind h.0 in
    let range_here = λ (n : ℕ) (e : target_of r ≡ Some n). target-in names count a n range e in (
      s.now.kind,
      (
        exact-now count named s now x right.0,
        right.1,
        jumps-out labels names es count r s named (target_of r) refl right.0 right.1 range_here
            x.brought same,
      ),
      flows-from names labels count range es (progress_after_action r s)
          (with_target (target_of r) named)
          (incoming_after_action r s.now.kind) same h.1
          (exact-behind-action names count range a s named now right.0 x),
    )
flows-from names labels count range (text.block line operator negated items end ∷ es) s named now
    same none x =
    let b = text.block line operator negated items end in
    let h = both-none _ _ none in
    let reached =
    entry-reached names most_nested s.now.is_reached s.passed line operator negated items end
    s.now.kind
    h.0 in (
      s.now.kind,
      (
        exact-now count named s now x reached,
        entry-from names most_nested s.now.is_reached s.passed b s.now.kind h.0,
      ),
      flows-from names labels count range es (progress_after_entry names b s) named
          (Some (option_map (type_of_result operator) s.now.kind)) same h.1
          (exact-behind-block names count line operator negated items end s named now reached x),
    )

-- ---- a program

within-case : (from line : ℕ) (other : List ℕ) (es : List text.Entry) (name : List ℕ) (n : ℕ)
    (b : Bool) → cond b (Some from) (looked_up (labels_from (from + 1) es) name) ≡ Some n
    → ((m : ℕ) → looked_up (labels_from (from + 1) es) name ≡ Some m
    → m < (from + 1) + length (labels_from (from + 1) es))
    → n < from + suc (length (labels_from (from + 1) es))
within-case from line other es name n true e more = let same : from ≡ n =
    same_Some from n e in omega arith
within-case from line other es name n false e more = let h = more n e in omega arith

labels-within : (from : ℕ) (es : List text.Entry) (name : List ℕ) (n : ℕ)
    → looked_up (labels_from from es) name ≡ Some n → n < from + length (labels_from from es)
labels-within from [] name n e = absurd (cc)
labels-within from (text.label line other ∷ es) name n e =
    within-case from line other es name n (bytes_eq (upper other) name) e
    (λ m f. labels-within (from + 1) es name m f)
labels-within from (text.action line a ∷ es) name n e = labels-within from es name n e
labels-within from (text.block line operator negated items end ∷ es) name n e =
    labels-within from es name n e

pub first-labels : (es : List text.Entry) (name : List ℕ) (n : ℕ)
    → looked_up (labels_from 0 es) name ≡ Some n → n < length (labels_from 0 es)
first-labels es name n e = let h = labels-within 0 es name n e in omega arith

-- the initial standing of a program is what the checks and any labelling begin with
begins : (points : List Point) (program : text.PlainProgram) (labels : Labelling)
    → Stands labels (length (labels_from 0 program.items)) [] (initial_progress program) (Some None)
begins points program labels = record {
  reached = refl;
  typed = λ t e. inl (sym (same_Some None t e));
  brought =
      record {
        arrived = none-arrived (labels_from 0 program.items);
        size = mapped-length (labels_from 0 program.items);
      };
  under = λ n e. absurd (cc);
}

pub least_types : (points : List Point) (program : text.PlainProgram) (front more : List text.Entry)
    (labels : Labelling) (t : Option ElementaryType)
    → program.items ≡ front ++ more
    → AreReachedItems (names_in points program) labels front initial_flow
    → type_after_items (names_in points program) labels front initial_flow ≡ Some t
    → Becomes (progress_after_entries (names_in points program) front
    (initial_progress program)).now.kind t
least_types points program front more labels t parts f is =
    stands-behind-all (names_in points program) labels (length (labels_from 0 program.items))
    (λ name n e. first-labels program.items (upper name) n e) front (initial_progress program)
    [] (Some None) t f (begins points program labels) is

pub some_labelling : (points : List Point) (program : text.PlainProgram)
    → (items_faults (names_in points program) program.items (initial_progress program) ≡ [])
    ↔ IsWellTyped (names_in points program) program.items
some_labelling points program =
    let names = names_in points program in
    let labels = labels_from 0 program.items in
    let count = length labels in
    let range =
    λ (name : List ℕ) (n : ℕ) (e : names.label name ≡ Some n). first-labels program.items
    (upper name) n e in
    let brought : Brought [] (initial_progress program).arrivals count =
    record { arrived = none-arrived labels; size = mapped-length labels } in (
      (λ none.
          let found = least names program.items (initial_progress program) in (
            found,
            flows-from names found count range program.items (initial_progress program) []
                (Some None) (λ n le. refl) none (record { is = refl; brought = brought }),
          )),
      (λ h. flows-to names h.0 count range program.items (initial_progress program) [] (Some None)
          h.1 (begins points program h.0)),
    )
