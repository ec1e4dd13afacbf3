-- The image of a checked program fits the points that it was checked with, and its code writes what
-- it may.
use Rattle.std.proofs.Common.{◌≡◌, ℕ, zero, suc, ◌+◌, ◌<◌, ◌≤◌, ◌&&◌, ◌||◌, Bool, true, false, not, cond, nat_le, if◌then◌else◌, List, [], ◌∷◌, ◌++◌, length, map, Option, Some, None, Result, Ok, Err, refl, sym, ap, subst, ◌∙◌, arith}
use Rattle.std.proofs.lemmas.Option.{same_Some}
use Rattle.std.specs.Prelude.{find, slice_get}
use Rattle.std.specs.Bool.{beq}
use Rattle.std.specs.List.{cons_option, list_any}
use Rattle.std.specs.Str.{bytes_eq}
use Rattle.std.proofs.lemmas.Bool.{leb-true, le-leb, false_from_ne_true, and_from, or_right, or_from, not-false, both_ways}
use Rattle.std.proofs.lemmas.List.{length-map}
use Rattle.std.proofs.lemmas.Slice.Eq.{bytes_eq-Decides}
use Rattle.bay_base.specs.Exact.{unless_refused}
use Rattle.bay_base.specs.Names.{same_name, upper}
use Rattle.bay_base.specs.Types.{same_type}
use Rattle.bay_base.specs.declared.types.ElementaryType.{ElementaryType}
use Rattle.bay_base.proofs.NameLemmas.{upper-upper}
use Rattle.bay_base.specs.declared.point.Point.{Point}
use Rattle.il_text.specs.Listing as text
use Rattle.il_text.specs.declared.program.DeclaredType.{DeclaredType}
use Rattle.il_text.specs.declared.program.DeclaredType.TheVariants as type
use Rattle.il_text.specs.declared.program.Literal.{Literal}
use Rattle.il_text.specs.declared.program.VariableScope.{VariableScope}
use Rattle.il_text.specs.declared.program.VariableScope.TheVariants as scope
use Rattle.il_image.specs.Images.{Each, Image}
use Rattle.il_image.specs.Spelling.{IsInstr}
use Rattle.il_image.specs.declared.instr.Instr.{Instr}
use Rattle.il_image.specs.declared.instr.Instr.TheVariants.{Halt, Push, Drop, Slot, Not, Combine, Compute, Compare, Widen, Jump, Timer}
use Rattle.il_image.specs.declared.opcode.SlotUse.TheVariants.{Load, Store, SetIf, ResetIf}
use Rattle.il_image.proofs.KindLemmas.{same-is, same-self}
use Rattle.il_image.specs.Machine.{most_slots, most_timers}
use Rattle.il_check.specs.Checking.{checked_of, checked_program, faults_of, initial_progress}
use Rattle.il_check.specs.Declaring.{declaration_faults, declarations_faults, point_external, declared_external, externals_of, is_typed, names_in, point_of as declared_point, is_name}
use Rattle.il_check.specs.Faults.{fault_if, least_fault}
use Rattle.il_check.specs.Program.{Checked}
use Rattle.il_check.specs.Sound.{AreDistinct, name_at}
use Rattle.il_check.specs.TypedProgram.{IsTyped}
use Rattle.il_check.specs.WellTyped.{items_faults}
use Rattle.il_check.specs.declared.fault.CheckFault.{CheckFault}
use Rattle.il_check.specs.declared.typed.External.{External}
use Rattle.il_check.specs.declared.typed.Variable.{Variable}
use Rattle.il_check.proofs.ApartLemmas.{all-apart}
use Rattle.il_check.proofs.NotedLemmas.{append-none, least_fault-none}
use Rattle.il_verify.specs.Binding.{are_points, fits, is_point}
use Rattle.il_verify.specs.Judging.{is_read_only, writes_read_only}
use Rattle.il_verify.specs.Slots.{point_slot, slots_of, variable_slot}
use Rattle.il_verify.specs.Verdicts.{IsVerified, WritesNoReadOnly}
use Rattle.il_compile.specs.Code.{program_code}
use Rattle.il_compile.specs.Compiled.{compiled_of, image_of, image_size, point_of, most_octets}
use Rattle.il_compile.specs.declared.fault.CompileFault.TheVariants.{CodeTooLong}
use Rattle.il_compile.proofs.SizeLemmas.{size-is}
use Rattle.il_compile.proofs.Spellable.{program-are}
use Rattle.il_compile.proofs.Tabled.{has-table, keeps-at}
use Rattle.il_compile.proofs.TabledSteps.{Keeps, writable}

-- ---- the externals are points

-- some point has the external's name, type and writability
abbrev IsBound : List Point → External → Type 0
IsBound points e = list_any (λ b. is_point (point_of e) b) points ≡ true

found-holds : (test : Point → Bool) (points : List Point) (p : Point) → find test points ≡ Some p
    → test p ≡ true
found-holds test [] p e = absurd cc
found-holds test (q ∷ points) p e =
    elim (test q) as (λ b. test q ≡ b → cond b (Some q) (find test points) ≡ Some p → test p ≡ true) [
      | true ↦ (λ t g. (let same : q ≡ p = same_Some q p g in subst (λ x. test x ≡ true) same t))
      | false ↦ (λ t g. found-holds test points p g)
    ] refl e

found-any : (test other : Point → Bool) (points : List Point) (p : Point)
    → find test points ≡ Some p → other p ≡ true → list_any other points ≡ true
found-any test other [] p e h = absurd cc
found-any test other (q ∷ points) p e h =
    elim (test q) as (λ b. cond b (Some q) (find test points) ≡ Some p
    → other q || list_any other points ≡ true) [
      | true ↦
          (λ g. (let same : q ≡ p = same_Some q p g in
          ap (λ b. b || list_any other points) (ap other same ∙ h)))
      | false ↦ (λ g. or_right (other q) (list_any other points)
          (found-any test other points p g h))
    ] e

equal-self : (b : Bool) → beq b b ≡ true
equal-self true = refl
equal-self false = refl

same-upper : (a b : List ℕ) → same_name a b ≡ true → upper a ≡ upper b
unfolding same_name
same-upper a b h = (bytes_eq-Decides (upper a) (upper b)).0 h

same-self-name : (a : List ℕ) → same_name a a ≡ true
unfolding same_name
same-self-name a = (bytes_eq-Decides (upper a) (upper a)).1 refl

-- what is found for a name alone
of-a-name : (b : Bool) (o : Option Point) (p : Point) → (if b then o else None) ≡ Some p
    → o ≡ Some p
of-a-name true o p e = e
of-a-name false o p e = absurd cc

-- the name of an external is its point's, in upper case
named-so : (name other : List ℕ) → same_name other name ≡ true → same_name (upper name) other ≡ true
unfolding same_name
named-so name other h =
    (bytes_eq-Decides (upper (upper name)) (upper other)).1
    (upper-upper name ∙ sym (same-upper other name h))

bound-at : (points : List Point) (name : List ℕ) (kind : ElementaryType) (o : Option Point)
    (es : List External) → declared_point points name ≡ o
    → is_typed scope.External (type.Elementary kind) o None ≡ true → Each (IsBound points) es
    → Each (IsBound points) (cons_option (point_external name kind o) es)
bound-at points name kind None es e t rest = rest
bound-at points name kind (Some p) es e t rest =
    let e : find (λ q. same_name q.name name) points ≡ Some p =
    of-a-name (is_name name) (find (λ q. same_name q.name name) points) p e in
    let named : same_name (upper name) p.name ≡ true =
    named-so name p.name (found-holds (λ q. same_name q.name name) points p e) in
    let typed : same_type kind p.kind ≡ true =
    subst (λ k. same_type kind k ≡ true) (sym (same-is p.kind kind t)) (same-self kind) in (
      found-any (λ q. same_name q.name name)
          (λ b. is_point (point_of
          (record { name = upper name; kind = kind; writable = p.writable; source = p.source })) b)
          points p e
          (and_from (same_name (upper name) p.name)
          (same_type kind p.kind && beq p.writable p.writable)
          named
          (and_from (same_type kind p.kind) (beq p.writable p.writable) typed
          (equal-self p.writable))),
      rest,
    )

bound-in : (points : List Point) (d : text.DeclaredName) (s : VariableScope) (k : DeclaredType)
    (given : Option Literal) (es : List External)
    → is_typed s k (declared_point points d.name) given ≡ true → Each (IsBound points) es
    → Each (IsBound points) (cons_option (declared_external points d s k) es)
bound-in points d scope.External (type.Elementary kind) given es t rest =
    bound-at points d.name kind (declared_point points d.name) es refl t rest
bound-in points d scope.External (type.Timer kind) given es t rest = rest
bound-in points d scope.Local (type.Elementary kind) given es t rest = rest
bound-in points d scope.Local (type.Timer kind) given es t rest = rest

no_fault : (test : Bool) (f : CheckFault) → fault_if test f ≡ [] → test ≡ false
no_fault true f none = absurd cc
no_fault false f none = refl

all-bound : (points : List Point) (before ds : List text.DeclaredName)
    → declarations_faults points before ds ≡ [] → Each (IsBound points) (externals_of points ds)
all-bound points before [] none = tt
all-bound points before (d ∷ ds) none =
    let two =
    append-none (declaration_faults points before d)
    (declarations_faults points (before ++ d ∷ []) ds) none in
    let typed : is_typed d.scope d.kind (declared_point points d.name) d.initial ≡ true =
    not-false _ (no_fault _ _ (append-none _ _ (append-none _ _ (append-none _ _ two.0).1).1).0) in
    bound-in points d d.scope d.kind d.initial (externals_of points ds) typed
    (all-bound points (before ++ d ∷ []) ds two.1)

-- ---- no name stands twice

none-alike : (name : List ℕ) (es : List External) (ns : List (List ℕ))
    → ((j : ℕ) → j < length (map (λ e. e.name) es ++ ns)
    → same_name name (name_at (map (λ e. e.name) es ++ ns) j) ≡ false)
    → list_any (λ q. bytes_eq q.name name) (map point_of es) ≡ false
none-alike name [] ns h = refl
none-alike name (e ∷ es) ns h =
    or_from (bytes_eq e.name name) (list_any (λ q. bytes_eq q.name name) (map point_of es))
    (false_from_ne_true (bytes_eq e.name name) (λ t.
    (let same : e.name ≡ name = (bytes_eq-Decides e.name name).0 t in
    let first : same_name name e.name ≡ false = h 0 (omega arith) in
    both_ways (same_name name name)
    (subst (λ x. same_name name x ≡ false) same first) (same-self-name name))))
    (none-alike name es ns (λ j lt. h (suc j) (omega arith)))

apart-rest : (x : List ℕ) (xs : List (List ℕ)) → AreDistinct (x ∷ xs) → AreDistinct xs
apart-rest x xs h i j lt within = h (suc i) (suc j) (omega arith) (omega arith)

points-fit : (points : List Point) (es : List External) (ns : List (List ℕ))
    → Each (IsBound points) es → AreDistinct (map (λ e. e.name) es ++ ns)
    → are_points points (map point_of es) ≡ true
points-fit points [] ns h apart = refl
points-fit points (e ∷ es) ns h apart =
    let alone : list_any (λ q. bytes_eq q.name e.name) (map point_of es) ≡ false =
    none-alike e.name es ns (λ j lt. apart 0 (suc j) (omega arith) (omega arith)) in
    and_from (list_any (λ b. is_point (point_of e) b) points
    && not (list_any (λ q. bytes_eq q.name e.name) (map point_of es)))
    (are_points points (map point_of es))
    (and_from (list_any (λ b. is_point (point_of e) b) points)
    (not (list_any (λ q. bytes_eq q.name e.name) (map point_of es))) h.0 (ap not alone))
    (points-fit points es ns h.1 (apart-rest e.name (map (λ x. x.name) es ++ ns) apart))

-- ---- what is known of a checked program

ok-same : {A E : Type 0} (x y : A) → ◌≡◌ {A = Result A E} (Ok x) (Ok y) → x ≡ y
ok-same x y e = cc

passed : (o : Option CheckFault) (x c : Checked) → unless_refused o x ≡ Ok c → (o ≡ None) × (x ≡ c)
passed None x c e = (refl, ok-same x c e)
passed (Some f) x c e = absurd cc

image-fits : (points : List Point) (c : Checked) → IsTyped c
    → are_points points (map point_of c.externals) ≡ true → fits points (image_of c) ≡ true
unfolding fits
image-fits points c ok h =
    let s = ok.slots in
    let t = ok.timers in
    let a = length-map c.externals point_of in
    let b = length-map c.variables (λ v. v.initial) in
    let d = length-map c.timers (λ x. x.kind) in
    and_from (nat_le (length (map point_of c.externals) + length (map (λ v. v.initial) c.variables))
    most_slots
    && nat_le (length (map (λ x. x.kind) c.timers)) most_timers)
    (are_points points (map point_of c.externals))
    (and_from
    (nat_le (length (map point_of c.externals) + length (map (λ v. v.initial) c.variables))
    most_slots) (nat_le (length (map (λ x. x.kind) c.timers)) most_timers)
    (le-leb (length (map point_of c.externals) + length (map (λ v. v.initial) c.variables))
    most_slots
    (omega arith)) (le-leb (length (map (λ x. x.kind) c.timers)) most_timers (omega arith))) h

checked-fits : (points : List Point) (program : text.PlainProgram) (c : Checked)
    → checked_of points program ≡ Ok c → IsTyped c → fits points (image_of c) ≡ true
checked-fits points program c e ok =
    let p = passed (least_fault (faults_of points program)) (checked_program points program) c e in
    let none =
    (append-none (declarations_faults points [] program.declarations)
    (items_faults (names_in points program) program.items (initial_progress program))
    (least_fault-none (faults_of points program) p.0)).0 in
    image-fits points c ok
    (subst (λ x. are_points points (map point_of x.externals) ≡ true) p.1
    (points-fit points (externals_of points program.declarations) _
    (all-bound points [] program.declarations none)
    (all-apart points program.declarations none)))

-- ---- what the code writes

map-both : {A B : Type 0} (f : A → B) (xs ys : List A) → map f (xs ++ ys) ≡ map f xs ++ map f ys
map-both f [] ys = refl
map-both f (x ∷ xs) ys = ap (λ l. f x ∷ l) (map-both f xs ys)

-- a slot that may be written is none that may only be read
not-fixed : (es : List External) (vs : List Variable) (n : ℕ)
    → slice_get (map (λ e. e.writable) es ++ map (λ v. true) vs) n ≡ Some true
    → is_read_only (map point_slot (map point_of es) ++ map variable_slot (map (λ v. v.initial) vs))
    n ≡ false
not-fixed [] [] n h = refl
not-fixed [] (v ∷ vs) zero h = refl
not-fixed [] (v ∷ vs) (suc n) h = not-fixed [] vs n h
not-fixed (e ∷ es) vs zero h = (let w : e.writable ≡ true = same_Some e.writable true h in ap not w)
not-fixed (e ∷ es) vs (suc n) h = not-fixed es vs n h

module _ (c : Checked) where
  may-be-written : (n : ℕ) → slice_get (writable c) n ≡ Some true
      → is_read_only (slots_of (image_of c)) n ≡ false
  unfolding slots_of
  may-be-written n h = not-fixed c.externals c.variables n h

  keeps-read-only : (i : Instr) → Keeps c i → writes_read_only (slots_of (image_of c)) i ≡ false
  keeps-read-only (Slot Store n) h = may-be-written n h
  keeps-read-only (Slot SetIf n) h = may-be-written n h
  keeps-read-only (Slot ResetIf n) h = may-be-written n h
  keeps-read-only i h = refl

  pub writes : IsTyped c → Each IsInstr (program_code c) → WritesNoReadOnly (image_of c)
  writes ok are place i next p e = keeps-read-only i (keeps-at c ok are place i next p e)

-- ---- all of it

short : (c : Checked) (image : Image) → compiled_of c ≡ Ok image
    → (image_size c ≤ most_octets) × (image_of c ≡ image)
short c image e =
    elim (nat_le (image_size c) most_octets) as
    (λ b. nat_le (image_size c) most_octets ≡ b
    → (if b then Ok (image_of c) else Err CodeTooLong) ≡ Ok image
    → (image_size c ≤ most_octets) × (image_of c ≡ image)) [
      | true ↦ (λ t g. (leb-true (image_size c) most_octets t, ok-same (image_of c) image g))
      | false ↦ (λ t g. absurd cc)
    ] refl e

-- the image of a checked text is verified
pub verified : (points : List Point) (program : text.PlainProgram) (c : Checked)
    → checked_of points program ≡ Ok c → IsTyped c
    → (image : Image) → compiled_of c ≡ Ok image → IsVerified points image
verified points program c e ok image compiled =
    let s = short c image compiled in
    let le = s.0 in
    let are = program-are c ok (omega (arith, size-is c)) in
    subst (IsVerified points) s.1 (record {
      fits = checked-fits points program c e ok;
      safe = record { table = has-table c ok are; writes = writes c ok are };
    })
