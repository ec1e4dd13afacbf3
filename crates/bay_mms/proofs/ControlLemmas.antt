-- Which data are controls, and what is written of them.
use Rattle.std.proofs.Common.{◌≡◌, ℕ, ℤ, pos, negsuc, ◌*◌, ◌/◌, ◌<◌, Bool, true, false, eqb, List, [], ◌∷◌, length, Some, None, Ok, refl, sym, ap, ◌∙◌, subst, lit<, arith, inl, inr}
use Rattle.std.proofs.lemmas.Option.{same_Some}
use Rattle.std.proofs.lemmas.Int.{ints}
use Rattle.std.specs.Prelude.{FitsSigned}
use Rattle.std.specs.Int.{w64}
use Rattle.std.proofs.lemmas.Bool.{eqb-true, ltb-true, and_parts}
use Rattle.bay_ber.specs.Writing.{bit_string_octets}
use Rattle.bay_ber.proofs.BackLemmas.{bind-some}
use Rattle.bay_ber.proofs.ReadLemmas.{chosen}
use Rattle.bay_mms.specs.declared.control.Check.{Check}
use Rattle.bay_mms.specs.Data.{Datum, Data, structure, truth, bits, integer, unsigned, octets, utc, no_data, datum, datum_text}
use Rattle.bay_mms.specs.Views.{data_before}
use Rattle.bay_mms.specs.Controls.{Origin, Control, Operate, origin_datum, control_before, operate_datum, cancel_datum, AreChecks, IsOperate, truth_from_data, integer_from_data, unsigned_from_data, octets_from_data, moment_from_data, check_octet, checks, check_from_bits, check_from_octets, check_from_data, data_list, parts_from_data, origin_from_parts, origin_from_data, control_from_parts, cancel_from_parts, operate_from_parts, cancel_from_data, operate_from_data, is_category, is_number, is_in_range, operate_or_error}
use Rattle.bay_mms.specs.Laws.{IsMinimalBits, IsPlain}

pub list-before : (ds : List Datum) → data_list (data_before ds no_data) ≡ ds
list-before [] = refl
list-before (d ∷ ds) = ap (λ (xs : List Datum). d ∷ xs) (list-before ds)

-- ---- what is read is what the data are

truth-is : (d : Datum) (v : Bool) → truth_from_data d ≡ Some v → d ≡ truth v
truth-is (truth value) v e = ap truth (same_Some value v e)
truth-is d v e = absurd cc

integer-is : (d : Datum) (z : ℤ) → integer_from_data d ≡ Some z → d ≡ integer z
integer-is (integer value) z e = ap integer (same_Some value z e)
integer-is d z e = absurd cc

unsigned-is : (d : Datum) (z : ℤ) → unsigned_from_data d ≡ Some z → d ≡ unsigned z
unsigned-is (unsigned value) z e = ap unsigned (same_Some value z e)
unsigned-is d z e = absurd cc

octets-is : (d : Datum) (o : List ℕ) → octets_from_data d ≡ Some o → d ≡ octets o
octets-is (octets value) o e = ap octets (same_Some value o e)
octets-is d o e = absurd cc

moment-is : (d : Datum) (o : List ℕ) → moment_from_data d ≡ Some o → d ≡ utc o
moment-is (utc value) o e = ap utc (same_Some value o e)
moment-is d o e = absurd cc

-- the parts of a structure
before-list : (ds : Data) → data_before (data_list ds) no_data ≡ ds
before-list no_data = refl
before-list (datum d ds) = ap (λ (xs : Data). datum d xs) (before-list ds)

parts-are : (d : Datum) (ps : List Datum) → parts_from_data d ≡ Some ps
    → d ≡ structure (data_before ps no_data)
parts-are (structure ds) ps e =
    ap structure (sym (before-list ds)
    ∙ ap (λ (xs : List Datum). data_before xs no_data) (same_Some (data_list ds) ps e))
parts-are d ps e = absurd cc

-- two bits
check-by-is : (two : ℕ) (c : Check) → check_from_bits two ≡ Some c → two * 64 ≡ check_octet c
check-by-is two c e = grind (arith)

check-by-again : (two : ℕ) (c : Check) → two * 64 ≡ check_octet c → check_from_bits two ≡ Some c
check-by-again two c high = grind (arith)

first-is : (held : List ℕ) (p : Check) → check_from_octets held ≡ Some p → AreChecks held p
first-is [] p e = absurd cc
first-is (first ∷ later) p e =
    record { first = first; later = later; is = refl; high = check-by-is (first / 64) p e }

check-is : (d : Datum) (p : Check) → check_from_data d ≡ Some p
    → (held : List ℕ) × AreChecks held p × (d ≡ bits held 2)
check-is (bits held count) p e =
    elim (chosen (eqb count 2) (check_from_octets held) None (Some p) e) [
      | inl h ↦ (held, first-is held p h.1, ap (λ (n : ℕ). bits held n) (eqb-true count 2 h.0))
      | inr h ↦ let none : None ≡ Some p = h.1 in absurd cc
    ]
check-is d p e = absurd cc

-- a control
two : (a b x y : Datum) → a ≡ x → b ≡ y → a ∷ b ∷ [] ≡ x ∷ y ∷ []
two a b x y p q = rw (p, q) refl

five : (a b c d e v w x y z : Datum) (later : Data) → a ≡ v → b ≡ w → c ≡ x → d ≡ y → e ≡ z
    → datum a (datum b (datum c (datum d (datum e later))))
    ≡ datum v (datum w (datum x (datum y (datum z later))))
five a b c d e v w x y z later p q r s t = rw (p, q, r, s, t) refl

origin-parts-are : (ps : List Datum) (o : Origin) → origin_from_parts ps ≡ Some o
    → ps ≡ integer o.or_cat ∷ octets o.or_ident ∷ []
origin-parts-are (a ∷ b ∷ []) o e =
    let f = bind-some (integer_from_data a) _ o e in
    let g = bind-some (octets_from_data b) _ o f.2 in
    let made : Origin = record { or_cat = f.0; or_ident = g.0 } in
    let is : made ≡ o = same_Some made o g.2 in
    two a b _ _ (integer-is a f.0 f.1) (octets-is b g.0 g.1)
    ∙ ap (λ (x : Origin). integer x.or_cat ∷ octets x.or_ident ∷ []) is
origin-parts-are ps o e = absurd cc

origin-is : (d : Datum) (o : Origin) → origin_from_data d ≡ Some o → d ≡ origin_datum o
unfolding origin_from_data
origin-is d o e =
    let f = bind-some (parts_from_data d) origin_from_parts o e in
    parts-are d f.0 f.1 ∙ ap (λ (ps : List Datum). structure (data_before ps no_data))
    (origin-parts-are f.0 o f.2)

control-is : (a b c d e : Datum) (o : Control) → control_from_parts a b c d e ≡ Some o
    → (later : Data)
    → datum a (datum b (datum c (datum d (datum e later)))) ≡ control_before o later
unfolding control_from_parts
control-is a b c d e o is later =
    let f = bind-some (truth_from_data a) _ o is in
    let g = bind-some (origin_from_data b) _ o f.2 in
    let h = bind-some (unsigned_from_data c) _ o g.2 in
    let i = bind-some (moment_from_data d) _ o h.2 in
    let j = bind-some (truth_from_data e) _ o i.2 in
    let made : Control =
    record { ctl_val = f.0; origin = g.0; ctl_num = h.0; t = i.0; test = j.0 } in
    let same_one : made ≡ o = same_Some made o j.2 in
    five a b c d e _ _ _ _ _ later (truth-is a f.0 f.1) (origin-is b g.0 g.1)
    (unsigned-is c h.0 h.1) (moment-is d i.0 i.1) (truth-is e j.0 j.1)
    ∙ ap (λ (x : Control). control_before x later) same_one

cancel-parts : (ps : List Datum) (c : Control) → cancel_from_parts ps ≡ Some c
    → data_before ps no_data ≡ control_before c no_data
cancel-parts (p ∷ q ∷ r ∷ s ∷ t ∷ []) c e = control-is p q r s t c e no_data
cancel-parts ps c e = absurd cc

pub cancel-is : (d : Datum) (c : Control) → cancel_from_data d ≡ Some c → d ≡ cancel_datum c
unfolding cancel_from_data
cancel-is d c e =
    let f = bind-some (parts_from_data d) cancel_from_parts c e in
    parts-are d f.0 f.1 ∙ ap structure (cancel-parts f.0 c f.2)

pub record HasParts (ps : List Datum) (o : Operate) : Type 0 where
  pub held : List ℕ
  pub checks : AreChecks held o.check
  pub is : data_before ps no_data ≡ control_before o.control (datum (bits held 2) no_data)

operate-parts : (ps : List Datum) (o : Operate) → operate_from_parts ps ≡ Some o → HasParts ps o
operate-parts (p ∷ q ∷ r ∷ s ∷ t ∷ u ∷ []) o e =
    let f = bind-some (control_from_parts p q r s t) _ o e in
    let g = bind-some (check_from_data u) _ o f.2 in
    let made : Operate = record { control = f.0; check = g.0 } in
    let same_one : made ≡ o = same_Some made o g.2 in
    let h = check-is u g.0 g.1 in
    record {
      held = h.0;
      checks = subst (λ (x : Operate). AreChecks h.0 x.check) same_one h.1;
      is = ap (λ (x : Datum). datum p (datum q (datum r (datum s (datum t (datum x no_data)))))) h.2
          ∙ control-is p q r s t f.0 f.1 (datum (bits h.0 2) no_data)
          ∙ ap (λ (x : Operate). control_before x.control (datum (bits h.0 2) no_data)) same_one;
    }
operate-parts ps o e = absurd cc

pub operate-is : (d : Datum) (o : Operate) → operate_from_data d ≡ Some o → IsOperate d o
unfolding operate_from_data
operate-is d o e =
    let f = bind-some (parts_from_data d) operate_from_parts o e in
    let h = operate-parts f.0 o f.2 in
    record { held = h.held; checks = h.checks; is = parts-are d f.0 f.1 ∙ ap structure h.is }

-- ---- and the other way

pub cancel-again : (d : Datum) (c : Control) → d ≡ cancel_datum c → cancel_from_data d ≡ Some c
unfolding cancel_from_data control_from_parts origin_from_data
cancel-again d c is = rw is refl

operate-again-at : (held : List ℕ) (o : Operate) → check_from_octets held ≡ Some o.check
    → operate_from_data (structure (control_before o.control (datum (bits held 2) no_data)))
    ≡ Some o
unfolding operate_from_data control_from_parts origin_from_data
operate-again-at held o e = rw e refl

pub operate-again : (d : Datum) (o : Operate) → IsOperate d o → operate_from_data d ≡ Some o
operate-again d o i =
    let k = i.checks in
    let e : check_from_octets i.held ≡ Some o.check =
    ap check_from_octets k.is ∙ check-by-again (k.first / 64) o.check k.high in
    ap operate_from_data i.is ∙ operate-again-at i.held o e

-- ---- the text is that of the data

high-octet : (s i : Bool) → let two = check_octet (checks s i) in
    bit_string_octets (two ∷ []) 2 ≡ 6 ∷ two ∷ []
high-octet false false = refl
high-octet false true = refl
high-octet true false = refl
high-octet true true = refl

check_octets : (held : List ℕ) (p : Check) → AreChecks held p
    → bit_string_octets held 2 ≡ bit_string_octets (check_octet p ∷ []) 2
check_octets held p k =
    let a : bit_string_octets (k.first ∷ k.later) 2 ≡ 6 ∷ k.first / 64 * 64 ∷ [] = refl in
    ap (λ (xs : List ℕ). bit_string_octets xs 2) k.is ∙ a ∙ ap (λ (n : ℕ). 6 ∷ n ∷ []) k.high
    ∙ sym (high-octet p.synchrocheck p.interlock_check)

text-at : (held : List ℕ) (o : Operate) → AreChecks held o.check
    → datum_text (structure (control_before o.control (datum (bits held 2) no_data)))
    ≡ datum_text (operate_datum o)
text-at held o k = rw (check_octets held o.check k) refl

pub operate-text-is : (d : Datum) (o : Operate) → operate_from_data d ≡ Some o
    → datum_text d ≡ datum_text (operate_datum o)
operate-text-is d o e = let i = operate-is d o e in ap datum_text i.is ∙ text-at i.held o i.checks

-- ---- an operate in range reads back from its data

own : (s i : Bool) → let c = checks s i in AreChecks (check_octet c ∷ []) c
own false false = record { first = _; later = []; is = refl; high = refl }
own false true = record { first = _; later = []; is = refl; high = refl }
own true false = record { first = _; later = []; is = refl; high = refl }
own true true = record { first = _; later = []; is = refl; high = refl }

pub operate_back : (o : Operate) → is_in_range o.control ≡ true
    → operate_or_error (operate_datum o) ≡ Ok o
operate_back o fits =
    let e : operate_from_data (operate_datum o) ≡ Some o =
    operate-again (operate_datum o) o (record {
      held = _;
      checks = own o.check.synchrocheck o.check.interlock_check;
      is = refl;
    }) in
    rw (e, fits) refl

-- ---- its text is spelled as its data

category_fits : (z : ℤ) → is_category z ≡ true → FitsSigned w64 z
category_fits (pos n) e = let b : n < 128 = ltb-true _ _ e in omega (arith, ints)
category_fits (negsuc n) e = let b : n < 128 = ltb-true _ _ e in omega (arith, ints)

number_fits : (z : ℤ) → is_number z ≡ true → FitsSigned w64 z
number_fits (pos n) e = let b : n < 256 = ltb-true _ _ e in omega (arith, ints)
number_fits (negsuc n) e = absurd cc

check-held : (s i : Bool) → IsMinimalBits (check_octet (checks s i) ∷ []) 2
check-held false false = record { enough = omega arith; short = lit< tt; whole = refl }
check-held false true = record { enough = omega arith; short = lit< tt; whole = refl }
check-held true false = record { enough = omega arith; short = lit< tt; whole = refl }
check-held true true = record { enough = omega arith; short = lit< tt; whole = refl }

pub operate-plain : (o : Operate) → is_in_range o.control ≡ true → length o.control.t ≡ 8
    → IsPlain (operate_datum o)
operate-plain o fits eight =
    let a = and_parts _ _ fits in
    let b = and_parts _ _ a.1 in (
      tt,
      (
        (category_fits o.control.origin.or_cat b.0, (tt, tt)),
        (
          number_fits o.control.ctl_num a.0,
          (eight, (tt, (check-held o.check.synchrocheck o.check.interlock_check, tt))),
        ),
      ),
    )
