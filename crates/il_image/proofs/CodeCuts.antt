-- Code that is cut short: others complete it, or it ends in an instruction that has no room.
use Rattle.std.proofs.lemmas.Grind.{common_steps}
use Rattle.std.proofs.Common.{◌≡◌, ℕ, zero, suc, ◌+◌, ◌-◌, ◌^◌, ◌<◌, ◌≤◌, Bool, true, false, cond, eqb, List, [], ◌∷◌, ◌++◌, length, take, drop, Option, Some, None, refl, sym, subst, ap, ◌∙◌, arith, append-nil, inl, inr}
use Rattle.std.specs.Prelude.{Ok, Err, Result, ◌⊎◌}
use Rattle.std.proofs.lemmas.Bool.{cases_eq, cases_lt, eq-eqb}
use Rattle.std.proofs.lemmas.List.{append_assoc, length-append, length-drop, length-take, length-take-le, take-append-drop}
use Rattle.std.proofs.Math.Seq.{take-append_seam}
use Rattle.std.proofs.Math.ListN.{drop_of_length-le}
use Rattle.bay_base.specs.Results.{◌>>=◌}
use Rattle.il_image.specs.declared.fault.ImageFault.{ImageFault}
use Rattle.il_image.specs.declared.fault.ImageFault.TheVariants.{BadOpcode, Truncated}
use Rattle.il_image.specs.declared.instr.Instr.{Instr}
use Rattle.il_image.specs.declared.instr.Instr.TheVariants as instr
use Rattle.il_image.specs.declared.opcode.Opcode.{Opcode}
use Rattle.il_image.specs.declared.opcode.Opcode.TheVariants as opcode
use Rattle.il_image.specs.declared.opcode.Version.{Version}
use Rattle.il_image.specs.declared.opcode.Version.TheVariants.{One, Two}
use Rattle.il_image.specs.Cuts.{IsInstrOf, IsShortOf}
use Rattle.il_image.specs.Decoding.{code_at, code_fault, code_of_length, fault_or}
use Rattle.il_image.specs.Images.{IsCode}
use Rattle.il_image.specs.Octets.{AreOctets, number_octets, size_of, most_counted}
use Rattle.il_image.specs.Opcodes.{is_known, opcode_of}
use Rattle.il_image.specs.Reading.{Read, instr_from, known_opcode, number_at, operand_from, value_at, width_at}
use Rattle.il_image.specs.Spelling.{spelling}
use Rattle.il_image.proofs.CodeLemmas.{Split, code-sound, code-whole, fault-left, fault-step, split}
use Rattle.il_image.proofs.FewLemmas.{Few, IsAll, all-told, few-told}
use Rattle.il_image.proofs.FormatLemmas.{IsNumber, number-lawful}
use Rattle.il_image.proofs.InstrLemmas.{instr-sound, width-lawful}
use Rattle.il_image.proofs.PieceLemmas.{Any, Behind, EndsIn, Lawful, copies, copies-fit, copies-size, err-same, join-octets, lawful-so, lawful-then, ok-is, spoilt}
use Rattle.il_image.proofs.ReadLemmas.{behind-octets, take_octets}
use Rattle.il_image.proofs.ShortLemmas.{Grown, begins, err-mapped, grown, grown-value}

-- ---- instructions that are begun

-- An instruction of the version has the part's first octet, and more octets.
abbrev pub BeginsInstr : Version → List ℕ → Type 0
BeginsInstr version part = (i : Instr) × IsInstrOf version i × IsShortOf part (spelling i)

-- an instruction that is made of what longer octets are read as
made-grown : {A : Type 0} (make : A → Instr) (f : List ℕ → Read A) (octets : List ℕ)
    → (f octets ≡ Err Truncated → Grown f octets)
    → ◌≡◌ {A = Read Instr} (f octets >>= (λ x. Ok (make x.0, x.1))) (Err Truncated)
    → Grown (λ octets. f octets >>= (λ x. Ok (make x.0, x.1))) octets
made-grown make f octets more e =
    let g = more (err-mapped (f octets) (λ x. (make x.0, x.1)) e) in
    record { more = g.more; what = make g.what; fits = g.fits; is = rw g.is refl; fewer = g.fewer }

operand-grown : (version : Version) (o : Opcode) (octets : List ℕ) → AreOctets octets
    → operand_from version o octets ≡ Err Truncated → Grown (operand_from version o) octets
operand-grown version (opcode.Push t) octets fits =
    made-grown instr.Push (value_at (size_of t) t) octets (grown-value (size_of t) t octets)
operand-grown version (opcode.Slot u) octets fits =
    made-grown (λ n. instr.Slot u n) number_at octets (grown number-lawful octets fits)
operand-grown version (opcode.Compute o) octets fits =
    made-grown (λ w. instr.Compute o w) (width_at version) octets
    (grown (width-lawful version) octets fits)
operand-grown version (opcode.Jump when) octets fits =
    made-grown (λ n. instr.Jump when n) number_at octets (grown number-lawful octets fits)
operand-grown version (opcode.Timer u) octets fits =
    made-grown (λ n. instr.Timer u n) number_at octets (grown number-lawful octets fits)
operand-grown version i octets fits = λ e. absurd cc

instr-begins : (version : Version) (octets : List ℕ) → AreOctets octets → 0 < length octets
    → instr_from version octets ≡ Err Truncated → BeginsInstr version octets
unfolding instr_from
instr-begins version [] fits some e = absurd (omega arith)
instr-begins version (x ∷ octets) fits some e = named-by (opcode_of x) refl e
  where
    known-by : (o : Opcode) (b : Bool) → opcode_of x ≡ Some o → is_known version o ≡ b
        → ◌≡◌ {A = Read Instr} (◌>>=◌ {A = Opcode} (cond b (Ok o) (Err BadOpcode))
        (λ o. operand_from version o octets)) (Err Truncated) → BeginsInstr version (x ∷ octets)
    known-by o false is k e = absurd cc
    known-by o true is k e =
        let g = operand-grown version o octets (λ i. fits (suc i)) e in
        begins (instr-sound version) x octets g.more g.what (fits 0) g.fits (rw (is, k) g.is)
        g.fewer

    named-by : (o : Option Opcode) → opcode_of x ≡ o
        → ◌≡◌ {A = Read Instr} (known_opcode version o >>= (λ o. operand_from version o octets))
        (Err Truncated) → BeginsInstr version (x ∷ octets)
    named-by None is e = absurd cc
    named-by (Some o) is e = known-by o (is_known version o) is refl e

halt-reads : (version : Version) (rest : List ℕ)
    → instr_from version (1 ∷ rest) ≡ Ok (instr.Halt, rest)
unfolding instr_from opcode_of
halt-reads One rest = refl
halt-reads Two rest = refl

halts : (version : Version) (n : ℕ) → code_fault version (length (copies 1 n)) (copies 1 n) ≡ None
unfolding copies
halts version zero = refl
halts version (suc n) =
    fault-step version (1 ∷ copies 1 n) instr.Halt (copies 1 n) (halt-reads version (copies 1 n))
    ∙ halts version n

pub take-all : (n : ℕ) (xs : List ℕ) → length xs ≤ n → take n xs ≡ xs
take-all n xs h = grind (arith, common_steps)

code-reads : (version : Version) (n : ℕ) (octets more : List ℕ) → AreOctets more
    → length (octets ++ more) ≡ n
    → code_fault version (length (octets ++ more)) (octets ++ more) ≡ None
    → EndsIn (code_of_length version n) Any octets
code-reads version n octets more fits size none =
    let all = take-all n (octets ++ more) (omega arith) in
    record {
      more = more;
      fits = fits;
      what = octets ++ more;
      is = rw (all, none, eq-eqb (length (octets ++ more)) n size) refl;
      ends = tt;
    }

code-start : (version : Version) (n : ℕ) → EndsIn (code_of_length version n) Any []
code-start version n =
    code-reads version n [] (copies 1 n) (copies-fit 1 n (omega arith)) (copies-size 1 n)
    (halts version n)

-- Code of the length stands first, and others behind it.
pub record Past (version : Version) (size : ℕ) (octets : List ℕ) : Type 0 where
  pub code : List ℕ
  pub others : List ℕ
  pub parts : octets ≡ code ++ others
  pub len : length code ≡ size
  pub whole : code_fault version (length code) code ≡ None
  pub some : 0 < length others

-- A part of an instruction stands last, for which the length has no room.
pub record Part (version : Version) (size : ℕ) (octets : List ℕ) : Type 0 where
  pub done : List ℕ
  pub part : List ℕ
  pub parts : octets ≡ done ++ part
  pub whole : code_fault version (length done) done ≡ None
  pub few : length done < size
  pub begins : BeginsInstr version (take (size - length done) part)
  pub none : (i : Instr) (rest : List ℕ) → AreOctets rest → IsInstrOf version i
      → take (size - length done) part ++ rest ≡ spelling i
      → size - length done < length (spelling i)

module _ (version : Version) (n : ℕ) (octets : List ℕ) (fits : AreOctets octets) where
  whole-front : code_fault version (length (take n octets)) (take n octets) ≡ None
      → ◌≡◌ {A = Result (List ℕ) ImageFault}
      (cond (eqb (length octets) n) (Ok octets) (Err Truncated)) (Err Truncated)
      → EndsIn (code_of_length version n) Any octets
      ⊎ (Past version n octets ⊎ Part version n octets)
  whole-front none e = elim (cases_lt (length octets) n) [
    | inl short ↦ inl (
        let k = n - length octets in
        let all = take-all n octets (omega arith) in
        let size : length (octets ++ copies 1 k) ≡ n =
        omega (arith, length-append octets (copies 1 k), copies-size 1 k) in
        code-reads version n octets (copies 1 k) (copies-fit 1 k (omega arith)) size
        (code-whole version octets (copies 1 k)
        (ap (λ (xs : List ℕ). code_fault version (length xs) xs) (sym all) ∙ none)
        (halts version k)))
    | inr long ↦ inr (inl (record {
      code = take n octets;
      others = drop n octets;
      parts = sym (take-append-drop n octets);
      len = length-take-le n octets long;
      whole = none;
      some = elim (cases_eq (length octets) n) [
        | inl same ↦ absurd (never (eqb (length octets) n) (eq-eqb (length octets) n same) e)
        | inr other ↦ omega (arith, length-drop n octets)
      ];
    }))
  ]
    where
      never : (b : Bool) → b ≡ true → ◌≡◌ {A = Result (List ℕ) ImageFault}
          (cond b (Ok octets) (Err Truncated)) (Err Truncated) → ⊥
      never true is e = absurd cc
      never false is e = absurd cc

  module _ (c : Split version (take n octets)) (some : 0 < length c.cut)
      (short : instr_from version c.cut ≡ Err Truncated) where
    sizes : length c.done + length c.cut ≤ n
    sizes =
        let a : length (take n octets) ≡ length c.done + length c.cut =
        ap length c.parts ∙ length-append c.done c.cut in
        let b = length-take n octets in
        omega arith

    exact : n ≤ length octets → length c.done + length c.cut ≡ n
    exact long =
        sym (ap length c.parts ∙ length-append c.done c.cut) ∙ length-take-le n octets long

    front-is : take (n - length c.done) (c.cut ++ drop n octets) ≡ c.cut
    front-is = elim (cases_lt (length octets) n) [
      | inl short ↦
          let few = sizes in
          rw (
            drop_of_length-le octets (let h : length octets ≤ n = omega arith in h),
            append-nil c.cut,
          ) (take-all (n - length c.done) c.cut (omega arith))
      | inr long ↦
          let same = exact long in
          let is : n - length c.done ≡ length c.cut = omega arith in
          ap (λ (k : ℕ). take k (c.cut ++ drop n octets)) is
          ∙ take-append_seam c.cut (drop n octets)
    ]

    ended : Few (λ more. IsAll (instr_from version (c.cut ++ more)))
        (n - length c.done - length c.cut) → EndsIn (code_of_length version n) Any octets
    ended f = elim (cases_lt (length octets) n) [
      | inl short ↦
          let all = take-all n octets (omega arith) in
          let k = n - length octets - length f.octets in
          let front : length octets ≡ length c.done + length c.cut =
          ap length (sym all ∙ c.parts) ∙ length-append c.done c.cut in
          let few = f.few in
          let more = f.octets ++ copies 1 k in
          let size : length (octets ++ more) ≡ n =
          omega (
            arith,
            length-append octets more,
            length-append f.octets (copies 1 k),
            copies-size 1 k,
          ) in
          let here : code_fault version (length (c.cut ++ more)) (c.cut ++ more) ≡ None =
          ap (λ (xs : List ℕ). code_fault version (length xs) xs)
          (sym (append_assoc c.cut f.octets (copies 1 k)))
          ∙ fault-step version ((c.cut ++ f.octets) ++ copies 1 k) f.is.0 (copies 1 k)
          (ok-is (instr-sound version) (c.cut ++ f.octets) (copies 1 k)
          f.is.0 [] f.is.1) ∙ halts version k in
          code-reads version n octets more
          (join-octets f.octets (copies 1 k) f.fits (copies-fit 1 k (omega arith))) size
          (ap (λ (xs : List ℕ). code_fault version (length (xs ++ more)) (xs ++ more)) (sym all)
          ∙ c.on more ∙ here)
      | inr long ↦
          let same = exact long in
          let few = f.few in
          absurd (none-left f.octets (omega arith) f.is)
    ]
      where
        none-left : (more : List ℕ) → length more ≤ 0 → IsAll (instr_from version (c.cut ++ more))
            → ⊥
        none-left [] le is =
            (let no : ◌≡◌ {A = Read Instr} (Err Truncated) (Ok (is.0, [])) =
            sym short ∙ ap (instr_from version) (sym (append-nil c.cut)) ∙ is.1 in cc)
        none-left (x ∷ more) le is = omega arith

    part-front : EndsIn (code_of_length version n) Any octets
        ⊎ (Past version n octets ⊎ Part version n octets)
    part-front = elim (few-told (λ more. IsAll (instr_from version (c.cut ++ more)))
        (λ more. all-told (instr_from version (c.cut ++ more)))
        (n - length c.done - length c.cut)) [
          | inl f ↦ inl (ended f)
          | inr none ↦ inr (inr (
              let some_cut = some in
              let few = sizes in
              record {
                done = c.done;
                part = c.cut ++ drop n octets;
                parts = sym (take-append-drop n octets)
                    ∙ ap (λ (xs : List ℕ). xs ++ drop n octets) c.parts
                    ∙ append_assoc c.done c.cut (drop n octets);
                whole = c.whole;
                few = omega arith;
                begins = subst (BeginsInstr version) (sym front-is)
                    (instr-begins version c.cut
                    (behind-octets c.done c.cut
                    (subst AreOctets c.parts (take_octets n octets fits)))
                    some short);
                none = λ i rest good is e. elim
                    (cases_lt (n - length c.done) (length (spelling i))) [
                      | inl lt ↦ lt
                      | inr le ↦ absurd (
                          let parts : c.cut ++ rest ≡ spelling i =
                          ap (λ (xs : List ℕ). xs ++ rest) (sym front-is) ∙ e in
                          let size : length (c.cut ++ rest) ≡ length (spelling i) =
                          ap length parts in
                          none (record {
                            octets = rest;
                            fits = good;
                            few = omega (arith, length-append c.cut rest);
                            is = (i, ap (instr_from version) parts ∙ is);
                          }))
                    ];
              }))
        ]

  length-of-code : code_of_length version n octets ≡ Err Truncated
      → EndsIn (code_of_length version n) Any octets
      ⊎ (Past version n octets ⊎ Part version n octets)
  length-of-code = go (code_fault version (length (take n octets)) (take n octets)) refl
    where
      go : (o : Option ImageFault)
          → code_fault version (length (take n octets)) (take n octets) ≡ o
          → ◌≡◌ {A = Result (List ℕ) ImageFault}
          (fault_or o (cond (eqb (length octets) n) (Ok octets) (Err Truncated))) (Err Truncated)
          → EndsIn (code_of_length version n) Any octets
          ⊎ (Past version n octets ⊎ Part version n octets)
      go None is e = whole-front is e
      go (Some f) is e =
          let same : f ≡ Truncated = err-same {A = List ℕ} f Truncated e in
          let s = split version (length (take n octets)) (take n octets) (omega arith) in
          let c =
          fault-left version (take n octets) s Truncated
          (is ∙ ap (λ (x : ImageFault). Some x) same) in
          part-front s c.0 c.1

-- Code behind its length, with others behind it or cut short within an instruction.
abbrev pub CodeCut : Version → List ℕ → Type 0
CodeCut version = Behind IsNumber number_at (λ n rest. Past version n rest ⊎ Part version n rest)

pub code-lawful : (version : Version)
    → Lawful spoilt Any
    (λ octets code. (octets ≡ number_octets (length code) ++ code)
    × (length code ≤ most_counted) × IsCode code) (CodeCut version) (code_at version)
unfolding code_at
code-lawful version =
    lawful-so (lawful-then _ number-lawful (λ n. record {
      sound = code-sound version n;
      start = code-start version n;
      short = length-of-code version n;
    }))
    (λ octets code fits d. (
    let small : d.what < 2 ^ 16 = d.first.good in
    let size : length code ≡ d.what = d.later.1 in (
      rw (d.parts, d.first.parts, d.later.0, size) refl,
      omega arith,
      d.later.2,
    )))
    (λ octets c. elim c [ inl n ↦ absurd n | inr b ↦ b ])
