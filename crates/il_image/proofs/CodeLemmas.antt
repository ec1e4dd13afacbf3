-- Code as instructions one behind the other.
use Rattle.std.proofs.Common.{◌≡◌, ℕ, zero, suc, ◌<◌, ◌≤◌, Bool, true, false, cond, eqb, List, [], ◌∷◌, ◌++◌, length, take, drop, Option, Some, None, refl, sym, subst, ap, ◌∙◌, append-nil, arith, inl, inr}
use Rattle.std.specs.Prelude.{Ok, Err, Result, ◌⊎◌}
use Rattle.std.proofs.lemmas.Bool.{eqb-true, ne_eqb}
use Rattle.std.proofs.lemmas.List.{append_assoc, length-append, take-append-le}
use Rattle.std.proofs.lemmas.Option.{same_Some}
use Rattle.std.proofs.Math.Seq.{take-length}
use Rattle.bay_base.specs.Results.{◌>>=◌}
use Rattle.il_image.specs.declared.fault.ImageFault.{ImageFault}
use Rattle.il_image.specs.declared.fault.ImageFault.TheVariants.{Truncated}
use Rattle.il_image.specs.declared.instr.Instr.{Instr}
use Rattle.il_image.specs.declared.opcode.Version.{Version}
use Rattle.il_image.specs.declared.opcode.Version.TheVariants.{Two}
use Rattle.il_image.specs.Decoding.{code_fault, code_of_length, fault_or_later, fault_or}
use Rattle.il_image.specs.Images.{Each, IsCode, all_spelled}
use Rattle.il_image.specs.Octets.{AreOctets}
use Rattle.il_image.specs.Reading.{Read, instr_from}
use Rattle.il_image.specs.Spelling.{IsInstr, spelling}
use Rattle.il_image.proofs.InstrLemmas.{back-instr, instr-sound, less}
use Rattle.il_image.proofs.PieceLemmas.{Any, Sound, err-is, front-octets, item-took, ok-is, spoilt}
use Rattle.il_image.proofs.ReadLemmas.{behind-octets, ok-same}

-- It does not matter how many instructions are allowed, where they are enough.
enough : (version : Version) (n m : ℕ) (octets : List ℕ) → length octets ≤ n → length octets ≤ m
    → code_fault version n octets ≡ code_fault version m octets
enough version zero zero octets h g = refl
enough version zero (suc m) [] h g = refl
enough version zero (suc m) (x ∷ octets) h g = absurd (omega arith)
enough version (suc n) zero [] h g = refl
enough version (suc n) zero (x ∷ octets) h g = absurd (omega arith)
enough version (suc n) (suc m) [] h g = refl
enough version (suc n) (suc m) (x ∷ octets) h g =
    go version n m (x ∷ octets) (instr_from version (x ∷ octets)) refl h g (enough version n m)
  where
    go : (version : Version) (n m : ℕ) (octets : List ℕ) (r : Read Instr)
        → instr_from version octets ≡ r → length octets ≤ suc n → length octets ≤ suc m
        → ((rest : List ℕ) → length rest ≤ n → length rest ≤ m
        → code_fault version n rest ≡ code_fault version m rest)
        → fault_or_later r (λ rest. code_fault version n rest)
        ≡ fault_or_later r (λ rest. code_fault version m rest)
    go version n m octets (Ok r) e h g more = let fewer =
        less version octets r.0 r.1 e in more r.1 (omega arith) (omega arith)
    go version n m octets (Err fault) e h g more = refl

pub fault-step : (version : Version) (octets : List ℕ) (i : Instr) (rest : List ℕ)
    → instr_from version octets ≡ Ok (i, rest)
    → code_fault version (length octets) octets ≡ code_fault version (length rest) rest
fault-step version [] i rest e = let fewer = less version [] i rest e in absurd (omega arith)
fault-step version (x ∷ octets) i rest e = let fewer = less version (x ∷ octets) i rest e in
    rw e (enough version (length octets) (length rest) rest (omega arith) (omega arith))

pub fault-here : (version : Version) (octets : List ℕ) (fault : ImageFault) → 0 < length octets
    → instr_from version octets ≡ Err fault → code_fault version (length octets) octets ≡ Some fault
fault-here version [] fault some e = absurd (omega arith)
fault-here version (x ∷ octets) fault some e = rw e refl

-- ---- code up to its first fault

-- the first fault of code
abbrev pub fault_in : Version → List ℕ → Option ImageFault
fault_in version octets = code_fault version (length octets) octets

-- Instructions are read one behind the other; nothing is left behind them, or octets of which none
-- is read.
pub record Split (version : Version) (octets : List ℕ) : Type 0 where
  pub done : List ℕ
  pub cut : List ℕ
  pub parts : octets ≡ done ++ cut
  pub code : AreOctets done → IsCode done
  pub whole : fault_in version done ≡ None
  pub on : (more : List ℕ) → fault_in version (octets ++ more) ≡ fault_in version (cut ++ more)
  pub end : (cut ≡ [])
      ⊎ ((f : ImageFault) × (0 < length cut) × (instr_from version cut ≡ Err f))

none-read : (version : Version) (octets : List ℕ) → (octets ≡ [])
    ⊎ ((f : ImageFault) × (0 < length octets) × (instr_from version octets ≡ Err f))
    → Split version octets
none-read version octets end = record {
  done = [];
  cut = octets;
  parts = refl;
  code = λ fits. record { instrs = []; are = tt; spelled = refl };
  whole = refl;
  on = λ more. refl;
  end = end;
}

-- octets of code are instructions, and then the first that is none
pub split : (version : Version) (n : ℕ) (octets : List ℕ) → length octets ≤ n
    → Split version octets
split version n [] le = none-read version [] (inl refl)
split version zero (x ∷ octets) le = absurd (omega arith)
split version (suc n) (x ∷ octets) le =
    go (split version n) (instr_from version (x ∷ octets)) refl
  where
    go : ((rest : List ℕ) → length rest ≤ n → Split version rest) → (r : Read Instr)
        → instr_from version (x ∷ octets) ≡ r → Split version (x ∷ octets)
    go behind (Err f) is = none-read version (x ∷ octets) (inr (f, omega arith, is))
    go behind (Ok (i, rest)) is =
        let s = instr-sound version in
        let fewer = less version (x ∷ octets) i rest is in
        let t = item-took s (x ∷ octets) i rest is in
        let c = behind rest (omega arith) in
        record {
          done = t.0 ++ c.done;
          cut = c.cut;
          parts = t.1 ∙ ap (λ (ys : List ℕ). t.0 ++ ys) c.parts
              ∙ sym (append_assoc t.0 c.done c.cut);
          code = λ fits. (
              let first = s.spelled t.0 (i, []) (front-octets t.0 c.done fits) t.2 refl in
              let later = c.code (behind-octets t.0 c.done fits) in
              record {
                instrs = i ∷ later.instrs;
                are = (first.good, later.are);
                spelled = ap (λ (ys : List ℕ). ys ++ c.done) first.parts
                    ∙ ap (λ (ys : List ℕ). spelling i ++ ys) later.spelled;
              });
          whole = fault-step version (t.0 ++ c.done) i c.done (ok-is s t.0 c.done i [] t.2)
              ∙ c.whole;
          on = λ more.
              fault-step version (x ∷ octets ++ more) i (rest ++ more)
              (ok-is s (x ∷ octets) more i rest is) ∙ c.on more;
          end = c.end;
        }

module _ (version : Version) (octets : List ℕ) (s : Split version octets) where
  fault-is : fault_in version octets ≡ fault_in version s.cut
  fault-is =
      ap (fault_in version) (sym (append-nil octets)) ∙ s.on []
      ∙ ap (fault_in version) (append-nil s.cut)

  pub none-left : fault_in version octets ≡ None → s.cut ≡ []
  none-left e = elim s.end [
    | inl none ↦ none
    | inr c ↦ absurd (let no = sym e ∙ fault-is ∙ fault-here version s.cut c.0 c.1 c.2 in cc)
  ]

  pub fault-left : (f : ImageFault) → fault_in version octets ≡ Some f
      → (0 < length s.cut) × (instr_from version s.cut ≡ Err f)
  fault-left f e = elim s.end [
    | inl none ↦ absurd (let no = sym e ∙ fault-is ∙ ap (fault_in version) none in cc)
    | inr c ↦ (
      c.1,
      c.2 ∙ ap (λ (g : ImageFault). Err g)
          (same_Some c.0 f (sym (fault-here version s.cut c.0 c.1 c.2) ∙ sym fault-is ∙ e)),
    )
  ]

no_fault : (version : Version) (octets : List ℕ) → AreOctets octets
    → fault_in version octets ≡ None → IsCode octets
no_fault version octets fits e =
    let s = split version (length octets) octets (omega arith) in
    let same : octets ≡ s.done =
    s.parts ∙ ap (λ (ys : List ℕ). s.done ++ ys) (none-left version octets s e)
    ∙ append-nil s.done in
    subst IsCode (sym same) (s.code (subst AreOctets same fits))

-- code without a fault, and more of it
pub code-whole : (version : Version) (octets more : List ℕ) → fault_in version octets ≡ None
    → fault_in version more ≡ None → fault_in version (octets ++ more) ≡ None
code-whole version octets more e h =
    let s = split version (length octets) octets (omega arith) in
    s.on more ∙ ap (λ (ys : List ℕ). fault_in version (ys ++ more)) (none-left version octets s e)
    ∙ h

-- a fault of code stays, unless it wants more octets
faults-stay : (version : Version) (octets more : List ℕ) (e : ImageFault)
    → fault_in version octets ≡ Some e → (e ≡ Truncated → ⊥)
    → fault_in version (octets ++ more) ≡ Some e
faults-stay version octets more e f ne =
    let s = split version (length octets) octets (omega arith) in
    let c = fault-left version octets s e f in
    let some = c.0 in
    s.on more
    ∙ fault-here version (s.cut ++ more) e (omega (arith, length-append s.cut more))
    (err-is (instr-sound version) s.cut more e c.1 ne)

-- ---- code that is spelled

spelled-faultless : (n : ℕ) (is : List Instr) → Each IsInstr is
    → code_fault Two n (all_spelled is) ≡ None
spelled-faultless zero is good = refl
spelled-faultless (suc n) [] good = refl
spelled-faultless (suc n) (i ∷ is) good =
    rw (back-instr i (all_spelled is) good.0) (spelled-faultless n is good.1)

-- code that is spelled is decoded without a fault
pub faultless : (code : List ℕ) (n : ℕ) → IsCode code → code_fault Two n code ≡ None
faultless code n c = rw c.spelled (spelled-faultless n c.instrs c.are)

-- ---- code that has to end where it ends

code-ends : (version : Version) (n : ℕ) (octets : List ℕ) (m : ℕ) (more : List ℕ)
    → (code_of_length version n octets ≡ Err Truncated → ⊥)
    → code_of_length version n (octets ++ m ∷ more)
    ≡ (code_of_length version n octets >>= (λ code. Err Truncated))
code-ends version n octets m others =
    go (code_fault version (length (take n octets)) (take n octets)) (eqb (length octets) n) refl
    refl
  where
    more : List ℕ
    more = m ∷ others

    go : (o : Option ImageFault) (b : Bool)
        → code_fault version (length (take n octets)) (take n octets) ≡ o
        → eqb (length octets) n ≡ b → (code_of_length version n octets ≡ Err Truncated → ⊥)
        → code_of_length version n (octets ++ more)
        ≡ (code_of_length version n octets >>= (λ code. Err Truncated))
    go (Some e) b f g ne =
        let not_short : e ≡ Truncated → ⊥ = λ h. ne (rw f (ap (λ (x : ImageFault). Err x) h)) in
        let all : take n (octets ++ more)
        ≡ take n octets ++ drop (length (take n octets)) (take n (octets ++ more)) =
        front_of n octets more in
        let stays : fault_in version (take n (octets ++ more)) ≡ Some e =
        subst (λ (xs : List ℕ). fault_in version xs ≡ Some e) (sym all)
        (faults-stay version (take n octets)
        (drop (length (take n octets)) (take n (octets ++ more))) e f not_short) in
        rw (stays, f) refl
      where
        front_of : (n : ℕ) (xs ys : List ℕ)
            → take n (xs ++ ys) ≡ take n xs ++ drop (length (take n xs)) (take n (xs ++ ys))
        front_of zero xs ys = refl
        front_of (suc n) [] ys = refl
        front_of (suc n) (x ∷ xs) ys = ap (λ (zs : List ℕ). x ∷ zs) (front_of n xs ys)
    go None false f g ne = absurd (ne (rw (f, g) refl))
    go None true f g ne =
        let size : length octets ≡ n = eqb-true (length octets) n g in
        let same : take n (octets ++ more) ≡ take n octets =
        take-append-le n octets more (omega arith) in
        let longer : length (octets ++ more) ≡ n → ⊥ =
        λ h. omega (arith, length-append octets more) in
        rw (same, f, ne_eqb (length (octets ++ more)) n longer, g) refl

sized-code : (version : Version) (n : ℕ) (octets code : List ℕ) → AreOctets octets
    → code_of_length version n octets ≡ Ok code → (octets ≡ code) × (length code ≡ n) × IsCode code
sized-code version n octets code fits e =
    go (code_fault version (length (take n octets)) (take n octets)) (eqb (length octets) n) refl
    refl e
  where
    go : (f : Option ImageFault) (b : Bool)
        → code_fault version (length (take n octets)) (take n octets) ≡ f
        → eqb (length octets) n ≡ b → fault_or f (cond b (Ok octets) (Err Truncated)) ≡ Ok code
        → (octets ≡ code) × (length code ≡ n) × IsCode code
    go (Some fault) b h g e = absurd cc
    go None false h g e = absurd cc
    go None true h g e =
        let same : octets ≡ code = ok-same octets code e in
        let size : length octets ≡ n = eqb-true (length octets) n g in
        let all : take n octets ≡ octets =
        ap (λ (m : ℕ). take m octets) (sym size) ∙ take-length octets in
        let good : IsCode octets =
        no_fault version octets fits
        (ap (λ (xs : List ℕ). code_fault version (length xs) xs) (sym all) ∙ h) in
        (same, ap length (sym same) ∙ size, subst IsCode same good)

pub code-sound : (version : Version) (n : ℕ)
    → Sound spoilt Any
    (λ octets code. (octets ≡ code) × (length code ≡ n) × IsCode code)
    (code_of_length version n)
code-sound version n = record {
  steady = steady;
  takes = λ octets code e. record {
    front = octets;
    rest = [];
    what = code;
    parts = sym (append-nil octets);
    is = e;
    ends = tt;
    more = refl;
  };
  spelled = λ octets code fits e ends. sized-code version n octets code fits e;
}
  where
    same : (r : Result (List ℕ) ImageFault) → r ≡ (r >>= (λ code. spoilt code []))
    same (Ok code) = refl
    same (Err e) = refl

    steady : (octets more : List ℕ) → (code_of_length version n octets ≡ Err Truncated → ⊥)
        → code_of_length version n (octets ++ more)
        ≡ (code_of_length version n octets >>= (λ code. spoilt code more))
    steady octets [] ne =
        ap (code_of_length version n) (append-nil octets) ∙ same (code_of_length version n octets)
    steady octets (m ∷ more) ne = code-ends version n octets m more ne
