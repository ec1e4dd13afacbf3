-- Releases that a judgement by a diagram holds for harmless.
use Rattle.std.proofs.Common.{◌≡◌, ◌⊎◌, ◌<◌, ℕ, zero, suc, Bool, true, false, nat_lt, List, [], ◌∷◌, ◌++◌, append-nil, length, map, inl, inr, refl, ap, sym, subst, ◌∙◌, arith}
use Rattle.std.specs.List.{Contains, list_all}
use Rattle.std.proofs.lemmas.Bool.{and_parts}
use Rattle.std.proofs.lemmas.Bool.Decides.{nat_tests}
use Rattle.std.proofs.lemmas.List.Elements.{Contains-append_cases, Contains-append_left, Contains-append_right}
use Rattle.bay_audit.specs.Rules.{BoundProgram, directions}
use Rattle.bay_audit_hazards.specs.Judged.{IsHarmless, IsHazardAnswer}
use Rattle.bay_audit_hazards.specs.declared.answer.HazardAnswer.{HazardAnswer}
use Rattle.bay_audit_hazards.specs.declared.answer.HazardAnswer.TheVariants.{Holds, Broken, Open, Undecided}
use Rattle.bay_base.specs.declared.switch.Operation.{Operation}
use Rattle.bay_base.specs.declared.switch.Operation.TheVariants as operations
use Rattle.bay_config.specs.declared.bay.Bay.{Bay}
use Rattle.bay_diagram.specs.declared.network.Network.{Network}
use Rattle.bay_diagram_file.specs.declared.diagram.Diagram.{Diagram}
use Rattle.cmd_audit.specs.Auditing.{AreAllJudged, AreSomeJudged}
use Rattle.cmd_audit.specs.Judged.{AreJudged, is_harmless, is_safe, judged_way}
use Rattle.cmd_audit.specs.declared.judged.JudgedRelease.{JudgedRelease}
use Rattle.cmd_audit_laws.specs.Audited.{IsHeld}

-- ---- the releases of a bay

-- the releases of one switch
abbrev last_ways : ℕ → List (ℕ × Operation)
last_ways n = (n, operations.Open) ∷ (n, operations.Close) ∷ []

-- each of them is of one of its switches
ways-below : (n : ℕ) (way : ℕ × Operation) → Contains (directions n) way → way.0 < n
ways-below zero way c = absurd (let low = c.1 in omega (arith, low))
ways-below (suc n) way c = elim (Contains-append_cases (directions n) (last_ways n) way c) [
  | inl before ↦ (let low = ways-below n way before in omega (arith, low))
  | inr last ↦ by-last last
]
  where
    by-last : Contains (last_ways n) way → way.0 < suc n
    by-last (zero, low, is) =
        let same : n ≡ way.0 = ap (λ (w : ℕ × Operation). w.0) is in omega (arith, same)
    by-last (suc zero, low, is) =
        let same : n ≡ way.0 = ap (λ (w : ℕ × Operation). w.0) is in omega (arith, same)
    by-last (suc (suc k), low, is) = absurd (omega (arith, low))

last-way : (n : ℕ) (operation : Operation) → Contains (last_ways n) (n, operation)
last-way n operations.Open = (0, omega arith, refl)
last-way n operations.Close = (1, omega arith, refl)

-- each operation of each of its switches is there
ways-have : (n k : ℕ) (operation : Operation) → k < n → Contains (directions n) (k, operation)
ways-have zero k operation lt = absurd (omega (arith, lt))
ways-have (suc n) k operation lt = by-case (nat_lt k n) refl (ways-have n k operation)
  where
    by-case : (b : Bool) → nat_lt k n ≡ b → (k < n → Contains (directions n) (k, operation))
        → Contains (directions (suc n)) (k, operation)
    by-case true less before =
        Contains-append_left (directions n) (last_ways n) (k, operation)
        (before (grind (arith, nat_tests)))
    by-case false less before =
        let same : n ≡ k = grind (arith, nat_tests) in
        Contains-append_right (directions n) (last_ways n) (k, operation)
        (subst (λ (j : ℕ). Contains (last_ways n) (j, operation)) same (last-way n operation))

-- ---- releases that are judged

way-among : (releases : List JudgedRelease) (r : JudgedRelease) → Contains releases r
    → Contains (map judged_way releases) (judged_way r)
way-among [] r c = absurd (let low = c.1 in omega (arith, low))
way-among (x ∷ xs) r (zero, low, is) = (0, omega arith, ap judged_way is)
way-among (x ∷ xs) r (suc k, low, is) =
    let rest = way-among xs r (k, omega (arith, low), is) in
    let less = rest.1 in
    (suc rest.0, omega (arith, less), rest.2)

-- the releases of a text are the first of those of the bay
pub said-ways : (bay : Bay) (d : Diagram) (releases : List JudgedRelease) (text : List ℕ)
    (status : ℕ)
    → AreAllJudged bay d releases text status ⊎ AreSomeJudged bay d releases text status
    → (later : List (ℕ × Operation))
    × (map judged_way releases ++ later ≡ directions (length bay.switches))
said-ways bay d releases text status (inl all) =
    ([], append-nil (map judged_way releases) ∙ all.all)
said-ways bay d releases text status (inr some) = (some.later, some.first)

pub judged-there : (n : ℕ) (releases : List JudgedRelease) (k : ℕ) (operation : Operation)
    → (later : List (ℕ × Operation)) × (map judged_way releases ++ later ≡ directions n)
    → IsHeld releases k operation → k < n
judged-there n releases k operation first h =
    ways-below n (k, operation)
    (subst (λ ws. Contains ws (k, operation)) first.1
    (Contains-append_left (map judged_way releases) first.0 (k, operation)
    (subst (Contains (map judged_way releases)) h.way
    (way-among releases h.release h.among))))

harmless-by : (g : BoundProgram) (net : Network) (k : ℕ) (operation : Operation)
    (answer : HazardAnswer) → is_harmless answer ≡ true → IsHazardAnswer g net k operation answer
    → IsHarmless g net k operation
harmless-by g net k operation (Holds cases) safe right = right
harmless-by g net k operation (Broken case) safe right = absurd cc
harmless-by g net k operation (Open case) safe right = absurd cc
harmless-by g net k operation Undecided safe right = absurd cc

-- a harmless release
abbrev Safe : BoundProgram → Network → ℕ × Operation → Type 0
Safe g net way = IsHarmless g net way.0 way.1

-- a release that holds is harmless
pub held-harmless : (g : BoundProgram) (net : Network) (releases : List JudgedRelease)
    → AreJudged g net releases → (k : ℕ) (operation : Operation) → IsHeld releases k operation
    → IsHarmless g net k operation
held-harmless g net releases right k operation h =
    subst (Safe g net) h.way (among releases right h.among)
  where
    among : (rs : List JudgedRelease) → AreJudged g net rs → Contains rs h.release
        → Safe g net (judged_way h.release)
    among [] right c = absurd (let low = c.1 in omega (arith, low))
    among (r ∷ rs) right (zero, low, is) =
        let own =
        subst (λ x. IsHazardAnswer g net x.switch x.operation x.answer) is right.0.right in
        harmless-by g net h.release.switch h.release.operation h.release.answer h.safe own
    among (r ∷ rs) right (suc j, low, is) = among rs right.1 (j, omega (arith, low), is)

-- so is each release of the bay, where each of them holds
pub all-harmless : (g : BoundProgram) (net : Network) (n : ℕ) (releases : List JudgedRelease)
    → AreJudged g net releases → list_all is_safe releases ≡ true
    → map judged_way releases ≡ directions n → (k : ℕ) (operation : Operation) → k < n
    → IsHarmless g net k operation
all-harmless g net n releases right all are k operation lt =
    find releases right all
    (subst (λ ws. Contains ws (k, operation)) (sym are) (ways-have n k operation lt))
  where
    find : (rs : List JudgedRelease) → AreJudged g net rs → list_all is_safe rs ≡ true
        → Contains (map judged_way rs) (k, operation) → IsHarmless g net k operation
    find [] right all c = absurd (let low = c.1 in omega (arith, low))
    find (r ∷ rs) right all (zero, low, is) =
        subst (Safe g net) is
        (harmless-by g net r.switch r.operation r.answer
        (and_parts (is_safe r) (list_all is_safe rs) all).0 right.0.right)
    find (r ∷ rs) right all (suc j, low, is) =
        find rs right.1 (and_parts (is_safe r) (list_all is_safe rs) all).1
        (j, omega (arith, low), is)
