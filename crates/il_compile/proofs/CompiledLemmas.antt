-- The image of a program.
use Rattle.std.proofs.Common.{◌≡◌, ℕ, ◌+◌, ◌*◌, ◌<◌, ◌≤◌, Bool, true, false, nat_le, if◌then◌else◌, List, [], ◌∷◌, ◌++◌, length, map, reverse, Ok, Err, refl, sym, ap, subst, ◌∙◌, arith}
use Rattle.std.proofs.lemmas.Bool.{le-leb, leb-true}
use Rattle.std.proofs.lemmas.List.{length-map}
use Rattle.il_image.specs.Images.{Each, HasName, Image, IsImage, IsValue, all_spelled}
use Rattle.il_image.specs.Machine.{initial_state}
use Rattle.il_image.specs.Tables.{HasTable}
use Rattle.il_image.proofs.BegunLemmas.{closed_by, first-place, loose-is-run}
use Rattle.il_image.specs.declared.instr.Instr.TheVariants.{Halt}
use Rattle.il_image.specs.declared.image.ImagePoint.{ImagePoint}
use Rattle.bay_base.specs.declared.types.TimerKind.{TimerKind}
use Rattle.il_image.specs.declared.value.Value.{Value}
use Rattle.il_check.specs.Program.{Checked}
use Rattle.il_check.specs.TypedProgram as typed
use Rattle.il_check.specs.TypedProgram.{IsTyped}
use Rattle.il_check.specs.declared.typed.External.{External}
use Rattle.il_check.specs.declared.typed.Variable.{Variable}
use Rattle.il_compile.specs.Continuation.{HasNoPending}
use Rattle.il_compile.specs.Code.{items_code, octets, program_code, push_unset}
use Rattle.il_compile.specs.Compiled.{compiled_of, image_of, image_size, point_of, points_octets, most_octets}
use Rattle.il_compile.specs.declared.continuation.Continuation.{Continuation}
use Rattle.il_compile.specs.declared.fault.CompileFault.TheVariants.{CodeTooLong}
use Rattle.il_compile.specs.Correct.{ImplementsText, ImplementsAt}
use Rattle.il_compile.specs.Meaning.{Memory}
use Rattle.il_compile.proofs.Placing.{octets-both}
use Rattle.il_compile.proofs.Follows.{Finds, follows}
use Rattle.il_compile.proofs.SizeLemmas.{size-is}
use Rattle.il_compile.proofs.Spellable.{program-are}
use Rattle.il_compile.proofs.Tabled.{has-table}

names-are : (es : List External) → Each typed.HasName es → Each HasName (map point_of es)
names-are [] h = tt
names-are (e ∷ es) h = (h.0, names-are es h.1)

values-are : (vs : List Variable) → Each typed.HasValidInitial vs
    → Each IsValue (map (λ v. v.initial) vs)
values-are [] h = tt
values-are (v ∷ vs) h = (h.0, values-are vs h.1)

-- the code is 3 octets longer than that of the items
code-size : (c : Checked)
    → octets (program_code c) ≡ 3 + octets (items_code (length c.externals) c.items)
code-size c =
    let n = length c.externals in
    let b = octets-both (items_code n c.items) (Halt ∷ []) in
    let w = octets-both (push_unset ∷ []) (items_code n c.items ++ Halt ∷ []) in
    omega arith

pub is-image : (c : Checked) → IsTyped c → image_size c ≤ most_octets → IsImage (image_of c)
is-image c ok short =
    let s = size-is c in
    let slots = ok.slots in
    let timers = ok.timers in
    record {
      points = (let l = length-map c.externals point_of in omega arith);
      variables = (let l = length-map c.variables (λ v. v.initial) in omega arith);
      timers = (let l = length-map c.timers (λ t. t.kind) in omega arith);
      size = omega arith;
      names = names-are c.externals ok.names;
      values = values-are c.variables ok.initial;
      code = record {
        instrs = program_code c;
        are = program-are c ok (omega arith);
        spelled = refl;
      };
    }

not-below : (a b : ℕ) → a < b → nat_le b a ≡ false
not-below a b h =
    elim (nat_le b a) as (λ x. nat_le b a ≡ x → nat_le b a ≡ false)
    [ true ↦ (λ e. absurd (no-more a b h e)) | false ↦ (λ e. e) ] refl
  where
    no-more : (a b : ℕ) → a < b → nat_le b a ≡ true → ⊥
    no-more a b h e = let l = leb-true b a e in omega arith

-- what the sizes say
pub too_long : (c : Checked) (head size : ℕ) (b : Continuation)
    → HasNoPending (length c.externals) c.items b
    → head ≡ 13 + points_octets c.externals + 9 * length c.variables + length c.timers
    → size ≡ head + 3 + b.octets → most_octets < size
    → compiled_of c ≡ Err CodeTooLong
too_long c head size b settled h e lt =
    let s = size-is c in
    let k = code-size c in
    let n = settled.continuation.counted in
    let over : most_octets < image_size c = omega arith in
    ap (λ x. if x then Ok (image_of c) else Err CodeTooLong)
    (not-below most_octets (image_size c) over)

pub short-enough : (c : Checked) (head size : ℕ) (b : Continuation)
    → HasNoPending (length c.externals) c.items b
    → head ≡ 13 + points_octets c.externals + 9 * length c.variables + length c.timers
    → size ≡ head + 3 + b.octets → size ≤ most_octets
    → image_size c ≤ most_octets
short-enough c head size b settled h e le =
    let s = size-is c in
    let k = code-size c in
    let n = settled.continuation.counted in
    omega arith

-- a program whose image is short enough has one
pub given : (c : Checked) → image_size c ≤ most_octets → compiled_of c ≡ Ok (image_of c)
given c le =
    ap (λ x. if x then Ok (image_of c) else Err CodeTooLong) (le-leb (image_size c) most_octets le)

pub same-code : (c : Checked) (b : Continuation) (code : List ℕ)
    → HasNoPending (length c.externals) c.items b → image_size c ≤ most_octets
    → code ≡ all_spelled (push_unset ∷ reverse b.instrs.items ++ Halt ∷ [])
    → code ≡ (image_of c).code
same-code c b code settled le e =
    let s = size-is c in
    let k = code-size c in
    let short : octets (items_code (length c.externals) c.items) ≤ most_octets = omega arith in
    e ∙ ap (λ l. all_spelled (push_unset ∷ l ++ Halt ∷ [])) (settled.continuation.code short)

-- an image of these parts
abbrev pub parts : List ImagePoint → List Value → List TimerKind → List ℕ → Image
parts points variables timers code =
    record { points = points; variables = variables; timers = timers; code = code }

pub same-image : (c : Checked) (points : List ImagePoint) (variables : List Value)
    (timers : List TimerKind) (code : List ℕ) → points ≡ (image_of c).points
    → variables ≡ (image_of c).variables
    → timers ≡ (image_of c).timers → code ≡ (image_of c).code
    → parts points variables timers code ≡ image_of c
same-image c points variables timers code p v t k =
    ap (λ x. parts x variables timers code) p ∙ ap (λ x. parts (image_of c).points x timers code) v
    ∙ ap (λ x. parts (image_of c).points (image_of c).variables x code) t
    ∙ ap (parts (image_of c).points (image_of c).variables (image_of c).timers) k

-- a program that is compiled is short enough, and its image does what it means
was-short : (c : Checked) (i : Image) (b : Bool) → nat_le (image_size c) most_octets ≡ b
    → (if b then Ok (image_of c) else Err CodeTooLong) ≡ Ok i
    → (image_size c ≤ most_octets) × (i ≡ image_of c)
was-short c i true e f =
    (leb-true (image_size c) most_octets e, (let same : image_of c ≡ i = cc in sym same))
was-short c i false e f = absurd cc

-- the code has a table, so that it goes on at instructions alone
followed : (c : Checked) → HasTable (image_of c) → (now : ℕ) (m : Memory)
    → Finds c (image_of c).code now m → ImplementsAt c (image_of c).code now m
followed c table now m f = record {
  means = f.means;
  steps = f.steps;
  halts = sym (loose-is-run (image_of c).code now (closed_by (image_of c) table.0 table.1)
      (length (image_of c).code) (initial_state (m.externals ++ m.variables) m.timers) 0
      (first-place (image_of c) table.0 table.1)) ∙ f.halts;
}

pub does-the-text : (c : Checked) (i : Image) → IsTyped c → compiled_of c ≡ Ok i
    → ImplementsText c i.code
does-the-text c i ok e =
    let w = was-short c i (nat_le (image_size c) most_octets) refl e in
    let s = size-is c in
    let le = w.0 in
    let are = program-are c ok (omega arith) in
    λ now m typed. subst (λ (x : Image). ImplementsAt c x.code now m) (sym w.1)
    (followed c (has-table c ok are) now m (follows c ok are now m typed))

pub is-tabled : (c : Checked) (i : Image) → IsTyped c → compiled_of c ≡ Ok i → HasTable i
is-tabled c i ok e =
    let w = was-short c i (nat_le (image_size c) most_octets) refl e in
    let s = size-is c in
    let le = w.0 in
    subst HasTable (sym w.1) (has-table c ok (program-are c ok (omega arith)))
