-- How many octets an image has as it is written.
use Rattle.std.proofs.Common.{◌≡◌, ℕ, ◌+◌, ◌*◌, List, [], ◌∷◌, ◌++◌, length, map, refl, arith, length-append}
use Rattle.std.proofs.lemmas.List.{length-map}
use Rattle.il_image.specs.Images.{count_and_items, each_spelled, image_octets, point_octets, timer_octets, variable_octets}
use Rattle.il_image.specs.Octets.{number_octets}
use Rattle.il_image.specs.declared.opcode.Version.TheVariants.{Two}
use Rattle.bay_base.specs.declared.types.TimerKind.{TimerKind}
use Rattle.bay_base.specs.declared.types.TimerKind.TheVariants.{OnDelay, OffDelay}
use Rattle.il_image.specs.declared.value.Value.{Value}
use Rattle.il_check.specs.Program.{Checked}
use Rattle.il_check.specs.declared.typed.External.{External}
use Rattle.il_compile.specs.Code.{octets, program_code}
use Rattle.il_compile.specs.Compiled.{image_of, image_size, point_of, points_octets}

points-long : (es : List External)
    → length (each_spelled point_octets (map point_of es)) ≡ points_octets es
points-long [] = refl
points-long (e ∷ es) =
    let h = points-long es in
    let l = length-append (point_octets (point_of e)) (each_spelled point_octets (map point_of es))
    in
    omega arith

values-long : (vs : List Value) → length (each_spelled (variable_octets Two) vs) ≡ 9 * length vs
values-long [] = refl
values-long (v ∷ vs) =
    let h = values-long vs in
    let l = length-append (variable_octets Two v) (each_spelled (variable_octets Two) vs) in
    omega arith

timers-long : (ts : List TimerKind) → length (each_spelled (timer_octets Two) ts) ≡ length ts
timers-long [] = refl
timers-long (OnDelay ∷ ts) = let h = timers-long ts in let l =
    length-append (timer_octets Two OnDelay) (each_spelled (timer_octets Two) ts) in omega arith
timers-long (OffDelay ∷ ts) = let h = timers-long ts in let l =
    length-append (timer_octets Two OffDelay) (each_spelled (timer_octets Two) ts) in omega arith

counted-long : {A : Type 0} (spell : A → List ℕ) (xs : List A)
    → length (count_and_items spell xs) ≡ 2 + length (each_spelled spell xs)
counted-long spell xs = omega arith

pub size-is : (c : Checked)
    → image_size c ≡ 13 + points_octets c.externals + 9 * length c.variables + length c.timers
    + octets (program_code c)
unfolding image_octets
size-is c =
    let i = image_of c in
    let p = points-long c.externals in
    let v = values-long i.variables in
    let t = timers-long i.timers in
    let vs = length-map c.variables (λ w. w.initial) in
    let ts = length-map c.timers (λ w. w.kind) in
    let a = length-append (count_and_items point_octets i.points)
    (count_and_items (variable_octets Two) i.variables
    ++ (count_and_items (timer_octets Two) i.timers ++ (number_octets (length i.code) ++ i.code)))
    in
    let b = length-append (count_and_items (variable_octets Two) i.variables)
    (count_and_items (timer_octets Two) i.timers ++ (number_octets (length i.code) ++ i.code)) in
    let d = length-append (count_and_items (timer_octets Two) i.timers)
    (number_octets (length i.code) ++ i.code) in
    let x = counted-long point_octets i.points in
    let y = counted-long (variable_octets Two) i.variables in
    let z = counted-long (timer_octets Two) i.timers in
    omega arith
