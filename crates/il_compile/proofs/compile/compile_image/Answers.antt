use Rattle.std.proofs.Common.{◌+◌, length, map, refl, Ok, inr, sym, ap, ◌∙◌, subst}
use Rattle.il_image.specs.Images.{IsImage}
use Rattle.il_check.specs.Program.{Checked}
use Rattle.il_check.specs.ProgramViews.{checked_view}
use Rattle.il_compile.specs.Continuation.{HasNoPending}
use Rattle.il_compile.specs.Compiled.{point_of}
use Rattle.il_compile.proofs.CompiledLemmas.{given, is-image, same-code, same-image, short-enough, too_long}
use Rattle.il_compile.proofs.Spellable.{all-spellable}
use Rattle.il_compile.proofs.compile.compile_image.Goals as goal

pub compile_all-requires : goal.compile_all-requires
compile_all-requires c =
    rw (c.externals.ensures, c.items.ensures.value)
    (all-spellable (checked_view c.args.program.now) c.items.ensures.sound.typed)

pub returns-then-size-gt-MAX_OCTETS-clause-image : goal.returns-then-size-gt-MAX_OCTETS-clause-image
returns-then-size-gt-MAX_OCTETS-clause-image c =
    let p : Checked = checked_view c.args.program.now in
    let settled : HasNoPending (length p.externals) p.items c.in_ok-continuation.continuation =
    rw⁻¹ (c.externals.ensures, c.items.ensures.value) c.in_ok-continuation.ensures in
    inr (too_long p c.head_size.result
    (c.head_size.result + 3 + c.in_ok-continuation.continuation.octets)
    c.in_ok-continuation.continuation settled c.head_size.ensures.value refl
    c.if-size-gt-MAX_OCTETS.true)

pub new-requires-5 : goal.new-requires-5
new-requires-5 c =
    let p : Checked = checked_view c.args.program.now in
    let settled : HasNoPending (length p.externals) p.items c.in_ok-continuation.continuation =
    rw⁻¹ (c.externals.ensures, c.items.ensures.value) c.in_ok-continuation.ensures in
    let short =
    short-enough p c.head_size.result
    (c.head_size.result + 3 + c.in_ok-continuation.continuation.octets)
    c.in_ok-continuation.continuation settled c.head_size.ensures.value refl
    c.if-size-gt-MAX_OCTETS.false
    in
    let same = same-image p c.new.result c.new-2.result c.new-3.result c.new-4.result
    (c.new.ensures ∙ c.in_ok-points.ensures ∙ ap (map point_of) c.externals-2.ensures)
    (c.new-2.ensures ∙ c.in_ok-variables.ensures ∙ ap (map (λ v. v.initial)) c.variables.ensures)
    (c.new-3.ensures ∙ c.in_ok-timers.ensures ∙ ap (map (λ t. t.kind)) c.timers.ensures)
    (c.new-4.ensures ∙ same-code p c.in_ok-continuation.continuation c.in_ok-code.code.items settled
    short
    c.in_ok-code.ensures) in
    subst IsImage (sym same) (is-image p c.items.ensures.sound.typed short)

pub returns-clause-image : goal.returns-clause-image
returns-clause-image c =
    let p : Checked = checked_view c.args.program.now in
    let settled : HasNoPending (length p.externals) p.items c.in_ok-continuation.continuation =
    rw⁻¹ (c.externals.ensures, c.items.ensures.value) c.in_ok-continuation.ensures in
    let short =
    short-enough p c.head_size.result
    (c.head_size.result + 3 + c.in_ok-continuation.continuation.octets)
    c.in_ok-continuation.continuation settled c.head_size.ensures.value refl
    c.if-size-gt-MAX_OCTETS.false
    in
    let same = same-image p c.new.result c.new-2.result c.new-3.result c.new-4.result
    (c.new.ensures ∙ c.in_ok-points.ensures ∙ ap (map point_of) c.externals-2.ensures)
    (c.new-2.ensures ∙ c.in_ok-variables.ensures ∙ ap (map (λ v. v.initial)) c.variables.ensures)
    (c.new-3.ensures ∙ c.in_ok-timers.ensures ∙ ap (map (λ t. t.kind)) c.timers.ensures)
    (c.new-4.ensures ∙ same-code p c.in_ok-continuation.continuation c.in_ok-code.code.items settled
    short
    c.in_ok-code.ensures) in
    given p short ∙ ap (λ i. Ok i) (sym (c.new-5.ensures ∙ same))
