use Rattle.std.proofs.Common.{◌≡◌, ◌+◌, ◌<◌, ◌^◌, nat_eq, Some, length, slice_index_or, arith, rules, sym, ap, ◌∙◌}
use Rattle.std.proofs.lemmas.List.{get_or_default}
use Rattle.bay_process.specs.declared.switch.SwitchEnables.{SwitchEnables}
use Rattle.bay_process.proofs.ReleaseLemmas.{digit-is, digit-there, told-there}
use Rattle.bay_process.proofs.releases.Releases.get.Goals as goal

pub index-requires : goal.index-requires
index-requires c =
    let r = c.requires.shows in
    let there = digit-there r.0 r.1 c.args.self.now.text.items c.args.self.now.offsets.items r.2
    c.args.index c.requires.within in
    let at = c.index-at.ensures ∙ get_or_default c.args.self.now.offsets.items c.args.index
    c.index-at.result.now 0 c.requires.within in
    let so_many : length c.args.self.now.text.items ≡ c.args.self.now.text.len = search rules in
    omega (arith, there, at, so_many)

pub overflow_add-at : goal.overflow_add-at
overflow_add-at c =
    let r = c.requires.shows in
    let there = digit-there r.0 r.1 c.args.self.now.text.items c.args.self.now.offsets.items r.2
    c.args.index c.requires.within in
    let at = c.index-at.ensures ∙ get_or_default c.args.self.now.offsets.items c.args.index
    c.index-at.result.now 0 c.requires.within in
    let so_many : length c.args.self.now.text.items ≡ c.args.self.now.text.len = search rules in
    let few : c.args.self.now.text.len < 2 ^ 63 = search rules in
    record { fits = omega (arith, there, at, so_many, few) }

pub index-requires-2 : goal.index-requires-2
index-requires-2 c =
    let r = c.requires.shows in
    let there = digit-there r.0 r.1 c.args.self.now.text.items c.args.self.now.offsets.items r.2
    c.args.index c.requires.within in
    let at = c.index-at.ensures ∙ get_or_default c.args.self.now.offsets.items c.args.index
    c.index-at.result.now 0 c.requires.within in
    let so_many : length c.args.self.now.text.items ≡ c.args.self.now.text.len = search rules in
    omega (arith, there, at, so_many)

pub returns : goal.returns
returns c ss enables s =
    let text = c.args.self.now.text.items in
    let offsets = c.args.self.now.offsets.items in
    let k = c.args.index in
    let there = digit-there ss enables text offsets s k c.requires.within in
    let t = told-there ss enables text offsets s k c.requires.within in
    let at : c.index-at.result.now ≡ slice_index_or offsets k 0 =
    c.index-at.ensures ∙ get_or_default offsets k c.index-at.result.now 0 c.requires.within in
    let first : c.index.result.now ≡ slice_index_or text c.index-at.result.now 0 =
    c.index.ensures ∙ get_or_default text c.index-at.result.now c.index.result.now 0
    (omega (arith, there, at)) in
    let second : c.index-2.result.now ≡ slice_index_or text (c.index-at.result.now + 1) 0 =
    c.index-2.ensures ∙ get_or_default text (c.index-at.result.now + 1) c.index-2.result.now 0
    (omega (arith, there, at)) in
    let opens = digit-is t.0.may_open c.index.result.now
    (first ∙ ap (λ a. slice_index_or text a 0) at ∙ t.2) in
    let closes = digit-is t.0.may_close c.index-2.result.now
    (second ∙ ap (λ a. slice_index_or text (a + 1) 0) at ∙ t.3) in
    t.1 ∙ sym (ap (λ b. let e : SwitchEnables =
    record { may_open = b; may_close = nat_eq c.index-2.result.now 49 } in Some e) opens
    ∙ ap (λ b. let e : SwitchEnables = record { may_open = t.0.may_open; may_close = b } in Some e)
    closes)
