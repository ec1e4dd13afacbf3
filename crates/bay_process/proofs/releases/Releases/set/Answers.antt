use Rattle.std.proofs.Common.{◌≡◌, ◌<◌, ◌^◌, length, arith, rules, ◌∙◌}
use Rattle.std.proofs.lemmas.List.{get_or_default}
use Rattle.bay_process.proofs.ReleaseLemmas.{digit-there, told-new}
use Rattle.bay_process.proofs.releases.Releases.set.Goals as goal

pub index_mut-requires : goal.index_mut-requires
index_mut-requires c =
    let r = c.requires.shows in
    let there = digit-there r.0 r.1 c.args.self.now.text.items c.args.self.now.offsets.items r.2
    c.args.index c.requires.within in
    let at = c.index-at.ensures ∙ get_or_default c.args.self.now.offsets.items c.args.index
    c.index-at.result.now 0 c.requires.within in
    let so_many : length c.args.self.now.text.items ≡ c.args.self.now.text.len = search rules in
    omega (arith, there, at, so_many)

pub index_mut-requires-2 : goal.index_mut-requires-2
index_mut-requires-2 c =
    let r = c.requires.shows in
    let there = digit-there r.0 r.1 c.args.self.now.text.items c.args.self.now.offsets.items r.2
    c.args.index c.requires.within in
    let at = c.index-at.ensures ∙ get_or_default c.args.self.now.offsets.items c.args.index
    c.index-at.result.now 0 c.requires.within in
    let so_many : length c.args.self.now.text.items ≡ c.args.self.now.text.len = search rules in
    omega (arith, there, at, so_many)

pub overflow_add-at : goal.overflow_add-at
overflow_add-at c =
    let r = c.requires.shows in
    let there = digit-there r.0 r.1 c.args.self.now.text.items c.args.self.now.offsets.items r.2
    c.args.index c.requires.within in
    let at = c.index-at.ensures ∙ get_or_default c.args.self.now.offsets.items c.args.index
    c.index-at.result.now 0 c.requires.within in
    let so_many : length c.args.self.now.text.items ≡ c.args.self.now.text.len = search rules in
    let few : c.args.self.now.text.len < 2 ^ 63 = search rules in
    record { fits = omega (arith, there, at, so_many, few) }

pub returns-clause-shows : goal.returns-clause-shows
returns-clause-shows c = λ ss enables s.
    let at = c.index-at.ensures ∙ get_or_default c.args.self.now.offsets.items c.args.index
    c.index-at.result.now 0 c.requires.within in
    rw (at, c.digit_octet.ensures, c.digit_octet-2.ensures)
    (told-new ss enables c.args.self.now.text.items c.args.self.now.offsets.items s c.args.index
    c.requires.within c.args.enabled)
