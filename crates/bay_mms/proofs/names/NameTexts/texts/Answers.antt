use Rattle.std.proofs.Common.{◌≡◌, ℕ, ◌+◌, List, length, sym, ap, ◌∙◌, arith}
use Rattle.bay_mms.specs.Pages.{NameTextsData, begin_at}
use Rattle.bay_mms.proofs.PageLemmas.{sliced}
use Rattle.bay_mms.proofs.names.NameTexts.texts.Goals as goal

pub overflow_add-start : goal.overflow_add-start
overflow_add-start c =
    let long : length c.args.self.now.ends ≡ length c.self.inside.ends.items =
    ap (λ (n : NameTextsData). length n.ends) (sym c.self.view_is) in
    omega (arith, long, c.requires, c.self.inside.ends.ok, c.self.inside.ends.small)

pub returns : goal.returns
returns c names is =
    let ends : c.self.inside.ends.items ≡ c.args.self.now.ends =
    ap (λ (n : NameTextsData). n.ends) c.self.view_is in
    let octets : c.deref.result.now ≡ c.args.self.now.octets =
    c.deref.ensures.value ∙ ap (λ (n : NameTextsData). n.octets) c.self.view_is in
    rw octets (sliced names c.args.self.now c.args.start c.args.count c.begin_of_name.result
    c.begin_of_name-2.result is c.requires
    (c.begin_of_name.ensures
    ∙ ap (λ (xs : List ℕ). begin_at xs c.args.start) (c.deref-2.ensures.value ∙ ends))
    (c.begin_of_name-2.ensures
    ∙ ap (λ (xs : List ℕ). begin_at xs (c.args.start + c.args.count))
    (c.deref-3.ensures.value ∙ ends)))
