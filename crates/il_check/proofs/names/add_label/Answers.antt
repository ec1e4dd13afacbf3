use Rattle.std.proofs.Common.{◌≡◌, false, is_some, Some, ◌∙◌, sym, ap}
use Rattle.std.proofs.lemmas.Map.Text.{btree_map_updates_text}
use Rattle.std.specs.BTreeMap.{get_by_text}
use Rattle.std.specs.String.{string_bytes}
use Rattle.il_check.proofs.NameLemmas.{with_value-new}
use Rattle.il_check.proofs.names.add_label.Goals as goal

pub returns : goal.returns
returns c = λ other.
    let absent : is_some (get_by_text c.args.labels.now (string_bytes c.args.name)) ≡ false =
    ap (λ bs. is_some (get_by_text c.args.labels.now bs)) (sym c.as_str.ensures.value)
    ∙ sym c.contains_key.ensures ∙ c.if-contains_key.false in
    btree_map_updates_text (string_bytes c.args.name) c.args.labels.now c.insert.new.self
    (Some c.args.number) c.in_ok-insert.ensures.updates other
    ∙ with_value-new (λ q. get_by_text c.args.labels.now q) (string_bytes c.args.name) c.args.number
    other absent
