use Rattle.std.proofs.Common.{map, rules}
use Rattle.toml.specs.View.{items_view}
use Rattle.bay_config.specs.Key.{entry_refusal}
use Rattle.bay_config.specs.Section.{tables_of, list_checks}
use Rattle.bay_config.specs.Switch.{switch_keys, switch_in}
use Rattle.bay_config.proofs.ListLemmas.{judged-append}
use Rattle.bay_config.proofs.switches.read_switch_list.Goals as goal

pub returns-in_err-check_list : goal.returns-in_err-check_list
returns-in_err-check_list c =
    let items = items_view c.args.values.now in
    rw (judged-append (list_checks 1 32 items)
    (map (λ t. entry_refusal (switch_keys t) t) (tables_of items))
    (map switch_in (tables_of items))) (search rules)

pub returns : goal.returns
returns c =
    let items = items_view c.args.values.now in
    rw (judged-append (list_checks 1 32 items)
    (map (λ t. entry_refusal (switch_keys t) t) (tables_of items))
    (map switch_in (tables_of items))) (search rules)
