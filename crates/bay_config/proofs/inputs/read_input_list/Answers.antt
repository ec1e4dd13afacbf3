use Rattle.std.proofs.Common.{map, rules}
use Rattle.toml.specs.View.{items_view}
use Rattle.bay_config.specs.Bay.{input_in, input_keys}
use Rattle.bay_config.specs.Key.{entry_refusal}
use Rattle.bay_config.specs.Section.{tables_of, list_checks}
use Rattle.bay_config.proofs.ListLemmas.{judged-append}
use Rattle.bay_config.proofs.inputs.read_input_list.Goals as goal

pub returns-in_err-check_list : goal.returns-in_err-check_list
returns-in_err-check_list c =
    let items = items_view c.args.values.now in
    rw (judged-append (list_checks 0 64 items)
    (map (λ t. entry_refusal input_keys t) (tables_of items))
    (map input_in (tables_of items))) (search rules)

pub returns : goal.returns
returns c =
    let items = items_view c.args.values.now in
    rw (judged-append (list_checks 0 64 items)
    (map (λ t. entry_refusal input_keys t) (tables_of items))
    (map input_in (tables_of items))) (search rules)
