use Rattle.std.proofs.Common.{◌<◌, ◌+◌, ◌∙◌, length, drop, ap, sym, inl, inr, arith}
use Rattle.std.proofs.lemmas.Result.{err_from_is_err_and}
use Rattle.toml.specs.View.{table_view, items_view}
use Rattle.bay_config.specs.Section.{tables_of}
use Rattle.bay_config.specs.Bay.{input_in, input_keys}
use Rattle.bay_config.proofs.EntryLemmas.{entry_check}
use Rattle.bay_config.proofs.ListLemmas.{after, read_all, turn-none, turn-some, turn-refused}
use Rattle.bay_config.proofs.inputs.read_inputs.Goals.{in-Some+in_ok-name+in_ok-push, in_default}
use Rattle.bay_config.proofs.inputs.read_inputs.Goals as goal

pub returns-in_err-name : goal.returns-in_err-name
returns-in_err-name c =
    let vs = c.args.values.now in
    let h : c.loop-i.i < length vs = omega arith in
    let p = err_from_is_err_and c.from_residual.result c.from_residual.ensures.1 in
    rw (p.1, p.2) (elim c.in_err-name.ensures [
      | inl m ↦ inl m
      | inr read ↦
          inr (c.loop-i.invariant
          ∙ turn-refused (entry_check input_keys) input_in vs c.loop-i.i
          c.index-values-i.result c.loop-i.names.items (table_view c.in-Some.table.now)
          c.in_err-name.field-0.0 h c.index-values-i.is c.in-Some.ensures read)
    ])

pub loop-i-preserved : goal.loop-i-preserved
loop-i-preserved c =
    let vs = c.args.values.now in
    let i = c.loop-i.i in
    let v = c.index-values-i.result in
    let done = c.loop-i.names.items in
    let h : i < length vs = omega arith in
    elim c.match-as_table.branch [
      | in-Some+in_ok-name+in_ok-push w ↦
          c.loop-i.invariant
          ∙ turn-some (entry_check input_keys) input_in vs i v done
          (table_view w.in-Some.table.now) w.in_ok-name.name h c.index-values-i.is
          w.in-Some.ensures w.in_ok-name.ensures
          ∙ ap (λ d. after d (read_all (entry_check input_keys) input_in
          (tables_of (items_view (drop (i + 1) vs)))))
          (sym (ap (λ s. s.items) w.names-is ∙ w.in_ok-push.ensures.items))
      | in_default w ↦
          c.loop-i.invariant
          ∙ turn-none (entry_check input_keys) input_in vs i v done h
          c.index-values-i.is w.in_default.ensures
          ∙ ap (λ s. after s.items
          (read_all (entry_check input_keys) input_in
          (tables_of (items_view (drop (i + 1) vs))))) (sym w.names-is)
    ]
