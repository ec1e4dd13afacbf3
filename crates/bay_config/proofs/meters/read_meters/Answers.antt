use Rattle.std.proofs.Common.{◌<◌, ◌+◌, ◌∙◌, length, drop, ap, sym, inl, inr, arith}
use Rattle.std.proofs.lemmas.Result.{err_from_is_err_and}
use Rattle.toml.specs.View.{table_view, items_view}
use Rattle.bay_config.specs.Section.{tables_of}
use Rattle.bay_config.specs.Bay.{meter_in, meter_keys}
use Rattle.bay_config.proofs.EntryLemmas.{entry_check}
use Rattle.bay_config.proofs.ListLemmas.{after, read_all, turn-none, turn-some, turn-refused}
use Rattle.bay_config.proofs.meters.read_meters.Goals.{in-Some+in_ok-meter+in_ok-push, in_default}
use Rattle.bay_config.proofs.meters.read_meters.Goals as goal

pub returns-in_err-meter : goal.returns-in_err-meter
returns-in_err-meter c =
    let vs = c.args.values.now in
    let h : c.loop-i.i < length vs = omega arith in
    let p = err_from_is_err_and c.from_residual.result c.from_residual.ensures.1 in
    rw (p.1, p.2) (elim c.in_err-meter.ensures [
      | inl m ↦ inl m
      | inr read ↦
          inr (c.loop-i.invariant
          ∙ turn-refused (entry_check (meter_keys c.args.profile)) (meter_in c.args.profile) vs
          c.loop-i.i
          c.index-values-i.result c.loop-i.meters.items (table_view c.in-Some.table.now)
          c.in_err-meter.field-0.0 h c.index-values-i.is c.in-Some.ensures read)
    ])

pub loop-i-preserved : goal.loop-i-preserved
loop-i-preserved c =
    let vs = c.args.values.now in
    let i = c.loop-i.i in
    let v = c.index-values-i.result in
    let done = c.loop-i.meters.items in
    let h : i < length vs = omega arith in
    elim c.match-as_table.branch [
      | in-Some+in_ok-meter+in_ok-push w ↦
          c.loop-i.invariant
          ∙ turn-some (entry_check (meter_keys c.args.profile)) (meter_in c.args.profile) vs i v
          done
          (table_view w.in-Some.table.now) w.in_ok-meter.meter h c.index-values-i.is
          w.in-Some.ensures w.in_ok-meter.ensures
          ∙ ap (λ d. after d (read_all (entry_check (meter_keys c.args.profile))
          (meter_in c.args.profile)
          (tables_of (items_view (drop (i + 1) vs)))))
          (sym (ap (λ s. s.items) w.meters-is ∙ w.in_ok-push.ensures.items))
      | in_default w ↦
          c.loop-i.invariant
          ∙ turn-none (entry_check (meter_keys c.args.profile)) (meter_in c.args.profile) vs i v
          done h
          c.index-values-i.is w.in_default.ensures
          ∙ ap (λ s. after s.items
          (read_all (entry_check (meter_keys c.args.profile)) (meter_in c.args.profile)
          (tables_of (items_view (drop (i + 1) vs))))) (sym w.meters-is)
    ]
