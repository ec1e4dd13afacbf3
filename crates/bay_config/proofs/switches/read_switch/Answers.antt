use Rattle.std.proofs.Common.{◌∙◌, Some, refl, rules}
use Rattle.toml.specs.View.{table_view}
use Rattle.bay_config.specs.Switch.{control_of, kind_of}
use Rattle.bay_config.proofs.SwitchLemmas.{by_keys}
use Rattle.bay_config.proofs.switches.read_switch.Goals as goal

pub returns-in_err-control : goal.returns-in_err-control
returns-in_err-control c =
    let t = table_view c.args.table.now in
    rw (by_keys t (control_of t) (kind_of t) refl refl) (search rules)

pub returns-in_err-sbo_timeout_ms : goal.returns-in_err-sbo_timeout_ms
returns-in_err-sbo_timeout_ms c =
    let t = table_view c.args.table.now in
    let readable = c.readable_control.ensures ∙ c.in_ok-control.ensures.readable in
    rw (by_keys t (Some c.in_ok-control.control) (kind_of t) c.in_ok-control.ensures.readable
    refl) (search rules)

pub returns-in_err-remote : goal.returns-in_err-remote
returns-in_err-remote c =
    let t = table_view c.args.table.now in
    let readable = c.readable_control.ensures ∙ c.in_ok-control.ensures.readable in
    let of = c.readable_kind.ensures ∙ c.in_ok-kind.ensures.readable in
    rw (by_keys t (Some c.in_ok-control.control) (Some c.in_ok-kind.kind)
    c.in_ok-control.ensures.readable c.in_ok-kind.ensures.readable) (search rules)

pub returns : goal.returns
returns c =
    let t = table_view c.args.table.now in
    let readable = c.readable_control.ensures ∙ c.in_ok-control.ensures.readable in
    let of = c.readable_kind.ensures ∙ c.in_ok-kind.ensures.readable in
    rw (by_keys t (Some c.in_ok-control.control) (Some c.in_ok-kind.kind)
    c.in_ok-control.ensures.readable c.in_ok-kind.ensures.readable) (search rules)
