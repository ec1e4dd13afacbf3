use Rattle.std.proofs.Common.{◌≤◌, length, refl, arith}
use Rattle.std.specs.Option.{option_copied}
use Rattle.bay_transport.specs.Connect.{parameters_of, answer_parameters}
use Rattle.bay_transport.proofs.ParameterLemmas.{answered-within}
use Rattle.bay_transport.proofs.request.respond.Goals as goal

pub confirm-requires : goal.confirm-requires
confirm-requires c =
    let octets = c.args.parameters.now in
    let values = c.in_ok-values.values in
    let found = c.in_ok-values.ensures.ok in
    let h : length (answer_parameters c.in_ok-power.power (option_copied values.called)
    (option_copied values.calling)) ≤ length octets =
    answered-within octets (parameters_of octets) (option_copied values.size)
    (option_copied values.called) (option_copied values.calling) c.in_ok-power.power
    c.in_ok-power.size refl found.size found.called found.calling c.in_ok-power.ensures.ok in
    omega arith
