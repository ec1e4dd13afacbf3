use Rattle.std.proofs.Common.{ap, ◌∙◌}
use Rattle.bay_transport.specs.Connect.{parameters_of}
use Rattle.bay_transport.proofs.ParameterLemmas.{spelled-read, read-spelled}
use Rattle.bay_transport.proofs.laws.one_reading.Goals as goal

pub returns : goal.returns
returns c = λ octets ps. (λ e. spelled-read octets ps e, λ e. ap parameters_of e ∙ read-spelled ps)
