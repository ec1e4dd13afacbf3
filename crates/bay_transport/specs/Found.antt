-- The values that the code finds in a request, against the definition.
use Rattle.std.specs.Prelude.{ℕ, ◌≡◌, ◌==◌, List, Option, Some, if◌then◌else◌}
use Rattle.std.specs.Option.{option_copied, option_map}
use Rattle.bay_transport.specs.declared.request.ParameterValues.{ParameterValues}
use Rattle.bay_transport.specs.declared.request.ConnectRequest.{ConnectRequest}
use Rattle.bay_transport.specs.Connect.{parameters_of, last_value, answer_parameters}

-- ---- own: the values that the code finds in a request

-- the value found so far for the code `wanted`, after one more parameter
abbrev pub found_then : ℕ → ℕ → List ℕ → Option (List ℕ) → Option (List ℕ)
found_then wanted code value found = if code == wanted then Some value else found

-- The octets are parameters, and these are the values of the last one with each code.
pub record HaveValues (octets : List ℕ) (values : ParameterValues) : Type 0 where
  pub size : option_map (last_value 0xC0) (parameters_of octets) ≡ Some (option_copied values.size)
  pub called : option_map (last_value 0xC2) (parameters_of octets)
      ≡ Some (option_copied values.called)
  pub calling : option_map (last_value 0xC1) (parameters_of octets)
      ≡ Some (option_copied values.calling)

-- the parameters of the answer to a request
abbrev pub parameters_of_answer : ConnectRequest → List ℕ
parameters_of_answer request =
    answer_parameters request.power (option_copied request.called) (option_copied request.calling)
