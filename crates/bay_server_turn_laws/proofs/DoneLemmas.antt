-- Events done one after the other.
use Rattle.std.proofs.Common.{◌≡◌, ℕ, List, [], ◌∷◌, ◌++◌, Result, refl, ap, sym, ◌∙◌, append_assoc}
use Rattle.bay_device.specs.Device.{State}
use Rattle.bay_device.specs.Outcomes.{outcome}
use Rattle.bay_device.specs.declared.event.Step.{Step}
use Rattle.bay_device.specs.declared.fault.StepFault.{StepFault}
use Rattle.bay_server_turn_laws.specs.Events.{ChosenEvent, outcomes_at, answer_commands, commands_of}

pub record IsBoth (now : ℕ) (xs ys : List ChosenEvent) (s : State) : Type 0 where
  pub after : (outcomes_at now (xs ++ ys) s).after
      ≡ (outcomes_at now ys (outcomes_at now xs s).after).after
  pub answers : (outcomes_at now (xs ++ ys) s).answers
      ≡ (outcomes_at now xs s).answers ++ (outcomes_at now ys (outcomes_at now xs s).after).answers

-- some events, and then others
pub done-append : (now : ℕ) (xs ys : List ChosenEvent) (s : State) → IsBoth now xs ys s
done-append now [] ys s = record { after = refl; answers = refl }
done-append now (x ∷ xs) ys s =
    let o = outcome x.0 now x.1 s in
    let later : IsBoth now xs ys o.after = done-append now xs ys o.after in
    record { after = later.after; answers = ap (λ l. o.answer ∷ l) later.answers }

pub commands-append : (xs ys : List (Result Step StepFault))
    → commands_of (xs ++ ys) ≡ commands_of xs ++ commands_of ys
commands-append [] ys = refl
commands-append (x ∷ xs) ys =
    ap (λ l. answer_commands x ++ l) (commands-append xs ys)
    ∙ sym (append_assoc (answer_commands x) (commands_of xs) (commands_of ys))
