use Rattle.bayctl_tests.proofs.bay_device++state++DeviceState+Destruct.drop.Goals as goal

pub invariant_of-drop : goal.invariant_of-drop
invariant_of-drop c =
    let d = c.args.arg1 in
    record {
      bound = d.bound;
      metered = d.metered;
      valued = d.valued;
      modelled = d.modelled;
      released = d.released;
      tabled = d.tabled;
      typed = d.typed;
      spans_sized = d.spans_sized;
      few = d.few;
      spanned = d.spanned;
      held = d.held;
    }
