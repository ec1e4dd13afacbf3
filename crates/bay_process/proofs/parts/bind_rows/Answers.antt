use Rattle.bay_process.proofs.parts.bind_rows.Goals as goal

pub bind_switch_rows-requires-clause-there : goal.bind_switch_rows-requires-clause-there
bind_switch_rows-requires-clause-there c =
    rw (c.in_ok-tree.ensures, c.as_slice.ensures.value) c.requires.switches_there

pub bind_meters-requires-clause-there : goal.bind_meters-requires-clause-there
bind_meters-requires-clause-there c =
    rw (c.in_ok-tree.ensures, c.as_slice-2.ensures.value) c.requires.meters_there
