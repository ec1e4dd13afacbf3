use Rattle.bay_device.proofs.step.run_program.Goals as goal

pub scan_changed-requires-clause-hold : goal.scan_changed-requires-clause-hold
scan_changed-requires-clause-hold c = rw c.as_slice.ensures c.requires.held

pub returns-clause-scans : goal.returns-clause-scans
returns-clause-scans c = rw c.as_slice.ensures at c.scan_changed.ensures.scans

pub returns-clause-kept : goal.returns-clause-kept
returns-clause-kept c = rw c.as_slice.ensures at c.scan_changed.ensures.kept
