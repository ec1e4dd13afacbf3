use Rattle.bay_trace.proofs.RecordLemmas.{event-read}
use Rattle.bay_trace.proofs.record_lines.recorded_events_are_read_as_themselves.Goals as goal

pub returns : goal.returns
returns c = event-read
