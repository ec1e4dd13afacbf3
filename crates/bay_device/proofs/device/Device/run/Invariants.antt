use Rattle.std.proofs.Common.{◌≡◌, ◌≤◌, length, drop, vec_len}
use Rattle.std.specs.Prelude.{All, vec_capacity}
use Rattle.bay_device.specs.Commands.{IsSingle}
use Rattle.bay_device.specs.Meaning.{HaltsAt}
use Rattle.bay_device.proofs.RunLemmas.{Goes}
use Rattle.bay_device.proofs.device.Device.run.Given as goal

abbrev pub invariant-loop-now : goal.invariant-loop-now
invariant-loop-now l = record {
  counted : vec_len l.answers ≡ l.now-index;
  room : length l.events ≤ vec_capacity l.answers;
  goes : Goes HaltsAt l.events l.initial.self l.answers.items (drop l.now-index l.events) l.self;
  single : All IsSingle l.answers.items;
}
