-- What is taken for a line, and where its octets lie.
use Rattle.std.proofs.Common.{◌≡◌, ℕ, ◌<◌, true, false, Option, Result, Ok, Err, is_err, refl}
use Rattle.bay_device.specs.Device.{State}
use Rattle.bay_device.specs.Outcomes.{outcome}
use Rattle.bay_device.specs.declared.event.Event.{Event}
use Rattle.bay_device.specs.declared.event.Event.TheVariants.{Open, Recv, Close, Contact, Input, Measure, BadMeasure, Lost, Scan}
use Rattle.bay_trace.specs.Resolving.{LineRoom, Decodes, HasDecoded, without_address, octet_count}
use Rattle.bay_trace.specs.Trace.{NamedData}

-- where the octets of an event lie is all the same
pub same-anywhere : (choice : Option ℕ) (now : ℕ) (event : Event) (s : State)
    → outcome choice now event s ≡ outcome choice now (without_address event) s
same-anywhere choice now (Open a) s = refl
same-anywhere choice now (Recv a octets) s = refl
same-anywhere choice now (Close a) s = refl
same-anywhere choice now (Contact k position) s = refl
same-anywhere choice now (Input k value) s = refl
same-anywhere choice now (Measure k field value) s = refl
same-anywhere choice now (BadMeasure k field) s = refl
same-anywhere choice now Lost s = refl
same-anywhere choice now Scan s = refl

pub took-not : {X E : Type 0} (event : NamedData) (old new : LineRoom) (r : Result X E)
    → is_err r ≡ true → Decodes event old new r → old.room < octet_count event
took-not event old new (Ok x) is t = absurd cc
took-not event old new (Err e) is t = t

pub took : {X E : Type 0} (event : NamedData) (old new : LineRoom) (r : Result X E)
    → is_err r ≡ false → Decodes event old new r → HasDecoded event old new
took event old new (Ok x) is t = t
took event old new (Err e) is t = absurd cc
