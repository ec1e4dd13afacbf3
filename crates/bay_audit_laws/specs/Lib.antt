-- The consequences of a rule that holds of a program, and of a release that is harmless, for a
-- device with this program.
--
-- `Laws` is the main file: the values that the process last reported, as a device has them; each
-- scan leaves interlocking values that obey the rule, each command obeys the rule, and none is a
-- hazard if its release is harmless. `Lost`: the values that a program reads while the process is
-- lost, whatever rules hold. `Examples`: a program and rules.
pub mod Examples
pub mod Laws
pub mod Lost
