-- Images, octet by octet, and the stack machine that runs them (IEC 61131-3:2003 for values,
-- operations and timers).
--
-- `Machine` is the main file. A state is the offset of the next instruction, the cells of the
-- operand stack with the top first, the slots and the timers. One instruction is one step; each
-- case without a meaning is one of seven traps. A run has a limit of steps. `Values` (table 10),
-- `Arithmetic` (tables 24 and 28: the exact integer result, wrapped to the width in two's
-- complement) and `Timers` (table 38) define what the steps compute. `Timers` also has lists of
-- calls: the last unbroken run of calls with the same IN, and whether PT has passed since its first
-- call.
--
-- `Images` defines the content of an image and its spelling in each version. `Opcodes`, `Octets`,
-- `Spelling` and `Reading` do so for one instruction, and `Codes` has the numbers and the words of
-- the faults. `Decoding` decodes an image from the left; it defines which octet is the first bad
-- one, and for which octets decoding may run out of memory. `Cuts` defines how truncated octets are
-- right so far, `Growth` the octets after a write that failed.
--
-- The rest is for the verifier. `Kinds`: what is known of a cell (nothing, a type, or a nonzero
-- number of a width), with order and join. `Effects`: the kinds after an instruction, if it is
-- allowed on those before. `Offsets`: where instructions begin. `Tables`: tables of kinds that
-- agree with an image's code, and paths through the code.

-- What public clauses cite of the crates below.
pub use Rattle.bay_base.specs.Exact
-- Its own definitions.
pub mod Arithmetic
pub mod Codes
pub mod Cuts
pub mod Decoding
pub mod Effects
pub mod Growth
pub mod Images
pub mod Kinds
pub mod Machine
pub mod Octets
pub mod Opcodes
pub mod Offsets
pub mod Reading
pub mod Spelling
pub mod Tables
pub mod Timers
pub mod Values
