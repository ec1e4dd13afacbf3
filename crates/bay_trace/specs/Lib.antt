-- A line of a trace. `Trace` is the main file: the forms of a line, as words with one space between
-- them. A name is UTF-8; all other words are ASCII by their forms. It also defines which lines have
-- an event of the process.
--
-- `Digits`: octets in hexadecimal digits. `Resolving`: the event of a device for an event with
-- names: a name becomes an index, and an unknown name an index that no item has; and the buffer for
-- the octets of a line. `Recording`: the line of an event, and the event as which it is read.
-- `TraceView` maps the code's values to plain data.

pub mod Digits
pub mod Resolving
pub mod Recording
pub mod Trace
pub mod TraceView
