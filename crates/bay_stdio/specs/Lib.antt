-- Output that waits for its reader. `Output` is the main file: what a program's output, written or
-- waiting, does at each call and when it is drained. `Offers`: octets that are offered to a sink
-- until it accepts no more, and the rest that still waits. `Queue`: what a queue has room for.
-- `Log`: the lines that wait to be logged, and how many were lost. `Descriptor`: the view of a
-- descriptor.

pub mod Descriptor
pub mod Log
pub mod Offers
pub mod Output
pub mod Queue
