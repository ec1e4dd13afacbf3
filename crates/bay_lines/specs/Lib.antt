-- Lines from octets that arrive in pieces. `FirstLines` is the main file: octets begin with no
-- complete line yet, with more octets than a line may have, or with a line, followed by the octets
-- after its end. `LineRemovals`: lines are removed while octets arrive, and nothing is lost: the
-- removed lines, each with its end, followed by the octets still in the buffer, are all octets that
-- arrived. `Puts`: texts that are appended to the buffer. `Room`: the capacity of the buffer.
-- `Escaped`: a line escaped for a log.

pub mod LineRemovals
pub mod FirstLines
pub mod Puts
pub mod Room
pub mod Escaped
