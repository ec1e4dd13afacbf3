-- What the octets of a stream complete (RFC 1006 6, X.224 13, class 0), however they are cut into
-- pieces.
--
-- `Doings` is the main file. It defines, over whole lists, the doings of octets (answers with the
-- size that they agree, TSDUs, an end, and at last a fault), and the state after them: the agreed
-- size, the joined data of an unfinished TSDU and the rest, or that the stream ended or failed.
-- Laws prove that the doings of a list followed by a piece are those of the list, followed by those
-- of the piece from the state after the list.
--
-- `Frame`: a frame has 3, any octet, a length of two octets that counts all of it and is at least
-- 7, and one TPDU; a list of octets is complete frames and a rest. `Connect` (13.3, 13.4): the
-- checks of a connection request, in their order, and its answer. `Wrap` (13.7): the data TPDUs in
-- which a TSDU is sent.
--
-- `Feeding` relates one `feed` to this: its doing, the number of octets it consumes, and the state
-- after it. `Assembly` and `Found`: what the code's buffers and its readers of requests represent.
-- `Code`: the numbers and the words of the faults.

pub mod Code
pub mod Frame
pub mod Connect
pub mod Doings
pub mod Found
pub mod Assembly
pub mod Feeding
pub mod Wrap
