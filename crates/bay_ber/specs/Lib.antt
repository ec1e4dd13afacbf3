-- BER values (X.690 8.1 to 8.7 and 8.14). The reader accepts a value by its grammar; the writer
-- writes the one canonical encoding, which is the shortest.
--
-- `Spelling` is the main file: a tag of one or two octets, a length of one octet or of 1 to 4 after
-- their count, and the content. `Content`: which contents encode an integer, a bit string or a
-- boolean. `Tags`: when two tags are the same. `Octets`: the number that octets encode, the highest
-- first.
--
-- `Reading`: which value some octets begin with, or why there is none. `Values`: the octets encode
-- exactly these consecutive values, both as a relation and as a function; the law
-- `values_are_spelled` proves that the two agree. Grammars of other crates use `Values`, and read a
-- value's content as values again.
--
-- `Forms`: a message as a form, composed of smaller ones, which is both a reader and a relation of
-- how the message is encoded. `Judged`: verdicts of layers, each on the value that the layer before
-- it read.
--
-- `Writing` (8.1.3, 8.3.2, 10.1, 11.1, 11.2): the canonical encoding. `EncoderBuffers`: the buffer
-- of a writer: a text up to a limit, or none if it got longer, and the headers before it. `Code`:
-- the numbers of the faults.

pub mod Code
pub mod Content
pub mod Forms
pub mod Judged
pub mod Octets
pub mod Reading
pub mod EncoderBuffers
pub mod Spelling
pub mod Tags
pub mod Values
pub mod Writing
