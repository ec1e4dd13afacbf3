-- What is printed. `Lines` is the main file: the text of an event, as a function of its answer and
-- of the device after it. `Report`: the text of a load's line, of a fault and its status; and what
-- became of a text: all of it reached the writer and was flushed, or a write or a flush failed and
-- the writer has only a prefix of it. `LogLines`: the line that is logged for a fault. `TextLines`:
-- the lines of a text, which end in LF or CR LF.

pub mod Lines
pub mod LogLines
pub mod Report
pub mod TextLines
