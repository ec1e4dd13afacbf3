-- The answer to a client's PDU, and its effect on the bay (ISO 9506-2, IEC 61850-8-1).
--
-- `Answers` is the main file: the answer to a PDU and its effect, as a function of its octets by
-- the grammar of MMS: a reject, an error, or the response to a service. If a response has more
-- octets than agreed, the answer is an error of the class resource, and the PDU has no effect.
--
-- `Bay`: the bay that clients see, which is its name and nameplate, its switches, the rows of its
-- tree, and its controls; a read sees the rows with stSeld TRUE at the selected switch. `Reads` and
-- `Writes` handle the variables in their order, each on the controls after those before it. The
-- result of a read is error 10 for a variable that does not exist; a read of exactly SBO selects,
-- and its result is the control's name, or an empty text if the select is refused. The result of a
-- write is error 10 for a variable that does not exist; 3 for a name that is not SBOw, Oper or
-- Cancel as a whole; 7 and 11 for data of another shape or out of range; 3 for a refused request.
-- `Names`: lists of names. `Replies`: whether a PDU fits.
--
-- `Rows`, `Targets` and `RowParts`: the row and the control that a name denotes. `Controls`: the
-- view of a switch on which a decision depends, from the rows of the tree, and the reports: with
-- enhanced security a report of a refusal precedes the response, and an accepted operate has two
-- reports for its end. A report that is too long is left out.
--
-- `Released`: when a switch may be operated, and that a client changes no value. `Entries`: the
-- requests of a PDU on controls and which of them were accepted, as `Acts` of bay_control.
-- `Accepted`: the same, from the octets of the PDU and its response alone. `Views` maps the code's
-- values to those of the definitions.

pub mod ObservedEntries
pub mod Answers
pub mod Bay
pub mod Controls
pub mod Entries
pub mod Names
pub mod Reads
pub mod Released
pub mod Replies
pub mod RowParts
pub mod Rows
pub mod Targets
pub mod Views
pub mod Writes
