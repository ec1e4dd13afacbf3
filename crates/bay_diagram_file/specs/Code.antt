-- The number and the words of each fault of a diagram file, and the fault of a call that is out of
-- memory.
use Rattle.std.specs.Prelude.{ℕ, List, codes, Option, None, Some}
use Rattle.bay_diagram_file.specs.declared.fault.DiagramFault.{DiagramFault}
use Rattle.bay_diagram_file.specs.declared.fault.FaultKind.{FaultKind}
use Rattle.bay_diagram_file.specs.declared.fault.FaultKind.TheVariants.{BadToml, UnknownKey, MissingKey, BadValue, TooMany, DuplicateName, UnknownName, BadSource, BadKeys, BadNodes, Incomplete, OutOfMemory}
use Rattle.bay_diagram_file.specs.declared.fault.Place.TheVariants.{File}

-- the number of a fault, 146 to 155; out of memory has none
abbrev pub code_of : FaultKind → Option ℕ
code_of BadToml = Some 146
code_of UnknownKey = Some 147
code_of MissingKey = Some 148
code_of BadValue = Some 149
code_of TooMany = Some 150
code_of DuplicateName = Some 151
code_of UnknownName = Some 152
code_of BadSource = Some 153
code_of BadKeys = Some 154
code_of BadNodes = Some 154
code_of Incomplete = Some 155
code_of OutOfMemory = None

-- the fault of a call that is out of memory
abbrev pub out_of_memory : DiagramFault
out_of_memory = record { kind = OutOfMemory; place = File }

-- what the fault is, in words
abbrev pub words_of : FaultKind → List ℕ
words_of BadToml = codes "the text is not a TOML document, or is too long: mend it, or shorten it"
words_of UnknownKey =
    codes "a section or a key is unknown: leave it out, or write the one that is meant"
words_of MissingKey = codes "a section or a key is missing: add it"
words_of BadValue =
    codes "a value has a wrong type, or is none of the words of its key: write one of them"
words_of TooMany =
    codes "a section has more than 64 tables: leave out what no switch of the bay can reach"
words_of DuplicateName = codes "two tables have one name: give each its own"
words_of UnknownName =
    codes "a name is unknown: write that of a node, or of a switch or an input of the bay file"
words_of BadSource =
    codes "only a busbar, a line, a cable or a transformer may be a source, and only a source may have the keys `dead` and `system`: leave the keys out, or change the kind"
words_of BadKeys =
    codes "a switch of the bay has the keys `switch` and `nodes`, one of another bay `name`, `kind` and `nodes`, and only a breaker of the bay `synchro` and `coupler`: leave the others out"
words_of BadNodes =
    codes "a switch leads to two nodes, an earthing switch to a node and to an earth, and no other switch to an earth: change its nodes or its kind"
words_of Incomplete =
    codes "a switch of the bay, a switch at a node, or a source is missing: add it"
words_of OutOfMemory = codes "out of memory"
