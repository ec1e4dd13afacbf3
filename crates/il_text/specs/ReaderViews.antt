-- Inner: the result of reading on from a state of the reader.
use Rattle.std.specs.Prelude.{ℕ, ◌+◌, List, [], ◌++◌, map, drop, Result}
use Rattle.bay_base.specs.Results.{◌>>=◌}
use Rattle.il_text.specs.Listing.{PlainProgram}
use Rattle.il_text.specs.ListingViews.{progress_of}
use Rattle.il_text.specs.Reading.{Progress, program_of_lines, lines, after_line, complete_program}
use Rattle.il_text.specs.Symbols.{text_lexemes}
use Rattle.il_text.specs.Tokens.{Symbol, LexemeData, token}
use Rattle.il_text.specs.TokenViews.{symbols_of}
use Rattle.il_text.specs.declared.fault.TextFault.{TextFault}
use Rattle.il_text.specs.declared.read.Reader as code

-- ---- own: views of the code

-- the result of reading the lexemes on, after the tokens of an unfinished line and the lines before
-- it
unfoldable pub read_on : ℕ → Progress → ℕ → List Symbol → List LexemeData
    → Result PlainProgram TextFault
read_on last r line ss ps = program_of_lines last r line (lines (map token ss ++ ps))

-- the result of reading on from a state of the reader
abbrev pub result_from : code.Reader → Result PlainProgram TextFault
result_from r =
    read_on r.last (progress_of r.listing) r.line (symbols_of r.tokens.items)
    (text_lexemes r.in_comment (drop r.at r.text.now))

-- the result of reading on from a state of the reader, if the line ends here
abbrev pub result_at_line_end : code.Reader → Result PlainProgram TextFault
result_at_line_end r =
    after_line r.line r.last (progress_of r.listing) (symbols_of r.tokens.items)
    >>= (λ s. read_on r.last s (r.line + 1) [] (text_lexemes r.in_comment (drop r.at r.text.now)))

-- the result of reading, if the text ends here
abbrev pub result_at_text_end : code.Reader → Result PlainProgram TextFault
result_at_text_end r =
    after_line r.line r.last (progress_of r.listing) (symbols_of r.tokens.items)
    >>= (λ s. complete_program r.last s.draft)
