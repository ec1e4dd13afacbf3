-- The log lines of the files that are served, each with its sum: the SHA-256 of its octets (FIPS
-- 180-4 6.2), in 64 hexadecimal digits.
use Rattle.std.specs.Prelude.{ℕ, List, [], ◌∷◌, ◌++◌, codes, Option, None, Some}
use Rattle.std.specs.Fmt.{decimal}
use Rattle.bay_io.specs.Moments.{utc_text}
use Rattle.bay_load.specs.declared.load.Form.{Form}
use Rattle.bay_load.specs.declared.load.Form.TheVariants.{Logic, Image}
use Rattle.bay_server.specs.LogLines.{concat}
use Rattle.hex.specs.Hex.{encode_lower}
use Rattle.sha2.specs.Sha256.{sha256}
use Rattle.cmd_serve.specs.declared.sums.ServedFiles.{ServedFiles}

-- words, and the sum of octets
abbrev pub sum_line : ℕ → List ℕ → List ℕ → List ℕ
sum_line now words octets =
    concat (utc_text now ∷ words ∷ encode_lower (sha256 octets) ∷ codes "\n" ∷ [])

-- the words before the sum of a program or an image
abbrev pub program_words : Form → List ℕ
program_words Logic = codes " program SHA-256 "
program_words Image = codes " image SHA-256 "

-- the line of rules or of a diagram, if they were named: words, the sum, and how many rules or
-- releases hold
abbrev pub held_log : ℕ → List ℕ → Option (List ℕ) → ℕ → List (List ℕ)
held_log now words None count = []
held_log now words (Some octets) count =
    concat (utc_text now ∷ words ∷ encode_lower (sha256 octets) ∷ codes ", " ∷ decimal count
    ∷ codes " hold\n" ∷ []) ∷ []

-- the line of each file that is served
abbrev pub sums_log : ℕ → ServedFiles → List (List ℕ)
sums_log now served =
    sum_line now (codes " bay SHA-256 ") served.both.bay.items
    ∷ sum_line now (program_words served.form) served.both.program.items
    ∷ held_log now (codes " rules SHA-256 ") served.rules served.held.rules
    ++ held_log now (codes " diagram SHA-256 ") served.diagram served.held.releases
