-- The log lines of a record: its room, and its end.
use Rattle.std.specs.Prelude.{ℕ, ◌/◌, List, [], ◌∷◌, codes, Option, None, Some}
use Rattle.std.specs.Fmt.{decimal}
use Rattle.bay_io.specs.Moments.{utc_text}
use Rattle.bay_server_turn.specs.declared.record.RecordEnd.{RecordEnd}
use Rattle.bay_server_turn.specs.declared.record.RecordEnd.TheVariants.{Full, Overlong, Failed}
use Rattle.bay_server.specs.LogLines.{concat}

-- The room of a record in octets, if the session is recorded, and how many minutes it lasts, about.
-- In a minute 120,000 octets come without clients, and 500,000 beside a panel and a station's page.
abbrev pub room_log : ℕ → Option ℕ → List (List ℕ)
room_log now None = []
room_log now (Some most) =
    concat (utc_text now ∷ codes " the record has room for " ∷ decimal most
    ∷ codes " octets: about " ∷ decimal (most / 120000) ∷ codes " minutes without clients, about "
    ∷ decimal (most / 500000) ∷ codes " beside a panel and a station's page\n" ∷ []) ∷ []

-- why a record ends before its server does
abbrev pub end_words : RecordEnd → List ℕ
end_words Full = codes "it is full\n"
end_words Overlong = codes "a line is too long for it\n"
end_words Failed = codes "its file can't be written\n"

-- the line of a record that has ended, if it has
abbrev pub record_log : ℕ → Option RecordEnd → List (List ℕ)
record_log now None = []
record_log now (Some end) =
    concat (utc_text now ∷ codes " the record has ended: " ∷ end_words end ∷ []) ∷ []
