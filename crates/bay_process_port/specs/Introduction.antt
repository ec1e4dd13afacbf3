-- The first line of a supervised process, with its bay and its key.
use Rattle.std.specs.Prelude.{ℕ, List, codes, Option}
use Rattle.bay_base.specs.Decimals.{read_number}
use Rattle.bay_base.specs.Options.{◌>>=◌}
use Rattle.bay_server_turn.specs.Supervised.{text_without_end}

-- The moment of a first line with this key, domain and revision. The line is a moment, ` bay `, the
-- key, a space, the bay's domain, a space and its revision, which may have spaces.
abbrev pub introduction_moment : List ℕ → List ℕ → List ℕ → List ℕ → Option ℕ
introduction_moment key domain revision line =
    text_without_end revision line >>= text_without_end (codes " ") >>= text_without_end domain
    >>= text_without_end (codes " ")
    >>= text_without_end key >>= text_without_end (codes " bay ") >>= read_number
