-- The variable that a client names.
use Rattle.std.specs.Prelude.{ℕ, Option, None, if◌then◌else◌}
use Rattle.std.specs.Str.{bytes_eq}
use Rattle.bay_tree.specs.Rows.{row_index}
use Rattle.bay_mms.specs.Requests.{MmsName, vmd, domain, association}
use Rattle.bay_mms_services.specs.Bay.{Bay}

-- the index of the row with a name; only names in the bay's domain have one
abbrev pub row_named : Bay → MmsName → Option ℕ
row_named b (vmd name) = None
row_named b (domain d item) = if bytes_eq d b.domain then row_index b.rows item else None
row_named b (association name) = None
