-- How association control is read (ISO 8650-1 9): the requests for an association and for a
-- release.
use Rattle.std.specs.Prelude.{List, [], ◌∷◌, ℕ, Option, Some, None, if◌then◌else◌}
use Rattle.std.specs.Str.{bytes_eq}
use Rattle.bay_ber.specs.Forms.{Form, map_form, try_map_form, octets, one, fields, fields_with_tags, tagged, done, value_then}
use Rattle.bay_ber.specs.Tags.{constructed}
use Rattle.bay_ber.specs.Values.{Part}
use Rattle.bay_assoc.specs.Tags.{oid_tag, external_tag, application, mms_application}
use Rattle.bay_assoc.specs.Presentation.{ValueInContext, context_value_parts}

-- ---- ISO 8650-1 AARQ-apdu: the request for an association

-- a name, if it is the application context of MMS
abbrev pub application_of : List ℕ → Option (List ℕ)
application_of name = if bytes_eq name mms_application then Some name else None

-- the application context, which must be that of MMS (application-context-name)
unfoldable pub application_context : Form Part (List ℕ)
application_context =
    tagged (constructed 1) (one (tagged oid_tag (try_map_form application_of octets)))

-- one EXTERNAL (user-information)
unfoldable pub information : Form Part ValueInContext
information = tagged (constructed 30) (one (tagged external_tag (fields context_value_parts)))

-- the application context and the user information; the result is the latter
unfoldable pub associate_parts : Form (List Part) ValueInContext
associate_parts =
    map_form (λ x. x.1.0) (value_then application_context (value_then information done))

-- the request for an association, with these two among its fields (AARQ-apdu)
unfoldable pub associate : Form (List ℕ) ValueInContext
associate =
    one (tagged (application 0)
    (fields_with_tags (constructed 1 ∷ constructed 30 ∷ []) associate_parts))

-- ---- ISO 8650-1 RLRQ-apdu: the request for a release

-- the request for a release, whose content is not read (RLRQ-apdu)
unfoldable pub release : Form (List ℕ) (List ℕ)
release = one (tagged (application 2) octets)
