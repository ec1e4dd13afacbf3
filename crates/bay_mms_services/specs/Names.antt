-- Lists of names (ISO 9506-2, GetNameList).
use Rattle.std.specs.Prelude.{ℕ, ℤ, pos, false, List, [], ◌∷◌, Option, Some, None, if◌then◌else◌}
use Rattle.std.specs.Ordering.{int_eq}
use Rattle.std.specs.Str.{bytes_eq}
use Rattle.bay_tree.specs.Page.{rows_after}
use Rattle.bay_tree.specs.Rows.{names_of, row_index}
use Rattle.bay_mms.specs.Pages.{first_page}
use Rattle.bay_mms.specs.Requests.{ObjectScope, whole_vmd, in_domain, of_association}
use Rattle.bay_mms.specs.Responses.{error_text, page_text}
use Rattle.bay_mms.specs.declared.response.ErrorClass.TheVariants.{NoSuchObject}
use Rattle.bay_mms_services.specs.Bay.{Bay}
use Rattle.bay_mms_services.specs.declared.client.ClientContext.{ClientContext}

-- the names after a name: a page of at most 100 names, as many as fit the size of a PDU; an error
-- if the name does not exist
abbrev pub names_after_name : ClientContext → ℕ → Bay → Option (List ℕ) → Option ℕ → List ℕ
names_after_name c id b after None = error_text id NoSuchObject
names_after_name c id b after (Some place) =
    first_page id c.size (names_of (rows_after b.rows after))

-- the names of the variables of the domain after a name, or from the first
abbrev pub variable_names : ClientContext → ℕ → Bay → Option (List ℕ) → List ℕ
variable_names c id b None = first_page id c.size (names_of b.rows)
variable_names c id b (Some name) = names_after_name c id b (Some name) (row_index b.rows name)

-- an empty list; an error after a name, since there is no such name
abbrev pub no_names : ℕ → Option (List ℕ) → List ℕ
no_names id None = page_text id [] false
no_names id (Some name) = error_text id NoSuchObject

-- the list with the one domain
abbrev pub domain_names : ℕ → Bay → Option (List ℕ) → List ℕ
domain_names id b None = page_text id (b.domain ∷ []) false
domain_names id b (Some name) =
    if bytes_eq name b.domain then page_text id [] false else error_text id NoSuchObject

-- The names of a class: class 0 in the domain has the names of its variables, class 9 of the whole
-- device has the domain; all other lists are empty. A domain that does not exist is an error.
abbrev pub name_list_text : ClientContext → ℕ → ℤ → ObjectScope → Option (List ℕ) → Bay → List ℕ
name_list_text c id class whole_vmd after b =
    if int_eq class (pos 9) then domain_names id b after else no_names id after
name_list_text c id class (in_domain d) after b =
    if bytes_eq d b.domain
    then (if int_eq class (pos 0) then variable_names c id b after else no_names id after)
    else error_text id NoSuchObject
name_list_text c id class of_association after b = no_names id after
