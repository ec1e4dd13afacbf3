-- The names behind a name.
use Rattle.std.proofs.Common.{◌≡◌, ℕ, List, Option, Some, None, refl, sym, ◌∙◌}
use Rattle.bay_mms.specs.Pages.{first_page}
use Rattle.bay_mms.specs.Responses.{error_text}
use Rattle.bay_mms.specs.declared.response.ErrorClass.TheVariants.{NoSuchObject}
use Rattle.bay_tree.specs.Page.{IsUnknown, rows_after}
use Rattle.bay_tree.specs.Rows.{names_of, row_index}
use Rattle.bay_tree.proofs.SearchLemmas.{place_of-none, place_of-some}
use Rattle.bay_mms_services.specs.Bay.{Bay}
use Rattle.bay_mms_services.specs.Names.{names_after_name, variable_names}
use Rattle.bay_mms_services.specs.declared.client.ClientContext.{ClientContext}

behind : (c : ClientContext) (id : ℕ) (b : Bay) (name : List ℕ) (place : Option ℕ)
    → row_index b.rows name ≡ place → (IsUnknown b.rows (Some name) → ⊥)
    → names_after_name c id b (Some name) place
    ≡ first_page id c.size (names_of (rows_after b.rows (Some name)))
behind c id b name (Some place) is known = refl
behind c id b name None is known = absurd (known (place_of-none b.rows name is))

pub page-is : (c : ClientContext) (id : ℕ) (b : Bay) (after : Option (List ℕ)) (page : List ℕ)
    → page ≡ first_page id c.size (names_of (rows_after b.rows after))
    → (IsUnknown b.rows after → ⊥)
    → variable_names c id b after ≡ page
page-is c id b None page is known = sym is
page-is c id b (Some name) page is known =
    behind c id b name (row_index b.rows name) refl known ∙ sym is

missing : (c : ClientContext) (id : ℕ) (b : Bay) (name : List ℕ) (place : Option ℕ)
    → row_index b.rows name ≡ place → IsUnknown b.rows (Some name)
    → names_after_name c id b (Some name) place ≡ error_text id NoSuchObject
missing c id b name (Some place) is none = absurd (place_of-some b.rows name place is none)
missing c id b name None is none = refl

pub unknown-is : (c : ClientContext) (id : ℕ) (b : Bay) (after : Option (List ℕ))
    → IsUnknown b.rows after
    → variable_names c id b after ≡ error_text id NoSuchObject
unknown-is c id b None none = absurd none
unknown-is c id b (Some name) none = missing c id b name (row_index b.rows name) refl none
