-- What each message is read as is what spells it.
use Rattle.bay_ber.proofs.FormLemmas.{ExactIn, ExactAs, exacts, Keeps, octets-keeps, made-keeps, under-keeps, one-keeps, fields-keeps, known-keeps, next-keeps, behind-keeps, behind_maybe-keeps, by_first-keeps}
use Rattle.bay_ber.proofs.ReadLemmas.{IsBytes}
use Rattle.bay_ber.proofs.BackLemmas.{AllBytes}
use Rattle.bay_ber.specs.Forms.{octets, any_octets, integer, try_map_form, tagged, value_then, done}
use Rattle.bay_ber.specs.Tags.{context, constructed, int_tag}
use Rattle.bay_assoc.specs.Tags.{oid_tag}
use Rattle.bay_assoc.specs.Presentation.{selector_of, transfer_syntax, transfer_syntaxes, context_parts, definition, definition_list, context_value_parts, pdv_list, user_part, user_data, connect_parts, normal_parts, normal, mode, mode_parts, cp, request}
use Rattle.bay_assoc.specs.Acse.{application_context, information, associate_parts, associate, release}

definition_list-exact : ExactIn definition_list
unfolding definition_list definition context_parts transfer_syntaxes transfer_syntax
definition_list-exact = search exacts depth 20

user_part-exact : ExactAs user_part
unfolding user_part pdv_list context_value_parts
user_part-exact = search exacts depth 20

-- A value that is carried is octets.
carried-keeps : Keeps AllBytes context_value_parts (λ c. IsBytes c.value)
unfolding context_value_parts
carried-keeps =
    made-keeps _ (behind_maybe-keeps oid_tag any_octets (behind-keeps (tagged int_tag integer)
    (next-keeps done (under-keeps (constructed 0) octets-keeps))))

user_part-keeps : Keeps (λ part. IsBytes part.content) user_part (λ c. IsBytes c.value)
unfolding user_part pdv_list
user_part-keeps = under-keeps _ (one-keeps (under-keeps _ (fields-keeps carried-keeps)))

pub user_data-keeps : Keeps IsBytes user_data (λ c. IsBytes c.value)
unfolding user_data
user_data-keeps = one-keeps user_part-keeps

pub user_data-exact : ExactIn user_data
unfolding user_data
user_data-exact = search (exacts, user_part-exact) depth 20

pub request-exact : ExactIn request
unfolding cp mode_parts mode normal normal_parts connect_parts
request-exact = search (exacts, definition_list-exact, user_part-exact) depth 20

normal-keeps : Keeps (λ part. IsBytes part.content) normal (λ r. IsBytes r.user.value)
unfolding normal normal_parts connect_parts
normal-keeps =
    under-keeps _ (known-keeps _ (made-keeps _ (behind_maybe-keeps (context 1) any_octets
    (made-keeps _ (behind_maybe-keeps (context 2) (try_map_form selector_of octets)
    (behind-keeps (tagged (constructed 4) definition_list) (next-keeps done user_part-keeps)))))))

pub request-keeps : Keeps IsBytes request (λ r. IsBytes r.user.value)
unfolding cp mode_parts
request-keeps =
    one-keeps (under-keeps _ (known-keeps _ (by_first-keeps _
    (made-keeps _ (behind-keeps mode (next-keeps done normal-keeps)))
    (made-keeps _ (next-keeps (value_then mode done) normal-keeps)))))

pub associate-exact : ExactIn associate
unfolding associate associate_parts application_context information context_value_parts
associate-exact = search exacts depth 20

pub associate-keeps : Keeps IsBytes associate (λ c. IsBytes c.value)
unfolding associate associate_parts information
associate-keeps =
    one-keeps (under-keeps _ (known-keeps _ (made-keeps _
    (behind-keeps application_context (next-keeps done
    (under-keeps _ (one-keeps (under-keeps _ (fields-keeps carried-keeps)))))))))

pub release-exact : ExactIn release
unfolding release
release-exact = search exacts depth 20
