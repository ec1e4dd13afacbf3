-- What each part of a request is read as is what spells it.
use Rattle.std.proofs.Common.{ℕ, zero, suc}
use Rattle.bay_ber.proofs.FormLemmas.{ExactIn, ExactAs, none-exact, made-exact, each-exact, choice-exact, front-exact, exacts}
use Rattle.bay_mms_initiate.proofs.InitiateLemmas.{proposal-exact}
use Rattle.bay_mms.specs.Grammar.{domain_parts, name, variable_parts, variable, access, string, simple, datum_at, scope, class_part, scope_part, get_name_list_parts, get_name_list, attributes_request, read_parts, write_parts, service_request, invoke_id, confirmed_parts, pdu, request, leading_id}
use Rattle.bay_mms.specs.RequestResults.{list_service_parts, list_service_pdu}
use Rattle.bay_ber.specs.Forms.{one}

name-exact : ExactAs name
unfolding name domain_parts
name-exact = search exacts depth 20

access-exact : ExactAs access
unfolding access variable variable_parts
access-exact = search (exacts, name-exact) depth 20

listing-exact : ExactIn get_name_list
unfolding get_name_list get_name_list_parts class_part scope_part scope
listing-exact = search exacts depth 20

simple-exact : ExactAs simple
unfolding simple string
simple-exact = search exacts depth 20

datum-exact : (depth : ℕ) → ExactAs (datum_at depth)
unfolding datum_at
datum-exact zero = none-exact
datum-exact (suc depth) =
    choice-exact _ (made-exact _ (each-exact (datum-exact depth))) simple-exact

service-exact : ExactAs service_request
unfolding service_request attributes_request read_parts write_parts
service-exact = search (exacts, name-exact, access-exact, listing-exact, datum-exact) depth 20

id-exact : ExactAs invoke_id
unfolding invoke_id
id-exact = search exacts depth 20

pub request-exact : ExactIn request
unfolding request pdu confirmed_parts
request-exact = search (exacts, id-exact, service-exact, proposal-exact) depth 20

pub front_id-exact : ExactIn leading_id
unfolding leading_id
front_id-exact = search (exacts, id-exact, front-exact) depth 20

pub list_pdu-exact : ExactIn (one list_service_pdu)
unfolding list_service_pdu list_service_parts
list_pdu-exact = search exacts depth 20
