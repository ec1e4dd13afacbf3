-- Requests as values: as in the code, without the slices they borrow from.
use Rattle.std.specs.Prelude.{option_map, map}
use Rattle.bay_mms.specs.declared.request.ObjectName.{ObjectName}
use Rattle.bay_mms.specs.declared.request.ObjectName.TheVariants as name
use Rattle.bay_mms.specs.declared.request.Scope.{Scope}
use Rattle.bay_mms.specs.declared.request.Scope.TheVariants as scope
use Rattle.bay_mms.specs.declared.request.Call.{Call}
use Rattle.bay_mms.specs.declared.request.Call.TheVariants as call
use Rattle.bay_mms.specs.declared.request.Request.{Request}
use Rattle.bay_mms.specs.declared.request.Request.TheVariants as request
use Rattle.bay_mms.specs.declared.access.VariableSpecification as code
use Rattle.bay_mms.specs.Views.{data_in}
use Rattle.bay_mms.specs.Requests.{MmsName, vmd, domain, association, ObjectScope, whole_vmd, in_domain, of_association, VariableSpecification, ServiceRequest, identify, names, attributes, read, write, MmsRequest, initiate, conclude, confirmed}

-- ---- own: views of the code

-- the view of the name of an object
abbrev pub object_name_view : ObjectName → MmsName
object_name_view (name.Vmd text) = vmd text.now
object_name_view (name.Domain d item) = domain d.now item.now
object_name_view (name.Association text) = association text.now

-- the view of the scope of names
abbrev pub scope_view : Scope → ObjectScope
scope_view scope.Vmd = whole_vmd
scope_view (scope.Domain d) = in_domain d.now
scope_view scope.Association = of_association

-- the view of a named variable
abbrev pub variable_view : code.VariableSpecification → VariableSpecification
variable_view v = record { name = object_name_view v.name; is_alternate = v.is_alternate }

-- the view of a service with its arguments
abbrev pub call_view : Call → ServiceRequest
call_view call.Identify = identify
call_view (call.Names class s after) =
    names class (scope_view s) (option_map (λ text. text.now) after)
call_view (call.Attributes n) = attributes (object_name_view n)
call_view (call.Read ns) = read (map object_name_view ns.items)
call_view (call.Write ns values) = write (map object_name_view ns.items) (data_in values.items)

-- the view of a request
abbrev pub request_view : Request → MmsRequest
request_view (request.Initiate proposal) = initiate proposal
request_view request.Conclude = conclude
request_view (request.Confirmed id service) = confirmed id (call_view service)
