-- The requests of clients (ISO 9506-2), as values, without the slices they borrow from.
use Rattle.std.specs.Prelude.{ℕ, ℤ, Bool, Option, List}
use Rattle.bay_mms.specs.Data.{Datum}
use Rattle.bay_mms_initiate.specs.declared.initiate.Proposal.{Proposal}

-- the name of an object (ISO 9506-2, ObjectName): in the VMD, in a domain, or in the association
pub data MmsName : Type 0 where
  vmd : List ℕ → MmsName
  domain : List ℕ → List ℕ → MmsName
  association : List ℕ → MmsName

-- the scope whose names are requested, objectScope (ISO 9506-2, GetNameList-Request)
pub data ObjectScope : Type 0 where
  whole_vmd : ObjectScope
  in_domain : List ℕ → ObjectScope
  of_association : ObjectScope

-- a named variable, and whether only a part of it is requested, by alternate access (ISO 9506-2,
-- VariableAccessSpecification)
pub record VariableSpecification : Type 0 where
  pub name : MmsName
  pub is_alternate : Bool

-- the variables of a read or a write: each by its name, or all by the name of a list (ISO 9506-2,
-- VariableAccessSpecification)
pub data Access : Type 0 where
  variables : List VariableSpecification → Access
  named_list : Access

-- a confirmed service that is read here, with its arguments (ISO 9506-2, ConfirmedServiceRequest)
pub data ServiceRequest : Type 0 where
  identify : ServiceRequest
  names : ℤ → ObjectScope → Option (List ℕ) → ServiceRequest
  attributes : MmsName → ServiceRequest
  read : List MmsName → ServiceRequest
  write : List MmsName → List Datum → ServiceRequest

-- a request; a confirmed one has an invoke id (ISO 9506-2, MMSpdu)
pub data MmsRequest : Type 0 where
  initiate : Proposal → MmsRequest
  conclude : MmsRequest
  confirmed : ℕ → ServiceRequest → MmsRequest

-- why a well encoded request is refused, with its invoke id: it requests what is not served, or has
-- too many variables (own)
pub data Denial : Type 0 where
  unknown : ℕ → Denial
  many : ℕ → Denial
