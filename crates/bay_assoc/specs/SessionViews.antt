-- Units as values: as in the code, without the slices they borrow from.
use Rattle.bay_assoc.specs.declared.session.Unit as read
use Rattle.bay_assoc.specs.Session.{Unit}

-- ---- own: views of the code

-- the view of a unit that was read
abbrev pub unit_of : read.Unit → Unit
unit_of u = record { identifier = u.identifier; content = u.content.now }
