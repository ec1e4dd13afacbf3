-- When two tags are the same, and the tags of messages (X.690 8.1.2.2; X.680, table 1).
use Rattle.std.specs.Prelude.{ℕ, Bool, true, false, ◌&&◌, ◌==◌}
use Rattle.std.specs.Bool.{beq}
use Rattle.bay_ber.specs.declared.tag.Class.{Class}
use Rattle.bay_ber.specs.declared.tag.Class.TheVariants.{Universal, Application, ContextSpecific, Private}
use Rattle.bay_ber.specs.declared.tag.Tag.{Tag}

-- ---- own: when two tags are the same

-- Whether two classes are the same.
abbrev pub same_class : Class → Class → Bool
same_class Universal Universal = true
same_class Application Application = true
same_class ContextSpecific ContextSpecific = true
same_class Private Private = true
same_class first second = false

-- Whether the class, the form and the number are the same.
abbrev pub same_tag : Tag → Tag → Bool
same_tag first second =
    same_class first.class second.class
    && (beq first.constructed second.constructed && (first.number == second.number))

-- ---- X.690 8.1.2.2: context-specific tags

-- the context-specific tag of a primitive value
abbrev pub context : ℕ → Tag
context number = record { class = ContextSpecific; constructed = false; number = number }

-- the context-specific tag of a constructed value
abbrev pub constructed : ℕ → Tag
constructed number = record { class = ContextSpecific; constructed = true; number = number }

-- ---- X.680 table 1: universal tags

-- the tag of a sequence
abbrev pub sequence : Tag
sequence = record { class = Universal; constructed = true; number = 16 }

-- the tag of an integer
abbrev pub int_tag : Tag
int_tag = record { class = Universal; constructed = false; number = 2 }

-- the tag of a visible string
abbrev pub visible_tag : Tag
visible_tag = record { class = Universal; constructed = false; number = 26 }
