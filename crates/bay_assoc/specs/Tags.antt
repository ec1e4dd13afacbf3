-- Tags and object identifiers of the presentation layer and of ACSE (X.690 8.1.2.2, 8.18, 8.19; ISO
-- 8823-1 8.2; ISO 8650-1 9).
use Rattle.std.specs.Prelude.{ℕ, true, false, List, [], ◌∷◌}
use Rattle.bay_ber.specs.declared.tag.Tag.{Tag}
use Rattle.bay_ber.specs.declared.tag.Class.TheVariants.{Universal, Application}

-- ---- X.680 table 1: universal tags

-- an object identifier
abbrev pub oid_tag : Tag
oid_tag = record { class = Universal; constructed = false; number = 6 }

-- a set
abbrev pub set_tag : Tag
set_tag = record { class = Universal; constructed = true; number = 17 }

-- an EXTERNAL
abbrev pub external_tag : Tag
external_tag = record { class = Universal; constructed = true; number = 8 }

-- an application tag of a constructed value (X.690 8.1.2.2)
abbrev pub application : ℕ → Tag
application number = record { class = Application; constructed = true; number = number }

-- the abstract syntax of ACSE, 2.2.1.0.1 (ISO 8650-1 9)
abbrev pub acse_syntax : List ℕ
acse_syntax = 0x52 ∷ 0x01 ∷ 0x00 ∷ 0x01 ∷ []

-- the abstract syntax of MMS, 1.0.9506.2.1 (ISO 9506-2, ISO-9506-MMS-1)
abbrev pub mms_syntax : List ℕ
mms_syntax = 0x28 ∷ 0xCA ∷ 0x22 ∷ 0x02 ∷ 0x01 ∷ []

-- the Basic Encoding Rules as a transfer syntax, 2.1.1 (X.690 12)
abbrev pub ber_syntax : List ℕ
ber_syntax = 0x51 ∷ 0x01 ∷ []

-- the application context of MMS (ISO 9506-2, 1.0.9506.2.3)
abbrev pub mms_application : List ℕ
mms_application = 0x28 ∷ 0xCA ∷ 0x22 ∷ 0x02 ∷ 0x03 ∷ []
