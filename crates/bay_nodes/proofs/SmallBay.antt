-- The rows of a small bay in profile 2, listed by hand from the tables of IEC 61850-7-4:2010 and
-- 7-3:2010: a breaker with a key, a disconnector, an earthing switch, two meters, of which one has
-- a scale, and two inputs.
use Rattle.std.proofs.Common.{◌≡◌, ℕ, pos, true, false, List, [], ◌∷◌, ◌++◌, codes, None, Some, refl}
use Rattle.std.specs.Fmt.{digits}
use Rattle.bay_tree.specs.declared.row.Row.{Row}
use Rattle.bay_tree.specs.declared.leaf.Leaf.TheVariants.{Truth, Dbpos, Quality, Int8, Int32, Unsigned8, Unsigned32, Float, Octets, Text, Utc}
use Rattle.bay_tree.specs.declared.leaf.Quality.TheVariants.{Good, Invalid}
use Rattle.bay_base.specs.declared.position.Dbpos.TheVariants.{Intermediate}
use Rattle.bay_base.specs.declared.switch.Control.TheVariants.{Status, Direct, SboEnhanced}
use Rattle.bay_base.specs.declared.switch.SwitchKind.TheVariants.{Breaker, Disconnector, Earthing}
use Rattle.bay_nodes.specs.declared.meter.Meter.{Meter}
use Rattle.bay_nodes.specs.declared.nameplate.Nameplate.{Nameplate}
use Rattle.bay_nodes.specs.declared.profile.Profile.TheVariants.{Two}
use Rattle.bay_nodes.specs.declared.switch.Switch.{Switch}
use Rattle.bay_nodes.specs.Node.{row, bay_rows}

abbrev nameplate : Nameplate
nameplate = record {
  domain = codes "BAY1";
  vendor = codes "Maker";
  model = codes "Model X";
  revision = codes "R7";
  scan_max_age_ms = 1000;
  profile = Two;
}

abbrev switches : List Switch
switches =
    record {
      id = codes "QA1";
      kind = Breaker;
      control = SboEnhanced;
      sbo_timeout_ms = 30000;
      travel_ms = 100;
      remote = Some (codes "remote");
      refuses_synchrocheck = false;
    }
    ∷ record {
      id = codes "QB1";
      kind = Disconnector;
      control = Direct;
      sbo_timeout_ms = 0;
      travel_ms = 9000;
      remote = None;
      refuses_synchrocheck = false;
    }
    ∷ record {
      id = codes "QE1";
      kind = Earthing;
      control = Status;
      sbo_timeout_ms = 0;
      travel_ms = 0;
      remote = None;
      refuses_synchrocheck = false;
    }
    ∷ []

abbrev inputs : List (List ℕ)
inputs = codes "REMOTE" ∷ codes "SF6_LOW" ∷ []

abbrev meters : List Meter
meters =
    record { id = codes "M1"; scale = Some (pos 3) } ∷ record { id = codes "M2"; scale = None } ∷ []

abbrev lln0 : List Row
lln0 =
    row (codes "LLN0") None
    ∷ row (codes "LLN0$ST") None
    ∷ row (codes "LLN0$ST$Mod") None
    ∷ row (codes "LLN0$ST$Mod$stVal") (Some (Int8 (pos 1)))
    ∷ row (codes "LLN0$ST$Mod$q") (Some (Quality Good))
    ∷ row (codes "LLN0$ST$Mod$t") (Some (Utc 0))
    ∷ row (codes "LLN0$ST$Beh") None
    ∷ row (codes "LLN0$ST$Beh$stVal") (Some (Int8 (pos 1)))
    ∷ row (codes "LLN0$ST$Beh$q") (Some (Quality Good))
    ∷ row (codes "LLN0$ST$Beh$t") (Some (Utc 0))
    ∷ row (codes "LLN0$ST$Health") None
    ∷ row (codes "LLN0$ST$Health$stVal") (Some (Int8 (pos 1)))
    ∷ row (codes "LLN0$ST$Health$q") (Some (Quality Good))
    ∷ row (codes "LLN0$ST$Health$t") (Some (Utc 0))
    ∷ row (codes "LLN0$CF") None
    ∷ row (codes "LLN0$CF$Mod") None
    ∷ row (codes "LLN0$CF$Mod$ctlModel") (Some (Int8 (pos 0)))
    ∷ row (codes "LLN0$DC") None
    ∷ row (codes "LLN0$DC$NamPlt") None
    ∷ row (codes "LLN0$DC$NamPlt$vendor") (Some (Text (codes "Maker")))
    ∷ row (codes "LLN0$DC$NamPlt$swRev") (Some (Text (codes "R7")))
    ∷ row (codes "LLN0$DC$NamPlt$d") (Some (Text (codes "Model X")))
    ∷ row (codes "LLN0$DC$NamPlt$configRev") (Some (Text (codes "R7")))
    ∷ row (codes "LLN0$DC$NamPlt$ldNs") (Some (Text (codes "IEC 61850-7-4:2007B")))
    ∷ []

abbrev lphd1 : List Row
lphd1 =
    row (codes "LPHD1") None
    ∷ row (codes "LPHD1$ST") None
    ∷ row (codes "LPHD1$ST$PhyHealth") None
    ∷ row (codes "LPHD1$ST$PhyHealth$stVal") (Some (Int8 (pos 1)))
    ∷ row (codes "LPHD1$ST$PhyHealth$q") (Some (Quality Good))
    ∷ row (codes "LPHD1$ST$PhyHealth$t") (Some (Utc 0))
    ∷ row (codes "LPHD1$ST$Proxy") None
    ∷ row (codes "LPHD1$ST$Proxy$stVal") (Some (Truth false))
    ∷ row (codes "LPHD1$ST$Proxy$q") (Some (Quality Good))
    ∷ row (codes "LPHD1$ST$Proxy$t") (Some (Utc 0))
    ∷ row (codes "LPHD1$DC") None
    ∷ row (codes "LPHD1$DC$PhyNam") None
    ∷ row (codes "LPHD1$DC$PhyNam$vendor") (Some (Text (codes "Maker")))
    ∷ []

abbrev xcbr1 : List Row
xcbr1 =
    row (codes "XCBR1") None
    ∷ row (codes "XCBR1$ST") None
    ∷ row (codes "XCBR1$ST$Beh") None
    ∷ row (codes "XCBR1$ST$Beh$stVal") (Some (Int8 (pos 1)))
    ∷ row (codes "XCBR1$ST$Beh$q") (Some (Quality Good))
    ∷ row (codes "XCBR1$ST$Beh$t") (Some (Utc 0))
    ∷ row (codes "XCBR1$ST$Loc") None
    ∷ row (codes "XCBR1$ST$Loc$stVal") (Some (Truth true))
    ∷ row (codes "XCBR1$ST$Loc$q") (Some (Quality Invalid))
    ∷ row (codes "XCBR1$ST$Loc$t") (Some (Utc 0))
    ∷ row (codes "XCBR1$ST$OpCnt") None
    ∷ row (codes "XCBR1$ST$OpCnt$stVal") (Some (Int32 (pos 0)))
    ∷ row (codes "XCBR1$ST$OpCnt$q") (Some (Quality Good))
    ∷ row (codes "XCBR1$ST$OpCnt$t") (Some (Utc 0))
    ∷ row (codes "XCBR1$ST$CBOpCap") None
    ∷ row (codes "XCBR1$ST$CBOpCap$stVal") (Some (Int8 (pos 2)))
    ∷ row (codes "XCBR1$ST$CBOpCap$q") (Some (Quality Good))
    ∷ row (codes "XCBR1$ST$CBOpCap$t") (Some (Utc 0))
    ∷ row (codes "XCBR1$ST$Pos") None
    ∷ row (codes "XCBR1$ST$Pos$stVal") (Some (Dbpos Intermediate))
    ∷ row (codes "XCBR1$ST$Pos$q") (Some (Quality Invalid))
    ∷ row (codes "XCBR1$ST$Pos$t") (Some (Utc 0))
    ∷ row (codes "XCBR1$ST$BlkOpn") None
    ∷ row (codes "XCBR1$ST$BlkOpn$stVal") (Some (Truth false))
    ∷ row (codes "XCBR1$ST$BlkOpn$q") (Some (Quality Good))
    ∷ row (codes "XCBR1$ST$BlkOpn$t") (Some (Utc 0))
    ∷ row (codes "XCBR1$ST$BlkCls") None
    ∷ row (codes "XCBR1$ST$BlkCls$stVal") (Some (Truth false))
    ∷ row (codes "XCBR1$ST$BlkCls$q") (Some (Quality Good))
    ∷ row (codes "XCBR1$ST$BlkCls$t") (Some (Utc 0))
    ∷ row (codes "XCBR1$CF") None
    ∷ row (codes "XCBR1$CF$Pos") None
    ∷ row (codes "XCBR1$CF$Pos$ctlModel") (Some (Int8 (pos 0)))
    ∷ row (codes "XCBR1$DC") None
    ∷ row (codes "XCBR1$DC$NamPlt") None
    ∷ row (codes "XCBR1$DC$NamPlt$vendor") (Some (Text (codes "Maker")))
    ∷ row (codes "XCBR1$DC$NamPlt$swRev") (Some (Text (codes "R7")))
    ∷ row (codes "XCBR1$DC$NamPlt$d") (Some (Text (codes "QA1")))
    ∷ []

abbrev xswi1 : List Row
xswi1 =
    row (codes "XSWI1") None
    ∷ row (codes "XSWI1$ST") None
    ∷ row (codes "XSWI1$ST$Beh") None
    ∷ row (codes "XSWI1$ST$Beh$stVal") (Some (Int8 (pos 1)))
    ∷ row (codes "XSWI1$ST$Beh$q") (Some (Quality Good))
    ∷ row (codes "XSWI1$ST$Beh$t") (Some (Utc 0))
    ∷ row (codes "XSWI1$ST$Loc") None
    ∷ row (codes "XSWI1$ST$Loc$stVal") (Some (Truth false))
    ∷ row (codes "XSWI1$ST$Loc$q") (Some (Quality Good))
    ∷ row (codes "XSWI1$ST$Loc$t") (Some (Utc 0))
    ∷ row (codes "XSWI1$ST$OpCnt") None
    ∷ row (codes "XSWI1$ST$OpCnt$stVal") (Some (Int32 (pos 0)))
    ∷ row (codes "XSWI1$ST$OpCnt$q") (Some (Quality Good))
    ∷ row (codes "XSWI1$ST$OpCnt$t") (Some (Utc 0))
    ∷ row (codes "XSWI1$ST$SwTyp") None
    ∷ row (codes "XSWI1$ST$SwTyp$stVal") (Some (Int8 (pos 2)))
    ∷ row (codes "XSWI1$ST$SwTyp$q") (Some (Quality Good))
    ∷ row (codes "XSWI1$ST$SwTyp$t") (Some (Utc 0))
    ∷ row (codes "XSWI1$ST$SwOpCap") None
    ∷ row (codes "XSWI1$ST$SwOpCap$stVal") (Some (Int8 (pos 2)))
    ∷ row (codes "XSWI1$ST$SwOpCap$q") (Some (Quality Good))
    ∷ row (codes "XSWI1$ST$SwOpCap$t") (Some (Utc 0))
    ∷ row (codes "XSWI1$ST$Pos") None
    ∷ row (codes "XSWI1$ST$Pos$stVal") (Some (Dbpos Intermediate))
    ∷ row (codes "XSWI1$ST$Pos$q") (Some (Quality Invalid))
    ∷ row (codes "XSWI1$ST$Pos$t") (Some (Utc 0))
    ∷ row (codes "XSWI1$ST$BlkOpn") None
    ∷ row (codes "XSWI1$ST$BlkOpn$stVal") (Some (Truth false))
    ∷ row (codes "XSWI1$ST$BlkOpn$q") (Some (Quality Good))
    ∷ row (codes "XSWI1$ST$BlkOpn$t") (Some (Utc 0))
    ∷ row (codes "XSWI1$ST$BlkCls") None
    ∷ row (codes "XSWI1$ST$BlkCls$stVal") (Some (Truth false))
    ∷ row (codes "XSWI1$ST$BlkCls$q") (Some (Quality Good))
    ∷ row (codes "XSWI1$ST$BlkCls$t") (Some (Utc 0))
    ∷ row (codes "XSWI1$CF") None
    ∷ row (codes "XSWI1$CF$Pos") None
    ∷ row (codes "XSWI1$CF$Pos$ctlModel") (Some (Int8 (pos 0)))
    ∷ row (codes "XSWI1$DC") None
    ∷ row (codes "XSWI1$DC$NamPlt") None
    ∷ row (codes "XSWI1$DC$NamPlt$vendor") (Some (Text (codes "Maker")))
    ∷ row (codes "XSWI1$DC$NamPlt$swRev") (Some (Text (codes "R7")))
    ∷ row (codes "XSWI1$DC$NamPlt$d") (Some (Text (codes "QB1")))
    ∷ []

abbrev xswi2 : List Row
xswi2 =
    row (codes "XSWI2") None
    ∷ row (codes "XSWI2$ST") None
    ∷ row (codes "XSWI2$ST$Beh") None
    ∷ row (codes "XSWI2$ST$Beh$stVal") (Some (Int8 (pos 1)))
    ∷ row (codes "XSWI2$ST$Beh$q") (Some (Quality Good))
    ∷ row (codes "XSWI2$ST$Beh$t") (Some (Utc 0))
    ∷ row (codes "XSWI2$ST$Loc") None
    ∷ row (codes "XSWI2$ST$Loc$stVal") (Some (Truth false))
    ∷ row (codes "XSWI2$ST$Loc$q") (Some (Quality Good))
    ∷ row (codes "XSWI2$ST$Loc$t") (Some (Utc 0))
    ∷ row (codes "XSWI2$ST$OpCnt") None
    ∷ row (codes "XSWI2$ST$OpCnt$stVal") (Some (Int32 (pos 0)))
    ∷ row (codes "XSWI2$ST$OpCnt$q") (Some (Quality Good))
    ∷ row (codes "XSWI2$ST$OpCnt$t") (Some (Utc 0))
    ∷ row (codes "XSWI2$ST$SwTyp") None
    ∷ row (codes "XSWI2$ST$SwTyp$stVal") (Some (Int8 (pos 3)))
    ∷ row (codes "XSWI2$ST$SwTyp$q") (Some (Quality Good))
    ∷ row (codes "XSWI2$ST$SwTyp$t") (Some (Utc 0))
    ∷ row (codes "XSWI2$ST$SwOpCap") None
    ∷ row (codes "XSWI2$ST$SwOpCap$stVal") (Some (Int8 (pos 2)))
    ∷ row (codes "XSWI2$ST$SwOpCap$q") (Some (Quality Good))
    ∷ row (codes "XSWI2$ST$SwOpCap$t") (Some (Utc 0))
    ∷ row (codes "XSWI2$ST$Pos") None
    ∷ row (codes "XSWI2$ST$Pos$stVal") (Some (Dbpos Intermediate))
    ∷ row (codes "XSWI2$ST$Pos$q") (Some (Quality Invalid))
    ∷ row (codes "XSWI2$ST$Pos$t") (Some (Utc 0))
    ∷ row (codes "XSWI2$ST$BlkOpn") None
    ∷ row (codes "XSWI2$ST$BlkOpn$stVal") (Some (Truth false))
    ∷ row (codes "XSWI2$ST$BlkOpn$q") (Some (Quality Good))
    ∷ row (codes "XSWI2$ST$BlkOpn$t") (Some (Utc 0))
    ∷ row (codes "XSWI2$ST$BlkCls") None
    ∷ row (codes "XSWI2$ST$BlkCls$stVal") (Some (Truth false))
    ∷ row (codes "XSWI2$ST$BlkCls$q") (Some (Quality Good))
    ∷ row (codes "XSWI2$ST$BlkCls$t") (Some (Utc 0))
    ∷ row (codes "XSWI2$CF") None
    ∷ row (codes "XSWI2$CF$Pos") None
    ∷ row (codes "XSWI2$CF$Pos$ctlModel") (Some (Int8 (pos 0)))
    ∷ row (codes "XSWI2$DC") None
    ∷ row (codes "XSWI2$DC$NamPlt") None
    ∷ row (codes "XSWI2$DC$NamPlt$vendor") (Some (Text (codes "Maker")))
    ∷ row (codes "XSWI2$DC$NamPlt$swRev") (Some (Text (codes "R7")))
    ∷ row (codes "XSWI2$DC$NamPlt$d") (Some (Text (codes "QE1")))
    ∷ []

abbrev cswi1 : List Row
cswi1 =
    row (codes "CSWI1") None
    ∷ row (codes "CSWI1$ST") None
    ∷ row (codes "CSWI1$ST$Beh") None
    ∷ row (codes "CSWI1$ST$Beh$stVal") (Some (Int8 (pos 1)))
    ∷ row (codes "CSWI1$ST$Beh$q") (Some (Quality Good))
    ∷ row (codes "CSWI1$ST$Beh$t") (Some (Utc 0))
    ∷ row (codes "CSWI1$ST$Pos") None
    ∷ row (codes "CSWI1$ST$Pos$stVal") (Some (Dbpos Intermediate))
    ∷ row (codes "CSWI1$ST$Pos$q") (Some (Quality Invalid))
    ∷ row (codes "CSWI1$ST$Pos$t") (Some (Utc 0))
    ∷ row (codes "CSWI1$ST$Pos$stSeld") (Some (Truth false))
    ∷ row (codes "CSWI1$CO") None
    ∷ row (codes "CSWI1$CO$Pos") None
    ∷ row (codes "CSWI1$CO$Pos$SBOw") None
    ∷ row (codes "CSWI1$CO$Pos$SBOw$ctlVal") (Some (Truth false))
    ∷ row (codes "CSWI1$CO$Pos$SBOw$origin") None
    ∷ row (codes "CSWI1$CO$Pos$SBOw$origin$orCat") (Some (Int8 (pos 0)))
    ∷ row (codes "CSWI1$CO$Pos$SBOw$origin$orIdent") (Some (Octets []))
    ∷ row (codes "CSWI1$CO$Pos$SBOw$ctlNum") (Some (Unsigned8 0))
    ∷ row (codes "CSWI1$CO$Pos$SBOw$T") (Some (Utc 0))
    ∷ row (codes "CSWI1$CO$Pos$SBOw$Test") (Some (Truth false))
    ∷ row (codes "CSWI1$CO$Pos$SBOw$Check") (Some (Dbpos Intermediate))
    ∷ row (codes "CSWI1$CO$Pos$Oper") None
    ∷ row (codes "CSWI1$CO$Pos$Oper$ctlVal") (Some (Truth false))
    ∷ row (codes "CSWI1$CO$Pos$Oper$origin") None
    ∷ row (codes "CSWI1$CO$Pos$Oper$origin$orCat") (Some (Int8 (pos 0)))
    ∷ row (codes "CSWI1$CO$Pos$Oper$origin$orIdent") (Some (Octets []))
    ∷ row (codes "CSWI1$CO$Pos$Oper$ctlNum") (Some (Unsigned8 0))
    ∷ row (codes "CSWI1$CO$Pos$Oper$T") (Some (Utc 0))
    ∷ row (codes "CSWI1$CO$Pos$Oper$Test") (Some (Truth false))
    ∷ row (codes "CSWI1$CO$Pos$Oper$Check") (Some (Dbpos Intermediate))
    ∷ row (codes "CSWI1$CO$Pos$Cancel") None
    ∷ row (codes "CSWI1$CO$Pos$Cancel$ctlVal") (Some (Truth false))
    ∷ row (codes "CSWI1$CO$Pos$Cancel$origin") None
    ∷ row (codes "CSWI1$CO$Pos$Cancel$origin$orCat") (Some (Int8 (pos 0)))
    ∷ row (codes "CSWI1$CO$Pos$Cancel$origin$orIdent") (Some (Octets []))
    ∷ row (codes "CSWI1$CO$Pos$Cancel$ctlNum") (Some (Unsigned8 0))
    ∷ row (codes "CSWI1$CO$Pos$Cancel$T") (Some (Utc 0))
    ∷ row (codes "CSWI1$CO$Pos$Cancel$Test") (Some (Truth false))
    ∷ row (codes "CSWI1$CF") None
    ∷ row (codes "CSWI1$CF$Pos") None
    ∷ row (codes "CSWI1$CF$Pos$ctlModel") (Some (Int8 (pos 4)))
    ∷ row (codes "CSWI1$CF$Pos$sboTimeout") (Some (Unsigned32 30000))
    ∷ row (codes "CSWI1$DC") None
    ∷ row (codes "CSWI1$DC$NamPlt") None
    ∷ row (codes "CSWI1$DC$NamPlt$vendor") (Some (Text (codes "Maker")))
    ∷ row (codes "CSWI1$DC$NamPlt$swRev") (Some (Text (codes "R7")))
    ∷ row (codes "CSWI1$DC$NamPlt$d") (Some (Text (codes "QA1")))
    ∷ []

abbrev cswi2 : List Row
cswi2 =
    row (codes "CSWI2") None
    ∷ row (codes "CSWI2$ST") None
    ∷ row (codes "CSWI2$ST$Beh") None
    ∷ row (codes "CSWI2$ST$Beh$stVal") (Some (Int8 (pos 1)))
    ∷ row (codes "CSWI2$ST$Beh$q") (Some (Quality Good))
    ∷ row (codes "CSWI2$ST$Beh$t") (Some (Utc 0))
    ∷ row (codes "CSWI2$ST$Pos") None
    ∷ row (codes "CSWI2$ST$Pos$stVal") (Some (Dbpos Intermediate))
    ∷ row (codes "CSWI2$ST$Pos$q") (Some (Quality Invalid))
    ∷ row (codes "CSWI2$ST$Pos$t") (Some (Utc 0))
    ∷ row (codes "CSWI2$ST$Pos$stSeld") (Some (Truth false))
    ∷ row (codes "CSWI2$CO") None
    ∷ row (codes "CSWI2$CO$Pos") None
    ∷ row (codes "CSWI2$CO$Pos$Oper") None
    ∷ row (codes "CSWI2$CO$Pos$Oper$ctlVal") (Some (Truth false))
    ∷ row (codes "CSWI2$CO$Pos$Oper$origin") None
    ∷ row (codes "CSWI2$CO$Pos$Oper$origin$orCat") (Some (Int8 (pos 0)))
    ∷ row (codes "CSWI2$CO$Pos$Oper$origin$orIdent") (Some (Octets []))
    ∷ row (codes "CSWI2$CO$Pos$Oper$ctlNum") (Some (Unsigned8 0))
    ∷ row (codes "CSWI2$CO$Pos$Oper$T") (Some (Utc 0))
    ∷ row (codes "CSWI2$CO$Pos$Oper$Test") (Some (Truth false))
    ∷ row (codes "CSWI2$CO$Pos$Oper$Check") (Some (Dbpos Intermediate))
    ∷ row (codes "CSWI2$CF") None
    ∷ row (codes "CSWI2$CF$Pos") None
    ∷ row (codes "CSWI2$CF$Pos$ctlModel") (Some (Int8 (pos 1)))
    ∷ row (codes "CSWI2$CF$Pos$sboTimeout") (Some (Unsigned32 0))
    ∷ row (codes "CSWI2$DC") None
    ∷ row (codes "CSWI2$DC$NamPlt") None
    ∷ row (codes "CSWI2$DC$NamPlt$vendor") (Some (Text (codes "Maker")))
    ∷ row (codes "CSWI2$DC$NamPlt$swRev") (Some (Text (codes "R7")))
    ∷ row (codes "CSWI2$DC$NamPlt$d") (Some (Text (codes "QB1")))
    ∷ []

abbrev cswi3 : List Row
cswi3 =
    row (codes "CSWI3") None
    ∷ row (codes "CSWI3$ST") None
    ∷ row (codes "CSWI3$ST$Beh") None
    ∷ row (codes "CSWI3$ST$Beh$stVal") (Some (Int8 (pos 1)))
    ∷ row (codes "CSWI3$ST$Beh$q") (Some (Quality Good))
    ∷ row (codes "CSWI3$ST$Beh$t") (Some (Utc 0))
    ∷ row (codes "CSWI3$ST$Pos") None
    ∷ row (codes "CSWI3$ST$Pos$stVal") (Some (Dbpos Intermediate))
    ∷ row (codes "CSWI3$ST$Pos$q") (Some (Quality Invalid))
    ∷ row (codes "CSWI3$ST$Pos$t") (Some (Utc 0))
    ∷ row (codes "CSWI3$ST$Pos$stSeld") (Some (Truth false))
    ∷ row (codes "CSWI3$CF") None
    ∷ row (codes "CSWI3$CF$Pos") None
    ∷ row (codes "CSWI3$CF$Pos$ctlModel") (Some (Int8 (pos 0)))
    ∷ row (codes "CSWI3$CF$Pos$sboTimeout") (Some (Unsigned32 0))
    ∷ row (codes "CSWI3$DC") None
    ∷ row (codes "CSWI3$DC$NamPlt") None
    ∷ row (codes "CSWI3$DC$NamPlt$vendor") (Some (Text (codes "Maker")))
    ∷ row (codes "CSWI3$DC$NamPlt$swRev") (Some (Text (codes "R7")))
    ∷ row (codes "CSWI3$DC$NamPlt$d") (Some (Text (codes "QE1")))
    ∷ []

abbrev cilo1 : List Row
cilo1 =
    row (codes "CILO1") None
    ∷ row (codes "CILO1$ST") None
    ∷ row (codes "CILO1$ST$Beh") None
    ∷ row (codes "CILO1$ST$Beh$stVal") (Some (Int8 (pos 1)))
    ∷ row (codes "CILO1$ST$Beh$q") (Some (Quality Good))
    ∷ row (codes "CILO1$ST$Beh$t") (Some (Utc 0))
    ∷ row (codes "CILO1$ST$EnaOpn") None
    ∷ row (codes "CILO1$ST$EnaOpn$stVal") (Some (Truth false))
    ∷ row (codes "CILO1$ST$EnaOpn$q") (Some (Quality Invalid))
    ∷ row (codes "CILO1$ST$EnaOpn$t") (Some (Utc 0))
    ∷ row (codes "CILO1$ST$EnaCls") None
    ∷ row (codes "CILO1$ST$EnaCls$stVal") (Some (Truth false))
    ∷ row (codes "CILO1$ST$EnaCls$q") (Some (Quality Invalid))
    ∷ row (codes "CILO1$ST$EnaCls$t") (Some (Utc 0))
    ∷ row (codes "CILO1$DC") None
    ∷ row (codes "CILO1$DC$NamPlt") None
    ∷ row (codes "CILO1$DC$NamPlt$vendor") (Some (Text (codes "Maker")))
    ∷ row (codes "CILO1$DC$NamPlt$swRev") (Some (Text (codes "R7")))
    ∷ row (codes "CILO1$DC$NamPlt$d") (Some (Text (codes "QA1")))
    ∷ []

abbrev cilo2 : List Row
cilo2 =
    row (codes "CILO2") None
    ∷ row (codes "CILO2$ST") None
    ∷ row (codes "CILO2$ST$Beh") None
    ∷ row (codes "CILO2$ST$Beh$stVal") (Some (Int8 (pos 1)))
    ∷ row (codes "CILO2$ST$Beh$q") (Some (Quality Good))
    ∷ row (codes "CILO2$ST$Beh$t") (Some (Utc 0))
    ∷ row (codes "CILO2$ST$EnaOpn") None
    ∷ row (codes "CILO2$ST$EnaOpn$stVal") (Some (Truth false))
    ∷ row (codes "CILO2$ST$EnaOpn$q") (Some (Quality Invalid))
    ∷ row (codes "CILO2$ST$EnaOpn$t") (Some (Utc 0))
    ∷ row (codes "CILO2$ST$EnaCls") None
    ∷ row (codes "CILO2$ST$EnaCls$stVal") (Some (Truth false))
    ∷ row (codes "CILO2$ST$EnaCls$q") (Some (Quality Invalid))
    ∷ row (codes "CILO2$ST$EnaCls$t") (Some (Utc 0))
    ∷ row (codes "CILO2$DC") None
    ∷ row (codes "CILO2$DC$NamPlt") None
    ∷ row (codes "CILO2$DC$NamPlt$vendor") (Some (Text (codes "Maker")))
    ∷ row (codes "CILO2$DC$NamPlt$swRev") (Some (Text (codes "R7")))
    ∷ row (codes "CILO2$DC$NamPlt$d") (Some (Text (codes "QB1")))
    ∷ []

abbrev cilo3 : List Row
cilo3 =
    row (codes "CILO3") None
    ∷ row (codes "CILO3$ST") None
    ∷ row (codes "CILO3$ST$Beh") None
    ∷ row (codes "CILO3$ST$Beh$stVal") (Some (Int8 (pos 1)))
    ∷ row (codes "CILO3$ST$Beh$q") (Some (Quality Good))
    ∷ row (codes "CILO3$ST$Beh$t") (Some (Utc 0))
    ∷ row (codes "CILO3$ST$EnaOpn") None
    ∷ row (codes "CILO3$ST$EnaOpn$stVal") (Some (Truth false))
    ∷ row (codes "CILO3$ST$EnaOpn$q") (Some (Quality Invalid))
    ∷ row (codes "CILO3$ST$EnaOpn$t") (Some (Utc 0))
    ∷ row (codes "CILO3$ST$EnaCls") None
    ∷ row (codes "CILO3$ST$EnaCls$stVal") (Some (Truth false))
    ∷ row (codes "CILO3$ST$EnaCls$q") (Some (Quality Invalid))
    ∷ row (codes "CILO3$ST$EnaCls$t") (Some (Utc 0))
    ∷ row (codes "CILO3$DC") None
    ∷ row (codes "CILO3$DC$NamPlt") None
    ∷ row (codes "CILO3$DC$NamPlt$vendor") (Some (Text (codes "Maker")))
    ∷ row (codes "CILO3$DC$NamPlt$swRev") (Some (Text (codes "R7")))
    ∷ row (codes "CILO3$DC$NamPlt$d") (Some (Text (codes "QE1")))
    ∷ []

abbrev mmxu1 : List Row
mmxu1 =
    row (codes "MMXU1") None
    ∷ row (codes "MMXU1$ST") None
    ∷ row (codes "MMXU1$ST$Beh") None
    ∷ row (codes "MMXU1$ST$Beh$stVal") (Some (Int8 (pos 1)))
    ∷ row (codes "MMXU1$ST$Beh$q") (Some (Quality Good))
    ∷ row (codes "MMXU1$ST$Beh$t") (Some (Utc 0))
    ∷ row (codes "MMXU1$MX") None
    ∷ row (codes "MMXU1$MX$TotW") None
    ∷ row (codes "MMXU1$MX$TotW$mag") None
    ∷ row (codes "MMXU1$MX$TotW$mag$i") (Some (Int32 (pos 0)))
    ∷ row (codes "MMXU1$MX$TotW$mag$f") (Some (Float (pos 0)))
    ∷ row (codes "MMXU1$MX$TotW$q") (Some (Quality Invalid))
    ∷ row (codes "MMXU1$MX$TotW$t") (Some (Utc 0))
    ∷ row (codes "MMXU1$MX$TotVAr") None
    ∷ row (codes "MMXU1$MX$TotVAr$mag") None
    ∷ row (codes "MMXU1$MX$TotVAr$mag$i") (Some (Int32 (pos 0)))
    ∷ row (codes "MMXU1$MX$TotVAr$mag$f") (Some (Float (pos 0)))
    ∷ row (codes "MMXU1$MX$TotVAr$q") (Some (Quality Invalid))
    ∷ row (codes "MMXU1$MX$TotVAr$t") (Some (Utc 0))
    ∷ row (codes "MMXU1$MX$Hz") None
    ∷ row (codes "MMXU1$MX$Hz$mag") None
    ∷ row (codes "MMXU1$MX$Hz$mag$i") (Some (Int32 (pos 0)))
    ∷ row (codes "MMXU1$MX$Hz$mag$f") (Some (Float (pos 0)))
    ∷ row (codes "MMXU1$MX$Hz$q") (Some (Quality Invalid))
    ∷ row (codes "MMXU1$MX$Hz$t") (Some (Utc 0))
    ∷ row (codes "MMXU1$MX$A") None
    ∷ row (codes "MMXU1$MX$A$phsA") None
    ∷ row (codes "MMXU1$MX$A$phsA$cVal") None
    ∷ row (codes "MMXU1$MX$A$phsA$cVal$mag") None
    ∷ row (codes "MMXU1$MX$A$phsA$cVal$mag$i") (Some (Int32 (pos 0)))
    ∷ row (codes "MMXU1$MX$A$phsA$cVal$mag$f") (Some (Float (pos 0)))
    ∷ row (codes "MMXU1$MX$A$phsA$q") (Some (Quality Invalid))
    ∷ row (codes "MMXU1$MX$A$phsA$t") (Some (Utc 0))
    ∷ row (codes "MMXU1$MX$A$phsB") None
    ∷ row (codes "MMXU1$MX$A$phsB$cVal") None
    ∷ row (codes "MMXU1$MX$A$phsB$cVal$mag") None
    ∷ row (codes "MMXU1$MX$A$phsB$cVal$mag$i") (Some (Int32 (pos 0)))
    ∷ row (codes "MMXU1$MX$A$phsB$cVal$mag$f") (Some (Float (pos 0)))
    ∷ row (codes "MMXU1$MX$A$phsB$q") (Some (Quality Invalid))
    ∷ row (codes "MMXU1$MX$A$phsB$t") (Some (Utc 0))
    ∷ row (codes "MMXU1$MX$A$phsC") None
    ∷ row (codes "MMXU1$MX$A$phsC$cVal") None
    ∷ row (codes "MMXU1$MX$A$phsC$cVal$mag") None
    ∷ row (codes "MMXU1$MX$A$phsC$cVal$mag$i") (Some (Int32 (pos 0)))
    ∷ row (codes "MMXU1$MX$A$phsC$cVal$mag$f") (Some (Float (pos 0)))
    ∷ row (codes "MMXU1$MX$A$phsC$q") (Some (Quality Invalid))
    ∷ row (codes "MMXU1$MX$A$phsC$t") (Some (Utc 0))
    ∷ row (codes "MMXU1$CF") None
    ∷ row (codes "MMXU1$CF$TotW") None
    ∷ row (codes "MMXU1$CF$TotW$units") None
    ∷ row (codes "MMXU1$CF$TotW$units$SIUnit") (Some (Int8 (pos 62)))
    ∷ row (codes "MMXU1$CF$TotW$units$multiplier") (Some (Int8 (pos 3)))
    ∷ row (codes "MMXU1$CF$TotVAr") None
    ∷ row (codes "MMXU1$CF$TotVAr$units") None
    ∷ row (codes "MMXU1$CF$TotVAr$units$SIUnit") (Some (Int8 (pos 63)))
    ∷ row (codes "MMXU1$CF$TotVAr$units$multiplier") (Some (Int8 (pos 3)))
    ∷ row (codes "MMXU1$CF$Hz") None
    ∷ row (codes "MMXU1$CF$Hz$units") None
    ∷ row (codes "MMXU1$CF$Hz$units$SIUnit") (Some (Int8 (pos 33)))
    ∷ row (codes "MMXU1$CF$Hz$units$multiplier") (Some (Int8 (pos 3)))
    ∷ row (codes "MMXU1$CF$A") None
    ∷ row (codes "MMXU1$CF$A$phsA") None
    ∷ row (codes "MMXU1$CF$A$phsA$units") None
    ∷ row (codes "MMXU1$CF$A$phsA$units$SIUnit") (Some (Int8 (pos 5)))
    ∷ row (codes "MMXU1$CF$A$phsA$units$multiplier") (Some (Int8 (pos 3)))
    ∷ row (codes "MMXU1$CF$A$phsB") None
    ∷ row (codes "MMXU1$CF$A$phsB$units") None
    ∷ row (codes "MMXU1$CF$A$phsB$units$SIUnit") (Some (Int8 (pos 5)))
    ∷ row (codes "MMXU1$CF$A$phsB$units$multiplier") (Some (Int8 (pos 3)))
    ∷ row (codes "MMXU1$CF$A$phsC") None
    ∷ row (codes "MMXU1$CF$A$phsC$units") None
    ∷ row (codes "MMXU1$CF$A$phsC$units$SIUnit") (Some (Int8 (pos 5)))
    ∷ row (codes "MMXU1$CF$A$phsC$units$multiplier") (Some (Int8 (pos 3)))
    ∷ row (codes "MMXU1$DC") None
    ∷ row (codes "MMXU1$DC$NamPlt") None
    ∷ row (codes "MMXU1$DC$NamPlt$vendor") (Some (Text (codes "Maker")))
    ∷ row (codes "MMXU1$DC$NamPlt$swRev") (Some (Text (codes "R7")))
    ∷ row (codes "MMXU1$DC$NamPlt$d") (Some (Text (codes "M1")))
    ∷ []

abbrev mmxu2 : List Row
mmxu2 =
    row (codes "MMXU2") None
    ∷ row (codes "MMXU2$ST") None
    ∷ row (codes "MMXU2$ST$Beh") None
    ∷ row (codes "MMXU2$ST$Beh$stVal") (Some (Int8 (pos 1)))
    ∷ row (codes "MMXU2$ST$Beh$q") (Some (Quality Good))
    ∷ row (codes "MMXU2$ST$Beh$t") (Some (Utc 0))
    ∷ row (codes "MMXU2$MX") None
    ∷ row (codes "MMXU2$MX$TotW") None
    ∷ row (codes "MMXU2$MX$TotW$mag") None
    ∷ row (codes "MMXU2$MX$TotW$mag$i") (Some (Int32 (pos 0)))
    ∷ row (codes "MMXU2$MX$TotW$q") (Some (Quality Invalid))
    ∷ row (codes "MMXU2$MX$TotW$t") (Some (Utc 0))
    ∷ row (codes "MMXU2$MX$TotVAr") None
    ∷ row (codes "MMXU2$MX$TotVAr$mag") None
    ∷ row (codes "MMXU2$MX$TotVAr$mag$i") (Some (Int32 (pos 0)))
    ∷ row (codes "MMXU2$MX$TotVAr$q") (Some (Quality Invalid))
    ∷ row (codes "MMXU2$MX$TotVAr$t") (Some (Utc 0))
    ∷ row (codes "MMXU2$MX$Hz") None
    ∷ row (codes "MMXU2$MX$Hz$mag") None
    ∷ row (codes "MMXU2$MX$Hz$mag$i") (Some (Int32 (pos 0)))
    ∷ row (codes "MMXU2$MX$Hz$q") (Some (Quality Invalid))
    ∷ row (codes "MMXU2$MX$Hz$t") (Some (Utc 0))
    ∷ row (codes "MMXU2$MX$A") None
    ∷ row (codes "MMXU2$MX$A$phsA") None
    ∷ row (codes "MMXU2$MX$A$phsA$cVal") None
    ∷ row (codes "MMXU2$MX$A$phsA$cVal$mag") None
    ∷ row (codes "MMXU2$MX$A$phsA$cVal$mag$i") (Some (Int32 (pos 0)))
    ∷ row (codes "MMXU2$MX$A$phsA$q") (Some (Quality Invalid))
    ∷ row (codes "MMXU2$MX$A$phsA$t") (Some (Utc 0))
    ∷ row (codes "MMXU2$MX$A$phsB") None
    ∷ row (codes "MMXU2$MX$A$phsB$cVal") None
    ∷ row (codes "MMXU2$MX$A$phsB$cVal$mag") None
    ∷ row (codes "MMXU2$MX$A$phsB$cVal$mag$i") (Some (Int32 (pos 0)))
    ∷ row (codes "MMXU2$MX$A$phsB$q") (Some (Quality Invalid))
    ∷ row (codes "MMXU2$MX$A$phsB$t") (Some (Utc 0))
    ∷ row (codes "MMXU2$MX$A$phsC") None
    ∷ row (codes "MMXU2$MX$A$phsC$cVal") None
    ∷ row (codes "MMXU2$MX$A$phsC$cVal$mag") None
    ∷ row (codes "MMXU2$MX$A$phsC$cVal$mag$i") (Some (Int32 (pos 0)))
    ∷ row (codes "MMXU2$MX$A$phsC$q") (Some (Quality Invalid))
    ∷ row (codes "MMXU2$MX$A$phsC$t") (Some (Utc 0))
    ∷ row (codes "MMXU2$DC") None
    ∷ row (codes "MMXU2$DC$NamPlt") None
    ∷ row (codes "MMXU2$DC$NamPlt$vendor") (Some (Text (codes "Maker")))
    ∷ row (codes "MMXU2$DC$NamPlt$swRev") (Some (Text (codes "R7")))
    ∷ row (codes "MMXU2$DC$NamPlt$d") (Some (Text (codes "M2")))
    ∷ []

abbrev ggio1 : List Row
ggio1 =
    row (codes "GGIO1") None
    ∷ row (codes "GGIO1$ST") None
    ∷ row (codes "GGIO1$ST$Beh") None
    ∷ row (codes "GGIO1$ST$Beh$stVal") (Some (Int8 (pos 1)))
    ∷ row (codes "GGIO1$ST$Beh$q") (Some (Quality Good))
    ∷ row (codes "GGIO1$ST$Beh$t") (Some (Utc 0))
    ∷ row (codes "GGIO1$ST$Ind1") None
    ∷ row (codes "GGIO1$ST$Ind1$stVal") (Some (Truth false))
    ∷ row (codes "GGIO1$ST$Ind1$q") (Some (Quality Invalid))
    ∷ row (codes "GGIO1$ST$Ind1$t") (Some (Utc 0))
    ∷ row (codes "GGIO1$ST$Ind2") None
    ∷ row (codes "GGIO1$ST$Ind2$stVal") (Some (Truth false))
    ∷ row (codes "GGIO1$ST$Ind2$q") (Some (Quality Invalid))
    ∷ row (codes "GGIO1$ST$Ind2$t") (Some (Utc 0))
    ∷ row (codes "GGIO1$DC") None
    ∷ row (codes "GGIO1$DC$NamPlt") None
    ∷ row (codes "GGIO1$DC$NamPlt$vendor") (Some (Text (codes "Maker")))
    ∷ row (codes "GGIO1$DC$NamPlt$swRev") (Some (Text (codes "R7")))
    ∷ row (codes "GGIO1$DC$NamPlt$d") (Some (Text (codes "Model X")))
    ∷ row (codes "GGIO1$DC$Ind1") None
    ∷ row (codes "GGIO1$DC$Ind1$d") (Some (Text (codes "REMOTE")))
    ∷ row (codes "GGIO1$DC$Ind2") None
    ∷ row (codes "GGIO1$DC$Ind2$d") (Some (Text (codes "SF6_LOW")))
    ∷ []

abbrev small_rows : List Row
small_rows =
    lln0 ++ (lphd1 ++ (xcbr1
    ++ (xswi1
    ++ (xswi2
    ++ (cswi1
    ++ (cswi2 ++ (cswi3 ++ (cilo1 ++ (cilo2 ++ (cilo3 ++ (mmxu1 ++ (mmxu2 ++ (ggio1)))))))))))))

-- the rows of the small bay are these
small-bay : bay_rows nameplate switches inputs meters ≡ small_rows
unfolding digits
small-bay = refl
