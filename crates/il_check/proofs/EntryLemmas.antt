-- One item of a program.
use Rattle.il_text.proofs.ListingLemmas.{view-label, view_instruction, view-block}

pub ruleset entry_rules = (view-label, view_instruction, view-block)
