-- Which instructions of a text are valid, one after the other, by the language's tables (IEC
-- 61131-3:2003, 3.2).
use Rattle.std.specs.Prelude.{◌≡◌, ℕ, ◌-◌, ◌<◌, List, [], ◌∷◌, Option, Some, None}
use Rattle.bay_base.specs.declared.types.ElementaryType.{ElementaryType}
use Rattle.bay_base.specs.declared.point.Point.{Point}
use Rattle.il_text.specs.Listing as text
use Rattle.il_text.specs.declared.program.Condition.TheVariants.{Always}
use Rattle.il_check.specs.Declaring.{names_in}
use Rattle.il_check.specs.SourceOperands.{ProgramNames}
use Rattle.il_check.specs.Labelling.{FlowState, Incoming, JumpAgrees, IsReachedLabel, Labelling, initial_flow, flow_after_label, flow_state, with_target}
use Rattle.il_check.specs.RightProgram.{AreRightDeclarations}
use Rattle.il_check.specs.Limits.{most_nested}
use Rattle.il_standard_laws.specs.Instructions.{IsRightAction, IsRightBlock}

abbrev mutual
  -- An entry is valid, in which parentheses may nest at most `room` deep. A parenthesis begins with
  -- an unset result.
  pub EntryObeysTable : ProgramNames → ℕ → ℕ → text.Entry → Option ElementaryType
      → Option ElementaryType
      → Type 0
  EntryObeysTable names room passed (text.label line name) t u = u ≡ t
  EntryObeysTable names room passed (text.action line a) t u = IsRightAction names passed a t u
  EntryObeysTable names room passed (text.block line operator negated items end) t u =
      (inner : Option ElementaryType) × (0 < room)
      × EntriesObeyTable names (room - 1) passed items None inner
      × IsRightBlock operator negated inner t u

  pub EntriesObeyTable : ProgramNames → ℕ → ℕ → text.Entries → Option ElementaryType
      → Option ElementaryType → Type 0
  EntriesObeyTable names room passed text.no_entries t u = u ≡ t
  EntriesObeyTable names room passed (text.entry e es) t u =
      (w : Option ElementaryType) × EntryObeysTable names room passed e t w
      × EntriesObeyTable names room passed es w u

-- the label that an instruction jumps to, if there is one
abbrev pub label_of : ProgramNames → text.Action → Option ℕ
label_of names (text.jump condition name) = names.label name
label_of names a = None

-- what an instruction that leaves a result of this type brings to the next item: no path, if it is
-- a jump or a return that is always taken
abbrev pub incoming_after : text.Action → Option ElementaryType → Incoming
incoming_after (text.jump Always name) u = None
incoming_after (text.leave Always) u = None
incoming_after a u = Some u

-- Each instruction is reached, and valid on the result that reaches it; and each path to a label
-- brings the label's type, or the label is unset.
abbrev pub ItemsObeyTable : ProgramNames → Labelling → List text.Entry → FlowState → Type 0
ItemsObeyTable names labels [] k = Unit {0}
ItemsObeyTable names labels (text.label line name ∷ es) k =
    IsReachedLabel names labels name k × ItemsObeyTable names labels es (flow_after_label labels k)
ItemsObeyTable names labels (text.action line a ∷ es) k =
    (t : Option ElementaryType) × (u : Option ElementaryType) × (k.now ≡ Some t)
    × IsRightAction names k.passed a t u × JumpAgrees labels (label_of names a) t
    × ItemsObeyTable names labels es
    (flow_state k.passed (with_target (label_of names a) k.named) (incoming_after a u))
ItemsObeyTable names labels (text.block line operator negated items end ∷ es) k =
    (t : Option ElementaryType) × (u : Option ElementaryType) × (k.now ≡ Some t)
    × EntryObeysTable names most_nested k.passed (text.block line operator negated items end) t u
    × ItemsObeyTable names labels es (flow_state k.passed k.named (Some u))

-- The declarations are valid; and with some labelling (a type of the current result, or unset, for
-- each label) each instruction is valid.
pub record IsRightText (points : List Point) (program : text.PlainProgram) : Type 0 where
  pub declarations : AreRightDeclarations points program.declarations
  pub labels : Labelling
  pub instructions : ItemsObeyTable (names_in points program) labels program.items initial_flow
