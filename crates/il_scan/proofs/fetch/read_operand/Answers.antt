use Rattle.il_image.specs.declared.instr.Instr.TheVariants as instr
use Rattle.il_scan.proofs.FetchLemmas.{numbered}
use Rattle.il_scan.proofs.fetch.read_operand.Goals as goal

pub returns-in-Slot-clause-value : goal.returns-in-Slot-clause-value
returns-in-Slot-clause-value c =
    rw c.in-Slot.is (numbered (λ m. instr.Slot c.in-Slot.slot_use m) c.args.code.now c.args.at
    c.read_number.result c.requires.within (rw c.in-Slot.is at c.requires.whole)
    c.read_number.ensures).value

pub returns-in-Slot-clause-within : goal.returns-in-Slot-clause-within
returns-in-Slot-clause-within c =
    (numbered (λ m. instr.Slot c.in-Slot.slot_use m) c.args.code.now c.args.at c.read_number.result
    c.requires.within (rw c.in-Slot.is at c.requires.whole) c.read_number.ensures).within

pub returns-in-Jump-clause-value : goal.returns-in-Jump-clause-value
returns-in-Jump-clause-value c =
    rw c.in-Jump.is (numbered (λ m. instr.Jump c.in-Jump.when m) c.args.code.now c.args.at
    c.read_number-in-Jump.result c.requires.within (rw c.in-Jump.is at c.requires.whole)
    c.read_number-in-Jump.ensures).value

pub returns-in-Jump-clause-within : goal.returns-in-Jump-clause-within
returns-in-Jump-clause-within c =
    (numbered (λ m. instr.Jump c.in-Jump.when m) c.args.code.now c.args.at
    c.read_number-in-Jump.result
    c.requires.within (rw c.in-Jump.is at c.requires.whole) c.read_number-in-Jump.ensures).within

pub returns-in-Timer-clause-value : goal.returns-in-Timer-clause-value
returns-in-Timer-clause-value c =
    rw c.in-Timer.is (numbered (λ m. instr.Timer c.in-Timer.timer_use m) c.args.code.now c.args.at
    c.read_number-in-Timer.result c.requires.within (rw c.in-Timer.is at c.requires.whole)
    c.read_number-in-Timer.ensures).value

pub returns-in-Timer-clause-within : goal.returns-in-Timer-clause-within
returns-in-Timer-clause-within c =
    (numbered (λ m. instr.Timer c.in-Timer.timer_use m) c.args.code.now c.args.at
    c.read_number-in-Timer.result c.requires.within (rw c.in-Timer.is at c.requires.whole)
    c.read_number-in-Timer.ensures).within
