use Rattle.std.proofs.Common.{sym, ◌∙◌, arith}
use Rattle.il_scan.proofs.FetchLemmas.{fetched, no-opcode, place-within, whole-operand}
use Rattle.il_scan.proofs.fetch.fetch.Goals as goal

pub bounds-code-offset : goal.bounds-code-offset
bounds-code-offset c =
    place-within c.args.code.now c.args.offset (λ k. (c.type_inv.code k).fits) c.requires

pub overflow_add-offset : goal.overflow_add-offset
overflow_add-offset c = let h =
    place-within c.args.code.now c.args.offset (λ k. (c.type_inv.code k).fits) c.requires in
    omega arith

pub read_operand-requires-clause-whole : goal.read_operand-requires-clause-whole
read_operand-requires-clause-whole c =
    whole-operand c.args.code.now c.args.offset (λ k. (c.type_inv.code k).fits) c.requires
    c.in-Some.opcode (sym c.of.ensures ∙ c.in-Some.is)

pub read_operand-requires-clause-within : goal.read_operand-requires-clause-within
read_operand-requires-clause-within c = let h =
    place-within c.args.code.now c.args.offset (λ k. (c.type_inv.code k).fits) c.requires in
    omega arith

pub unreachable-requires : goal.unreachable-requires
unreachable-requires c =
    no-opcode c.args.code.now c.args.offset (λ k. (c.type_inv.code k).fits) c.requires
    (sym c.of.ensures ∙ c.in-None.is)

pub returns-clause-value : goal.returns-clause-value
returns-clause-value c =
    fetched c.args.code.now c.args.offset (λ k. (c.type_inv.code k).fits) c.requires
    c.in-Some.opcode
    (sym c.of.ensures ∙ c.in-Some.is) c.read_operand.result c.read_operand.ensures.value
    c.read_operand.ensures.within
