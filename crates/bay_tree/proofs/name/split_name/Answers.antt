use Rattle.std.proofs.Common.{sym, ap, ◌∙◌, refl}
use Rattle.bay_tree.specs.Names.{parent_of, word_of}
use Rattle.bay_tree.proofs.NameLemmas.{parent_of-word, parent_of-join, word_of-word, word_of-join, rsplit-none, rsplit-some}
use Rattle.bay_tree.proofs.name.split_name.Goals as goal

pub word_start-requires-clause-last : goal.word_start-requires-clause-last
word_start-requires-clause-last c =
    let parts =
    rsplit-some c.args.name.now c.in-Some.parent.now c.in-Some.word.now c.in-Some.ensures.cases in
    sym (ap word_of parts.0 ∙ word_of-join c.in-Some.parent.now c.in-Some.word.now parts.1)

pub word_start-requires-clause-named : goal.word_start-requires-clause-named
word_start-requires-clause-named c =
    let parts =
    rsplit-some c.args.name.now c.in-Some.parent.now c.in-Some.word.now c.in-Some.ensures.cases in
    rw (ap parent_of parts.0 ∙ parent_of-join c.in-Some.parent.now c.in-Some.word.now parts.1)
    (parts.0, parts.1)

pub returns-in-Some-clause-parent : goal.returns-in-Some-clause-parent
returns-in-Some-clause-parent c =
    let parts =
    rsplit-some c.args.name.now c.in-Some.parent.now c.in-Some.word.now c.in-Some.ensures.cases in
    sym (ap parent_of parts.0 ∙ parent_of-join _ _ parts.1)

pub word_start-requires-in-None-clause-last : goal.word_start-requires-in-None-clause-last
word_start-requires-in-None-clause-last c =
    sym (word_of-word c.args.name.now (rsplit-none c.args.name.now c.in-None.ensures.cases))

pub word_start-requires-in-None-clause-named : goal.word_start-requires-in-None-clause-named
word_start-requires-in-None-clause-named c =
    let word = rsplit-none c.args.name.now c.in-None.ensures.cases in
    rw (parent_of-word c.args.name.now word) (refl, word)

pub returns-in-None-clause-parent : goal.returns-in-None-clause-parent
returns-in-None-clause-parent c =
    sym (parent_of-word c.args.name.now (rsplit-none c.args.name.now c.in-None.ensures.cases))
