use Rattle.std.proofs.Common.{◌≡◌, ◌-◌, List, ℕ, length, drop, subst, sym, ◌∙◌, arith}
use Rattle.std.proofs.lemmas.Str.{IsCharBoundary-from_drop}
use Rattle.std.specs.Str.{IsUtf8}
use Rattle.bay_tree.specs.Names.{IsNamed, parent_of}
use Rattle.bay_tree.proofs.NameLemmas.{word-end}
use Rattle.bay_tree.proofs.name.word_start.Goals as goal

pub returns : goal.returns
returns c =
    let name = c.args.name.now in
    let word = c.args.word.now in
    let end = word-end (parent_of name) word name c.requires.named in
    let at : drop (length name - length word) name ≡ word = end.1 in
    record {
      word = at ∙ c.requires.last;
      named = subst (λ (w : List ℕ). IsNamed (parent_of name) w name) (sym at) c.requires.named;
      boundary =
          IsCharBoundary-from_drop name (length name - length word) (omega arith)
          (subst IsUtf8 (sym at) c.utf8.word);
    }
