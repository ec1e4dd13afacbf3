use Rattle.std.proofs.Common.{◌≡◌, ◌++◌, drop, map}
use Rattle.il_check.specs.Program.{entries_of}
use Rattle.il_check.specs.ProgramViews.{entry_view}
use Rattle.il_compile.specs.Continuation.{AreSpellableEntries}
use Rattle.il_compile.specs.Code.{entries_code}
use Rattle.il_compile.proofs.emit.+put_entry.Given as goal

abbrev pub invariant-loop-inner : goal.invariant-loop-inner
invariant-loop-inner l = record {
  rest : l.code.items ++ entries_code l.externals
      (entries_of (map entry_view (drop l.inner-index l.inner-items)))
      ≡ l.initial.code.items ++ entries_code l.externals
      (entries_of (map entry_view l.inner-items));
  spellable : AreSpellableEntries l.externals
      (entries_of (map entry_view (drop l.inner-index l.inner-items)));
}
