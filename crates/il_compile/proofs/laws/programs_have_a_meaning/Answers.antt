use Rattle.il_compile.proofs.Follows.{means}
use Rattle.il_compile.proofs.laws.programs_have_a_meaning.Goals as goal

pub returns : goal.returns
returns c p now m ok typed = means p ok now m typed
