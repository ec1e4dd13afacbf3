use Rattle.std.proofs.Common.{refl}
use Rattle.bay_main.proofs.commands.do_task.Goals as goal

pub returns-in-Compile : goal.returns-in-Compile
returns-in-Compile g c = rw c.in-Compile.is (c.compile.ensures, refl, refl)

pub returns-in-Serve : goal.returns-in-Serve
returns-in-Serve g c =
    rw c.in-Serve.is (c.serve.ensures.serves, c.serve.ensures.files, refl)
