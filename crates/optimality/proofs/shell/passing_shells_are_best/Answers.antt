-- Every centre gives the balanced pairs the same mean.
use Rattle.optimality.proofs.ShellLaw.{shell_law}
use Rattle.optimality.proofs.shell.passing_shells_are_best.Goals as goal

pub returns : goal.returns
returns c = shell_law
