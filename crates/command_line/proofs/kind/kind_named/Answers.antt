use Rattle.command_line.specs.Kinds.{kinds, kind_named}
use Rattle.command_line.proofs.NoKind.{none_named}
use Rattle.command_line.proofs.kind.kind_named.Goals as goal

pub returns-in_default : goal.returns-in_default
unfolding kind_named
returns-in_default c =
    let d = c.in_default in
    none_named kinds c.args.word.now (d.not-circle, (d.not-sphere, (d.not-rectangle, (d.not-parallelogram, (d.not-strip, (d.not-annulus, (d.not-empty, (d.not-kgon, (d.not-distance, (d.not-centres, (d.not-furthest, (d.not-shell, tt))))))))))))
