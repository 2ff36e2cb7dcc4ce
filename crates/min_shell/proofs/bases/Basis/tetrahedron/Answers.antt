use Rattle.std.proofs.Common.{sym, ◌∙◌}
use Rattle.bounded_coords.specs.Clouds.{points_of}
use Rattle.min_shell.proofs.Starting.{start_is}
use Rattle.min_shell.proofs.KeptAxes.{start_keeps}
use Rattle.min_shell.proofs.bases.Basis.tetrahedron.Goals as goal

pub returns-clause-around : goal.returns-clause-around
returns-clause-around c = start_is (points_of c.args.cloud) c.args.self c.of.result c.requires.basis c.requires.first c.requires.second c.requires.third c.of.ensures.pair (c.of.ensures.first ∙ sym c.of.ensures.second)

pub returns-clause-directions : goal.returns-clause-directions
returns-clause-directions c = start_keeps (points_of c.args.cloud) c.args.self c.of.result c.requires.axes c.requires.first c.requires.second c.requires.third
