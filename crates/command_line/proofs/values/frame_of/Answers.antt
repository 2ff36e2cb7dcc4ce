use Rattle.std.proofs.Common.{rules, SFits, w64, to_z-of_z}
use Rattle.command_line.proofs.Boxes.{frame_made}
use Rattle.command_line.proofs.values.frame_of.Goals as goal

pub returns : goal.returns
returns c =
    let left : SFits w64 c.args.left = search rules in
    let bottom : SFits w64 c.args.bottom = search rules in
    let right : SFits w64 c.args.right = search rules in
    let top : SFits w64 c.args.top = search rules in
    frame_made c.args.left c.args.bottom c.args.right c.args.top c.new.result c.requires.left c.requires.bottom c.requires.right c.requires.top
    (simp to_z-of_z at c.new.ensures.bounds) (simp to_z-of_z at c.new.ensures.frame)
