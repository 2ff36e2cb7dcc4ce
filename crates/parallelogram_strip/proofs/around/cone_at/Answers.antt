use Rattle.std.proofs.Common.{◌∙◌}
use Rattle.parallelogram_strip.proofs.ConesRead.{around_first, around_second, around_short}
use Rattle.parallelogram_strip.proofs.around.cone_at.Goals as goal

pub returns-then-i-half : goal.returns-then-i-half
returns-then-i-half c = around_first c.args.fan.now c.args.i c.at.result c.at.ensures

pub other_side-requires : goal.other_side-requires
other_side-requires c = around_short c.args.fan.now _ c.at-2.result c.requires.short c.at-2.ensures

pub returns : goal.returns
returns c = c.other_side.ensures ∙ around_second c.args.fan.now c.args.i c.len-half.result c.at-2.result c.len-half.ensures.count c.if-i-half.false c.at-2.ensures
