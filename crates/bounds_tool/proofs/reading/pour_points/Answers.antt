use Rattle.std.proofs.Common.{◌≤◌, sym, ap, subst, length, Ok, Err}
use Rattle.bounds_model.specs.ErrorLines.{points_file}
use Rattle.bounds_model.specs.Asks.{shape_of}
use Rattle.bounded_coords.specs.Asked.{asked}
use Rattle.point_text.specs.declared.text.Form.TheVariants.{Text}
use Rattle.bounds_tool.specs.Judging.{limit_of}
use Rattle.bounds_tool.specs.Causes.{meant}
use Rattle.bounds_tool.specs.Run.{PointsCause}
use Rattle.bounds_tool.proofs.PointFiles.{points_in-told, points_refused, points_unread, if_same}
use Rattle.bounds_tool.proofs.FilesRead.{read_on, read_failed}
use Rattle.bounds_tool.proofs.reading.pour_points.Goals as goal

pub returns-in-Ok-clause-files : goal.returns-in-Ok-clause-files
returns-in-Ok-clause-files g c =
    read_on points_file c.args.name.now (g.F.Files.state c.args.files.now) (g.F.Files.state c.pour_file.new.files) _ _ c.in_ok-pour_file.ensures.files

pub returns-in-Err-clause-files : goal.returns-in-Err-clause-files
returns-in-Err-clause-files g c =
    read_on points_file c.args.name.now (g.F.Files.state c.args.files.now) (g.F.Files.state c.pour_file.new.files) _ _ c.in_ok-pour_file.ensures.files

pub returns-in_err-pour_file-clause-files : goal.returns-in_err-pour_file-clause-files
returns-in_err-pour_file-clause-files g c =
    read_failed points_file c.args.name.now (g.F.Files.state c.args.files.now) (g.F.Files.state c.pour_file.new.files) _ _ c.from_residual.ensures.1 c.in_err-pour_file.ensures.files

pub returns-in-Ok-clause-points : goal.returns-in-Ok-clause-points
returns-in-Ok-clause-points g c =
    let ask = asked c.args.ask.now in
    let took = c.in_ok-pour_file.ensures.stands (shape_of ask) c.new-reader.ensures.stands in
    let short : length took.0 ≤ limit_of points_file = subst (λ n. n ≤ limit_of points_file) took.1.taken c.in_ok-pour_file.ensures.within in
    points_in-told Text ask (g.F.Files.state c.args.files.now).told c.args.name.now took.0 (Ok c.in-Ok.points) took.2 short (c.in-Ok.ensures.sets (shape_of ask) took.0 took.1)

pub returns-in-Ok-clause-suits : goal.returns-in-Ok-clause-suits
returns-in-Ok-clause-suits g c =
    let ask = asked c.args.ask.now in
    let took = c.in_ok-pour_file.ensures.stands (shape_of ask) c.new-reader.ensures.stands in
    c.in-Ok.ensures.suits (shape_of ask) took.0 took.1

pub returns-in-Err-clause-cause : goal.returns-in-Err-clause-cause
returns-in-Err-clause-cause g c =
    let ask = asked c.args.ask.now in
    let old = g.F.Files.state c.args.files.now in
    let new = g.F.Files.state c.pour_file.new.files in
    let took = c.in_ok-pour_file.ensures.stands (shape_of ask) c.new-reader.ensures.stands in
    let short : length took.0 ≤ limit_of points_file = subst (λ n. n ≤ limit_of points_file) took.1.taken c.in_ok-pour_file.ensures.within in
    subst (λ cause. PointsCause g.F.Files.last_count Text ask c.args.name.now old new (meant cause)) (sym c.from.ensures)
    (points_refused g.F.Files.last_count Text ask c.args.name.now took.0 old new c.in-Err.fault took.2 short (c.in-Err.ensures.sets (shape_of ask) took.0 took.1) (λ wants. c.in-Err.ensures.memory (ap Err wants) (shape_of ask) took.0 took.1))

pub returns-in_err-pour_file-clause-cause : goal.returns-in_err-pour_file-clause-cause
returns-in_err-pour_file-clause-cause g c =
    let ask = asked c.args.ask.now in
    let old = g.F.Files.state c.args.files.now in
    let new = g.F.Files.state c.pour_file.new.files in
    let fault = c.in_err-pour_file.field-0.0 in
    if_same (λ cause. PointsCause g.F.Files.last_count Text ask c.args.name.now old new (meant cause)) c.from_residual.result fault c.from_residual.ensures.1
    (points_unread g.F.Files.last_count ask c.args.name.now old new (meant fault) c.in_err-pour_file.ensures.cause (λ wants. c.in_err-pour_file.ensures.kept wants (shape_of ask) c.new-reader.ensures.stands))
