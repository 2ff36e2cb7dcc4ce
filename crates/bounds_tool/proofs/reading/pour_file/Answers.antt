use Rattle.std.proofs.Common.{rules, ◌≡◌, ap, Err, IfSome}
use Rattle.bnd_io.specs.Files.{bytes_of}
use Rattle.pouring.proofs.Poured.{kept_file, took_file}
use Rattle.bounds_tool.proofs.reading.pour_file.Goals as goal

pub returns-in-Ok-clause-stands : goal.returns-in-Ok-clause-stands
returns-in-Ok-clause-stands g c =
    let old = g.F.Files.state c.args.files.now in
    let middle = g.F.Files.state c.open.new.self in
    let at_start : IfSome middle.told (λ folder. middle.left ≡ bytes_of folder c.args.name.now) = search rules in
    took_file c.args.reader.now c.pour.new.reader old.told middle.told c.args.name.now middle.left c.open.ensures.continues.told at_start c.in-Ok.ensures.stands

pub returns-in-Err-OutOfMemory-clause-kept : goal.returns-in-Err-OutOfMemory-clause-kept
returns-in-Err-OutOfMemory-clause-kept g c wants =
    let old = g.F.Files.state c.args.files.now in
    let middle = g.F.Files.state c.open.new.self in
    let at_start : IfSome middle.told (λ folder. middle.left ≡ bytes_of folder c.args.name.now) = search rules in
    kept_file c.args.reader.now old.told middle.told c.args.name.now middle.left c.open.ensures.continues.told at_start (c.in-Err-OutOfMemory.ensures.kept (ap Err c.in-Err-OutOfMemory.field-0-is))
