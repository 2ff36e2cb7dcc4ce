use Rattle.bnd_io.proofs.FileIndices.{bytes_at-found}
use Rattle.bnd_io.proofs.folder.index_of.Goals as goal

pub returns-then-eq-clause-bytes : goal.returns-then-eq-clause-bytes
returns-then-eq-clause-bytes c =
    bytes_at-found c.args.files.now c.loop-i.i c.index-files-i.result c.args.name.now c.loop-i-test.true c.index-files-i.is (cc) c.loop-i.invariant.bytes
