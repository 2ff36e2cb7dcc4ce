use Rattle.std.proofs.Common.{◌≡◌, ◌+◌, ◌-◌, ◌≤◌, ◌^◌, IsFalse}
use Rattle.bnd_io.specs.Files.{Continues, CountsNoOpen, NoFault, KeepsOpen, grown}
use Rattle.point_text.specs.Reading.{HasFailed, bytes_taken}
use Rattle.pouring.proofs.Poured.{TookBefore}
use Rattle.pouring.proofs.pieces.pour.Given as goal

abbrev pub invariant-pieces : goal.invariant-pieces
invariant-pieces g l = record {
  within : bytes_taken l.reader ≤ 2 ^ 21;
  continues : Continues (g.F.Files.state l.initial.files) (g.F.Files.state l.files);
  no_fault : NoFault (g.F.Files.state l.initial.files) (g.F.Files.state l.files);
  counted : CountsNoOpen (g.F.Files.state l.initial.files) (g.F.Files.state l.files);
  total : (g.F.Files.state l.files).total ≡ grown (g.F.Files.state l.initial.files).total (bytes_taken l.reader);
  same_file : KeepsOpen (g.F.Files.state l.initial.files) (g.F.Files.state l.files);
  taken : (g.F.Files.state l.files).taken ≡ bytes_taken l.reader;
  not_ended : IsFalse (g.F.Files.state l.files).ended;
  going : HasFailed l.reader → ⊥;
  stands : TookBefore l.initial.reader l.reader (g.F.Files.state l.initial.files).told (g.F.Files.state l.initial.files).left (g.F.Files.state l.files).left;
}

abbrev pub decreases-pieces : goal.decreases-pieces
decreases-pieces g l = 2 ^ 21 + 1 - bytes_taken l.reader
