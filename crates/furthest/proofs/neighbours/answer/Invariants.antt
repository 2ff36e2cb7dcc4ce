use Rattle.std.proofs.Common.{map}
use Rattle.hull_calipers.specs.CornerLists.{points_in, numbers_in}
use Rattle.answers.specs.Answers.{entry_of}
use Rattle.furthest.proofs.Listing.{IsListing}
use Rattle.furthest.proofs.neighbours.answer.Given as goal

abbrev pub invariant-corners : goal.invariant-corners
invariant-corners g l = IsListing (points_in l.corners) (numbers_in l.corners) l.columns l.i (map entry_of l.entries) l.most l.fn.steps l.steps
