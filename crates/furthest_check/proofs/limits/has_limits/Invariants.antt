use Rattle.std.proofs.Common.{ℕ, ◌<◌, length}
use Rattle.std.specs.Prelude.{slice_index_or}
use Rattle.bounded_coords.specs.Clouds.{points_of}
use Rattle.answers.specs.declared.furthests.Entry.{Entry}
use Rattle.furthest_check.proofs.limits.has_limits.Given as goal

abbrev pub invariant-loop-i : goal.invariant-loop-i
invariant-loop-i l = (k : ℕ) (d : Entry) → k < l.i → ((slice_index_or l.entries k d).corner < length (points_of l.cloud)) × ((slice_index_or l.entries k d).far < length l.entries)
