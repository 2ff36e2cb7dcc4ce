-- What is kept of the sets that were read.
use Rattle.std.specs.Prelude.{◌≡◌, ◌≤◌, ◌++◌, List, [], ◌∷◌, length, slice_index_or}
use Rattle.bounds_model.specs.PointText.{most_points, last_set}
use Rattle.point_text.specs.declared.kept.KeptSets.{KeptSets}

-- the first two of these sets are kept, their number, and how many points a later set has so far; the last set has no more points than a set may have
pub record Keeps {P : Type 0} (kept : KeptSets P) (sets : List (List P)) : Type 0 where
  pub first : slice_index_or sets 0 [] ≡ kept.first
  pub second : slice_index_or sets 1 [] ≡ kept.second
  pub count : length sets ≡ kept.count
  pub later : 3 ≤ kept.count → length (last_set sets) ≡ kept.later
  pub room : length (last_set sets) ≤ most_points

-- the sets with one more point in the last of them
abbrev pub with_point : {P : Type 0} → P → List (List P) → List (List P)
with_point p [] = []
with_point p (points ∷ []) = (points ++ p ∷ []) ∷ []
with_point p (points ∷ sets) = points ∷ with_point p sets
