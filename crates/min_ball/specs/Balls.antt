-- Balls that supports determine.
use Rattle.std.specs.Prelude.{pos, List, map}
use Rattle.bounds_model.specs.Space.{SpacePoint}
use Rattle.bounds_model.specs.BallAnswer.{Weighted}
use Rattle.corral.specs.declared.support.WeightedItem.{WeightedItem}
use Rattle.corral.specs.declared.support.Support.{Support}
use Rattle.corral.specs.Items.{first_points}
use Rattle.corral.specs.Supported.{items_of, supports_of}

-- the coordinates of the points that supports are chosen from
abbrev pub coordinates : {K P : Type 0} {g : _} → (P → SpacePoint) → Support K P g → List SpacePoint
coordinates place s = map place (first_points (items_of s))

-- a support as an answer lists it: the number of a point with its weight
abbrev pub weighted_point : WeightedItem → Weighted
weighted_point determined = record { point = determined.id.first; weight = pos determined.weight }

-- all supports, in order
abbrev pub listed : {K P : Type 0} {g : _} → Support K P g → List Weighted
listed s = map weighted_point (supports_of s)
