-- Points that have a polygon which passes have at most 128 corners.
use Rattle.std.proofs.Common.{◌≡◌, ap, ℕ, ◌<◌, ◌≤◌, arith, List, length}
use Rattle.std.proofs.lemmas.List.{length-map}
use Rattle.bounds_model.specs.Plane.{PlanePoint, point_at}
use Rattle.bounds_model.specs.KgonAnswer.{KgonAnswer, corner_points, PassesKgon}
use Rattle.model_laws.proofs.CornerLaw.{passing_kgon}
use Rattle.model_laws.proofs.CornersUnique.{one_list_of_corners}
use Rattle.extremal_kgon.specs.Faults.{AreTooMany}

not_both : (few listed hull count : ℕ) → listed ≡ few → listed ≡ hull → hull ≡ count → few ≤ 128 → 128 < count → ⊥
not_both few listed hull count e f g most more = omega arith

-- a passing polygon lists the corners of the hull, and points have one list of them
pub few_corners : (k : ℕ) (points : List PlanePoint) (a : KgonAnswer) → PassesKgon k points a → AreTooMany points → ⊥
few_corners k points a passes many =
    let hull = many.1 in
    not_both (length a.corners) (length (corner_points points a)) (length hull.corners) many.0 (length-map a.corners (point_at points))
    (ap length (one_list_of_corners points (corner_points points a) hull.corners (passing_kgon k points a passes) hull.are_corners)) hull.as_many passes.ranges.corner_count.at_most hull.too_many
