use Rattle.std.proofs.Common.{refl, subst, ◌≡◌, ◌≢◌, ◌↔◌, ℕ, zero, suc, ◌-◌, List, map, IsTrue, Bool, arith}
use Rattle.bounds_model.specs.Plane.{PlanePoint}
use Rattle.bounds_model.specs.CentresAnswer.{Leaf}
use Rattle.bounded_coords.specs.Clouds.{points_of}
use Rattle.answers.specs.Answers.{leaf_of}
use Rattle.bounds_model.specs.FourAnswer.{AreLeavesByHeight, AreFourLeaves}
use Rattle.centres_check.proofs.four.are_leaves.Goals as goal

-- a side above 0 is one more than another
one_less : {yes : Bool} (side : ℕ) (points : List PlanePoint) (leaves : List Leaf) → side ≢ 0 → (IsTrue yes ↔ AreLeavesByHeight (side - 1) points leaves) → IsTrue yes ↔ AreFourLeaves side points leaves
one_less zero points leaves some h = absurd (some refl)
one_less {yes} (suc side) points leaves some h = subst (λ n. IsTrue yes ↔ AreLeavesByHeight n points leaves) less h
  where
    less : suc side - 1 ≡ side
    less = omega arith

pub returns : goal.returns
returns c = one_less c.args.side (points_of c.args.cloud) (map leaf_of c.args.leaves.now) c.if-side-eq0.false c.are_leaves_by_height.ensures
