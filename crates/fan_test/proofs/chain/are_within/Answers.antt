use Rattle.std.proofs.Common.{◌≡◌, ◌↔◌, ◌∙◌, refl, subst, ap₂, ℤ, ◌<◌, ◌≤ℤ◌, IsTrue, Bool, w64, to_z, of_z}
use lib.Signed.{mag}
use Rattle.integers.proofs.Lists.{clash, each_more, at_point}
use Rattle.bounds_model.specs.Plane.{PlanePoint, dot}
use Rattle.bounded_coords.specs.Clouds.{points_of}
use Rattle.fan_test.specs.Chains.{IsWithin}
use Rattle.fan_test.proofs.Comparisons.{kept}
use Rattle.fan_test.proofs.chain.are_within.Goals as goal

-- a limit is the product with the cone's point
same_limit : {yes : Bool} {r : ℤ} (u d q h p : PlanePoint) → mag r < 9223372036854775808 → r ≡ dot u q → u ≡ d → q ≡ h → IsTrue yes ↔ (dot u p ≤ℤ to_z w64 (of_z w64 r)) → IsTrue yes ↔ (dot d p ≤ℤ dot d h)
same_limit {yes} {r} u d q h p small is is_d is_h test =
    subst (λ z. IsTrue yes ↔ (dot d p ≤ℤ z)) (kept small is ∙ ap₂ dot is_d is_h) (subst (λ v. IsTrue yes ↔ (dot v p ≤ℤ to_z w64 (of_z w64 r))) is_d test)

pub returns-then-not-reaches_at_most : goal.returns-then-not-reaches_at_most
returns-then-not-reaches_at_most g c =
    let D = g.C.Chain.directions c.args.chain.now in
    let H = g.C.Chain.points c.args.chain.now in
    let test = same_limit _ (D c.args.i) _ (H c.args.k) c.at.result.now c.dot-limit.type_inv c.dot-limit.ensures.value c.direction-direction.ensures.value c.point.ensures c.reaches_at_most.ensures in (
      λ yes. absurd (clash yes refl),
      λ all. absurd (clash (test.1 (at_point (IsWithin D H c.args.i c.args.k) (points_of c.args.cloud) c.loop-j.j c.at.result.now c.at.ensures all)) c.if-not-reaches_at_most.true),
    )

pub loop-j-preserved : goal.loop-j-preserved
loop-j-preserved g c =
    let D = g.C.Chain.directions c.args.chain.now in
    let H = g.C.Chain.points c.args.chain.now in
    let test = same_limit _ (D c.args.i) _ (H c.args.k) c.at.result.now c.dot-limit.type_inv c.dot-limit.ensures.value c.direction-direction.ensures.value c.point.ensures c.reaches_at_most.ensures in
    each_more (IsWithin D H c.args.i c.args.k) (points_of c.args.cloud) c.loop-j.j c.at.result.now c.at.ensures c.loop-j.invariant (test.0 c.if-not-reaches_at_most.false)
