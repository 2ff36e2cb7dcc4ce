use Rattle.std.proofs.Common.{◌≡◌, arith, rules, refl, sym, subst, SFits, w32, w64}
use Rattle.std.proofs.lemmas.Int.{ints, to_z-of_z}
use Rattle.bounds_model.specs.Numbers.{IsWithin}
use Rattle.bounds_model.specs.Plane.{plane_limit}
use Rattle.bounded_coords.proofs.frame.Frame.new.Goals as goal
use Rattle.bounded_coords.proofs.frame.Frame.new.Goals.{then-left-right-via-then-left-right, then-left-right-via-else-left-right+then-bottom-top}

pub returns-then-left-right-clause-bounds : goal.returns-then-left-right-clause-bounds
returns-then-left-right-clause-bounds c = (
  λ e. absurd (cc),
  λ h. elim c.then-left-right.branch [
    | then-left-right-via-then-left-right w ↦ absurd (omega (arith, ints, h.wide, w.if-left-right.true, c.in_ok-left.ensures.value, c.in_ok-right.ensures.value))
    | then-left-right-via-else-left-right+then-bottom-top w ↦ absurd (omega (arith, ints, h.high, w.if-bottom-top.true, c.in_ok-bottom.ensures.value, c.in_ok-top.ensures.value))
  ],
)

pub invariant_of-result : goal.invariant_of-result
invariant_of-result c =
    let fits_left : SFits w32 c.in_ok-left.left = search rules in
    let fits_bottom : SFits w32 c.in_ok-bottom.bottom = search rules in
    let fits_right : SFits w32 c.in_ok-right.right = search rules in
    let fits_top : SFits w32 c.in_ok-top.top = search rules in
    simp to_z-of_z (record {
      left = subst (λ v. IsWithin plane_limit v) (sym c.in_ok-left.ensures.value) (c.in_ok-left.ensures.bounds.0 refl);
      bottom = subst (λ v. IsWithin plane_limit v) (sym c.in_ok-bottom.ensures.value) (c.in_ok-bottom.ensures.bounds.0 refl);
      right = subst (λ v. IsWithin plane_limit v) (sym c.in_ok-right.ensures.value) (c.in_ok-right.ensures.bounds.0 refl);
      top = subst (λ v. IsWithin plane_limit v) (sym c.in_ok-top.ensures.value) (c.in_ok-top.ensures.bounds.0 refl);
      wide = omega (arith, ints, c.if-left-right.false);
      high = omega (arith, ints, c.if-bottom-top.false);
    })

pub returns-clause-bounds : goal.returns-clause-bounds
returns-clause-bounds c =
    let range_left : SFits w64 c.args.l = c.ranges.l in
    let range_bottom : SFits w64 c.args.b = c.ranges.b in
    let range_right : SFits w64 c.args.r = c.ranges.r in
    let range_top : SFits w64 c.args.t = c.ranges.t in
    let left_in : IsWithin plane_limit c.args.l = simp to_z-of_z at (c.in_ok-left.ensures.bounds.0 refl) in
    let left_is : c.in_ok-left.left ≡ c.args.l = simp to_z-of_z at c.in_ok-left.ensures.value in
    let bottom_in : IsWithin plane_limit c.args.b = simp to_z-of_z at (c.in_ok-bottom.ensures.bounds.0 refl) in
    let bottom_is : c.in_ok-bottom.bottom ≡ c.args.b = simp to_z-of_z at c.in_ok-bottom.ensures.value in
    let right_in : IsWithin plane_limit c.args.r = simp to_z-of_z at (c.in_ok-right.ensures.bounds.0 refl) in
    let right_is : c.in_ok-right.right ≡ c.args.r = simp to_z-of_z at c.in_ok-right.ensures.value in
    let top_in : IsWithin plane_limit c.args.t = simp to_z-of_z at (c.in_ok-top.ensures.bounds.0 refl) in
    let top_is : c.in_ok-top.top ≡ c.args.t = simp to_z-of_z at c.in_ok-top.ensures.value in (
      λ _. record {
        left = left_in;
        bottom = bottom_in;
        right = right_in;
        top = top_in;
        wide = omega (arith, ints, c.if-left-right.false, left_is, right_is);
        high = omega (arith, ints, c.if-bottom-top.false, bottom_is, top_is);
      },
      λ _. refl,
    )
