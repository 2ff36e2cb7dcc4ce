use Rattle.std.proofs.Common.{◌≡◌, ℕ, ◌∙◌, ℤ, pos, ◌+ℤ◌, rules, arith, ap, subst, Fits, SFits, to_z, of_z, w32, w64, to_z-of_z}
use Rattle.std.specs.Int.{w128}
use Rattle.bounds_model.specs.Ranges.{IsFraction}
use Rattle.bounds_model.specs.Fractions.{Fraction}
use Rattle.empty_rectangle.proofs.Passing.{whole_fraction, answer_parts}
use Rattle.empty_rectangle.proofs.largest_empty.answer.Goals as goal

-- a coordinate as it is computed
measured : (z start side : ℤ) (distance : ℕ) → SFits w128 z → SFits w32 start → z ≡ (to_z w32 (of_z w32 start) +ℤ pos distance) → start ≡ side → to_z w128 (of_z w128 z) ≡ (side +ℤ pos distance)
measured z start side distance fits fits_start is at_side = to_z-of_z fits ∙ is ∙ ap (λ v. v +ℤ pos distance) (to_z-of_z fits_start ∙ at_side)

-- a whole area is kept as a fraction
whole_kept : (size : Fraction) (area n : ℕ) → Fits w64 area → n ≡ area → (IsFraction (record { n = pos n; d = pos 1 }) → size ≡ record { n = pos n; d = pos 1 }) → size ≡ record { n = pos area; d = pos 1 }
whole_kept size area n fits is kept = subst (λ m. size ≡ record { n = pos m; d = pos 1 }) is (kept (whole_fraction n (omega (arith, fits.fits, is))))

pub returns : goal.returns
returns c =
    let fits : Fits w64 c.args.rectangle.area = search rules in
    let fits_l : SFits w128 c.coordinate.result = search rules in
    let fits_b : SFits w128 c.coordinate-2.result = search rules in
    let fits_r : SFits w128 c.coordinate-3.result = search rules in
    let fits_t : SFits w128 c.coordinate-4.result = search rules in
    let fits_left : SFits w32 c.l.result = search rules in
    let fits_bottom : SFits w32 c.b.result = search rules in
    let fits_left_2 : SFits w32 c.l-2.result = search rules in
    let fits_bottom_2 : SFits w32 c.b-2.result = search rules in
    answer_parts c.args.frame c.args.rectangle c.new.result _ _ _ _
    (whole_kept c.new.result c.args.rectangle.area c.from.result fits c.from.ensures c.new.ensures.kept)
    (measured c.coordinate.result c.l.result c.args.frame.left c.args.rectangle.left.at fits_l fits_left c.coordinate.ensures c.l.ensures.value)
    (measured c.coordinate-2.result c.b.result c.args.frame.bottom c.args.rectangle.bottom.at fits_b fits_bottom c.coordinate-2.ensures c.b.ensures.value)
    (measured c.coordinate-3.result c.l-2.result c.args.frame.left c.args.rectangle.right.at fits_r fits_left_2 c.coordinate-3.ensures c.l-2.ensures.value)
    (measured c.coordinate-4.result c.b-2.result c.args.frame.bottom c.args.rectangle.top.at fits_t fits_bottom_2 c.coordinate-4.ensures c.b-2.ensures.value)
