use Rattle.std.proofs.Common.{◌≡◌, sym, ◌∙◌, ap, ℤ, FitsSigned, to_z-of_z, w64}
use mir.Syntax.{w128}
use Rattle.integers.proofs.Sizes.{size_fits_in}
use Rattle.bounds_model.specs.Plane.{dot}
use Rattle.bounds_model.specs.Strip.{Span}
use Rattle.bounded_coords.specs.Clouds.{points_of}
use Rattle.answers.specs.Answers.{vector_of}
use Rattle.directions.proofs.Reading.{point_is}
use Rattle.directions.proofs.spans.span.Goals as goal

-- bounds with the same parts
same_span : {l h l' h' : ℤ} → l ≡ l' → h ≡ h' → ◌≡◌ {A = Span} (record { low = l; high = h }) (record { low = l'; high = h' })
same_span e f = λ i. record { low = e i; high = f i }

pub returns-clause-bounds : goal.returns-clause-bounds
returns-clause-bounds c =
    let points = points_of c.args.cloud in
    let d = vector_of c.args.d in
    let fits_lo : FitsSigned w64 c.along.result = size_fits_in w64 c.along.ensures.size tt in
    let fits_lo_128 : FitsSigned w128 c.along.result = size_fits_in w128 c.along.ensures.size tt in
    let fits_hi : FitsSigned w64 c.along-2.result = size_fits_in w64 c.along-2.ensures.size tt in
    let fits_hi_128 : FitsSigned w128 c.along-2.result = size_fits_in w128 c.along-2.ensures.size tt in
    simp to_z-of_z (same_span
    (c.along.ensures.value ∙ ap (dot d) (sym (point_is points c.args.lo c.at.result.now c.at.ensures)))
    (c.along-2.ensures.value ∙ ap (dot d) (sym (point_is points c.args.hi c.at-2.result.now c.at-2.ensures))))
