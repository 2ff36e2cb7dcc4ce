use Rattle.std.proofs.Common.{subst, pos, ◌≤ℤ◌, ◌<ℤ◌}
use mir.Syntax.{w64}
use Rattle.integers.proofs.Sizes.{wrap_is_in}
use Rattle.integers.proofs.Order.{is_less, is_not_less}
use Rattle.bounded_coords.specs.Clouds.{points_of}
use Rattle.min_annulus.proofs.Starting.{start_is, start_turned, toward_down}
use Rattle.min_annulus.proofs.target_triangle.Triangle.start.Goals as goal

pub returns-then-e-gt0 : goal.returns-then-e-gt0
returns-then-e-gt0 c =
    start_turned (points_of c.args.cloud) c.args.e c.args.f c.of-back.result c.of.result c.requires.e c.requires.f c.of-back.ensures.pair c.of.ensures.pair
    c.of-back.ensures.first c.of-back.ensures.second c.of.ensures.first c.of.ensures.second
    (subst (λ z. pos 0 <ℤ z) (wrap_is_in w64 c.requires.e.within.y tt) (is_less c.if-e-gt0.true)) c.requires.left

pub returns : goal.returns
returns c =
    start_is (points_of c.args.cloud) c.args.e c.args.f c.of-back.result c.requires.e c.requires.f c.of-back.ensures.pair c.of-back.ensures.first c.of-back.ensures.second
    (toward_down c.args.e.difference c.args.f.difference c.requires.e.within c.requires.ahead c.requires.left
    (subst (λ z. z ≤ℤ pos 0) (wrap_is_in w64 c.requires.e.within.y tt) (is_not_less c.if-e-gt0.false))) c.requires.left
