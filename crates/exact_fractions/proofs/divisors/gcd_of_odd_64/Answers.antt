use Rattle.std.proofs.Common.{◌≡◌, ◌∙◌, ap₂, ◌-◌, ◌*◌, ◌^◌, min, max, arith, subst}
use Rattle.std.specs.Int.{IsGcd, trailing_zeros}
use mir.Syntax.{w64}
use Rattle.exact_fractions.proofs.Halving.{IsGcd-from_difference, IsGcd-same}
use Rattle.exact_fractions.proofs.divisors.gcd_of_odd_64.Goals as goal

pub loop-x-preserved : goal.loop-x-preserved
loop-x-preserved c =
    let kept = c.loop-x.invariant in
    let part : 2 ^ trailing_zeros w64 (c.max-more.result - c.min-less.result) * c.odd_part_64-y.result ≡ max c.loop-x.x c.loop-x.y - min c.loop-x.x c.loop-x.y =
    c.odd_part_64-y.ensures.part ∙ ap₂ (λ m l. m - l) c.max-more.ensures c.min-less.ensures in
    record {
      x_odd = omega (arith, kept.x_odd, kept.y_odd, c.min-less.ensures);
      y_odd = c.odd_part_64-y.ensures.odd;
      same_divisor = λ g h. kept.same_divisor g (IsGcd-from_difference c.loop-x.x c.loop-x.y c.odd_part_64-y.result (trailing_zeros w64 (c.max-more.result - c.min-less.result)) g kept.x_odd kept.y_odd part (subst (λ m. IsGcd m c.odd_part_64-y.result g) c.min-less.ensures h));
    }

pub returns : goal.returns
returns c = c.loop-x.invariant.same_divisor c.loop-x.x (IsGcd-same c.loop-x.x c.loop-x.y (omega arith))
