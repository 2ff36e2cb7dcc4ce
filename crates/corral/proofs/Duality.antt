-- No weights have a greater value than supports under which none of their vectors is low.
use Rattle.std.proofs.Common.{◌≡◌, ℤ, pos, ◌≤ℤ◌, ◌<ℤ◌, List}
use Rattle.std.specs.Prelude.{All}
use Rattle.integers.proofs.Order.{nonneg_from_one}
use Rattle.bounds_model.specs.Space.{squared_length, dot}
use Rattle.bounds_model.specs.Fractions.{IsAtMost}
use Rattle.bounds_model.specs.Slacks.{WeightedVector, mass, moment, second_moment, slack, value}
use Rattle.corral.specs.Laws.{NoneLowIsBest}
use Rattle.corral.proofs.Values.{spread_nonneg, level_is_best}
use Rattle.corral.proofs.Moments.{mean_is, mean_at_least, common_slack, at_least_common, mass_positive}

-- no weights of at least 0, of vectors of at least the slack p, have a greater value than a weighting of the common slack p
pub level_is_greatest : (quadratic : ℤ) (w items : List WeightedVector) (p : ℤ) → pos 0 <ℤ mass w → pos 0 <ℤ mass items
    → All (λ item. slack quadratic w item.vector ≡ p) w
    → All (λ item. pos 0 ≤ℤ item.weight) items
    → All (λ item. p ≤ℤ slack quadratic w item.vector) items
    → IsAtMost (value quadratic items) (value quadratic w)
level_is_greatest quadratic w items p some_w some_items level weights above =
    level_is_best quadratic (mass w) (second_moment w) (squared_length (moment w)) (mass items) (second_moment items) (squared_length (moment items)) (dot (moment items) (moment w)) p some_w some_items
    (mean_is quadratic w w p level)
    (mean_at_least quadratic w items p weights above)
    (spread_nonneg (mass w) (mass items) (moment items) (moment w))

-- the value of supports under which no vector is low is greatest
pub none_low_is_best : NoneLowIsBest
none_low_is_best quadratic flag best items supports some weights none =
    let common = common_slack quadratic best supports.some supports.equal in
    level_is_greatest quadratic best items common.0 (mass_positive best supports.some supports.weights) (mass_positive items some weights) common.1
    (λ k d l. nonneg_from_one (weights k d l))
    (λ k d l. at_least_common quadratic best common.0 common.1 _ (none k d l))
