use Rattle.std.proofs.Common.{◌*◌, ap, pos, [], ◌∷◌}
use mir.Syntax.{w128}
use Rattle.integers.proofs.Sizes.{size_fits_in}
use Rattle.integers.proofs.UnsignedArithmetic.{limited, with_limited, amounts, amount_fits, amount_within}
use Rattle.directions.proofs.Bounds.{size_in, magnitude_read}
use Rattle.parallelogram_strip.proofs.crossing.Crossing.area.Goals as goal

pub overflow_mul-result : goal.overflow_mul-result
overflow_mul-result c =
    let k = magnitude_read c.unsigned_abs.result c.args.self.now.chord.k (size_fits_in w128 (size_in c.requires.chord.k) tt) c.requires.chord.k c.unsigned_abs.ensures.value in
    with_limited (limited _ 320000000000 c.requires.width ∷ limited _ _ k.1 ∷ []) (λ xs h a b. simp (a, b, amounts) (amount_fits xs h w128 _ tt))

pub returns : goal.returns
returns c =
    let k = magnitude_read c.unsigned_abs.result c.args.self.now.chord.k (size_fits_in w128 (size_in c.requires.chord.k) tt) c.requires.chord.k c.unsigned_abs.ensures.value in
    record {
      value = ap (λ n. pos (c.args.self.now.width * n)) k.0;
      limit = with_limited (limited _ 320000000000 c.requires.width ∷ limited _ _ k.1 ∷ []) (λ xs h a b. simp (a, b, amounts) (amount_within xs h _ tt));
    }
