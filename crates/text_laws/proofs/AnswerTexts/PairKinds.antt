-- The texts of annuli, distances and centres.
use Rattle.std.proofs.Common.{◌≡◌, ◌≤◌, List, [], ◌∷◌, map, refl, ap, arith}
use Rattle.bounds_model.specs.Plane.{PlaneRatio}
use Rattle.bounds_model.specs.Ranges.{IsPlaneRatio, point_limit}
use Rattle.bounds_model.specs.AnnulusAnswer.{WeightedPair, AnnulusAnswer, IsPairInRange, AnnulusRanges}
use Rattle.bounds_model.specs.DistanceAnswer.{DistanceAnswer, DistanceRanges}
use Rattle.bounds_model.specs.CentresAnswer.{Leaf, CentresAnswer, CentresRanges}
use Rattle.bounds_model.specs.Answers.{annulus, distance, centres}
use Rattle.bounds_model.specs.AnswerText.Fields.{fraction, number, plane_ratio, space_ratio, natural, point_number}
use Rattle.bounds_model.specs.AnswerText.LineFormats.{Values}
use Rattle.bounds_model.specs.AnswerText.Kinds.{annulus_kind, distance_kind, centres_kind, weighted_pair, leaf}
use Rattle.bounds_model.specs.AnswerText.Spelling.{pair_values, leaf_values, place_values}
use Rattle.text_laws.proofs.AnswerTexts.AnswerLaws.{KindLaw, Written, said_at}
use Rattle.text_laws.proofs.AnswerTexts.RangeLaws.{line_ranges, line_fits}
use Rattle.text_laws.proofs.AnswerTexts.ListRanges.{all_ranges, all_fit, count_ranges, count_fits, map_back}

-- ---- pairs

-- a pair is made of its fields
pair_back : (p : WeightedPair) → weighted_pair (pair_values p) ≡ p
pair_back p = refl

-- ---- annulus

-- annuli keep the laws
pub annulus_law : KindLaw annulus_kind
annulus_law = record {
  sound = record { name = refl; parts = λ b. (refl, (refl, (refl, (refl, tt)))) };
  named = λ lines. refl;
  named_scaled = λ lines. refl;
  not_plain = λ lines. refl;
  said = λ size b. ap (λ (xs : List (Values (point_number ∷ point_number ∷ natural ∷ []))). said_at annulus_kind size (b.0, (b.1.0, (b.1.1.0, (xs, tt))))) (map_back pair_values weighted_pair b.1.1.1.0 (λ v. refl));
  power = λ size b. refl;
  size = λ size b. refl;
  short = λ b fits. omega arith;
  ranges = λ size b size-fits fits. record {
    size = (line_ranges (fraction ∷ []) (size, tt) size-fits).0;
    centre = (line_ranges (plane_ratio ∷ []) b.0 fits.0).0;
    inner = (line_ranges (fraction ∷ []) b.1.0 fits.1.0).0;
    outer = (line_ranges (fraction ∷ []) b.1.1.0 fits.1.1.0).0;
    count = count_ranges weighted_pair 1 3 0 b.1.1.1.0 fits.1.1.1.0.0 (omega arith);
    pairs = all_ranges (point_number ∷ point_number ∷ natural ∷ []) weighted_pair IsPairInRange b.1.1.1.0 (λ v p. (p.0.1, p.1.0.1, p.1.1.0)) fits.1.1.1.0.1;
  };
}

-- an annulus that keeps its ranges is one that its format writes
pub annulus_written : (a : AnnulusAnswer) → AnnulusRanges a → Written (annulus a)
annulus_written a ranges = record {
  kind = annulus_kind;
  law = annulus_law;
  size = a.size;
  body = ((a.centre, tt), ((a.inner, tt), ((a.outer, tt), (map pair_values a.pairs, tt))));
  is = ap (λ (xs : List WeightedPair). annulus (record { size = a.size; centre = a.centre; inner = a.inner; outer = a.outer; pairs = xs })) (map_back weighted_pair pair_values a.pairs pair_back);
  size_fits = line_fits (fraction ∷ []) (a.size, tt) refl (ranges.size, tt);
  body_fits = (
    line_fits (plane_ratio ∷ []) (a.centre, tt) refl (ranges.centre, tt),
    (
      line_fits (fraction ∷ []) (a.inner, tt) refl (ranges.inner, tt),
      (
        line_fits (fraction ∷ []) (a.outer, tt) refl (ranges.outer, tt),
        (
          (
            count_fits pair_values 1 3 0 a.pairs refl (omega (arith, ranges.count.at_least)) (omega (arith, ranges.count.at_most)),
            all_fit (point_number ∷ point_number ∷ natural ∷ []) pair_values IsPairInRange a.pairs refl (λ s p. ((omega arith, p.0), ((omega arith, p.1), (p.2, tt)))) ranges.pairs,
          ),
          tt,
        ),
      ),
    ),
  );
}

-- ---- distance

-- distances keep the laws
pub distance_law : KindLaw distance_kind
distance_law = record {
  sound = record { name = refl; parts = λ b. (refl, (refl, (refl, (refl, tt)))) };
  named = λ lines. refl;
  named_scaled = λ lines. refl;
  not_plain = λ lines. refl;
  said = λ size b. ap (λ (xs : List (Values (point_number ∷ point_number ∷ natural ∷ []))). said_at distance_kind size (b.0, (b.1.0, (b.1.1.0, (xs, tt))))) (map_back pair_values weighted_pair b.1.1.1.0 (λ v. refl));
  power = λ size b. refl;
  size = λ size b. refl;
  short = λ b fits. omega arith;
  ranges = λ size b size-fits fits.
      let direction = line_ranges (number ∷ number ∷ number ∷ []) b.1.1.0 fits.1.1.0 in
      record {
        size = (line_ranges (fraction ∷ []) (size, tt) size-fits).0;
        from = (line_ranges (space_ratio ∷ []) b.0 fits.0).0;
        to = (line_ranges (space_ratio ∷ []) b.1.0 fits.1.0).0;
        direction_x = direction.0;
        direction_y = direction.1.0;
        direction_z = direction.1.1.0;
        count = count_ranges weighted_pair 1 4 0 b.1.1.1.0 fits.1.1.1.0.0 (omega arith);
        pairs = all_ranges (point_number ∷ point_number ∷ natural ∷ []) weighted_pair IsPairInRange b.1.1.1.0 (λ v p. (p.0.1, p.1.0.1, p.1.1.0)) fits.1.1.1.0.1;
      };
}

-- a distance that keeps its ranges is one that its format writes
pub distance_written : (a : DistanceAnswer) → DistanceRanges a → Written (distance a)
distance_written a ranges = record {
  kind = distance_kind;
  law = distance_law;
  size = a.size;
  body = ((a.from, tt), ((a.to, tt), ((a.direction.x, (a.direction.y, (a.direction.z, tt))), (map pair_values a.pairs, tt))));
  is = ap (λ (xs : List WeightedPair). distance (record { size = a.size; from = a.from; to = a.to; direction = a.direction; pairs = xs })) (map_back weighted_pair pair_values a.pairs pair_back);
  size_fits = line_fits (fraction ∷ []) (a.size, tt) refl (ranges.size, tt);
  body_fits = (
    line_fits (space_ratio ∷ []) (a.from, tt) refl (ranges.from, tt),
    (
      line_fits (space_ratio ∷ []) (a.to, tt) refl (ranges.to, tt),
      (
        line_fits (number ∷ number ∷ number ∷ []) (a.direction.x, (a.direction.y, (a.direction.z, tt))) refl (ranges.direction_x, (ranges.direction_y, (ranges.direction_z, tt))),
        (
          (
            count_fits pair_values 1 4 0 a.pairs refl (omega (arith, ranges.count.at_least)) (omega (arith, ranges.count.at_most)),
            all_fit (point_number ∷ point_number ∷ natural ∷ []) pair_values IsPairInRange a.pairs refl (λ s p. ((omega arith, p.0), ((omega arith, p.1), (p.2, tt)))) ranges.pairs,
          ),
          tt,
        ),
      ),
    ),
  );
}

-- ---- centres

-- a leaf is made of its fields
leaf_back : (l : Leaf) → leaf (leaf_values l) ≡ l
leaf_back l = refl

-- the numbers of a leaf are those of points
abbrev IsLeafInRange : Leaf → Type 0
IsLeafInRange l = (l.first ≤ point_limit) × (l.second ≤ point_limit)

-- centres keep the laws
pub centres_law : KindLaw centres_kind
centres_law = record {
  sound = record { name = refl; parts = λ b. (refl, (refl, tt)) };
  named = λ lines. refl;
  named_scaled = λ lines. refl;
  not_plain = λ lines. refl;
  said = λ size b. λ i. said_at centres_kind size (map_back {X = PlaneRatio} place_values (λ v. v.0) b.0 (λ v. refl) i, (map_back leaf_values leaf b.1.0 (λ v. refl) i, tt));
  power = λ size b. refl;
  size = λ size b. refl;
  short = λ b fits. omega arith;
  ranges = λ size b size-fits fits. record {
    size = (line_ranges (fraction ∷ []) (size, tt) size-fits).0;
    square_count = count_ranges (λ v. v.0) 1 3 0 b.0 fits.0.0 (omega arith);
    squares = all_ranges (plane_ratio ∷ []) (λ v. v.0) IsPlaneRatio b.0 (λ v p. p.0) fits.0.1;
    leaf_count = count_ranges leaf 0 16 0 b.1.0 fits.1.0.0 (omega arith);
    leaves = all_ranges (point_number ∷ point_number ∷ []) leaf IsLeafInRange b.1.0 (λ v p. (p.0.1, p.1.0.1)) fits.1.0.1;
  };
}

-- centres that keep their ranges are some that their format writes
pub centres_written : (a : CentresAnswer) → CentresRanges a → Written (centres a)
centres_written a ranges = record {
  kind = centres_kind;
  law = centres_law;
  size = a.size;
  body = (map place_values a.squares, (map leaf_values a.leaves, tt));
  is = λ i. centres (record { size = a.size; squares = map_back {Y = PlaneRatio} (λ v. v.0) place_values a.squares (λ c. refl) i; leaves = map_back leaf leaf_values a.leaves leaf_back i });
  size_fits = line_fits (fraction ∷ []) (a.size, tt) refl (ranges.size, tt);
  body_fits = (
    (
      count_fits place_values 1 3 0 a.squares refl (omega (arith, ranges.square_count.at_least)) (omega (arith, ranges.square_count.at_most)),
      all_fit (plane_ratio ∷ []) place_values IsPlaneRatio a.squares refl (λ c p. (p, tt)) ranges.squares,
    ),
    (
      (
        count_fits leaf_values 0 16 0 a.leaves refl (omega arith) (omega (arith, ranges.leaf_count.at_most)),
        all_fit (point_number ∷ point_number ∷ []) leaf_values IsLeafInRange a.leaves refl (λ l p. ((omega arith, p.0), ((omega arith, p.1), tt))) ranges.leaves,
      ),
      tt,
    ),
  );
}
