-- The texts of furthest corners, four centres and shells.
use Rattle.std.proofs.Common.{◌≡◌, ◌≤◌, List, [], ◌∷◌, map, refl, ap, arith}
use Rattle.bounds_model.specs.Plane.{PlaneRatio}
use Rattle.bounds_model.specs.Ranges.{IsPlaneRatio, point_limit}
use Rattle.bounds_model.specs.AnnulusAnswer.{WeightedPair, IsPairInRange}
use Rattle.bounds_model.specs.CentresAnswer.{Leaf, CentresAnswer}
use Rattle.bounds_model.specs.FurthestAnswer.{Entry, FurthestAnswer, FurthestRanges}
use Rattle.bounds_model.specs.FourAnswer.{FourRanges}
use Rattle.bounds_model.specs.ShellAnswer.{ShellAnswer, ShellRanges}
use Rattle.bounds_model.specs.Answers.{furthest, four, shell}
use Rattle.bounds_model.specs.AnswerText.Fields.{fraction, number, plane_ratio, space_ratio, natural, bounded, point_number}
use Rattle.bounds_model.specs.AnswerText.LineFormats.{Values}
use Rattle.bounds_model.specs.AnswerText.Kinds.{furthest_kind, four_kind, shell_kind, weighted_pair, leaf, entry}
use Rattle.bounds_model.specs.AnswerText.Spelling.{pair_values, leaf_values, place_values, entry_values}
use Rattle.text_laws.proofs.AnswerTexts.AnswerLaws.{KindLaw, Written, said_at}
use Rattle.text_laws.proofs.AnswerTexts.RangeLaws.{line_ranges, line_fits}
use Rattle.text_laws.proofs.AnswerTexts.ListRanges.{all_ranges, all_fit, count_ranges, count_fits, map_back}

-- ---- furthest corners

-- an entry is made of its fields
entry_back : (e : Entry) → entry (entry_values e) ≡ e
entry_back e = refl

-- the numbers of an entry are those of points and positions
abbrev IsEntryInRange : Entry → Type 0
IsEntryInRange e = (e.corner ≤ point_limit) × (e.far ≤ point_limit)

-- furthest corners keep the laws
pub furthest_law : KindLaw furthest_kind
furthest_law = record {
  sound = record { name = refl; parts = λ b. (refl, tt) };
  named = λ lines. refl;
  named_scaled = λ lines. refl;
  not_plain = λ lines. refl;
  said = λ size b. ap (λ (xs : List (Values (point_number ∷ bounded 0 point_limit ∷ []))). said_at furthest_kind size (xs, tt)) (map_back entry_values entry b.0 (λ v. refl));
  power = λ size b. refl;
  size = λ size b. refl;
  short = λ b fits. omega arith;
  ranges = λ size b size-fits fits. record {
    size = (line_ranges (fraction ∷ []) (size, tt) size-fits).0;
    count = count_ranges entry 1 10000 0 b.0 fits.0.0 (omega arith);
    corners = λ i d low. (all_ranges (point_number ∷ bounded 0 point_limit ∷ []) entry IsEntryInRange b.0 (λ v p. (p.0.1, p.1.0.1)) fits.0.1 i d low).0;
    fars = λ i d low. (all_ranges (point_number ∷ bounded 0 point_limit ∷ []) entry IsEntryInRange b.0 (λ v p. (p.0.1, p.1.0.1)) fits.0.1 i d low).1;
  };
}

-- furthest corners that keep their ranges are some that their format writes
pub furthest_written : (a : FurthestAnswer) → FurthestRanges a → Written (furthest a)
furthest_written a ranges = record {
  kind = furthest_kind;
  law = furthest_law;
  size = a.size;
  body = (map entry_values a.entries, tt);
  is = ap (λ (xs : List Entry). furthest (record { size = a.size; entries = xs })) (map_back entry entry_values a.entries entry_back);
  size_fits = line_fits (fraction ∷ []) (a.size, tt) refl (ranges.size, tt);
  body_fits = (
    (
      count_fits entry_values 1 10000 0 a.entries refl (omega (arith, ranges.count.at_least)) (omega (arith, ranges.count.at_most)),
      all_fit (point_number ∷ bounded 0 point_limit ∷ []) entry_values IsEntryInRange a.entries refl (λ e p. ((omega arith, p.0), ((omega arith, p.1), tt))) (λ i d low. (ranges.corners i d low, ranges.fars i d low)),
    ),
    tt,
  );
}

-- ---- four centres

-- a leaf is made of its fields
leaf_back : (l : Leaf) → leaf (leaf_values l) ≡ l
leaf_back l = refl

-- the numbers of a leaf are those of points
abbrev IsLeafInRange : Leaf → Type 0
IsLeafInRange l = (l.first ≤ point_limit) × (l.second ≤ point_limit)

-- four centres keep the laws
pub four_law : KindLaw four_kind
four_law = record {
  sound = record { name = refl; parts = λ b. (refl, (refl, tt)) };
  named = λ lines. refl;
  named_scaled = λ lines. refl;
  not_plain = λ lines. refl;
  said = λ size b. λ i. said_at four_kind size (map_back {X = PlaneRatio} place_values (λ v. v.0) b.0 (λ v. refl) i, (map_back leaf_values leaf b.1.0 (λ v. refl) i, tt));
  power = λ size b. refl;
  size = λ size b. refl;
  short = λ b fits. omega arith;
  ranges = λ size b size-fits fits. record {
    size = (line_ranges (fraction ∷ []) (size, tt) size-fits).0;
    square_count = count_ranges (λ v. v.0) 4 4 0 b.0 fits.0.0 (omega arith);
    squares = all_ranges (plane_ratio ∷ []) (λ v. v.0) IsPlaneRatio b.0 (λ v p. p.0) fits.0.1;
    leaf_count = count_ranges leaf 0 16000 0 b.1.0 fits.1.0.0 (omega arith);
    leaves = all_ranges (point_number ∷ point_number ∷ []) leaf IsLeafInRange b.1.0 (λ v p. (p.0.1, p.1.0.1)) fits.1.0.1;
  };
}

-- four centres that keep their ranges are some that their format writes
pub four_written : (a : CentresAnswer) → FourRanges a → Written (four a)
four_written a ranges = record {
  kind = four_kind;
  law = four_law;
  size = a.size;
  body = (map place_values a.squares, (map leaf_values a.leaves, tt));
  is = λ i. four (record { size = a.size; squares = map_back {Y = PlaneRatio} (λ v. v.0) place_values a.squares (λ c. refl) i; leaves = map_back leaf leaf_values a.leaves leaf_back i });
  size_fits = line_fits (fraction ∷ []) (a.size, tt) refl (ranges.size, tt);
  body_fits = (
    (
      count_fits place_values 4 4 0 a.squares refl (omega (arith, ranges.square_count.at_least)) (omega (arith, ranges.square_count.at_most)),
      all_fit (plane_ratio ∷ []) place_values IsPlaneRatio a.squares refl (λ c p. (p, tt)) ranges.squares,
    ),
    (
      (
        count_fits leaf_values 0 16000 0 a.leaves refl (omega arith) (omega (arith, ranges.leaf_count.at_most)),
        all_fit (point_number ∷ point_number ∷ []) leaf_values IsLeafInRange a.leaves refl (λ l p. ((omega arith, p.0), ((omega arith, p.1), tt))) ranges.leaves,
      ),
      tt,
    ),
  );
}

-- ---- shell

-- a pair is made of its fields
pair_back : (p : WeightedPair) → weighted_pair (pair_values p) ≡ p
pair_back p = refl

-- shells keep the laws
pub shell_law : KindLaw shell_kind
shell_law = record {
  sound = record { name = refl; parts = λ b. (refl, (refl, (refl, tt))) };
  named = λ lines. refl;
  named_scaled = λ lines. refl;
  not_plain = λ lines. refl;
  said = λ size b. ap (λ (xs : List (Values (point_number ∷ point_number ∷ natural ∷ []))). said_at shell_kind size (b.0, (b.1.0, (xs, tt)))) (map_back pair_values weighted_pair b.1.1.0 (λ v. refl));
  power = λ size b. refl;
  size = λ size b. refl;
  short = λ b fits. omega arith;
  ranges = λ size b size-fits fits.
      let levels = line_ranges (number ∷ number ∷ []) b.1.0 fits.1.0 in
      record {
        size = (line_ranges (fraction ∷ []) (size, tt) size-fits).0;
        centre = (line_ranges (space_ratio ∷ []) b.0 fits.0).0;
        low = levels.0;
        high = levels.1.0;
        count = count_ranges weighted_pair 1 4 0 b.1.1.0 fits.1.1.0.0 (omega arith);
        pairs = all_ranges (point_number ∷ point_number ∷ natural ∷ []) weighted_pair IsPairInRange b.1.1.0 (λ v p. (p.0.1, p.1.0.1, p.1.1.0)) fits.1.1.0.1;
      };
}

-- a shell that keeps its ranges is one that its format writes
pub shell_written : (a : ShellAnswer) → ShellRanges a → Written (shell a)
shell_written a ranges = record {
  kind = shell_kind;
  law = shell_law;
  size = a.size;
  body = ((a.centre, tt), ((a.low, (a.high, tt)), (map pair_values a.pairs, tt)));
  is = ap (λ (xs : List WeightedPair). shell (record { size = a.size; centre = a.centre; low = a.low; high = a.high; pairs = xs })) (map_back weighted_pair pair_values a.pairs pair_back);
  size_fits = line_fits (fraction ∷ []) (a.size, tt) refl (ranges.size, tt);
  body_fits = (
    line_fits (space_ratio ∷ []) (a.centre, tt) refl (ranges.centre, tt),
    (
      line_fits (number ∷ number ∷ []) (a.low, (a.high, tt)) refl (ranges.low, (ranges.high, tt)),
      (
        (
          count_fits pair_values 1 4 0 a.pairs refl (omega (arith, ranges.count.at_least)) (omega (arith, ranges.count.at_most)),
          all_fit (point_number ∷ point_number ∷ natural ∷ []) pair_values IsPairInRange a.pairs refl (λ s p. ((omega arith, p.0), ((omega arith, p.1), (p.2, tt)))) ranges.pairs,
        ),
        tt,
      ),
    ),
  );
}
