-- The texts of circles and spheres.
use Rattle.std.proofs.Common.{◌≡◌, List, [], ◌∷◌, map, refl, ap, arith}
use Rattle.bounds_model.specs.BallAnswer.{Weighted, CircleAnswer, SphereAnswer, IsSupportInRange, CircleRanges, SphereRanges}
use Rattle.bounds_model.specs.Answers.{circle, sphere}
use Rattle.bounds_model.specs.AnswerText.Fields.{fraction, plane_ratio, space_ratio, natural, point_number}
use Rattle.bounds_model.specs.AnswerText.LineFormats.{Values}
use Rattle.bounds_model.specs.AnswerText.Kinds.{circle_kind, sphere_kind, weighted}
use Rattle.bounds_model.specs.AnswerText.Spelling.{support_values}
use Rattle.text_laws.proofs.AnswerTexts.AnswerLaws.{KindLaw, Written, said_at}
use Rattle.text_laws.proofs.AnswerTexts.RangeLaws.{line_ranges, line_fits}
use Rattle.text_laws.proofs.AnswerTexts.ListRanges.{all_ranges, all_fit, count_ranges, count_fits, map_back}

-- ---- supports

-- a support is made of its fields
support_back : (s : Weighted) → weighted (support_values s) ≡ s
support_back s = refl

-- ---- circle

-- circles keep the laws
pub circle_law : KindLaw circle_kind
circle_law = record {
  sound = record { name = refl; parts = λ b. (refl, (refl, tt)) };
  named = λ lines. refl;
  named_scaled = λ lines. refl;
  not_plain = λ lines. refl;
  said = λ size b. ap (λ (xs : List (Values (point_number ∷ natural ∷ []))). said_at circle_kind size (b.0, (xs, tt))) (map_back support_values weighted b.1.0 (λ v. refl));
  power = λ size b. refl;
  size = λ size b. refl;
  short = λ b fits. omega arith;
  ranges = λ size b size-fits fits. record {
    size = (line_ranges (fraction ∷ []) (size, tt) size-fits).0;
    centre = (line_ranges (plane_ratio ∷ []) b.0 fits.0).0;
    count = count_ranges weighted 1 3 0 b.1.0 fits.1.0.0 (omega arith);
    supports = all_ranges (point_number ∷ natural ∷ []) weighted IsSupportInRange b.1.0 (λ v p. (p.0.1, p.1.0)) fits.1.0.1;
  };
}

-- a circle that keeps its ranges is one that its format writes
pub circle_written : (a : CircleAnswer) → CircleRanges a → Written (circle a)
circle_written a ranges = record {
  kind = circle_kind;
  law = circle_law;
  size = a.size;
  body = ((a.centre, tt), (map support_values a.supports, tt));
  is = ap (λ (xs : List Weighted). circle (record { size = a.size; centre = a.centre; supports = xs })) (map_back weighted support_values a.supports support_back);
  size_fits = line_fits (fraction ∷ []) (a.size, tt) refl (ranges.size, tt);
  body_fits = (
    line_fits (plane_ratio ∷ []) (a.centre, tt) refl (ranges.centre, tt),
    (
      (
        count_fits support_values 1 3 0 a.supports refl (omega (arith, ranges.count.at_least)) (omega (arith, ranges.count.at_most)),
        all_fit (point_number ∷ natural ∷ []) support_values IsSupportInRange a.supports refl (λ s p. ((omega arith, p.0), (p.1, tt))) ranges.supports,
      ),
      tt,
    ),
  );
}

-- ---- sphere

-- spheres keep the laws
pub sphere_law : KindLaw sphere_kind
sphere_law = record {
  sound = record { name = refl; parts = λ b. (refl, (refl, tt)) };
  named = λ lines. refl;
  named_scaled = λ lines. refl;
  not_plain = λ lines. refl;
  said = λ size b. ap (λ (xs : List (Values (point_number ∷ natural ∷ []))). said_at sphere_kind size (b.0, (xs, tt))) (map_back support_values weighted b.1.0 (λ v. refl));
  power = λ size b. refl;
  size = λ size b. refl;
  short = λ b fits. omega arith;
  ranges = λ size b size-fits fits. record {
    size = (line_ranges (fraction ∷ []) (size, tt) size-fits).0;
    centre = (line_ranges (space_ratio ∷ []) b.0 fits.0).0;
    count = count_ranges weighted 1 4 0 b.1.0 fits.1.0.0 (omega arith);
    supports = all_ranges (point_number ∷ natural ∷ []) weighted IsSupportInRange b.1.0 (λ v p. (p.0.1, p.1.0)) fits.1.0.1;
  };
}

-- a sphere that keeps its ranges is one that its format writes
pub sphere_written : (a : SphereAnswer) → SphereRanges a → Written (sphere a)
sphere_written a ranges = record {
  kind = sphere_kind;
  law = sphere_law;
  size = a.size;
  body = ((a.centre, tt), (map support_values a.supports, tt));
  is = ap (λ (xs : List Weighted). sphere (record { size = a.size; centre = a.centre; supports = xs })) (map_back weighted support_values a.supports support_back);
  size_fits = line_fits (fraction ∷ []) (a.size, tt) refl (ranges.size, tt);
  body_fits = (
    line_fits (space_ratio ∷ []) (a.centre, tt) refl (ranges.centre, tt),
    (
      (
        count_fits support_values 1 4 0 a.supports refl (omega (arith, ranges.count.at_least)) (omega (arith, ranges.count.at_most)),
        all_fit (point_number ∷ natural ∷ []) support_values IsSupportInRange a.supports refl (λ s p. ((omega arith, p.0), (p.1, tt))) ranges.supports,
      ),
      tt,
    ),
  );
}
