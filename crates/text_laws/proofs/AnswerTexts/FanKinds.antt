-- The texts of rectangles and strips.
use Rattle.std.proofs.Common.{◌≡◌, ◌≤◌, List, [], ◌∷◌, ◌++◌, map, refl, ap, arith}
use Rattle.std.specs.Prelude.{All}
use Rattle.std.proofs.lemmas.List.Elements.{All-nil, All-cons, All-head, All-tail, All-map, All-append}
use Rattle.bounds_model.specs.Plane.{PlanePoint}
use Rattle.bounds_model.specs.Ranges.{IsDirection, point_limit}
use Rattle.bounds_model.specs.Fans.{HalfCone, QuarterCone}
use Rattle.bounds_model.specs.RectangleAnswer.{RectangleAnswer, RectangleRanges}
use Rattle.bounds_model.specs.StripAnswer.{StripAnswer, StripRanges}
use Rattle.bounds_model.specs.Answers.{rectangle, strip}
use Rattle.bounds_model.specs.AnswerText.Fields.{fraction, number}
use Rattle.bounds_model.specs.AnswerText.LineFormats.{Values}
use Rattle.bounds_model.specs.AnswerText.Kinds.{rectangle_kind, strip_kind, quarter_fields, quarter_cone, half_fields, half_cone}
use Rattle.bounds_model.specs.AnswerText.Spelling.{quarter_values, half_values}
use Rattle.text_laws.proofs.AnswerTexts.AnswerLaws.{KindLaw, Written, said_at}
use Rattle.text_laws.proofs.AnswerTexts.RangeLaws.{line_ranges, line_fits}
use Rattle.text_laws.proofs.AnswerTexts.ListRanges.{all_ranges, all_fit, count_ranges, count_fits, map_back}

-- ---- fans

-- directions of cones, and the last direction
pub directions_of_all : {Cone : Type 0} (direction : Cone → PlanePoint) (cones : List Cone) (last : PlanePoint) → All IsDirection (map direction cones ++ last ∷ []) → All (λ c. IsDirection (direction c)) cones × IsDirection last
directions_of_all direction [] last all = (All-nil (λ c. IsDirection (direction c)), All-head IsDirection last [] all)
directions_of_all direction (cone ∷ cones) last all =
    let others = directions_of_all direction cones last (All-tail IsDirection (direction cone) (map direction cones ++ last ∷ []) all) in
    (All-cons (λ c. IsDirection (direction c)) cone cones (All-head IsDirection (direction cone) (map direction cones ++ last ∷ []) all) others.0, others.1)

-- the same, put together
pub all_directions : {Cone : Type 0} (direction : Cone → PlanePoint) (cones : List Cone) (last : PlanePoint) → All (λ c. IsDirection (direction c)) cones → IsDirection last → All IsDirection (map direction cones ++ last ∷ [])
all_directions direction cones last all end = All-append IsDirection (map direction cones) (last ∷ []) (All-map IsDirection direction cones all) (All-cons IsDirection last [] end (All-nil IsDirection))

-- ---- rectangle

-- a cone is made of its fields
quarter_back : (c : QuarterCone) → quarter_cone (quarter_values c) ≡ c
quarter_back c = refl

-- the numbers of the cone are those of points
abbrev QuarterPoints : QuarterCone → Type 0
QuarterPoints c = (c.high ≤ point_limit) × (c.low ≤ point_limit) × (c.over ≤ point_limit) × (c.under ≤ point_limit)

-- the cone keeps its ranges
abbrev IsQuarterConeInRange : QuarterCone → Type 0
IsQuarterConeInRange c = IsDirection c.direction × QuarterPoints c

-- rectangles keep the laws
pub rectangle_law : KindLaw rectangle_kind
rectangle_law = record {
  sound = record { name = refl; parts = λ b. (refl, (refl, (refl, (refl, (refl, tt))))) };
  named = λ lines. refl;
  named_scaled = λ lines. refl;
  not_plain = λ lines. refl;
  said = λ size b. ap (λ (xs : List (Values quarter_fields)). said_at rectangle_kind size (b.0, (b.1.0, (b.1.1.0, (xs, b.1.1.1.1))))) (map_back quarter_values quarter_cone b.1.1.1.0 (λ v. refl));
  power = λ size b. refl;
  size = λ size b. refl;
  short = λ b fits. omega arith;
  ranges = λ size b size-fits fits.
      let direction = line_ranges (number ∷ number ∷ []) b.0 fits.0 in
      let along = line_ranges (number ∷ number ∷ []) b.1.0 fits.1.0 in
      let across = line_ranges (number ∷ number ∷ []) b.1.1.0 fits.1.1.0 in
      let last = line_ranges (number ∷ number ∷ []) b.1.1.1.1.0 fits.1.1.1.1.0 in
      record {
        size = (line_ranges (fraction ∷ []) (size, tt) size-fits).0;
        direction = record { x = direction.0; y = direction.1.0 };
        along = record { low = along.0; high = along.1.0 };
        across = record { low = across.0; high = across.1.0 };
        fan = record {
          count = count_ranges quarter_cone 2 10003 1 b.1.1.1.0 fits.1.1.1.0.0 (omega arith);
          directions = all_directions (λ c. c.direction) (map quarter_cone b.1.1.1.0) (record { x = b.1.1.1.1.0.0; y = b.1.1.1.1.0.1.0 })
              (all_ranges quarter_fields quarter_cone (λ c. IsDirection c.direction) b.1.1.1.0 (λ v p. record { x = p.0; y = p.1.0 }) fits.1.1.1.0.1) (record { x = last.0; y = last.1.0 });
          points = all_ranges quarter_fields quarter_cone QuarterPoints b.1.1.1.0 (λ v p. (p.1.1.0.1, p.1.1.1.0.1, p.1.1.1.1.0.1, p.1.1.1.1.1.0.1)) fits.1.1.1.0.1;
        };
      };
}

-- a rectangle that keeps its ranges is one that its format writes
pub rectangle_written : (a : RectangleAnswer) → RectangleRanges a → Written (rectangle a)
rectangle_written a ranges =
    let directions = directions_of_all (λ (c : QuarterCone). c.direction) a.fan.cones a.fan.last ranges.fan.directions in
    record {
      kind = rectangle_kind;
      law = rectangle_law;
      size = a.size;
      body = ((a.direction.x, (a.direction.y, tt)), ((a.along.low, (a.along.high, tt)), ((a.across.low, (a.across.high, tt)), (map quarter_values a.fan.cones, ((a.fan.last.x, (a.fan.last.y, tt)), tt)))));
      is = ap (λ (xs : List QuarterCone). rectangle (record { size = a.size; direction = a.direction; along = a.along; across = a.across; fan = record { cones = xs; last = a.fan.last } })) (map_back quarter_cone quarter_values a.fan.cones quarter_back);
      size_fits = line_fits (fraction ∷ []) (a.size, tt) refl (ranges.size, tt);
      body_fits = (
        line_fits (number ∷ number ∷ []) (a.direction.x, (a.direction.y, tt)) refl (ranges.direction.x, (ranges.direction.y, tt)),
        (
          line_fits (number ∷ number ∷ []) (a.along.low, (a.along.high, tt)) refl (ranges.along.low, (ranges.along.high, tt)),
          (
            line_fits (number ∷ number ∷ []) (a.across.low, (a.across.high, tt)) refl (ranges.across.low, (ranges.across.high, tt)),
            (
              (
                count_fits quarter_values 2 10003 1 a.fan.cones refl (omega (arith, ranges.fan.count.at_least)) (omega (arith, ranges.fan.count.at_most)),
                all_fit quarter_fields quarter_values IsQuarterConeInRange a.fan.cones refl (λ c p. (p.0.x, (p.0.y, ((omega arith, p.1.0), ((omega arith, p.1.1), ((omega arith, p.1.2), ((omega arith, p.1.3), tt))))))) (λ k d l. (directions.0 k d l, ranges.fan.points k d l)),
              ),
              (line_fits (number ∷ number ∷ []) (a.fan.last.x, (a.fan.last.y, tt)) refl (directions.1.x, (directions.1.y, tt)), tt),
            ),
          ),
        ),
      );
    }

-- ---- strip

-- a cone is made of its fields
half_back : (c : HalfCone) → half_cone (half_values c) ≡ c
half_back c = refl

-- the numbers of the cone are those of points
abbrev HalfPoints : HalfCone → Type 0
HalfPoints c = (c.high ≤ point_limit) × (c.low ≤ point_limit)

-- the cone keeps its ranges
abbrev IsHalfConeInRange : HalfCone → Type 0
IsHalfConeInRange c = IsDirection c.direction × HalfPoints c

-- strips keep the laws
pub strip_law : KindLaw strip_kind
strip_law = record {
  sound = record { name = refl; parts = λ b. (refl, (refl, (refl, (refl, tt)))) };
  named = λ lines. refl;
  named_scaled = λ lines. refl;
  not_plain = λ lines. refl;
  said = λ size b. ap (λ (xs : List (Values half_fields)). said_at strip_kind size (b.0, (b.1.0, (xs, b.1.1.1)))) (map_back half_values half_cone b.1.1.0 (λ v. refl));
  power = λ size b. refl;
  size = λ size b. refl;
  short = λ b fits. omega arith;
  ranges = λ size b size-fits fits.
      let direction = line_ranges (number ∷ number ∷ []) b.0 fits.0 in
      let bounds = line_ranges (number ∷ number ∷ []) b.1.0 fits.1.0 in
      let last = line_ranges (number ∷ number ∷ []) b.1.1.1.0 fits.1.1.1.0 in
      record {
        size = (line_ranges (fraction ∷ []) (size, tt) size-fits).0;
        direction = record { x = direction.0; y = direction.1.0 };
        bounds = record { low = bounds.0; high = bounds.1.0 };
        fan = record {
          count = count_ranges half_cone 2 10003 1 b.1.1.0 fits.1.1.0.0 (omega arith);
          directions = all_directions (λ c. c.direction) (map half_cone b.1.1.0) (record { x = b.1.1.1.0.0; y = b.1.1.1.0.1.0 })
              (all_ranges half_fields half_cone (λ c. IsDirection c.direction) b.1.1.0 (λ v p. record { x = p.0; y = p.1.0 }) fits.1.1.0.1) (record { x = last.0; y = last.1.0 });
          points = all_ranges half_fields half_cone HalfPoints b.1.1.0 (λ v p. (p.1.1.0.1, p.1.1.1.0.1)) fits.1.1.0.1;
        };
      };
}

-- a strip that keeps its ranges is one that its format writes
pub strip_written : (a : StripAnswer) → StripRanges a → Written (strip a)
strip_written a ranges =
    let directions = directions_of_all (λ (c : HalfCone). c.direction) a.fan.cones a.fan.last ranges.fan.directions in
    record {
      kind = strip_kind;
      law = strip_law;
      size = a.size;
      body = ((a.direction.x, (a.direction.y, tt)), ((a.bounds.low, (a.bounds.high, tt)), (map half_values a.fan.cones, ((a.fan.last.x, (a.fan.last.y, tt)), tt))));
      is = ap (λ (xs : List HalfCone). strip (record { size = a.size; direction = a.direction; bounds = a.bounds; fan = record { cones = xs; last = a.fan.last } })) (map_back half_cone half_values a.fan.cones half_back);
      size_fits = line_fits (fraction ∷ []) (a.size, tt) refl (ranges.size, tt);
      body_fits = (
        line_fits (number ∷ number ∷ []) (a.direction.x, (a.direction.y, tt)) refl (ranges.direction.x, (ranges.direction.y, tt)),
        (
          line_fits (number ∷ number ∷ []) (a.bounds.low, (a.bounds.high, tt)) refl (ranges.bounds.low, (ranges.bounds.high, tt)),
          (
            (
              count_fits half_values 2 10003 1 a.fan.cones refl (omega (arith, ranges.fan.count.at_least)) (omega (arith, ranges.fan.count.at_most)),
              all_fit half_fields half_values IsHalfConeInRange a.fan.cones refl (λ c p. (p.0.x, (p.0.y, ((omega arith, p.1.0), ((omega arith, p.1.1), tt))))) (λ k d l. (directions.0 k d l, ranges.fan.points k d l)),
            ),
            (line_fits (number ∷ number ∷ []) (a.fan.last.x, (a.fan.last.y, tt)) refl (directions.1.x, (directions.1.y, tt)), tt),
          ),
        ),
      );
    }
