-- A fan over a quarter turn holds where its directions lead from east to north and its points are extreme at all four ends.
use Rattle.std.proofs.Common.{◌≡◌, sym, ◌∙◌, ap, subst, ◌↔◌, ℕ, ◌+◌, ◌-◌, ◌<◌, arith, length, Bool, true, false}
use Rattle.std.specs.Prelude.{List, [], ◌∷◌, map}
use Rattle.std.proofs.lemmas.List.{get_or_default, length-map, length-append}
use Rattle.bounds_model.specs.Plane.{PlanePoint, point_at, origin, quarter_turn}
use Rattle.bounds_model.specs.Fans.{QuarterFan, QuarterCone, quarter_directions, TurnLeft, AtBothEnds, IsQuarterExtreme, east, north, NamesAllPoints}
use Rattle.fan_test.specs.Chains.{Leads, AreListed, Turns}
use Rattle.fan_test.specs.Ends.{AreEnds, quarter_number, quarter_end, turned}
use Rattle.fan_test.specs.declared.ends.End.{End}
use Rattle.fan_test.specs.declared.ends.End.TheVariants.{High, Low}
use Rattle.fan_test.proofs.Extremes.{listed_at, turned_turns}

-- one direction more than cones
pub quarter_count : (fan : QuarterFan) → length (quarter_directions fan) - 1 ≡ length fan.cones
quarter_count fan = ap (λ n. n - 1) (length-append (map (λ cone. cone.direction) fan.cones) (fan.last ∷ [])) ∙ less (length (map (λ cone. cone.direction) fan.cones)) (length fan.cones) (length-map fan.cones (λ cone. cone.direction))
  where
    less : (m n : ℕ) → m ≡ n → m + 1 - 1 ≡ n
    less m n e = omega arith

-- the directions lead around
pub quarter_leads : (fan : QuarterFan) (m : ℕ) → m ≡ length fan.cones → Leads (point_at (quarter_directions fan)) m east north ↔ TurnLeft east north (quarter_directions fan)
quarter_leads fan m is =
    let count : m ≡ length (quarter_directions fan) - 1 = is ∙ sym (quarter_count fan) in (
      λ leads. record {
        begins = leads.begins;
        ends = subst (λ n. point_at (quarter_directions fan) n ≡ north) count leads.ends;
        turns = λ k less. leads.turns k (subst (λ n. k < n) (sym count) less);
      },
      λ turns. record {
        begins = turns.begins;
        ends = subst (λ n. point_at (quarter_directions fan) n ≡ north) (sym count) turns.ends;
        turns = λ k less. turns.turns k (subst (λ n. k < n) count less);
      },
    )

-- the cones are extreme at both ends, in the directions and in those turned by a right angle
pub quarter_ends : (cloud : List PlanePoint) (fan : QuarterFan) (m : ℕ) → m ≡ length fan.cones
    → AreEnds cloud (point_at (quarter_directions fan)) (quarter_number false High fan) (quarter_number false Low fan) m
    → AreEnds cloud (λ i. quarter_turn (point_at (quarter_directions fan) i)) (quarter_number true High fan) (quarter_number true Low fan) m
    → AtBothEnds (quarter_directions fan) (IsQuarterExtreme cloud) fan.cones
quarter_ends cloud fan m is along across k d below =
    let less = subst (λ n. k < n) (sym is) below in
    subst (λ c. IsQuarterExtreme cloud (point_at (quarter_directions fan) k) c × IsQuarterExtreme cloud (point_at (quarter_directions fan) (k + 1)) c) (get_or_default fan.cones k none d below)
    (((along k less).0, (across k less).0), ((along k less).1, (across k less).1))
  where
    none : QuarterCone
    none = record { direction = origin; high = 0; low = 0; over = 0; under = 0 }

-- and back, in the directions
pub ends_along : (cloud : List PlanePoint) (fan : QuarterFan) (m : ℕ) → m ≡ length fan.cones → AtBothEnds (quarter_directions fan) (IsQuarterExtreme cloud) fan.cones
    → AreEnds cloud (point_at (quarter_directions fan)) (quarter_number false High fan) (quarter_number false Low fan) m
ends_along cloud fan m is ends k below =
    let both = ends k (record { direction = origin; high = 0; low = 0; over = 0; under = 0 }) (subst (λ n. k < n) is below) in (both.0.0, both.1.0)

-- and in those turned by a right angle
pub ends_across : (cloud : List PlanePoint) (fan : QuarterFan) (m : ℕ) → m ≡ length fan.cones → AtBothEnds (quarter_directions fan) (IsQuarterExtreme cloud) fan.cones
    → AreEnds cloud (λ i. quarter_turn (point_at (quarter_directions fan) i)) (quarter_number true High fan) (quarter_number true Low fan) m
ends_across cloud fan m is ends k below =
    let both = ends k (record { direction = origin; high = 0; low = 0; over = 0; under = 0 }) (subst (λ n. k < n) is below) in (both.0.1, both.1.1)

-- the points of the cones are listed, at each end
pub quarter_listed : (cloud : List PlanePoint) (fan : QuarterFan) (m : ℕ) → m ≡ length fan.cones → NamesAllPoints cloud fan → (across : Bool) (end : End) → AreListed cloud (λ i. point_at cloud (quarter_number across end fan i)) m
quarter_listed cloud fan m is names false High k below = listed_at cloud (quarter_number false High fan k) (names k (record { direction = origin; high = 0; low = 0; over = 0; under = 0 }) (subst (λ n. k < n) is below)).0
quarter_listed cloud fan m is names false Low k below = listed_at cloud (quarter_number false Low fan k) (names k (record { direction = origin; high = 0; low = 0; over = 0; under = 0 }) (subst (λ n. k < n) is below)).1
quarter_listed cloud fan m is names true High k below = listed_at cloud (quarter_number true High fan k) (names k (record { direction = origin; high = 0; low = 0; over = 0; under = 0 }) (subst (λ n. k < n) is below)).2
quarter_listed cloud fan m is names true Low k below = listed_at cloud (quarter_number true Low fan k) (names k (record { direction = origin; high = 0; low = 0; over = 0; under = 0 }) (subst (λ n. k < n) is below)).3

-- directions that are turned or not turn alike
pub either_turns : (D : ℕ → PlanePoint) (cones : ℕ) → Turns D cones → (across : Bool) → Turns (λ i. turned across (D i)) cones
either_turns D cones turns false = turns
either_turns D cones turns true = turned_turns D cones turns

-- a number of a cone is below a bound if all are
pub quarter_end_below : (across : Bool) (end : End) (cone : QuarterCone) (n : ℕ) → (cone.high < n) × (cone.low < n) × (cone.over < n) × (cone.under < n) → quarter_end across end cone < n
quarter_end_below false High cone n h = h.0
quarter_end_below false Low cone n h = h.1
quarter_end_below true High cone n h = h.2
quarter_end_below true Low cone n h = h.3
