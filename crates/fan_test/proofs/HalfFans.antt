-- A fan over half a turn holds where its directions lead from east to west and its points are extreme at both ends.
use Rattle.std.proofs.Common.{◌≡◌, sym, ◌∙◌, ap, subst, ◌↔◌, ℕ, ◌+◌, ◌-◌, ◌<◌, arith, length}
use Rattle.std.specs.Prelude.{List, [], ◌∷◌, map}
use Rattle.std.proofs.lemmas.List.{get_or_default, length-map, length-append}
use Rattle.bounds_model.specs.Plane.{PlanePoint, point_at, origin}
use Rattle.bounds_model.specs.Fans.{HalfFan, HalfCone, half_directions, TurnLeft, AtBothEnds, IsHalfExtreme, AreExtreme, east, west, NamesPoints}
use Rattle.fan_test.specs.Chains.{Leads, AreListed}
use Rattle.fan_test.specs.Ends.{AreEnds, half_number, chosen}
use Rattle.fan_test.specs.declared.ends.End.{End}
use Rattle.fan_test.specs.declared.ends.End.TheVariants.{High, Low}
use Rattle.fan_test.proofs.Extremes.{listed_at}

-- one direction more than cones
pub half_count : (fan : HalfFan) → length (half_directions fan) - 1 ≡ length fan.cones
half_count fan = ap (λ n. n - 1) (length-append (map (λ cone. cone.direction) fan.cones) (fan.last ∷ [])) ∙ less (length (map (λ cone. cone.direction) fan.cones)) (length fan.cones) (length-map fan.cones (λ cone. cone.direction))
  where
    less : (m n : ℕ) → m ≡ n → m + 1 - 1 ≡ n
    less m n e = omega arith

-- the directions lead around
pub half_leads : (fan : HalfFan) (m : ℕ) → m ≡ length fan.cones → Leads (point_at (half_directions fan)) m east west ↔ TurnLeft east west (half_directions fan)
half_leads fan m is =
    let count : m ≡ length (half_directions fan) - 1 = is ∙ sym (half_count fan) in (
      λ leads. record {
        begins = leads.begins;
        ends = subst (λ n. point_at (half_directions fan) n ≡ west) count leads.ends;
        turns = λ k less. leads.turns k (subst (λ n. k < n) (sym count) less);
      },
      λ turns. record {
        begins = turns.begins;
        ends = subst (λ n. point_at (half_directions fan) n ≡ west) (sym count) turns.ends;
        turns = λ k less. turns.turns k (subst (λ n. k < n) count less);
      },
    )

-- the cones are extreme at both ends
pub half_ends : (cloud : List PlanePoint) (fan : HalfFan) (m : ℕ) → m ≡ length fan.cones
    → AreEnds cloud (point_at (half_directions fan)) (half_number High fan) (half_number Low fan) m ↔ AtBothEnds (half_directions fan) (IsHalfExtreme cloud) fan.cones
half_ends cloud fan m is = (
  λ ends k d below. subst (λ c. AreExtreme cloud (point_at (half_directions fan) k) c.high c.low × AreExtreme cloud (point_at (half_directions fan) (k + 1)) c.high c.low) (get_or_default fan.cones k none d below) (ends k (subst (λ n. k < n) (sym is) below)),
  λ ends k below. ends k none (subst (λ n. k < n) is below),
)
  where
    none : HalfCone
    none = record { direction = origin; high = 0; low = 0 }

-- the points of the cones are listed, at each end
pub half_listed : (cloud : List PlanePoint) (fan : HalfFan) (m : ℕ) → m ≡ length fan.cones → NamesPoints cloud fan → (end : End) → AreListed cloud (λ i. point_at cloud (half_number end fan i)) m
half_listed cloud fan m is names High k below = listed_at cloud (half_number High fan k) (names k (record { direction = origin; high = 0; low = 0 }) (subst (λ n. k < n) is below)).0
half_listed cloud fan m is names Low k below = listed_at cloud (half_number Low fan k) (names k (record { direction = origin; high = 0; low = 0 }) (subst (λ n. k < n) is below)).1

-- one of two numbers that are both below a bound is
pub chosen_below : (end : End) (a b n : ℕ) → a < n → b < n → chosen end a b < n
chosen_below High a b n h k = h
chosen_below Low a b n h k = k
