-- Entries that pass.
use Rattle.std.proofs.Common.{◌≡◌, sym, ap, subst, ◌∙◌, ℕ, ◌<◌, ◌≤◌, ◌*ℤ◌, ℤ, pos, List, length, map, arith}
use Rattle.std.specs.Prelude.{All}
use Rattle.std.proofs.lemmas.List.{length-map}
use Rattle.std.proofs.lemmas.List.Elements.{All-weaker, All-map}
use Rattle.integers.specs.Extremes.{greatest}
use Rattle.integers.proofs.Lists.{All-unmap, any_default}
use Rattle.bounds_model.specs.Numbers.{EachBelow}
use Rattle.bounds_model.specs.Plane.{PlanePoint, point_at}
use Rattle.bounds_model.specs.Fractions.{Fraction, SameValue}
use Rattle.bounds_model.specs.Ranges.{IsFraction}
use Rattle.bounds_model.specs.CornerTest.{CornersPass}
use Rattle.bounds_model.specs.Hull.{AreCorners}
use Rattle.model_laws.proofs.CornerLaw.{passing_corners, named_points}
use Rattle.bounds_model.specs.Furthest.{IsFurthest}
use Rattle.bounds_model.specs.FurthestAnswer.{Entry, PassesFurthest, corner_numbers, entry_points, far_at, far_distance}
use Rattle.model_laws.proofs.EntryPoints.{corner_count}
use Rattle.furthest_check.specs.RowTests.{HasFurthestLimits}

-- the corners that are read
record Reads (points : List PlanePoint) (entries : List Entry) (corners : List PlanePoint) (h : ℕ) : Type 0 where
  same : corners ≡ entry_points points entries
  count : h ≡ length entries

reads : (points : List PlanePoint) (entries : List Entry) (numbers : List ℕ) → numbers ≡ corner_numbers entries → Reads points entries (map (point_at points) numbers) (length numbers)
reads points entries numbers is = record { same = ap (map (point_at points)) is; count = ap length is ∙ length-map entries (λ e. e.corner) }

-- what is shown of entries is all that is asked
pub passes_if : (points : List PlanePoint) (entries : List Entry) (numbers : List ℕ) (size : Fraction) (most : ℤ) → length points ≤ 10000 → HasFurthestLimits (length points) entries
    → numbers ≡ corner_numbers entries → IsFraction size → SameValue size (record { n = most; d = pos 1 }) → most ≡ greatest (far_distance points entries) entries
    → CornersPass points (map (point_at points) numbers) → EachBelow (length numbers) (λ i. IsFurthest (map (point_at points) numbers) i (far_at entries i))
    → PassesFurthest points (record { size = size; entries = entries })
passes_if points entries numbers size most many limits is fraction value most_is corners furthest =
    let r = reads points entries numbers is in
    record {
      ranges = record {
        size = fraction;
        count = limits.as_many;
        corners = All-weaker (λ (e : Entry). e.corner < length points) (λ (e : Entry). e.corner ≤ 9999) (λ (e : Entry) h. small h many) entries limits.corners;
        fars = All-weaker (λ (e : Entry). e.far < length entries) (λ (e : Entry). e.far ≤ 9999) (λ (e : Entry) h. small h limits.as_many.at_most) entries limits.fars;
      };
      numbers = All-map (λ n. n < length points) (λ (e : Entry). e.corner) entries limits.corners;
      corners = subst (CornersPass points) r.same corners;
      furthest = λ i low. subst (λ cs. IsFurthest cs i (far_at entries i)) r.same (furthest i (subst (λ n. i < n) (sym r.count) low));
      size = value ∙ ap (λ g. g *ℤ size.d) most_is;
    }
  where
    small : {n m : ℕ} → n < m → m ≤ 10000 → n ≤ 9999
    small h k = omega (arith, h, k)

-- the limits of what passes
pub limits_if : (points : List PlanePoint) (entries : List Entry) (size : Fraction) → PassesFurthest points (record { size = size; entries = entries }) → HasFurthestLimits (length points) entries
limits_if points entries size p = record {
  as_many = p.ranges.count;
  corners = All-unmap (λ n. n < length points) (λ (e : Entry). e.corner) entries p.numbers;
  fars = λ k d low. subst (λ e. e.far < length entries) (any_default entries k d (record { corner = 0; far = 0 }) low)
      (subst (λ n. far_at entries k < n) (corner_count points entries) (p.furthest k low).in_range);
}

-- and its corners, furthest ones and size, as they are read
pub corners_if : (points : List PlanePoint) (entries : List Entry) (numbers : List ℕ) (size : Fraction) → numbers ≡ corner_numbers entries
    → PassesFurthest points (record { size = size; entries = entries }) → CornersPass points (map (point_at points) numbers)
corners_if points entries numbers size is p = subst (CornersPass points) (sym (reads points entries numbers is).same) p.corners

pub furthest_if : (points : List PlanePoint) (entries : List Entry) (numbers : List ℕ) (size : Fraction) → numbers ≡ corner_numbers entries
    → PassesFurthest points (record { size = size; entries = entries }) → EachBelow (length numbers) (λ i. IsFurthest (map (point_at points) numbers) i (far_at entries i))
furthest_if points entries numbers size is p i low =
    let r = reads points entries numbers is in
    subst (λ cs. IsFurthest cs i (far_at entries i)) (sym r.same) (p.furthest i (subst (λ n. i < n) r.count low))

pub size_if : (points : List PlanePoint) (entries : List Entry) (size : Fraction) (most : ℤ) → most ≡ greatest (far_distance points entries) entries
    → PassesFurthest points (record { size = size; entries = entries }) → SameValue size (record { n = most; d = pos 1 })
size_if points entries size most most_is p = p.size ∙ ap (λ g. g *ℤ size.d) (sym most_is)

-- corners that pass are those of the hull
pub hull_if : (points : List PlanePoint) (numbers : List ℕ) → All (λ n. n < length points) numbers → CornersPass points (map (point_at points) numbers)
    → AreCorners points (map (point_at points) numbers)
hull_if points numbers below corners = passing_corners points (map (point_at points) numbers) (named_points points numbers below) corners
