-- The entries of an answer, one corner after another.
use Rattle.std.proofs.Common.{◌≡◌, refl, subst, sym, ap, ap₂, ◌∙◌, ◌⊎◌, inl, inr, ℕ, ◌+◌, ◌*◌, ◌<◌, ◌≤◌, ◌%◌, List, [], ◌∷◌, ◌++◌, length, map, take, arith, ℤ, pos, ◌*ℤ◌, ◌≤ℤ◌}
use Rattle.std.specs.Prelude.{slice_index_or, All, nat_abs}
use Rattle.std.specs.Int.{int_max}
use Rattle.std.proofs.lemmas.Int.{ints}
use Rattle.std.proofs.lemmas.List.{length-map, length-append, map-append, take_more, take_all, get_or-map, get_or_push, get_or_append_left}
use Rattle.integers.specs.Size.{Size}
use Rattle.integers.specs.Extremes.{greatest}
use Rattle.integers.proofs.Lists.{below_or_at, any_default}
use Rattle.integers.proofs.MaxMin.{pick_max, left-le-max}
use Rattle.integers.proofs.Order.{le_trans_ℤ}
use Rattle.bounds_model.specs.Plane.{PlanePoint, point_at, origin, squared_distance}
use Rattle.bounds_model.specs.Fractions.{Fraction, SameValue}
use Rattle.bounds_model.specs.Ranges.{IsFraction}
use Rattle.bounds_model.specs.Hull.{AreCorners}
use Rattle.bounds_model.specs.CornerTest.{CornersPass}
use Rattle.bounds_model.specs.Furthest.{IsFurthest}
use Rattle.bounds_model.specs.FurthestAnswer.{Entry, PassesFurthest, corner_numbers, entry_points, far_at}
use Rattle.furthest_laws.proofs.Maxima.{more_greatest}
use Rattle.furthest_laws.proofs.Named.{distance_nonneg}
use Rattle.model_laws.proofs.HullCorners.{corners_pass}
use Rattle.furthest.specs.Columns.{NamesFurthest, column_at}

abbrev none : Entry
none = record { corner = 0; far = 0 }

-- the distance of an entry, by the number of its corner's point and the position of the other
abbrev pub distance_of : List PlanePoint → List PlanePoint → Entry → ℤ
distance_of points corners e = squared_distance (point_at points e.corner) (point_at corners e.far)

-- the first entries are listed: their numbers, their furthest corners, the greatest distance, and the steps
pub record IsListing (points : List PlanePoint) (numbers columns : List ℕ) (i : ℕ) (entries : List Entry) (most : ℤ) (before steps : ℕ) : Type 0 where
  pub named : corner_numbers entries ≡ take i numbers
  pub as_many : length entries ≡ i
  pub fars : (k : ℕ) → k < i → (slice_index_or entries k none).far ≡ column_at columns k % length numbers
  pub value : most ≡ greatest (distance_of points (map (point_at points) numbers)) entries
  pub nonneg : pos 0 ≤ℤ most
  pub small : Size 320000000000 most
  pub counted : steps ≡ before + 2 * i

pub listing_start : (points : List PlanePoint) (numbers columns : List ℕ) (before : ℕ) → Size 320000000000 (pos 0) → IsListing points numbers columns 0 [] (pos 0) before before
listing_start points numbers columns before small = record {
  named = refl;
  as_many = refl;
  fars = λ k low. absurd (omega (arith, low));
  value = refl;
  nonneg = omega (arith, ints);
  small = small;
  counted = omega arith;
}

pub listing_more : (points : List PlanePoint) (numbers columns : List ℕ) (i : ℕ) (entries new : List Entry) (most now distance : ℤ) (before middle steps later : ℕ) (e : Entry)
    (here there : PlanePoint) → i < length numbers → IsListing points numbers columns i entries most before steps → new ≡ entries ++ e ∷ []
    → e.corner ≡ slice_index_or numbers i 0 → e.far ≡ column_at columns i % length numbers → here ≡ point_at (map (point_at points) numbers) i
    → there ≡ point_at (map (point_at points) numbers) e.far → distance ≡ squared_distance here there → Size 320000000000 distance → now ≡ int_max most distance
    → middle ≡ steps + 1 → later ≡ middle + 1 → IsListing points numbers columns (i + 1) new now before later
listing_more points numbers columns i entries new most now distance before middle steps later e here there below l added corner far here_is there_is distance_is small now_is one two = record {
  named = ap corner_numbers added ∙ map-append (λ (x : Entry). x.corner) entries (e ∷ []) ∙ ap₂ (λ xs x. xs ++ x ∷ []) l.named corner ∙ sym (take_more numbers i 0 below);
  as_many = ap length added ∙ length-append entries (e ∷ []) ∙ ap (λ n. n + 1) l.as_many;
  fars = λ k low. subst (λ xs. (slice_index_or xs k none).far ≡ column_at columns k % length numbers) (sym added) (at k (below_or_at k i low));
  value = now_is ∙ ap₂ int_max l.value value ∙ more_greatest f entries e (distance_nonneg (point_at points e.corner) (point_at corners e.far)) ∙ ap (greatest f) (sym added);
  nonneg = subst (λ z. pos 0 ≤ℤ z) (sym now_is) (le_trans_ℤ l.nonneg (left-le-max most distance));
  small = subst (Size 320000000000) (sym now_is) (elim (pick_max most distance) [ inl old ↦ subst (Size 320000000000) (sym old) l.small | inr latest ↦ subst (Size 320000000000) (sym latest) small ]);
  counted = omega (arith, l.counted, one, two);
}
  where
    corners : List PlanePoint
    corners = map (point_at points) numbers

    f : Entry → ℤ
    f = distance_of points (map (point_at points) numbers)

    value : distance ≡ f e
    value = distance_is ∙ ap₂ squared_distance (here_is ∙ get_or-map (point_at points) numbers i 0 origin below ∙ ap (point_at points) (sym corner)) there_is

    at : (k : ℕ) → (k < i) ⊎ (k ≡ i) → (slice_index_or (entries ++ e ∷ []) k none).far ≡ column_at columns k % length numbers
    at k h = elim h [
      | inl less ↦ ap (λ (x : Entry). x.far) (get_or_append_left entries (e ∷ []) none k (subst (λ n. k < n) (sym l.as_many) less)) ∙ l.fars k less
      | inr same ↦ subst (λ n. (slice_index_or (entries ++ e ∷ []) n none).far ≡ column_at columns n % length numbers) (sym same)
          (ap (λ (x : Entry). x.far) (get_or_push entries e none i l.as_many) ∙ far)
    ]

-- all entries make an answer that passes
pub listed_passes : (points : List PlanePoint) (numbers columns : List ℕ) (i : ℕ) (entries : List Entry) (most : ℤ) (before steps : ℕ) (size : Fraction)
    → AreCorners points (map (point_at points) numbers) → All (λ n. n < length points) numbers → length points ≤ 10000 → length numbers ≤ 10000 → 1 ≤ length numbers
    → NamesFurthest (map (point_at points) numbers) columns → i ≡ length numbers → IsListing points numbers columns i entries most before steps → IsFraction size
    → SameValue size (record { n = pos (nat_abs most); d = pos 1 }) → PassesFurthest points (record { size = size; entries = entries })
listed_passes points numbers columns i entries most before steps size hull listed many few some names whole l fraction size_is = record {
  ranges = record {
    size = fraction;
    count = record { at_least = omega (arith, l.as_many, whole, some); at_most = omega (arith, l.as_many, whole, few) };
    corners = λ k d low. subst (λ e. e.corner ≤ 9999) (any_default entries k d none low) (small_number k low);
    fars = λ k d low. subst (λ e. e.far ≤ 9999) (any_default entries k d none low) (small_far k low);
  };
  numbers = subst (All (λ n. n < length points)) (sym all_numbers) listed;
  corners = subst (λ xs. CornersPass points xs) (sym all_corners) (corners_pass points (map (point_at points) numbers) hull);
  furthest = λ k low. subst (λ xs. IsFurthest xs k (far_at entries k)) (sym all_corners) (subst (IsFurthest (map (point_at points) numbers) k) (sym (far k low)) (names.furthest k (in_corners k low)));
  size = size_is ∙ ap (λ g. g *ℤ size.d) (magnitude most l.nonneg ∙ l.value ∙ ap (λ xs. greatest (distance_of points xs) entries) (sym all_corners));
}
  where
    all_numbers : corner_numbers entries ≡ numbers
    all_numbers = l.named ∙ take_all i numbers (omega (arith, whole))

    all_corners : entry_points points entries ≡ map (point_at points) numbers
    all_corners = ap (map (point_at points)) all_numbers

    count : length (map (point_at points) numbers) ≡ length numbers
    count = length-map numbers (point_at points)

    in_corners : (k : ℕ) → k < length entries → k < length (map (point_at points) numbers)
    in_corners k low = omega (arith, low, l.as_many, whole, count)

    far : (k : ℕ) → k < length entries → far_at entries k ≡ column_at columns k % length (map (point_at points) numbers)
    far k low = l.fars k (omega (arith, low, l.as_many)) ∙ ap (λ n. column_at columns k % n) (sym count)

    magnitude : (z : ℤ) → pos 0 ≤ℤ z → pos (nat_abs z) ≡ z
    magnitude z h = omega (arith, ints)

    small_number : (k : ℕ) → k < length entries → (slice_index_or entries k none).corner ≤ 9999
    small_number k low =
        let e : slice_index_or numbers k 0 ≡ (slice_index_or entries k none).corner = ap (λ xs. slice_index_or xs k 0) (sym all_numbers) ∙ get_or-map (λ (x : Entry). x.corner) entries k none 0 low in
        omega (arith, many, e, listed k 0 (omega (arith, low, l.as_many, whole)))

    small_far : (k : ℕ) → k < length entries → (slice_index_or entries k none).far ≤ 9999
    small_far k low = let f = subst (λ n. n < length (map (point_at points) numbers)) (sym (far k low)) (names.furthest k (in_corners k low)).in_range in omega (arith, f, count, few)
