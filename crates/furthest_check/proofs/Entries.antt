-- Entries in the words of the model.
use Rattle.std.proofs.Common.{◌≡◌, sym, ap, ap₂, subst, ◌∙◌, inl, inr, ℕ, ◌+◌, ◌<◌, ◌≤◌, ℤ, pos, ◌≤ℤ◌, List, [], ◌∷◌, ◌++◌, length, map, take, set}
use Rattle.std.specs.Prelude.{slice_index_or, All}
use Rattle.std.specs.Int.{int_max}
use Rattle.std.proofs.lemmas.List.{length-map, map-append, take_more, take_more_set, get_or-map}
use Rattle.std.proofs.lemmas.List.Elements.{All-map}
use Rattle.integers.specs.Size.{Size}
use Rattle.integers.specs.Extremes.{greatest}
use Rattle.integers.proofs.Lists.{All-unmap}
use Rattle.integers.proofs.MaxMin.{pick_max, left-le-max}
use Rattle.integers.proofs.Order.{le_trans_ℤ}
use Rattle.bounds_model.specs.Plane.{PlanePoint, point_at, origin, squared_distance}
use Rattle.answers.specs.Answers.{entry_of}
use Rattle.bounds_model.specs.FurthestAnswer as model
use Rattle.answers.specs.declared.furthests.Entry.{Entry}
use Rattle.furthest_laws.proofs.Maxima.{more_greatest}
use Rattle.furthest_laws.proofs.Named.{distance_nonneg}
use Rattle.furthest_check.specs.RowTests.{HasFurthestLimits}

-- positions of corners
pub model_fars : (entries : List Entry) → All (λ (e : Entry). e.far < length entries) entries → All (λ (e : model.Entry). e.far < length (map entry_of entries)) (map entry_of entries)
model_fars entries h = subst (λ n. All (λ (e : model.Entry). e.far < n) (map entry_of entries)) (sym (length-map entries entry_of))
    (All-map (λ (e : model.Entry). e.far < length entries) entry_of entries h)

pub entry_fars : (entries : List Entry) → All (λ (e : model.Entry). e.far < length (map entry_of entries)) (map entry_of entries) → All (λ (e : Entry). e.far < length entries) entries
entry_fars entries h = All-unmap (λ (e : model.Entry). e.far < length entries) entry_of entries
    (subst (λ n. All (λ (e : model.Entry). e.far < n) (map entry_of entries)) (length-map entries entry_of) h)

-- the limits, entry by entry
pub limits_of : (count : ℕ) (entries : List Entry) → 1 ≤ length entries → length entries ≤ 10000
    → ((k : ℕ) (d : Entry) → k < length entries → ((slice_index_or entries k d).corner < count) × ((slice_index_or entries k d).far < length entries)) → HasFurthestLimits count (map entry_of entries)
limits_of count entries some few each = record {
  as_many = record { at_least = subst (λ n. 1 ≤ n) (sym (length-map entries entry_of)) some; at_most = subst (λ n. n ≤ 10000) (sym (length-map entries entry_of)) few };
  corners = All-map (λ (e : model.Entry). e.corner < count) entry_of entries (λ k d low. (each k d low).0);
  fars = model_fars entries (λ k d low. (each k d low).1);
}

pub entry_limits : (count : ℕ) (entries : List Entry) → HasFurthestLimits count (map entry_of entries) → (k : ℕ) (d : Entry) → k < length entries
    → ((slice_index_or entries k d).corner < count) × ((slice_index_or entries k d).far < length entries)
entry_limits count entries h k d low = (All-unmap (λ (e : model.Entry). e.corner < count) entry_of entries h.corners k d low, entry_fars entries h.fars k d low)

-- one number more
pub number_more : (entries : List Entry) (numbers : List ℕ) (i : ℕ) (d : Entry) → i < length entries → i < length numbers → take i numbers ≡ model.corner_numbers (map entry_of (take i entries))
    → take (i + 1) (set numbers i (slice_index_or entries i d).corner) ≡ model.corner_numbers (map entry_of (take (i + 1) entries))
number_more entries numbers i d low room h =
    take_more_set numbers i (slice_index_or entries i d).corner room ∙ ap (λ xs. xs ++ (slice_index_or entries i d).corner ∷ []) h
    ∙ sym (ap (λ xs. model.corner_numbers (map entry_of xs)) (take_more entries i d low) ∙ ap model.corner_numbers (map-append entry_of (take i entries) (slice_index_or entries i d ∷ []))
    ∙ map-append (λ (e : model.Entry). e.corner) (map entry_of (take i entries)) (entry_of (slice_index_or entries i d) ∷ []))

-- ---- the greatest distance

-- what a loop knows of the distances so far
abbrev pub IsGreatestSoFar : List PlanePoint → List model.Entry → ℕ → ℤ → Type 0
IsGreatestSoFar points entries i most = (most ≡ greatest (model.far_distance points entries) (take i entries)) × (pos 0 ≤ℤ most) × Size 320000000000 most

pub distance_more : (points : List PlanePoint) (entries : List model.Entry) (i : ℕ) (most now distance : ℤ) (d : model.Entry) → i < length entries → IsGreatestSoFar points entries i most
    → distance ≡ model.far_distance points entries (slice_index_or entries i d) → Size 320000000000 distance → now ≡ int_max most distance
    → IsGreatestSoFar points entries (i + 1) now
distance_more points entries i most now distance d low h is small now_is = (
  now_is ∙ ap₂ int_max h.0 is ∙ more_greatest f (take i entries) (slice_index_or entries i d)
      (distance_nonneg (point_at points (slice_index_or entries i d).corner) (point_at (model.entry_points points entries) (slice_index_or entries i d).far))
      ∙ ap (greatest f) (sym (take_more entries i d low)),
  subst (λ z. pos 0 ≤ℤ z) (sym now_is) (le_trans_ℤ h.1 (left-le-max most distance)),
  subst (Size 320000000000) (sym now_is) (elim (pick_max most distance) [ inl old ↦ subst (Size 320000000000) (sym old) h.2 | inr latest ↦ subst (Size 320000000000) (sym latest) small ]),
)
  where
    f : model.Entry → ℤ
    f = model.far_distance points entries

-- the distance of an entry, by the corners that are read
pub distance_read : (points : List PlanePoint) (entries : List Entry) (numbers : List ℕ) (i : ℕ) (d : Entry) (here there : PlanePoint) (distance : ℤ) → i < length entries
    → numbers ≡ model.corner_numbers (map entry_of entries) → here ≡ point_at (map (point_at points) numbers) i
    → there ≡ point_at (map (point_at points) numbers) (slice_index_or entries i d).far → distance ≡ squared_distance here there
    → distance ≡ model.far_distance points (map entry_of entries) (slice_index_or (map entry_of entries) i (entry_of d))
distance_read points entries numbers i d here there distance low is here_is there_is value =
    value ∙ ap₂ squared_distance (here_is ∙ ap (λ ns. point_at (map (point_at points) ns) i) is ∙ corner)
    (there_is ∙ ap (λ ns. point_at (map (point_at points) ns) (slice_index_or entries i d).far) is)
    ∙ sym (ap (model.far_distance points (map entry_of entries)) entry)
  where
    entry : slice_index_or (map entry_of entries) i (entry_of d) ≡ entry_of (slice_index_or entries i d)
    entry = get_or-map entry_of entries i d (entry_of d) low

    count : i < length (model.corner_numbers (map entry_of entries))
    count = subst (λ n. i < n) (sym (length-map (map entry_of entries) (λ (e : model.Entry). e.corner) ∙ length-map entries entry_of)) low

    corner : point_at (map (point_at points) (model.corner_numbers (map entry_of entries))) i ≡ point_at points (slice_index_or entries i d).corner
    corner =
        get_or-map (point_at points) (model.corner_numbers (map entry_of entries)) i 0 origin count
        ∙ ap (point_at points) (get_or-map (λ (e : model.Entry). e.corner) (map entry_of entries) i (entry_of d) 0 (subst (λ n. i < n) (sym (length-map entries entry_of)) low)
        ∙ ap (λ (e : model.Entry). e.corner) entry)

-- ---- the numbers of the corners

-- as many as entries
pub number_count : (entries : List Entry) (numbers : List ℕ) → numbers ≡ model.corner_numbers (map entry_of entries) → length numbers ≡ length entries
number_count entries numbers is = ap length is ∙ length-map (map entry_of entries) (λ (e : model.Entry). e.corner) ∙ length-map entries entry_of

-- all of them numbers of points
pub numbers_below : (count : ℕ) (entries : List Entry) (numbers : List ℕ) → numbers ≡ model.corner_numbers (map entry_of entries) → HasFurthestLimits count (map entry_of entries)
    → All (λ n. n < count) numbers
numbers_below count entries numbers is h = subst (All (λ n. n < count)) (sym is) (All-map (λ n. n < count) (λ (e : model.Entry). e.corner) (map entry_of entries) h.corners)
