-- The corners of entries, and how far each is from the one that it names.
use Rattle.std.proofs.Common.{◌≡◌, sym, ap, subst, ◌∙◌, ℕ, ◌<◌, List, length}
use Rattle.std.specs.Prelude.{slice_index_or}
use Rattle.std.proofs.lemmas.List.{get_or-map, length-map}
use Rattle.bounds_model.specs.Plane.{PlanePoint, point_at, origin, squared_distance}
use Rattle.bounds_model.specs.FurthestAnswer.{Entry, corner_numbers, entry_points, far_at, far_distance}

-- no entry
abbrev pub none : Entry
none = record { corner = 0; far = 0 }

-- the corner at a position is the point of its entry
pub corner_of_entry : (points : List PlanePoint) (entries : List Entry) (i : ℕ) → i < length entries → point_at (entry_points points entries) i ≡ point_at points (slice_index_or entries i none).corner
corner_of_entry points entries i low =
    get_or-map (point_at points) (corner_numbers entries) i 0 origin (subst (λ n. i < n) (sym (length-map entries (λ e. e.corner))) low)
    ∙ ap (point_at points) (get_or-map (λ (e : Entry). e.corner) entries i none 0 low)

-- as many corners as entries
pub corner_count : (points : List PlanePoint) (entries : List Entry) → length (entry_points points entries) ≡ length entries
corner_count points entries = length-map (corner_numbers entries) (point_at points) ∙ length-map entries (λ e. e.corner)

-- the distance of an entry is that of the corners at two positions
pub far_is : (points : List PlanePoint) (entries : List Entry) (i : ℕ) → i < length entries
    → far_distance points entries (slice_index_or entries i none) ≡ squared_distance (point_at (entry_points points entries) i) (point_at (entry_points points entries) (far_at entries i))
far_is points entries i low = ap (λ c. squared_distance c (point_at (entry_points points entries) (far_at entries i))) (sym (corner_of_entry points entries i low))
