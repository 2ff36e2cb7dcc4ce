-- What is asked of a polygon that comes first, one thing after another.
use Rattle.std.specs.Prelude.{ℕ, ◌+◌, ◌-◌, ◌<◌, ℤ, ◌+ℤ◌, ◌<ℤ◌, List, [], ◌∷◌, ◌++◌, length, map, take, slice_index_or}
use Rattle.bounds_model.specs.Numbers.{EachBelow}
use Rattle.bounds_model.specs.Plane.{PlanePoint, point_at, cross}
use Rattle.bounds_model.specs.Kgon.{twice_area, most_added}
use Rattle.bounds_model.specs.KgonAnswer.{KgonAnswer, potential}
use Rattle.added_areas.specs.AddedRows.{most_after}

-- no position between two adds as much as is left, with so many more after it
abbrev pub StayBelow : List PlanePoint → ℕ → ℕ → ℕ → ℤ → Type 0
StayBelow vectors last next more left =
    EachBelow next (λ other. last < other → (cross (point_at vectors last) (point_at vectors other) +ℤ most_after vectors more other) <ℤ left)

-- twice what polygons cover at most on the chosen corners before a place, on another one there, and on later ones
abbrev pub most_with_other : List PlanePoint → List ℕ → ℕ → ℕ → ℕ → ℤ
most_with_other corners chosen layers place other =
    twice_area (map (point_at corners) (take place chosen ++ other ∷ [])) +ℤ most_added corners (slice_index_or chosen 0 0) (layers + 1 - place) other

-- with no corner between the one at a place and the next one, in place of that next one, so much is reached
abbrev pub PassesOverNone : List PlanePoint → List ℕ → ℕ → ℤ → ℕ → Type 0
PassesOverNone corners chosen layers size place =
    EachBelow (slice_index_or chosen (place + 1) 0) (λ other. slice_index_or chosen place 0 < other → most_with_other corners chosen layers (place + 1) other <ℤ size)

-- all potentials of this first corner are below this
abbrev pub AreSmaller : KgonAnswer → ℤ → ℕ → Type 0
AreSmaller a limit first = EachBelow (length a.corners) (λ last. first < last → EachBelow a.layers (λ layer. potential a first (layer + 1) last <ℤ limit))
