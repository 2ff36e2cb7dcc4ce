-- Polygons that pass, and polygons that fail in conditions of a checker, most of them in one alone.
use Rattle.std.proofs.Common.{refl, ℕ, zero, suc, ◌+◌, ◌^◌, pos, List, [], ◌∷◌, map}
use Rattle.bounds_model.specs.Plane.{PlanePoint}
use Rattle.bounds_model.specs.KgonAnswer.{KgonAnswer, KgonRanges, PassesKgon}
use Rattle.model_laws.proofs.Decisions.{by_test, by_failed_test, by_one_failure}
use Rattle.model_laws.proofs.DecideKgon.{kgon_ranges, kgon_passes}
use Rattle.model_laws.proofs.Literals.{minus, at, fraction}

abbrev square : List PlanePoint
square = at 0 0 ∷ at 2 0 ∷ at 2 2 ∷ at 0 2 ∷ []

-- three corners of four, or others with these potentials
abbrev with_potentials : List ℕ → KgonAnswer
with_potentials potentials = record {
  size = fraction 2 1;
  corners = 0 ∷ 1 ∷ 2 ∷ 3 ∷ [];
  chosen = 0 ∷ 1 ∷ 2 ∷ [];
  layers = 1;
  potentials = map pos potentials;
}

abbrev half : KgonAnswer
half = with_potentials (0 ∷ 4 ∷ 4 ∷ 0 ∷ 4 ∷ 0 ∷ [])

-- ---- three corners of a square

half_passes : PassesKgon 3 square half
half_passes = by_test (kgon_passes 3 square half) refl

unreduced : ¬ PassesKgon 3 square (record half { size = fraction 4 2 })
unreduced = by_one_failure (kgon_passes 3 square (record half { size = fraction 4 2 })) refl refl

other_size : ¬ PassesKgon 3 square (record half { size = fraction 3 1 })
other_size = by_one_failure (kgon_passes 3 square (record half { size = fraction 3 1 })) refl refl

-- a number that is no point's, where the point would be the origin
corner_beyond : ¬ PassesKgon 3 square (record half { corners = 9 ∷ 1 ∷ 2 ∷ 3 ∷ [] })
corner_beyond = by_one_failure (kgon_passes 3 square (record half { corners = 9 ∷ 1 ∷ 2 ∷ 3 ∷ [] })) refl refl

-- not all corners, or not from the least on
one_left_out : ¬ PassesKgon 3 square (record (with_potentials (0 ∷ 4 ∷ 0 ∷ [])) { corners = 0 ∷ 1 ∷ 2 ∷ [] })
one_left_out = by_one_failure (kgon_passes 3 square (record (with_potentials (0 ∷ 4 ∷ 0 ∷ [])) { corners = 0 ∷ 1 ∷ 2 ∷ [] })) refl refl

begun_late : ¬ PassesKgon 3 square (record half { corners = 1 ∷ 2 ∷ 3 ∷ 0 ∷ [] })
begun_late = by_one_failure (kgon_passes 3 square (record half { corners = 1 ∷ 2 ∷ 3 ∷ 0 ∷ [] })) refl refl

too_many : ¬ PassesKgon 3 square (record half { size = fraction 4 1; chosen = 0 ∷ 1 ∷ 2 ∷ 3 ∷ [] })
too_many = by_one_failure (kgon_passes 3 square (record half { size = fraction 4 1; chosen = 0 ∷ 1 ∷ 2 ∷ 3 ∷ [] })) refl refl

falling : ¬ PassesKgon 3 square (record half { chosen = 1 ∷ 2 ∷ 0 ∷ [] })
falling = by_failed_test (kgon_passes 3 square (record half { chosen = 1 ∷ 2 ∷ 0 ∷ [] })) refl

no_position : ¬ PassesKgon 3 square (record half { chosen = 1 ∷ 2 ∷ 9 ∷ [] })
no_position = by_failed_test (kgon_passes 3 square (record half { chosen = 1 ∷ 2 ∷ 9 ∷ [] })) refl

-- without layers nothing would have to grow
no_layers : ¬ PassesKgon 3 square (record (with_potentials []) { layers = 0 })
no_layers = by_one_failure (kgon_passes 3 square (record (with_potentials []) { layers = 0 })) refl refl

too_small : ¬ PassesKgon 3 square (with_potentials (0 ∷ 4 ∷ 3 ∷ 0 ∷ 4 ∷ 0 ∷ []))
too_small = by_one_failure (kgon_passes 3 square (with_potentials (0 ∷ 4 ∷ 3 ∷ 0 ∷ 4 ∷ 0 ∷ []))) refl refl

too_large : ¬ PassesKgon 3 square (with_potentials (0 ∷ 4 ∷ 5 ∷ 0 ∷ 4 ∷ 0 ∷ []))
too_large = by_one_failure (kgon_passes 3 square (with_potentials (0 ∷ 4 ∷ 5 ∷ 0 ∷ 4 ∷ 0 ∷ []))) refl refl

-- the other triangles of the same area come later
without_third : ¬ PassesKgon 3 square (record half { chosen = 0 ∷ 1 ∷ 3 ∷ [] })
without_third = by_one_failure (kgon_passes 3 square (record half { chosen = 0 ∷ 1 ∷ 3 ∷ [] })) refl refl

without_second : ¬ PassesKgon 3 square (record half { chosen = 0 ∷ 2 ∷ 3 ∷ [] })
without_second = by_one_failure (kgon_passes 3 square (record half { chosen = 0 ∷ 2 ∷ 3 ∷ [] })) refl refl

without_first : ¬ PassesKgon 3 square (record half { chosen = 1 ∷ 2 ∷ 3 ∷ [] })
without_first = by_one_failure (kgon_passes 3 square (record half { chosen = 1 ∷ 2 ∷ 3 ∷ [] })) refl refl

-- ---- two layers: each potential is in its range

abbrev kite : List PlanePoint
kite = at 0 0 ∷ at 3 0 ∷ at 4 4 ∷ at 0 2 ∷ []

abbrev with_layers : List ℕ → KgonAnswer
with_layers potentials = record (with_potentials potentials) { size = fraction 10 1; chosen = 0 ∷ 1 ∷ 2 ∷ 3 ∷ []; layers = 2 }

kite_passes : PassesKgon 4 kite (with_layers (0 ∷ 12 ∷ 8 ∷ 0 ∷ 12 ∷ 20 ∷ 0 ∷ 14 ∷ 0 ∷ 14 ∷ 0 ∷ 0 ∷ []))
kite_passes = by_test (kgon_passes 4 kite (with_layers (0 ∷ 12 ∷ 8 ∷ 0 ∷ 12 ∷ 20 ∷ 0 ∷ 14 ∷ 0 ∷ 14 ∷ 0 ∷ 0 ∷ []))) refl

first_layer_low : ¬ PassesKgon 4 kite (with_layers (0 ∷ 11 ∷ 8 ∷ 0 ∷ 12 ∷ 20 ∷ 0 ∷ 14 ∷ 0 ∷ 14 ∷ 0 ∷ 0 ∷ []))
first_layer_low = by_one_failure (kgon_passes 4 kite (with_layers (0 ∷ 11 ∷ 8 ∷ 0 ∷ 12 ∷ 20 ∷ 0 ∷ 14 ∷ 0 ∷ 14 ∷ 0 ∷ 0 ∷ []))) refl refl

second_layer_low : ¬ PassesKgon 4 kite (with_layers (0 ∷ 12 ∷ 8 ∷ 0 ∷ 12 ∷ 19 ∷ 0 ∷ 14 ∷ 0 ∷ 14 ∷ 0 ∷ 0 ∷ []))
second_layer_low = by_one_failure (kgon_passes 4 kite (with_layers (0 ∷ 12 ∷ 8 ∷ 0 ∷ 12 ∷ 19 ∷ 0 ∷ 14 ∷ 0 ∷ 14 ∷ 0 ∷ 0 ∷ []))) refl refl

later_corner_low : ¬ PassesKgon 4 kite (with_layers (0 ∷ 12 ∷ 8 ∷ 0 ∷ 12 ∷ 20 ∷ 0 ∷ 13 ∷ 0 ∷ 14 ∷ 0 ∷ 0 ∷ []))
later_corner_low = by_one_failure (kgon_passes 4 kite (with_layers (0 ∷ 12 ∷ 8 ∷ 0 ∷ 12 ∷ 20 ∷ 0 ∷ 13 ∷ 0 ∷ 14 ∷ 0 ∷ 0 ∷ []))) refl refl

-- ---- one point twice

abbrev flat_kgon : List ℕ → List ℕ → KgonAnswer
flat_kgon corners chosen = record { size = fraction 0 1; corners = corners; chosen = chosen; layers = 0; potentials = [] }

one_corner : PassesKgon 3 (at 5 5 ∷ []) (flat_kgon (0 ∷ []) (0 ∷ []))
one_corner = by_test (kgon_passes 3 (at 5 5 ∷ []) (flat_kgon (0 ∷ []) (0 ∷ []))) refl

corner_twice : ¬ PassesKgon 3 (at 5 5 ∷ []) (flat_kgon (0 ∷ 0 ∷ []) (0 ∷ []))
corner_twice = by_one_failure (kgon_passes 3 (at 5 5 ∷ []) (flat_kgon (0 ∷ 0 ∷ []) (0 ∷ []))) refl refl

-- ---- two points: one corner alone is chosen, and it is the first

abbrev on_line : List PlanePoint
on_line = at 0 0 ∷ at 1 0 ∷ []

first_of_two : PassesKgon 3 on_line (flat_kgon (0 ∷ 1 ∷ []) (0 ∷ []))
first_of_two = by_test (kgon_passes 3 on_line (flat_kgon (0 ∷ 1 ∷ []) (0 ∷ []))) refl

second_of_two : ¬ PassesKgon 3 on_line (flat_kgon (0 ∷ 1 ∷ []) (1 ∷ []))
second_of_two = by_one_failure (kgon_passes 3 on_line (flat_kgon (0 ∷ 1 ∷ []) (1 ∷ []))) refl refl

two_of_two : ¬ PassesKgon 3 on_line (flat_kgon (0 ∷ 1 ∷ []) (0 ∷ 1 ∷ []))
two_of_two = by_one_failure (kgon_passes 3 on_line (flat_kgon (0 ∷ 1 ∷ []) (0 ∷ 1 ∷ []))) refl refl

-- ---- ranges

-- so many corners, each the first point
abbrev many : ℕ → List ℕ
many zero = []
many (suc count) = 0 ∷ many count

most_corners : KgonRanges (flat_kgon (many 128) (many 12))
most_corners = by_test (kgon_ranges (flat_kgon (many 128) (many 12))) refl

no_corners : ¬ KgonRanges (flat_kgon [] (0 ∷ []))
no_corners = by_one_failure (kgon_ranges (flat_kgon [] (0 ∷ []))) refl refl

too_many_corners : ¬ KgonRanges (flat_kgon (many 129) (0 ∷ []))
too_many_corners = by_one_failure (kgon_ranges (flat_kgon (many 129) (0 ∷ []))) refl refl

none_chosen : ¬ KgonRanges (flat_kgon (0 ∷ []) [])
none_chosen = by_one_failure (kgon_ranges (flat_kgon (0 ∷ []) [])) refl refl

too_many_chosen : ¬ KgonRanges (flat_kgon (0 ∷ []) (many 13))
too_many_chosen = by_one_failure (kgon_ranges (flat_kgon (0 ∷ []) (many 13))) refl refl

last_of_all : KgonRanges (flat_kgon (9999 ∷ []) (127 ∷ []))
last_of_all = by_test (kgon_ranges (flat_kgon (9999 ∷ []) (127 ∷ []))) refl

corner_past : ¬ KgonRanges (flat_kgon (10000 ∷ []) (0 ∷ []))
corner_past = by_one_failure (kgon_ranges (flat_kgon (10000 ∷ []) (0 ∷ []))) refl refl

chosen_past : ¬ KgonRanges (flat_kgon (0 ∷ []) (128 ∷ []))
chosen_past = by_one_failure (kgon_ranges (flat_kgon (0 ∷ []) (128 ∷ []))) refl refl

most_layers : KgonRanges (record (flat_kgon (0 ∷ []) (0 ∷ [])) { layers = 10 })
most_layers = by_test (kgon_ranges (record (flat_kgon (0 ∷ []) (0 ∷ [])) { layers = 10 })) refl

layers_past : ¬ KgonRanges (record (flat_kgon (0 ∷ []) (0 ∷ [])) { layers = 11 })
layers_past = by_one_failure (kgon_ranges (record (flat_kgon (0 ∷ []) (0 ∷ [])) { layers = 11 })) refl refl

one_potential : ¬ KgonRanges (record (flat_kgon (0 ∷ []) (0 ∷ [])) { potentials = pos 0 ∷ [] })
one_potential = by_one_failure (kgon_ranges (record (flat_kgon (0 ∷ []) (0 ∷ [])) { potentials = pos 0 ∷ [] })) refl refl

negative_potential : ¬ KgonRanges (record half { potentials = minus 1 ∷ map pos (4 ∷ 4 ∷ 0 ∷ 4 ∷ 0 ∷ []) })
negative_potential = by_one_failure (kgon_ranges (record half { potentials = minus 1 ∷ map pos (4 ∷ 4 ∷ 0 ∷ 4 ∷ 0 ∷ []) })) refl refl

size_past : ¬ KgonRanges (record half { size = fraction (2 ^ 126 + 1) 1 })
size_past = by_one_failure (kgon_ranges (record half { size = fraction (2 ^ 126 + 1) 1 })) refl refl
