-- The first draws from the seed 1, and the points that they make.
use Rattle.std.proofs.Common.{◌≡◌, refl, pos, negsuc, [], ◌∷◌}
use Rattle.bounds_model.specs.Asks.{one_plane, one_space, two_space, plane, space, two}
use Rattle.bounds_model.specs.Demo.{state_after, drawn, demo_sets}

-- ---- states and their values

-- the first state
state_1 : state_after 1 1 ≡ 1103527590
state_1 = refl

-- the second state
state_2 : state_after 2 1 ≡ 377401575
state_2 = refl

-- the third state
state_3 : state_after 3 1 ≡ 662824084
state_3 = refl

-- the fourth state
state_4 : state_after 4 1 ≡ 1147902781
state_4 = refl

-- the values of the four
values : drawn (state_after 1 1) ∷ drawn (state_after 2 1) ∷ drawn (state_after 3 1) ∷ drawn (state_after 4 1) ∷ [] ≡ 1077663 ∷ 368556 ∷ 647289 ∷ 1120998 ∷ []
values = refl

-- ---- points

-- two points of the plane
in_plane : demo_sets one_plane 1 2 ≡ plane (record { x = pos 77661; y = pos 168556 } ∷ record { x = pos 47288; y = pos 120996 } ∷ [])
in_plane = refl

-- a point of space
in_space : demo_sets one_space 1 1 ≡ space (record { x = negsuc 2403; y = negsuc 7466; z = negsuc 750 } ∷ [])
in_space = refl

-- a point of each of two sets
two_sets : demo_sets two_space 1 1 ≡ two (record { x = negsuc 2336; y = negsuc 7466; z = negsuc 750 } ∷ []) (record { x = pos 999; y = negsuc 4804; z = pos 135 } ∷ [])
two_sets = refl
