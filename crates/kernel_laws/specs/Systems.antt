-- The linear equations that weights solve.
use Rattle.std.specs.Prelude.{ℤ, pos, ◌+ℤ◌, ◌-ℤ◌, ◌*ℤ◌, List, [], ◌∷◌}
use Rattle.bounds_model.specs.Space.{SpacePoint, dot, squared_length, vector}

-- with d the difference from a to x: for balls |d|², for distances -2 d·a
abbrev pub right_side : ℤ → SpacePoint → SpacePoint → ℤ
right_side quadratic a x = quadratic *ℤ (squared_length x -ℤ squared_length a) -ℤ pos 2 *ℤ dot (vector a x) a

-- the cross product
abbrev pub cross : SpacePoint → SpacePoint → SpacePoint
cross u v = record { x = u.y *ℤ v.z -ℤ u.z *ℤ v.y; y = u.z *ℤ v.x -ℤ u.x *ℤ v.z; z = u.x *ℤ v.y -ℤ u.y *ℤ v.x }

-- the weights of three vectors by Gram's matrix: u and v are the differences, r and s their right sides
abbrev pub gram_weights : SpacePoint → SpacePoint → ℤ → ℤ → List ℤ
gram_weights u v r s =
    let p = r *ℤ dot v v -ℤ s *ℤ dot u v in
    let q = s *ℤ dot u u -ℤ r *ℤ dot u v in
    (pos 2 *ℤ squared_length (cross u v) -ℤ p -ℤ q) ∷ p ∷ q ∷ []

-- the weights of three vectors of the plane, of which (x, y) / k is the centre as seen from the first
abbrev pub plane_weights : SpacePoint → SpacePoint → ℤ → ℤ → ℤ → List ℤ
plane_weights u v x y k =
    let p = x *ℤ v.y -ℤ y *ℤ v.x in
    let q = y *ℤ u.x -ℤ x *ℤ u.y in
    (k *ℤ (cross u v).z -ℤ p -ℤ q) ∷ p ∷ q ∷ []

-- the weighted sum of three vectors
abbrev pub sum3 : ℤ → ℤ → ℤ → SpacePoint → SpacePoint → SpacePoint → SpacePoint
sum3 p q s u v w = record { x = p *ℤ u.x +ℤ q *ℤ v.x +ℤ s *ℤ w.x; y = p *ℤ u.y +ℤ q *ℤ v.y +ℤ s *ℤ w.y; z = p *ℤ u.z +ℤ q *ℤ v.z +ℤ s *ℤ w.z }

-- the weights of four vectors of space, of which m / k is the centre as seen from the first
abbrev pub space_weights : SpacePoint → SpacePoint → SpacePoint → SpacePoint → ℤ → List ℤ
space_weights u v w m k =
    let p = dot m (cross v w) in
    let q = dot m (cross w u) in
    let s = dot m (cross u v) in
    (k *ℤ dot (cross u v) w -ℤ p -ℤ q -ℤ s) ∷ p ∷ q ∷ s ∷ []
