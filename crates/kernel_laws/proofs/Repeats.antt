-- A vector that stands twice at the head makes a dependence.
use Rattle.std.proofs.Common.{◌≡◌, ap, pos, negsuc, ◌-ℤ◌, [], ◌∷◌, arith}
use Rattle.std.proofs.lemmas.Int.{ints}
use Rattle.std.proofs.lemmas.List.Elements.{All-head}
use Rattle.bounds_model.specs.Space.{SpacePoint, vector, origin}
use Rattle.bounds_model.specs.Slacks.{IsDependence}
use Rattle.kernel_laws.proofs.Dependences.{dependence_of_two, dependence_of_three, dependence_of_four, dependence_of_five}

-- of two vectors
pub repeated_of_two : (a b : SpacePoint) → vector a b ≡ origin → IsDependence (a ∷ b ∷ []) (pos 1 ∷ negsuc 0 ∷ [])
repeated_of_two a b e =
    let ex : b.x -ℤ a.x ≡ pos 0 = ap (λ v. v.x) e in
    let ey : b.y -ℤ a.y ≡ pos 0 = ap (λ v. v.y) e in
    let ez : b.z -ℤ a.z ≡ pos 0 = ap (λ v. v.z) e in
    dependence_of_two a b (negsuc 0) (λ all. let z : negsuc 0 ≡ pos 0 = All-head (λ n. n ≡ pos 0) (negsuc 0) [] all in absurd (cc)) (omega (arith, ints)) (omega (arith, ints)) (omega (arith, ints))

-- of three
pub repeated_of_three : (a b c : SpacePoint) → vector a b ≡ origin → IsDependence (a ∷ b ∷ c ∷ []) (pos 1 ∷ negsuc 0 ∷ pos 0 ∷ [])
repeated_of_three a b c e =
    let ex : b.x -ℤ a.x ≡ pos 0 = ap (λ v. v.x) e in
    let ey : b.y -ℤ a.y ≡ pos 0 = ap (λ v. v.y) e in
    let ez : b.z -ℤ a.z ≡ pos 0 = ap (λ v. v.z) e in
    dependence_of_three a b c (negsuc 0) (pos 0) (λ all. let z : negsuc 0 ≡ pos 0 = All-head (λ n. n ≡ pos 0) (negsuc 0) (pos 0 ∷ []) all in absurd (cc)) (omega (arith, ints)) (omega (arith, ints)) (omega (arith, ints))

-- of four
pub repeated_of_four : (a b c d : SpacePoint) → vector a b ≡ origin → IsDependence (a ∷ b ∷ c ∷ d ∷ []) (pos 1 ∷ negsuc 0 ∷ pos 0 ∷ pos 0 ∷ [])
repeated_of_four a b c d e =
    let ex : b.x -ℤ a.x ≡ pos 0 = ap (λ v. v.x) e in
    let ey : b.y -ℤ a.y ≡ pos 0 = ap (λ v. v.y) e in
    let ez : b.z -ℤ a.z ≡ pos 0 = ap (λ v. v.z) e in
    dependence_of_four a b c d (negsuc 0) (pos 0) (pos 0) (λ all. let z : negsuc 0 ≡ pos 0 = All-head (λ n. n ≡ pos 0) (negsuc 0) (pos 0 ∷ pos 0 ∷ []) all in absurd (cc)) (omega (arith, ints)) (omega (arith, ints)) (omega (arith, ints))

-- of five
pub repeated_of_five : (a b c d f : SpacePoint) → vector a b ≡ origin → IsDependence (a ∷ b ∷ c ∷ d ∷ f ∷ []) (pos 1 ∷ negsuc 0 ∷ pos 0 ∷ pos 0 ∷ pos 0 ∷ [])
repeated_of_five a b c d f e =
    let ex : b.x -ℤ a.x ≡ pos 0 = ap (λ v. v.x) e in
    let ey : b.y -ℤ a.y ≡ pos 0 = ap (λ v. v.y) e in
    let ez : b.z -ℤ a.z ≡ pos 0 = ap (λ v. v.z) e in
    dependence_of_five a b c d f (negsuc 0) (pos 0) (pos 0) (pos 0) (λ all. let z : negsuc 0 ≡ pos 0 = All-head (λ n. n ≡ pos 0) (negsuc 0) (pos 0 ∷ pos 0 ∷ pos 0 ∷ []) all in absurd (cc)) (omega (arith, ints)) (omega (arith, ints)) (omega (arith, ints))
