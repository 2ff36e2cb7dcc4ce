-- Numbers that show that four or five vectors are affinely dependent.
use Rattle.std.proofs.Common.{◌≡◌, sym, ap, subst, ℤ, pos, neg_ℤ, ◌+ℤ◌, ◌-ℤ◌, ◌*ℤ◌, ◌<ℤ◌, [], ◌∷◌, arith}
use Rattle.std.proofs.lemmas.Int.{ints}
use Rattle.std.proofs.lemmas.List.Elements.{All-head, All-tail}
use Rattle.bounds_model.specs.Space.{SpacePoint, vector, dot, squared_length, origin}
use Rattle.bounds_model.specs.Slacks.{IsDependence}
use Rattle.kernel_laws.specs.Systems.{cross}
use Rattle.kernel_laws.proofs.Solving.{along_x, along_y, along_z, in_plane_x, in_plane_y, in_plane_z, of_plane_x, of_plane_y, of_plane_z, of_space_x, of_space_y, of_space_z}
use Rattle.kernel_laws.proofs.Dependences.{dependence_of_four, dependence_of_five}

drop_zero : (a v : ℤ) → a ≡ pos 0 → a +ℤ pos 0 *ℤ v ≡ pos 0
drop_zero a v e = omega (arith, ints)

-- where the first three are on a line
pub along_of_four : (a b c d : SpacePoint) (p q : ℤ) → p ≡ dot (vector a b) (vector a c) → q ≡ dot (vector a b) (vector a b) → pos 0 <ℤ q → cross (vector a b) (vector a c) ≡ origin → IsDependence (a ∷ b ∷ c ∷ d ∷ []) ((q -ℤ p) ∷ p ∷ neg_ℤ q ∷ pos 0 ∷ [])
along_of_four a b c d p q ep eq some line =
    let first : neg_ℤ (p +ℤ neg_ℤ q +ℤ pos 0) ≡ q -ℤ p = omega (arith, ints) in
    subst (λ n. IsDependence (a ∷ b ∷ c ∷ d ∷ []) (n ∷ p ∷ neg_ℤ q ∷ pos 0 ∷ [])) first
    (dependence_of_four a b c d (p) (neg_ℤ q) (pos 0) (λ all. let z : neg_ℤ q ≡ pos 0 = All-head (λ n. n ≡ pos 0) (neg_ℤ q) ((pos 0) ∷ []) (All-tail (λ n. n ≡ pos 0) (p) ((neg_ℤ q) ∷ (pos 0) ∷ []) all) in absurd (omega (arith, ints)))
    (drop_zero _ (vector a d).x (subst (λ p. p *ℤ (vector a b).x +ℤ neg_ℤ q *ℤ (vector a c).x ≡ pos 0) (sym ep) (subst (λ q. dot (vector a b) (vector a c) *ℤ (vector a b).x +ℤ neg_ℤ q *ℤ (vector a c).x ≡ pos 0) (sym eq) (along_x (vector a b) (vector a c) (ap (λ v. v.y) line) (ap (λ v. v.z) line)))))
    (drop_zero _ (vector a d).y (subst (λ p. p *ℤ (vector a b).y +ℤ neg_ℤ q *ℤ (vector a c).y ≡ pos 0) (sym ep) (subst (λ q. dot (vector a b) (vector a c) *ℤ (vector a b).y +ℤ neg_ℤ q *ℤ (vector a c).y ≡ pos 0) (sym eq) (along_y (vector a b) (vector a c) (ap (λ v. v.z) line) (ap (λ v. v.x) line)))))
    (drop_zero _ (vector a d).z (subst (λ p. p *ℤ (vector a b).z +ℤ neg_ℤ q *ℤ (vector a c).z ≡ pos 0) (sym ep) (subst (λ q. dot (vector a b) (vector a c) *ℤ (vector a b).z +ℤ neg_ℤ q *ℤ (vector a c).z ≡ pos 0) (sym eq) (along_z (vector a b) (vector a c) (ap (λ v. v.x) line) (ap (λ v. v.y) line))))))

-- where the first three are on a line
pub along_of_five : (a b c d e : SpacePoint) (p q : ℤ) → p ≡ dot (vector a b) (vector a c) → q ≡ dot (vector a b) (vector a b) → pos 0 <ℤ q → cross (vector a b) (vector a c) ≡ origin → IsDependence (a ∷ b ∷ c ∷ d ∷ e ∷ []) ((q -ℤ p) ∷ p ∷ neg_ℤ q ∷ pos 0 ∷ pos 0 ∷ [])
along_of_five a b c d e p q ep eq some line =
    let first : neg_ℤ (p +ℤ neg_ℤ q +ℤ pos 0 +ℤ pos 0) ≡ q -ℤ p = omega (arith, ints) in
    subst (λ n. IsDependence (a ∷ b ∷ c ∷ d ∷ e ∷ []) (n ∷ p ∷ neg_ℤ q ∷ pos 0 ∷ pos 0 ∷ [])) first
    (dependence_of_five a b c d e (p) (neg_ℤ q) (pos 0) (pos 0) (λ all. let z : neg_ℤ q ≡ pos 0 = All-head (λ n. n ≡ pos 0) (neg_ℤ q) ((pos 0) ∷ (pos 0) ∷ []) (All-tail (λ n. n ≡ pos 0) (p) ((neg_ℤ q) ∷ (pos 0) ∷ (pos 0) ∷ []) all) in absurd (omega (arith, ints)))
    (drop_zero _ (vector a e).x (drop_zero _ (vector a d).x (subst (λ p. p *ℤ (vector a b).x +ℤ neg_ℤ q *ℤ (vector a c).x ≡ pos 0) (sym ep) (subst (λ q. dot (vector a b) (vector a c) *ℤ (vector a b).x +ℤ neg_ℤ q *ℤ (vector a c).x ≡ pos 0) (sym eq) (along_x (vector a b) (vector a c) (ap (λ v. v.y) line) (ap (λ v. v.z) line))))))
    (drop_zero _ (vector a e).y (drop_zero _ (vector a d).y (subst (λ p. p *ℤ (vector a b).y +ℤ neg_ℤ q *ℤ (vector a c).y ≡ pos 0) (sym ep) (subst (λ q. dot (vector a b) (vector a c) *ℤ (vector a b).y +ℤ neg_ℤ q *ℤ (vector a c).y ≡ pos 0) (sym eq) (along_y (vector a b) (vector a c) (ap (λ v. v.z) line) (ap (λ v. v.x) line))))))
    (drop_zero _ (vector a e).z (drop_zero _ (vector a d).z (subst (λ p. p *ℤ (vector a b).z +ℤ neg_ℤ q *ℤ (vector a c).z ≡ pos 0) (sym ep) (subst (λ q. dot (vector a b) (vector a c) *ℤ (vector a b).z +ℤ neg_ℤ q *ℤ (vector a c).z ≡ pos 0) (sym eq) (along_z (vector a b) (vector a c) (ap (λ v. v.x) line) (ap (λ v. v.y) line)))))))

-- where the first four are in a plane
pub in_plane_of_four : (a b c d : SpacePoint) (p q s : ℤ) → p ≡ dot (cross (vector a d) (vector a c)) (cross (vector a b) (vector a c)) → q ≡ dot (cross (vector a b) (vector a d)) (cross (vector a b) (vector a c)) → s ≡ squared_length (cross (vector a b) (vector a c)) → pos 0 <ℤ s → dot (cross (vector a b) (vector a c)) (vector a d) ≡ pos 0 → IsDependence (a ∷ b ∷ c ∷ d ∷ []) ((s -ℤ p -ℤ q) ∷ p ∷ q ∷ neg_ℤ s ∷ [])
in_plane_of_four a b c d p q s ep eq es some flat =
    let first : neg_ℤ (p +ℤ q +ℤ neg_ℤ s) ≡ s -ℤ p -ℤ q = omega (arith, ints) in
    subst (λ n. IsDependence (a ∷ b ∷ c ∷ d ∷ []) (n ∷ p ∷ q ∷ neg_ℤ s ∷ [])) first
    (dependence_of_four a b c d (p) (q) (neg_ℤ s) (λ all. let z : neg_ℤ s ≡ pos 0 = All-head (λ n. n ≡ pos 0) (neg_ℤ s) ([]) (All-tail (λ n. n ≡ pos 0) (q) ((neg_ℤ s) ∷ []) (All-tail (λ n. n ≡ pos 0) (p) ((q) ∷ (neg_ℤ s) ∷ []) all)) in absurd (omega (arith, ints)))
    (subst (λ p. p *ℤ (vector a b).x +ℤ q *ℤ (vector a c).x +ℤ neg_ℤ s *ℤ (vector a d).x ≡ pos 0) (sym ep) (subst (λ q. dot (cross (vector a d) (vector a c)) (cross (vector a b) (vector a c)) *ℤ (vector a b).x +ℤ q *ℤ (vector a c).x +ℤ neg_ℤ s *ℤ (vector a d).x ≡ pos 0) (sym eq) (subst (λ s. dot (cross (vector a d) (vector a c)) (cross (vector a b) (vector a c)) *ℤ (vector a b).x +ℤ dot (cross (vector a b) (vector a d)) (cross (vector a b) (vector a c)) *ℤ (vector a c).x +ℤ neg_ℤ s *ℤ (vector a d).x ≡ pos 0) (sym es) (in_plane_x (vector a b) (vector a c) (vector a d) flat))))
    (subst (λ p. p *ℤ (vector a b).y +ℤ q *ℤ (vector a c).y +ℤ neg_ℤ s *ℤ (vector a d).y ≡ pos 0) (sym ep) (subst (λ q. dot (cross (vector a d) (vector a c)) (cross (vector a b) (vector a c)) *ℤ (vector a b).y +ℤ q *ℤ (vector a c).y +ℤ neg_ℤ s *ℤ (vector a d).y ≡ pos 0) (sym eq) (subst (λ s. dot (cross (vector a d) (vector a c)) (cross (vector a b) (vector a c)) *ℤ (vector a b).y +ℤ dot (cross (vector a b) (vector a d)) (cross (vector a b) (vector a c)) *ℤ (vector a c).y +ℤ neg_ℤ s *ℤ (vector a d).y ≡ pos 0) (sym es) (in_plane_y (vector a b) (vector a c) (vector a d) flat))))
    (subst (λ p. p *ℤ (vector a b).z +ℤ q *ℤ (vector a c).z +ℤ neg_ℤ s *ℤ (vector a d).z ≡ pos 0) (sym ep) (subst (λ q. dot (cross (vector a d) (vector a c)) (cross (vector a b) (vector a c)) *ℤ (vector a b).z +ℤ q *ℤ (vector a c).z +ℤ neg_ℤ s *ℤ (vector a d).z ≡ pos 0) (sym eq) (subst (λ s. dot (cross (vector a d) (vector a c)) (cross (vector a b) (vector a c)) *ℤ (vector a b).z +ℤ dot (cross (vector a b) (vector a d)) (cross (vector a b) (vector a c)) *ℤ (vector a c).z +ℤ neg_ℤ s *ℤ (vector a d).z ≡ pos 0) (sym es) (in_plane_z (vector a b) (vector a c) (vector a d) flat)))))

-- where the first four are in a plane
pub in_plane_of_five : (a b c d e : SpacePoint) (p q s : ℤ) → p ≡ dot (cross (vector a d) (vector a c)) (cross (vector a b) (vector a c)) → q ≡ dot (cross (vector a b) (vector a d)) (cross (vector a b) (vector a c)) → s ≡ squared_length (cross (vector a b) (vector a c)) → pos 0 <ℤ s → dot (cross (vector a b) (vector a c)) (vector a d) ≡ pos 0 → IsDependence (a ∷ b ∷ c ∷ d ∷ e ∷ []) ((s -ℤ p -ℤ q) ∷ p ∷ q ∷ neg_ℤ s ∷ pos 0 ∷ [])
in_plane_of_five a b c d e p q s ep eq es some flat =
    let first : neg_ℤ (p +ℤ q +ℤ neg_ℤ s +ℤ pos 0) ≡ s -ℤ p -ℤ q = omega (arith, ints) in
    subst (λ n. IsDependence (a ∷ b ∷ c ∷ d ∷ e ∷ []) (n ∷ p ∷ q ∷ neg_ℤ s ∷ pos 0 ∷ [])) first
    (dependence_of_five a b c d e (p) (q) (neg_ℤ s) (pos 0) (λ all. let z : neg_ℤ s ≡ pos 0 = All-head (λ n. n ≡ pos 0) (neg_ℤ s) ((pos 0) ∷ []) (All-tail (λ n. n ≡ pos 0) (q) ((neg_ℤ s) ∷ (pos 0) ∷ []) (All-tail (λ n. n ≡ pos 0) (p) ((q) ∷ (neg_ℤ s) ∷ (pos 0) ∷ []) all)) in absurd (omega (arith, ints)))
    (drop_zero _ (vector a e).x (subst (λ p. p *ℤ (vector a b).x +ℤ q *ℤ (vector a c).x +ℤ neg_ℤ s *ℤ (vector a d).x ≡ pos 0) (sym ep) (subst (λ q. dot (cross (vector a d) (vector a c)) (cross (vector a b) (vector a c)) *ℤ (vector a b).x +ℤ q *ℤ (vector a c).x +ℤ neg_ℤ s *ℤ (vector a d).x ≡ pos 0) (sym eq) (subst (λ s. dot (cross (vector a d) (vector a c)) (cross (vector a b) (vector a c)) *ℤ (vector a b).x +ℤ dot (cross (vector a b) (vector a d)) (cross (vector a b) (vector a c)) *ℤ (vector a c).x +ℤ neg_ℤ s *ℤ (vector a d).x ≡ pos 0) (sym es) (in_plane_x (vector a b) (vector a c) (vector a d) flat)))))
    (drop_zero _ (vector a e).y (subst (λ p. p *ℤ (vector a b).y +ℤ q *ℤ (vector a c).y +ℤ neg_ℤ s *ℤ (vector a d).y ≡ pos 0) (sym ep) (subst (λ q. dot (cross (vector a d) (vector a c)) (cross (vector a b) (vector a c)) *ℤ (vector a b).y +ℤ q *ℤ (vector a c).y +ℤ neg_ℤ s *ℤ (vector a d).y ≡ pos 0) (sym eq) (subst (λ s. dot (cross (vector a d) (vector a c)) (cross (vector a b) (vector a c)) *ℤ (vector a b).y +ℤ dot (cross (vector a b) (vector a d)) (cross (vector a b) (vector a c)) *ℤ (vector a c).y +ℤ neg_ℤ s *ℤ (vector a d).y ≡ pos 0) (sym es) (in_plane_y (vector a b) (vector a c) (vector a d) flat)))))
    (drop_zero _ (vector a e).z (subst (λ p. p *ℤ (vector a b).z +ℤ q *ℤ (vector a c).z +ℤ neg_ℤ s *ℤ (vector a d).z ≡ pos 0) (sym ep) (subst (λ q. dot (cross (vector a d) (vector a c)) (cross (vector a b) (vector a c)) *ℤ (vector a b).z +ℤ q *ℤ (vector a c).z +ℤ neg_ℤ s *ℤ (vector a d).z ≡ pos 0) (sym eq) (subst (λ s. dot (cross (vector a d) (vector a c)) (cross (vector a b) (vector a c)) *ℤ (vector a b).z +ℤ dot (cross (vector a b) (vector a d)) (cross (vector a b) (vector a c)) *ℤ (vector a c).z +ℤ neg_ℤ s *ℤ (vector a d).z ≡ pos 0) (sym es) (in_plane_z (vector a b) (vector a c) (vector a d) flat))))))

-- four vectors of the plane
pub of_plane_of_four : (a b c d : SpacePoint) (p q s : ℤ) → p ≡ (cross (vector a d) (vector a c)).z → q ≡ (cross (vector a b) (vector a d)).z → s ≡ (cross (vector a b) (vector a c)).z → (s ≡ pos 0 → ⊥) → (vector a b).z ≡ pos 0 → (vector a c).z ≡ pos 0 → (vector a d).z ≡ pos 0 → IsDependence (a ∷ b ∷ c ∷ d ∷ []) ((s -ℤ p -ℤ q) ∷ p ∷ q ∷ neg_ℤ s ∷ [])
of_plane_of_four a b c d p q s ep eq es some uz vz wz =
    let first : neg_ℤ (p +ℤ q +ℤ neg_ℤ s) ≡ s -ℤ p -ℤ q = omega (arith, ints) in
    subst (λ n. IsDependence (a ∷ b ∷ c ∷ d ∷ []) (n ∷ p ∷ q ∷ neg_ℤ s ∷ [])) first
    (dependence_of_four a b c d (p) (q) (neg_ℤ s) (λ all. let z : neg_ℤ s ≡ pos 0 = All-head (λ n. n ≡ pos 0) (neg_ℤ s) ([]) (All-tail (λ n. n ≡ pos 0) (q) ((neg_ℤ s) ∷ []) (All-tail (λ n. n ≡ pos 0) (p) ((q) ∷ (neg_ℤ s) ∷ []) all)) in absurd (some (omega (arith, ints))))
    (subst (λ p. p *ℤ (vector a b).x +ℤ q *ℤ (vector a c).x +ℤ neg_ℤ s *ℤ (vector a d).x ≡ pos 0) (sym ep) (subst (λ q. (cross (vector a d) (vector a c)).z *ℤ (vector a b).x +ℤ q *ℤ (vector a c).x +ℤ neg_ℤ s *ℤ (vector a d).x ≡ pos 0) (sym eq) (subst (λ s. (cross (vector a d) (vector a c)).z *ℤ (vector a b).x +ℤ (cross (vector a b) (vector a d)).z *ℤ (vector a c).x +ℤ neg_ℤ s *ℤ (vector a d).x ≡ pos 0) (sym es) (of_plane_x (vector a b) (vector a c) (vector a d)))))
    (subst (λ p. p *ℤ (vector a b).y +ℤ q *ℤ (vector a c).y +ℤ neg_ℤ s *ℤ (vector a d).y ≡ pos 0) (sym ep) (subst (λ q. (cross (vector a d) (vector a c)).z *ℤ (vector a b).y +ℤ q *ℤ (vector a c).y +ℤ neg_ℤ s *ℤ (vector a d).y ≡ pos 0) (sym eq) (subst (λ s. (cross (vector a d) (vector a c)).z *ℤ (vector a b).y +ℤ (cross (vector a b) (vector a d)).z *ℤ (vector a c).y +ℤ neg_ℤ s *ℤ (vector a d).y ≡ pos 0) (sym es) (of_plane_y (vector a b) (vector a c) (vector a d)))))
    (of_plane_z p q (neg_ℤ s) (vector a b) (vector a c) (vector a d) uz vz wz))

-- five vectors of space
pub of_space_of_five : (a b c d e : SpacePoint) (p q s t : ℤ) → p ≡ dot (cross (vector a e) (vector a c)) (vector a d) → q ≡ dot (cross (vector a b) (vector a e)) (vector a d) → s ≡ dot (cross (vector a b) (vector a c)) (vector a e) → t ≡ dot (cross (vector a b) (vector a c)) (vector a d) → (t ≡ pos 0 → ⊥) → IsDependence (a ∷ b ∷ c ∷ d ∷ e ∷ []) ((t -ℤ p -ℤ q -ℤ s) ∷ p ∷ q ∷ s ∷ neg_ℤ t ∷ [])
of_space_of_five a b c d e p q s t ep eq es et some =
    let first : neg_ℤ (p +ℤ q +ℤ s +ℤ neg_ℤ t) ≡ t -ℤ p -ℤ q -ℤ s = omega (arith, ints) in
    subst (λ n. IsDependence (a ∷ b ∷ c ∷ d ∷ e ∷ []) (n ∷ p ∷ q ∷ s ∷ neg_ℤ t ∷ [])) first
    (dependence_of_five a b c d e (p) (q) (s) (neg_ℤ t) (λ all. let z : neg_ℤ t ≡ pos 0 = All-head (λ n. n ≡ pos 0) (neg_ℤ t) ([]) (All-tail (λ n. n ≡ pos 0) (s) ((neg_ℤ t) ∷ []) (All-tail (λ n. n ≡ pos 0) (q) ((s) ∷ (neg_ℤ t) ∷ []) (All-tail (λ n. n ≡ pos 0) (p) ((q) ∷ (s) ∷ (neg_ℤ t) ∷ []) all))) in absurd (some (omega (arith, ints))))
    (subst (λ p. p *ℤ (vector a b).x +ℤ q *ℤ (vector a c).x +ℤ s *ℤ (vector a d).x +ℤ neg_ℤ t *ℤ (vector a e).x ≡ pos 0) (sym ep) (subst (λ q. dot (cross (vector a e) (vector a c)) (vector a d) *ℤ (vector a b).x +ℤ q *ℤ (vector a c).x +ℤ s *ℤ (vector a d).x +ℤ neg_ℤ t *ℤ (vector a e).x ≡ pos 0) (sym eq) (subst (λ s. dot (cross (vector a e) (vector a c)) (vector a d) *ℤ (vector a b).x +ℤ dot (cross (vector a b) (vector a e)) (vector a d) *ℤ (vector a c).x +ℤ s *ℤ (vector a d).x +ℤ neg_ℤ t *ℤ (vector a e).x ≡ pos 0) (sym es) (subst (λ t. dot (cross (vector a e) (vector a c)) (vector a d) *ℤ (vector a b).x +ℤ dot (cross (vector a b) (vector a e)) (vector a d) *ℤ (vector a c).x +ℤ dot (cross (vector a b) (vector a c)) (vector a e) *ℤ (vector a d).x +ℤ neg_ℤ t *ℤ (vector a e).x ≡ pos 0) (sym et) (of_space_x (vector a b) (vector a c) (vector a d) (vector a e))))))
    (subst (λ p. p *ℤ (vector a b).y +ℤ q *ℤ (vector a c).y +ℤ s *ℤ (vector a d).y +ℤ neg_ℤ t *ℤ (vector a e).y ≡ pos 0) (sym ep) (subst (λ q. dot (cross (vector a e) (vector a c)) (vector a d) *ℤ (vector a b).y +ℤ q *ℤ (vector a c).y +ℤ s *ℤ (vector a d).y +ℤ neg_ℤ t *ℤ (vector a e).y ≡ pos 0) (sym eq) (subst (λ s. dot (cross (vector a e) (vector a c)) (vector a d) *ℤ (vector a b).y +ℤ dot (cross (vector a b) (vector a e)) (vector a d) *ℤ (vector a c).y +ℤ s *ℤ (vector a d).y +ℤ neg_ℤ t *ℤ (vector a e).y ≡ pos 0) (sym es) (subst (λ t. dot (cross (vector a e) (vector a c)) (vector a d) *ℤ (vector a b).y +ℤ dot (cross (vector a b) (vector a e)) (vector a d) *ℤ (vector a c).y +ℤ dot (cross (vector a b) (vector a c)) (vector a e) *ℤ (vector a d).y +ℤ neg_ℤ t *ℤ (vector a e).y ≡ pos 0) (sym et) (of_space_y (vector a b) (vector a c) (vector a d) (vector a e))))))
    (subst (λ p. p *ℤ (vector a b).z +ℤ q *ℤ (vector a c).z +ℤ s *ℤ (vector a d).z +ℤ neg_ℤ t *ℤ (vector a e).z ≡ pos 0) (sym ep) (subst (λ q. dot (cross (vector a e) (vector a c)) (vector a d) *ℤ (vector a b).z +ℤ q *ℤ (vector a c).z +ℤ s *ℤ (vector a d).z +ℤ neg_ℤ t *ℤ (vector a e).z ≡ pos 0) (sym eq) (subst (λ s. dot (cross (vector a e) (vector a c)) (vector a d) *ℤ (vector a b).z +ℤ dot (cross (vector a b) (vector a e)) (vector a d) *ℤ (vector a c).z +ℤ s *ℤ (vector a d).z +ℤ neg_ℤ t *ℤ (vector a e).z ≡ pos 0) (sym es) (subst (λ t. dot (cross (vector a e) (vector a c)) (vector a d) *ℤ (vector a b).z +ℤ dot (cross (vector a b) (vector a e)) (vector a d) *ℤ (vector a c).z +ℤ dot (cross (vector a b) (vector a c)) (vector a e) *ℤ (vector a d).z +ℤ neg_ℤ t *ℤ (vector a e).z ≡ pos 0) (sym et) (of_space_z (vector a b) (vector a c) (vector a d) (vector a e)))))))
