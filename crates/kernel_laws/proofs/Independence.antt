-- Vectors that are affinely independent: numbers with the sum 0 and the weighted sum 0 are all 0.
use Rattle.std.proofs.Common.{◌≡◌, ap, ℤ, pos, ◌+ℤ◌, ◌-ℤ◌, ◌*ℤ◌, ◌<ℤ◌, neg_ℤ, List, [], ◌∷◌, arith}
use Rattle.std.proofs.lemmas.Int.{ints}
use Rattle.std.proofs.lemmas.List.Elements.{All-nil, All-cons}
use Rattle.integers.proofs.Identities.{den-ring, read, polys, lits}
use Rattle.integers.proofs.Order.{combine2, combine3, same_of_mul, square_positive}
use Rattle.bounds_model.specs.Space.{SpacePoint, vector, dot, squared_length}
use Rattle.bounds_model.specs.Slacks.{IsDependence, AreAffinelyDependent}
use Rattle.kernel_laws.specs.Systems.{cross}

zero_product : (k y : ℤ) → pos 0 <ℤ k → k *ℤ y ≡ k *ℤ pos 0 → y ≡ pos 0
zero_product k y p e = same_of_mul k p e

none_one : (a : SpacePoint) → (ns : List ℤ) → IsDependence (a ∷ []) ns → ⊥
none_one a ([]) dep = let e = dep.as_many in absurd (omega arith)
none_one a (n0 ∷ []) dep =
    let total = dep.sum in
    let zn0 : n0 ≡ pos 0 = omega (arith, ints) in
    dep.some (All-cons (λ n. n ≡ pos 0) n0 ([]) zn0 (All-nil (λ n. n ≡ pos 0)))
none_one a (n0 ∷ x ∷ xs) dep = let e = dep.as_many in absurd (omega arith)

-- one vector is independent
pub independent_of_one : (a : SpacePoint) → AreAffinelyDependent (a ∷ []) → ⊥
independent_of_one a p = none_one a p.0 p.1

differences_two_x : (a b : SpacePoint) (n0 p : ℤ) → n0 +ℤ (p +ℤ pos 0) ≡ pos 0 → n0 *ℤ a.x +ℤ (p *ℤ b.x +ℤ pos 0) ≡ pos 0 → p *ℤ (b.x -ℤ a.x) ≡ pos 0
differences_two_x a b n0 p e f = combine2 (pos 1) (neg_ℤ a.x) f e (read (a.x ∷ b.x ∷ n0 ∷ p ∷ []) (λ xs v0 v1 v2 v3. simp (v0, v1, v2, v3, polys, lits xs) (den-ring xs _ _ tt)))

differences_two_y : (a b : SpacePoint) (n0 p : ℤ) → n0 +ℤ (p +ℤ pos 0) ≡ pos 0 → n0 *ℤ a.y +ℤ (p *ℤ b.y +ℤ pos 0) ≡ pos 0 → p *ℤ (b.y -ℤ a.y) ≡ pos 0
differences_two_y a b n0 p e f = combine2 (pos 1) (neg_ℤ a.y) f e (read (a.y ∷ b.y ∷ n0 ∷ p ∷ []) (λ xs v0 v1 v2 v3. simp (v0, v1, v2, v3, polys, lits xs) (den-ring xs _ _ tt)))

differences_two_z : (a b : SpacePoint) (n0 p : ℤ) → n0 +ℤ (p +ℤ pos 0) ≡ pos 0 → n0 *ℤ a.z +ℤ (p *ℤ b.z +ℤ pos 0) ≡ pos 0 → p *ℤ (b.z -ℤ a.z) ≡ pos 0
differences_two_z a b n0 p e f = combine2 (pos 1) (neg_ℤ a.z) f e (read (a.z ∷ b.z ∷ n0 ∷ p ∷ []) (λ xs v0 v1 v2 v3. simp (v0, v1, v2, v3, polys, lits xs) (den-ring xs _ _ tt)))

coefficient_two_p : (a b : SpacePoint) (p : ℤ) → pos 0 <ℤ (squared_length (vector a b)) → p *ℤ (b.x -ℤ a.x) ≡ pos 0 → p *ℤ (b.y -ℤ a.y) ≡ pos 0 → p *ℤ (b.z -ℤ a.z) ≡ pos 0 → p ≡ pos 0
coefficient_two_p a b p h hx hy hz = zero_product (squared_length (vector a b)) p h (combine3 ((vector a b).x) ((vector a b).y) ((vector a b).z) hx hy hz (read (a.x ∷ a.y ∷ a.z ∷ b.x ∷ b.y ∷ b.z ∷ p ∷ []) (λ xs v0 v1 v2 v3 v4 v5 v6. simp (v0, v1, v2, v3, v4, v5, v6, polys, lits xs) (den-ring xs _ _ tt))))

none_two : (a b : SpacePoint) → pos 0 <ℤ squared_length (vector a b) → (ns : List ℤ) → IsDependence (a ∷ b ∷ []) ns → ⊥
none_two a b h ([]) dep = let e = dep.as_many in absurd (omega arith)
none_two a b h (n0 ∷ []) dep = let e = dep.as_many in absurd (omega arith)
none_two a b h (n0 ∷ p ∷ []) dep =
    let ex = differences_two_x a b n0 p dep.sum (ap (λ v. v.x) dep.weighted) in
    let ey = differences_two_y a b n0 p dep.sum (ap (λ v. v.y) dep.weighted) in
    let ez = differences_two_z a b n0 p dep.sum (ap (λ v. v.z) dep.weighted) in
    let zp : p ≡ pos 0 = coefficient_two_p a b p h ex ey ez in
    let total = dep.sum in
    let zn0 : n0 ≡ pos 0 = omega (arith, ints) in
    dep.some (All-cons (λ n. n ≡ pos 0) n0 (p ∷ []) zn0 (All-cons (λ n. n ≡ pos 0) p ([]) zp (All-nil (λ n. n ≡ pos 0))))
none_two a b h (n0 ∷ p ∷ x ∷ xs) dep = let e = dep.as_many in absurd (omega arith)

-- two are, where their difference is not zero
pub independent_of_two : (a b : SpacePoint) → pos 0 <ℤ squared_length (vector a b) → AreAffinelyDependent (a ∷ b ∷ []) → ⊥
independent_of_two a b h p = none_two a b h p.0 p.1

differences_three_x : (a b c : SpacePoint) (n0 p q : ℤ) → n0 +ℤ (p +ℤ (q +ℤ pos 0)) ≡ pos 0 → n0 *ℤ a.x +ℤ (p *ℤ b.x +ℤ (q *ℤ c.x +ℤ pos 0)) ≡ pos 0 → p *ℤ (b.x -ℤ a.x) +ℤ q *ℤ (c.x -ℤ a.x) ≡ pos 0
differences_three_x a b c n0 p q e f = combine2 (pos 1) (neg_ℤ a.x) f e (read (a.x ∷ b.x ∷ c.x ∷ n0 ∷ p ∷ q ∷ []) (λ xs v0 v1 v2 v3 v4 v5. simp (v0, v1, v2, v3, v4, v5, polys, lits xs) (den-ring xs _ _ tt)))

differences_three_y : (a b c : SpacePoint) (n0 p q : ℤ) → n0 +ℤ (p +ℤ (q +ℤ pos 0)) ≡ pos 0 → n0 *ℤ a.y +ℤ (p *ℤ b.y +ℤ (q *ℤ c.y +ℤ pos 0)) ≡ pos 0 → p *ℤ (b.y -ℤ a.y) +ℤ q *ℤ (c.y -ℤ a.y) ≡ pos 0
differences_three_y a b c n0 p q e f = combine2 (pos 1) (neg_ℤ a.y) f e (read (a.y ∷ b.y ∷ c.y ∷ n0 ∷ p ∷ q ∷ []) (λ xs v0 v1 v2 v3 v4 v5. simp (v0, v1, v2, v3, v4, v5, polys, lits xs) (den-ring xs _ _ tt)))

differences_three_z : (a b c : SpacePoint) (n0 p q : ℤ) → n0 +ℤ (p +ℤ (q +ℤ pos 0)) ≡ pos 0 → n0 *ℤ a.z +ℤ (p *ℤ b.z +ℤ (q *ℤ c.z +ℤ pos 0)) ≡ pos 0 → p *ℤ (b.z -ℤ a.z) +ℤ q *ℤ (c.z -ℤ a.z) ≡ pos 0
differences_three_z a b c n0 p q e f = combine2 (pos 1) (neg_ℤ a.z) f e (read (a.z ∷ b.z ∷ c.z ∷ n0 ∷ p ∷ q ∷ []) (λ xs v0 v1 v2 v3 v4 v5. simp (v0, v1, v2, v3, v4, v5, polys, lits xs) (den-ring xs _ _ tt)))

coefficient_three_p : (a b c : SpacePoint) (p q : ℤ) → pos 0 <ℤ (squared_length (cross (vector a b) (vector a c))) → p *ℤ (b.x -ℤ a.x) +ℤ q *ℤ (c.x -ℤ a.x) ≡ pos 0 → p *ℤ (b.y -ℤ a.y) +ℤ q *ℤ (c.y -ℤ a.y) ≡ pos 0 → p *ℤ (b.z -ℤ a.z) +ℤ q *ℤ (c.z -ℤ a.z) ≡ pos 0 → p ≡ pos 0
coefficient_three_p a b c p q h hx hy hz = zero_product (squared_length (cross (vector a b) (vector a c))) p h (combine3 ((cross (vector a c) (cross (vector a b) (vector a c))).x) ((cross (vector a c) (cross (vector a b) (vector a c))).y) ((cross (vector a c) (cross (vector a b) (vector a c))).z) hx hy hz (read (a.x ∷ a.y ∷ a.z ∷ b.x ∷ b.y ∷ b.z ∷ c.x ∷ c.y ∷ c.z ∷ p ∷ q ∷ []) (λ xs v0 v1 v2 v3 v4 v5 v6 v7 v8 v9 v10. simp (v0, v1, v2, v3, v4, v5, v6, v7, v8, v9, v10, polys, lits xs) (den-ring xs _ _ tt))))

coefficient_three_q : (a b c : SpacePoint) (p q : ℤ) → pos 0 <ℤ (squared_length (cross (vector a b) (vector a c))) → p *ℤ (b.x -ℤ a.x) +ℤ q *ℤ (c.x -ℤ a.x) ≡ pos 0 → p *ℤ (b.y -ℤ a.y) +ℤ q *ℤ (c.y -ℤ a.y) ≡ pos 0 → p *ℤ (b.z -ℤ a.z) +ℤ q *ℤ (c.z -ℤ a.z) ≡ pos 0 → q ≡ pos 0
coefficient_three_q a b c p q h hx hy hz = zero_product (squared_length (cross (vector a b) (vector a c))) q h (combine3 ((cross (cross (vector a b) (vector a c)) (vector a b)).x) ((cross (cross (vector a b) (vector a c)) (vector a b)).y) ((cross (cross (vector a b) (vector a c)) (vector a b)).z) hx hy hz (read (a.x ∷ a.y ∷ a.z ∷ b.x ∷ b.y ∷ b.z ∷ c.x ∷ c.y ∷ c.z ∷ p ∷ q ∷ []) (λ xs v0 v1 v2 v3 v4 v5 v6 v7 v8 v9 v10. simp (v0, v1, v2, v3, v4, v5, v6, v7, v8, v9, v10, polys, lits xs) (den-ring xs _ _ tt))))

none_three : (a b c : SpacePoint) → pos 0 <ℤ squared_length (cross (vector a b) (vector a c)) → (ns : List ℤ) → IsDependence (a ∷ b ∷ c ∷ []) ns → ⊥
none_three a b c h ([]) dep = let e = dep.as_many in absurd (omega arith)
none_three a b c h (n0 ∷ []) dep = let e = dep.as_many in absurd (omega arith)
none_three a b c h (n0 ∷ p ∷ []) dep = let e = dep.as_many in absurd (omega arith)
none_three a b c h (n0 ∷ p ∷ q ∷ []) dep =
    let ex = differences_three_x a b c n0 p q dep.sum (ap (λ v. v.x) dep.weighted) in
    let ey = differences_three_y a b c n0 p q dep.sum (ap (λ v. v.y) dep.weighted) in
    let ez = differences_three_z a b c n0 p q dep.sum (ap (λ v. v.z) dep.weighted) in
    let zp : p ≡ pos 0 = coefficient_three_p a b c p q h ex ey ez in
    let zq : q ≡ pos 0 = coefficient_three_q a b c p q h ex ey ez in
    let total = dep.sum in
    let zn0 : n0 ≡ pos 0 = omega (arith, ints) in
    dep.some (All-cons (λ n. n ≡ pos 0) n0 (p ∷ q ∷ []) zn0 (All-cons (λ n. n ≡ pos 0) p (q ∷ []) zp (All-cons (λ n. n ≡ pos 0) q ([]) zq (All-nil (λ n. n ≡ pos 0)))))
none_three a b c h (n0 ∷ p ∷ q ∷ x ∷ xs) dep = let e = dep.as_many in absurd (omega arith)

-- three are, where the cross product of the differences is not zero
pub independent_of_three : (a b c : SpacePoint) → pos 0 <ℤ squared_length (cross (vector a b) (vector a c)) → AreAffinelyDependent (a ∷ b ∷ c ∷ []) → ⊥
independent_of_three a b c h p = none_three a b c h p.0 p.1

differences_four_x : (a b c d : SpacePoint) (n0 p q s : ℤ) → n0 +ℤ (p +ℤ (q +ℤ (s +ℤ pos 0))) ≡ pos 0 → n0 *ℤ a.x +ℤ (p *ℤ b.x +ℤ (q *ℤ c.x +ℤ (s *ℤ d.x +ℤ pos 0))) ≡ pos 0 → p *ℤ (b.x -ℤ a.x) +ℤ q *ℤ (c.x -ℤ a.x) +ℤ s *ℤ (d.x -ℤ a.x) ≡ pos 0
differences_four_x a b c d n0 p q s e f = combine2 (pos 1) (neg_ℤ a.x) f e (read (a.x ∷ b.x ∷ c.x ∷ d.x ∷ n0 ∷ p ∷ q ∷ s ∷ []) (λ xs v0 v1 v2 v3 v4 v5 v6 v7. simp (v0, v1, v2, v3, v4, v5, v6, v7, polys, lits xs) (den-ring xs _ _ tt)))

differences_four_y : (a b c d : SpacePoint) (n0 p q s : ℤ) → n0 +ℤ (p +ℤ (q +ℤ (s +ℤ pos 0))) ≡ pos 0 → n0 *ℤ a.y +ℤ (p *ℤ b.y +ℤ (q *ℤ c.y +ℤ (s *ℤ d.y +ℤ pos 0))) ≡ pos 0 → p *ℤ (b.y -ℤ a.y) +ℤ q *ℤ (c.y -ℤ a.y) +ℤ s *ℤ (d.y -ℤ a.y) ≡ pos 0
differences_four_y a b c d n0 p q s e f = combine2 (pos 1) (neg_ℤ a.y) f e (read (a.y ∷ b.y ∷ c.y ∷ d.y ∷ n0 ∷ p ∷ q ∷ s ∷ []) (λ xs v0 v1 v2 v3 v4 v5 v6 v7. simp (v0, v1, v2, v3, v4, v5, v6, v7, polys, lits xs) (den-ring xs _ _ tt)))

differences_four_z : (a b c d : SpacePoint) (n0 p q s : ℤ) → n0 +ℤ (p +ℤ (q +ℤ (s +ℤ pos 0))) ≡ pos 0 → n0 *ℤ a.z +ℤ (p *ℤ b.z +ℤ (q *ℤ c.z +ℤ (s *ℤ d.z +ℤ pos 0))) ≡ pos 0 → p *ℤ (b.z -ℤ a.z) +ℤ q *ℤ (c.z -ℤ a.z) +ℤ s *ℤ (d.z -ℤ a.z) ≡ pos 0
differences_four_z a b c d n0 p q s e f = combine2 (pos 1) (neg_ℤ a.z) f e (read (a.z ∷ b.z ∷ c.z ∷ d.z ∷ n0 ∷ p ∷ q ∷ s ∷ []) (λ xs v0 v1 v2 v3 v4 v5 v6 v7. simp (v0, v1, v2, v3, v4, v5, v6, v7, polys, lits xs) (den-ring xs _ _ tt)))

coefficient_four_p : (a b c d : SpacePoint) (p q s : ℤ) → pos 0 <ℤ (dot (cross (vector a b) (vector a c)) (vector a d) *ℤ (dot (cross (vector a b) (vector a c)) (vector a d))) → p *ℤ (b.x -ℤ a.x) +ℤ q *ℤ (c.x -ℤ a.x) +ℤ s *ℤ (d.x -ℤ a.x) ≡ pos 0 → p *ℤ (b.y -ℤ a.y) +ℤ q *ℤ (c.y -ℤ a.y) +ℤ s *ℤ (d.y -ℤ a.y) ≡ pos 0 → p *ℤ (b.z -ℤ a.z) +ℤ q *ℤ (c.z -ℤ a.z) +ℤ s *ℤ (d.z -ℤ a.z) ≡ pos 0 → p ≡ pos 0
coefficient_four_p a b c d p q s h hx hy hz = zero_product (dot (cross (vector a b) (vector a c)) (vector a d) *ℤ (dot (cross (vector a b) (vector a c)) (vector a d))) p h (combine3 ((dot (cross (vector a b) (vector a c)) (vector a d)) *ℤ (cross (vector a c) (vector a d)).x) ((dot (cross (vector a b) (vector a c)) (vector a d)) *ℤ (cross (vector a c) (vector a d)).y) ((dot (cross (vector a b) (vector a c)) (vector a d)) *ℤ (cross (vector a c) (vector a d)).z) hx hy hz (read (a.x ∷ a.y ∷ a.z ∷ b.x ∷ b.y ∷ b.z ∷ c.x ∷ c.y ∷ c.z ∷ d.x ∷ d.y ∷ d.z ∷ p ∷ q ∷ s ∷ []) (λ xs v0 v1 v2 v3 v4 v5 v6 v7 v8 v9 v10 v11 v12 v13 v14. simp (v0, v1, v2, v3, v4, v5, v6, v7, v8, v9, v10, v11, v12, v13, v14, polys, lits xs) (den-ring xs _ _ tt))))

coefficient_four_q : (a b c d : SpacePoint) (p q s : ℤ) → pos 0 <ℤ (dot (cross (vector a b) (vector a c)) (vector a d) *ℤ (dot (cross (vector a b) (vector a c)) (vector a d))) → p *ℤ (b.x -ℤ a.x) +ℤ q *ℤ (c.x -ℤ a.x) +ℤ s *ℤ (d.x -ℤ a.x) ≡ pos 0 → p *ℤ (b.y -ℤ a.y) +ℤ q *ℤ (c.y -ℤ a.y) +ℤ s *ℤ (d.y -ℤ a.y) ≡ pos 0 → p *ℤ (b.z -ℤ a.z) +ℤ q *ℤ (c.z -ℤ a.z) +ℤ s *ℤ (d.z -ℤ a.z) ≡ pos 0 → q ≡ pos 0
coefficient_four_q a b c d p q s h hx hy hz = zero_product (dot (cross (vector a b) (vector a c)) (vector a d) *ℤ (dot (cross (vector a b) (vector a c)) (vector a d))) q h (combine3 ((dot (cross (vector a b) (vector a c)) (vector a d)) *ℤ (cross (vector a d) (vector a b)).x) ((dot (cross (vector a b) (vector a c)) (vector a d)) *ℤ (cross (vector a d) (vector a b)).y) ((dot (cross (vector a b) (vector a c)) (vector a d)) *ℤ (cross (vector a d) (vector a b)).z) hx hy hz (read (a.x ∷ a.y ∷ a.z ∷ b.x ∷ b.y ∷ b.z ∷ c.x ∷ c.y ∷ c.z ∷ d.x ∷ d.y ∷ d.z ∷ p ∷ q ∷ s ∷ []) (λ xs v0 v1 v2 v3 v4 v5 v6 v7 v8 v9 v10 v11 v12 v13 v14. simp (v0, v1, v2, v3, v4, v5, v6, v7, v8, v9, v10, v11, v12, v13, v14, polys, lits xs) (den-ring xs _ _ tt))))

coefficient_four_s : (a b c d : SpacePoint) (p q s : ℤ) → pos 0 <ℤ (dot (cross (vector a b) (vector a c)) (vector a d) *ℤ (dot (cross (vector a b) (vector a c)) (vector a d))) → p *ℤ (b.x -ℤ a.x) +ℤ q *ℤ (c.x -ℤ a.x) +ℤ s *ℤ (d.x -ℤ a.x) ≡ pos 0 → p *ℤ (b.y -ℤ a.y) +ℤ q *ℤ (c.y -ℤ a.y) +ℤ s *ℤ (d.y -ℤ a.y) ≡ pos 0 → p *ℤ (b.z -ℤ a.z) +ℤ q *ℤ (c.z -ℤ a.z) +ℤ s *ℤ (d.z -ℤ a.z) ≡ pos 0 → s ≡ pos 0
coefficient_four_s a b c d p q s h hx hy hz = zero_product (dot (cross (vector a b) (vector a c)) (vector a d) *ℤ (dot (cross (vector a b) (vector a c)) (vector a d))) s h (combine3 ((dot (cross (vector a b) (vector a c)) (vector a d)) *ℤ (cross (vector a b) (vector a c)).x) ((dot (cross (vector a b) (vector a c)) (vector a d)) *ℤ (cross (vector a b) (vector a c)).y) ((dot (cross (vector a b) (vector a c)) (vector a d)) *ℤ (cross (vector a b) (vector a c)).z) hx hy hz (read (a.x ∷ a.y ∷ a.z ∷ b.x ∷ b.y ∷ b.z ∷ c.x ∷ c.y ∷ c.z ∷ d.x ∷ d.y ∷ d.z ∷ p ∷ q ∷ s ∷ []) (λ xs v0 v1 v2 v3 v4 v5 v6 v7 v8 v9 v10 v11 v12 v13 v14. simp (v0, v1, v2, v3, v4, v5, v6, v7, v8, v9, v10, v11, v12, v13, v14, polys, lits xs) (den-ring xs _ _ tt))))

none_four : (a b c d : SpacePoint) → (dot (cross (vector a b) (vector a c)) (vector a d) ≡ pos 0 → ⊥) → (ns : List ℤ) → IsDependence (a ∷ b ∷ c ∷ d ∷ []) ns → ⊥
none_four a b c d h ([]) dep = let e = dep.as_many in absurd (omega arith)
none_four a b c d h (n0 ∷ []) dep = let e = dep.as_many in absurd (omega arith)
none_four a b c d h (n0 ∷ p ∷ []) dep = let e = dep.as_many in absurd (omega arith)
none_four a b c d h (n0 ∷ p ∷ q ∷ []) dep = let e = dep.as_many in absurd (omega arith)
none_four a b c d h (n0 ∷ p ∷ q ∷ s ∷ []) dep =
    let ex = differences_four_x a b c d n0 p q s dep.sum (ap (λ v. v.x) dep.weighted) in
    let ey = differences_four_y a b c d n0 p q s dep.sum (ap (λ v. v.y) dep.weighted) in
    let ez = differences_four_z a b c d n0 p q s dep.sum (ap (λ v. v.z) dep.weighted) in
    let zp : p ≡ pos 0 = coefficient_four_p a b c d p q s (square_positive _ h) ex ey ez in
    let zq : q ≡ pos 0 = coefficient_four_q a b c d p q s (square_positive _ h) ex ey ez in
    let zs : s ≡ pos 0 = coefficient_four_s a b c d p q s (square_positive _ h) ex ey ez in
    let total = dep.sum in
    let zn0 : n0 ≡ pos 0 = omega (arith, ints) in
    dep.some (All-cons (λ n. n ≡ pos 0) n0 (p ∷ q ∷ s ∷ []) zn0 (All-cons (λ n. n ≡ pos 0) p (q ∷ s ∷ []) zp (All-cons (λ n. n ≡ pos 0) q (s ∷ []) zq (All-cons (λ n. n ≡ pos 0) s ([]) zs (All-nil (λ n. n ≡ pos 0))))))
none_four a b c d h (n0 ∷ p ∷ q ∷ s ∷ x ∷ xs) dep = let e = dep.as_many in absurd (omega arith)

-- four are, where the triple product of the differences is not 0
pub independent_of_four : (a b c d : SpacePoint) → (dot (cross (vector a b) (vector a c)) (vector a d) ≡ pos 0 → ⊥) → AreAffinelyDependent (a ∷ b ∷ c ∷ d ∷ []) → ⊥
independent_of_four a b c d h p = none_four a b c d h p.0 p.1
