-- Vectors of which the differences from the first have a weighted sum of 0 are affinely dependent.
use Rattle.std.proofs.Common.{◌≡◌, refl, ℤ, pos, ◌+ℤ◌, ◌-ℤ◌, ◌*ℤ◌, neg_ℤ, [], ◌∷◌}
use Rattle.std.specs.Prelude.{All}
use Rattle.std.proofs.lemmas.List.Elements.{All-tail}
use Rattle.integers.proofs.Identities.{den-ring, read, polys, lits}
use Rattle.integers.proofs.Order.{combine1}
use Rattle.bounds_model.specs.Space.{SpacePoint}
use Rattle.bounds_model.specs.Slacks.{IsDependence}
use Rattle.kernel_laws.proofs.Points.{same_point}

-- two vectors, by the numbers of the differences
pub dependence_of_two : (a b : SpacePoint) (p : ℤ) → ¬ All (λ n. n ≡ pos 0) (p ∷ [])
    → p *ℤ (b.x -ℤ a.x) ≡ pos 0
    → p *ℤ (b.y -ℤ a.y) ≡ pos 0
    → p *ℤ (b.z -ℤ a.z) ≡ pos 0
    → IsDependence (a ∷ b ∷ []) ((neg_ℤ (p)) ∷ p ∷ [])
dependence_of_two a b p some hx hy hz = record {
  as_many = refl;
  some = λ all. some (All-tail (λ n. n ≡ pos 0) (neg_ℤ (p)) (p ∷ []) all);
  sum = read (p ∷ []) (λ xs v0. simp (v0, polys, lits xs) (den-ring xs _ _ tt));
  weighted = same_point (combine1 (pos 1) hx (read (a.x ∷ b.x ∷ p ∷ []) (λ xs v0 v1 v2. simp (v0, v1, v2, polys, lits xs) (den-ring xs _ _ tt))))
      (combine1 (pos 1) hy (read (a.y ∷ b.y ∷ p ∷ []) (λ xs v0 v1 v2. simp (v0, v1, v2, polys, lits xs) (den-ring xs _ _ tt))))
      (combine1 (pos 1) hz (read (a.z ∷ b.z ∷ p ∷ []) (λ xs v0 v1 v2. simp (v0, v1, v2, polys, lits xs) (den-ring xs _ _ tt))));
}

-- three vectors, by the numbers of the differences
pub dependence_of_three : (a b c : SpacePoint) (p q : ℤ) → ¬ All (λ n. n ≡ pos 0) (p ∷ q ∷ [])
    → p *ℤ (b.x -ℤ a.x) +ℤ q *ℤ (c.x -ℤ a.x) ≡ pos 0
    → p *ℤ (b.y -ℤ a.y) +ℤ q *ℤ (c.y -ℤ a.y) ≡ pos 0
    → p *ℤ (b.z -ℤ a.z) +ℤ q *ℤ (c.z -ℤ a.z) ≡ pos 0
    → IsDependence (a ∷ b ∷ c ∷ []) ((neg_ℤ (p +ℤ q)) ∷ p ∷ q ∷ [])
dependence_of_three a b c p q some hx hy hz = record {
  as_many = refl;
  some = λ all. some (All-tail (λ n. n ≡ pos 0) (neg_ℤ (p +ℤ q)) (p ∷ q ∷ []) all);
  sum = read (p ∷ q ∷ []) (λ xs v0 v1. simp (v0, v1, polys, lits xs) (den-ring xs _ _ tt));
  weighted = same_point (combine1 (pos 1) hx (read (a.x ∷ b.x ∷ c.x ∷ p ∷ q ∷ []) (λ xs v0 v1 v2 v3 v4. simp (v0, v1, v2, v3, v4, polys, lits xs) (den-ring xs _ _ tt))))
      (combine1 (pos 1) hy (read (a.y ∷ b.y ∷ c.y ∷ p ∷ q ∷ []) (λ xs v0 v1 v2 v3 v4. simp (v0, v1, v2, v3, v4, polys, lits xs) (den-ring xs _ _ tt))))
      (combine1 (pos 1) hz (read (a.z ∷ b.z ∷ c.z ∷ p ∷ q ∷ []) (λ xs v0 v1 v2 v3 v4. simp (v0, v1, v2, v3, v4, polys, lits xs) (den-ring xs _ _ tt))));
}

-- four vectors, by the numbers of the differences
pub dependence_of_four : (a b c d : SpacePoint) (p q s : ℤ) → ¬ All (λ n. n ≡ pos 0) (p ∷ q ∷ s ∷ [])
    → p *ℤ (b.x -ℤ a.x) +ℤ q *ℤ (c.x -ℤ a.x) +ℤ s *ℤ (d.x -ℤ a.x) ≡ pos 0
    → p *ℤ (b.y -ℤ a.y) +ℤ q *ℤ (c.y -ℤ a.y) +ℤ s *ℤ (d.y -ℤ a.y) ≡ pos 0
    → p *ℤ (b.z -ℤ a.z) +ℤ q *ℤ (c.z -ℤ a.z) +ℤ s *ℤ (d.z -ℤ a.z) ≡ pos 0
    → IsDependence (a ∷ b ∷ c ∷ d ∷ []) ((neg_ℤ (p +ℤ q +ℤ s)) ∷ p ∷ q ∷ s ∷ [])
dependence_of_four a b c d p q s some hx hy hz = record {
  as_many = refl;
  some = λ all. some (All-tail (λ n. n ≡ pos 0) (neg_ℤ (p +ℤ q +ℤ s)) (p ∷ q ∷ s ∷ []) all);
  sum = read (p ∷ q ∷ s ∷ []) (λ xs v0 v1 v2. simp (v0, v1, v2, polys, lits xs) (den-ring xs _ _ tt));
  weighted = same_point (combine1 (pos 1) hx (read (a.x ∷ b.x ∷ c.x ∷ d.x ∷ p ∷ q ∷ s ∷ []) (λ xs v0 v1 v2 v3 v4 v5 v6. simp (v0, v1, v2, v3, v4, v5, v6, polys, lits xs) (den-ring xs _ _ tt))))
      (combine1 (pos 1) hy (read (a.y ∷ b.y ∷ c.y ∷ d.y ∷ p ∷ q ∷ s ∷ []) (λ xs v0 v1 v2 v3 v4 v5 v6. simp (v0, v1, v2, v3, v4, v5, v6, polys, lits xs) (den-ring xs _ _ tt))))
      (combine1 (pos 1) hz (read (a.z ∷ b.z ∷ c.z ∷ d.z ∷ p ∷ q ∷ s ∷ []) (λ xs v0 v1 v2 v3 v4 v5 v6. simp (v0, v1, v2, v3, v4, v5, v6, polys, lits xs) (den-ring xs _ _ tt))));
}

-- five vectors, by the numbers of the differences
pub dependence_of_five : (a b c d e : SpacePoint) (p q s t : ℤ) → ¬ All (λ n. n ≡ pos 0) (p ∷ q ∷ s ∷ t ∷ [])
    → p *ℤ (b.x -ℤ a.x) +ℤ q *ℤ (c.x -ℤ a.x) +ℤ s *ℤ (d.x -ℤ a.x) +ℤ t *ℤ (e.x -ℤ a.x) ≡ pos 0
    → p *ℤ (b.y -ℤ a.y) +ℤ q *ℤ (c.y -ℤ a.y) +ℤ s *ℤ (d.y -ℤ a.y) +ℤ t *ℤ (e.y -ℤ a.y) ≡ pos 0
    → p *ℤ (b.z -ℤ a.z) +ℤ q *ℤ (c.z -ℤ a.z) +ℤ s *ℤ (d.z -ℤ a.z) +ℤ t *ℤ (e.z -ℤ a.z) ≡ pos 0
    → IsDependence (a ∷ b ∷ c ∷ d ∷ e ∷ []) ((neg_ℤ (p +ℤ q +ℤ s +ℤ t)) ∷ p ∷ q ∷ s ∷ t ∷ [])
dependence_of_five a b c d e p q s t some hx hy hz = record {
  as_many = refl;
  some = λ all. some (All-tail (λ n. n ≡ pos 0) (neg_ℤ (p +ℤ q +ℤ s +ℤ t)) (p ∷ q ∷ s ∷ t ∷ []) all);
  sum = read (p ∷ q ∷ s ∷ t ∷ []) (λ xs v0 v1 v2 v3. simp (v0, v1, v2, v3, polys, lits xs) (den-ring xs _ _ tt));
  weighted = same_point (combine1 (pos 1) hx (read (a.x ∷ b.x ∷ c.x ∷ d.x ∷ e.x ∷ p ∷ q ∷ s ∷ t ∷ []) (λ xs v0 v1 v2 v3 v4 v5 v6 v7 v8. simp (v0, v1, v2, v3, v4, v5, v6, v7, v8, polys, lits xs) (den-ring xs _ _ tt))))
      (combine1 (pos 1) hy (read (a.y ∷ b.y ∷ c.y ∷ d.y ∷ e.y ∷ p ∷ q ∷ s ∷ t ∷ []) (λ xs v0 v1 v2 v3 v4 v5 v6 v7 v8. simp (v0, v1, v2, v3, v4, v5, v6, v7, v8, polys, lits xs) (den-ring xs _ _ tt))))
      (combine1 (pos 1) hz (read (a.z ∷ b.z ∷ c.z ∷ d.z ∷ e.z ∷ p ∷ q ∷ s ∷ t ∷ []) (λ xs v0 v1 v2 v3 v4 v5 v6 v7 v8. simp (v0, v1, v2, v3, v4, v5, v6, v7, v8, polys, lits xs) (den-ring xs _ _ tt))));
}
