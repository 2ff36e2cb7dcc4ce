-- A weighting is level where the differences of its vectors solve linear equations: with a as the first vector, d a difference, W the sum of the
-- weights and s the weighted sum of the differences, 2 d·s is W times the right side of d.
use Rattle.std.proofs.Common.{◌≡◌, refl, ℤ, pos, ◌+ℤ◌, ◌-ℤ◌, ◌*ℤ◌, [], ◌∷◌}
use Rattle.std.proofs.lemmas.List.Elements.{All-nil, All-cons}
use Rattle.integers.proofs.Identities.{den-ring, read, polys, lits}
use Rattle.integers.proofs.Order.{combine1}
use Rattle.bounds_model.specs.Space.{SpacePoint}
use Rattle.bounds_model.specs.Slacks.{slack}
use Rattle.kernel_laws.specs.Solutions.{weighted}
use Rattle.kernel_laws.specs.Systems.{right_side}
use Rattle.kernel_laws.proofs.Levels.{IsLevel}

-- one vector is level
pub level_of_one : (quadratic : ℤ) (a : SpacePoint) (W : ℤ)
    → IsLevel quadratic (W ∷ []) (a ∷ []) (slack quadratic (weighted (W ∷ []) (a ∷ [])) a)
level_of_one quadratic a W =
    All-cons (λ v. slack quadratic (weighted (W ∷ []) (a ∷ [])) v ≡ slack quadratic (weighted (W ∷ []) (a ∷ [])) a) a [] refl (All-nil (λ v. slack quadratic (weighted (W ∷ []) (a ∷ [])) v ≡ slack quadratic (weighted (W ∷ []) (a ∷ [])) a))

-- two, where the second's equation holds
pub level_of_two : (quadratic : ℤ) (a b : SpacePoint) (p W : ℤ)
    → pos 2 *ℤ ((b.x -ℤ a.x) *ℤ (p *ℤ (b.x -ℤ a.x)) +ℤ (b.y -ℤ a.y) *ℤ (p *ℤ (b.y -ℤ a.y)) +ℤ (b.z -ℤ a.z) *ℤ (p *ℤ (b.z -ℤ a.z))) ≡ W *ℤ right_side quadratic a b
    → IsLevel quadratic ((W -ℤ p) ∷ p ∷ []) (a ∷ b ∷ []) (slack quadratic (weighted ((W -ℤ p) ∷ p ∷ []) (a ∷ b ∷ [])) a)
level_of_two quadratic a b p W hb =
    All-cons (λ v. slack quadratic (weighted ((W -ℤ p) ∷ p ∷ []) (a ∷ b ∷ [])) v ≡ slack quadratic (weighted ((W -ℤ p) ∷ p ∷ []) (a ∷ b ∷ [])) a) a (b ∷ []) refl
    (All-cons (λ v. slack quadratic (weighted ((W -ℤ p) ∷ p ∷ []) (a ∷ b ∷ [])) v ≡ slack quadratic (weighted ((W -ℤ p) ∷ p ∷ []) (a ∷ b ∷ [])) a) b [] (combine1 (pos 1) hb (read (quadratic ∷ a.x ∷ a.y ∷ a.z ∷ b.x ∷ b.y ∷ b.z ∷ p ∷ W ∷ []) (λ xs v0 v1 v2 v3 v4 v5 v6 v7 v8. simp (v0, v1, v2, v3, v4, v5, v6, v7, v8, polys, lits xs) (den-ring xs _ _ tt)))) (All-nil (λ v. slack quadratic (weighted ((W -ℤ p) ∷ p ∷ []) (a ∷ b ∷ [])) v ≡ slack quadratic (weighted ((W -ℤ p) ∷ p ∷ []) (a ∷ b ∷ [])) a)))

-- three, where the equations of the second and the third hold
pub level_of_three : (quadratic : ℤ) (a b c : SpacePoint) (p q W : ℤ)
    → pos 2 *ℤ ((b.x -ℤ a.x) *ℤ (p *ℤ (b.x -ℤ a.x) +ℤ q *ℤ (c.x -ℤ a.x)) +ℤ (b.y -ℤ a.y) *ℤ (p *ℤ (b.y -ℤ a.y) +ℤ q *ℤ (c.y -ℤ a.y)) +ℤ (b.z -ℤ a.z) *ℤ (p *ℤ (b.z -ℤ a.z) +ℤ q *ℤ (c.z -ℤ a.z))) ≡ W *ℤ right_side quadratic a b
    → pos 2 *ℤ ((c.x -ℤ a.x) *ℤ (p *ℤ (b.x -ℤ a.x) +ℤ q *ℤ (c.x -ℤ a.x)) +ℤ (c.y -ℤ a.y) *ℤ (p *ℤ (b.y -ℤ a.y) +ℤ q *ℤ (c.y -ℤ a.y)) +ℤ (c.z -ℤ a.z) *ℤ (p *ℤ (b.z -ℤ a.z) +ℤ q *ℤ (c.z -ℤ a.z))) ≡ W *ℤ right_side quadratic a c
    → IsLevel quadratic ((W -ℤ p -ℤ q) ∷ p ∷ q ∷ []) (a ∷ b ∷ c ∷ []) (slack quadratic (weighted ((W -ℤ p -ℤ q) ∷ p ∷ q ∷ []) (a ∷ b ∷ c ∷ [])) a)
level_of_three quadratic a b c p q W hb hc =
    All-cons (λ v. slack quadratic (weighted ((W -ℤ p -ℤ q) ∷ p ∷ q ∷ []) (a ∷ b ∷ c ∷ [])) v ≡ slack quadratic (weighted ((W -ℤ p -ℤ q) ∷ p ∷ q ∷ []) (a ∷ b ∷ c ∷ [])) a) a (b ∷ c ∷ []) refl
    (All-cons (λ v. slack quadratic (weighted ((W -ℤ p -ℤ q) ∷ p ∷ q ∷ []) (a ∷ b ∷ c ∷ [])) v ≡ slack quadratic (weighted ((W -ℤ p -ℤ q) ∷ p ∷ q ∷ []) (a ∷ b ∷ c ∷ [])) a) b (c ∷ []) (combine1 (pos 1) hb (read (quadratic ∷ a.x ∷ a.y ∷ a.z ∷ b.x ∷ b.y ∷ b.z ∷ c.x ∷ c.y ∷ c.z ∷ p ∷ q ∷ W ∷ []) (λ xs v0 v1 v2 v3 v4 v5 v6 v7 v8 v9 v10 v11 v12. simp (v0, v1, v2, v3, v4, v5, v6, v7, v8, v9, v10, v11, v12, polys, lits xs) (den-ring xs _ _ tt))))
    (All-cons (λ v. slack quadratic (weighted ((W -ℤ p -ℤ q) ∷ p ∷ q ∷ []) (a ∷ b ∷ c ∷ [])) v ≡ slack quadratic (weighted ((W -ℤ p -ℤ q) ∷ p ∷ q ∷ []) (a ∷ b ∷ c ∷ [])) a) c [] (combine1 (pos 1) hc (read (quadratic ∷ a.x ∷ a.y ∷ a.z ∷ b.x ∷ b.y ∷ b.z ∷ c.x ∷ c.y ∷ c.z ∷ p ∷ q ∷ W ∷ []) (λ xs v0 v1 v2 v3 v4 v5 v6 v7 v8 v9 v10 v11 v12. simp (v0, v1, v2, v3, v4, v5, v6, v7, v8, v9, v10, v11, v12, polys, lits xs) (den-ring xs _ _ tt)))) (All-nil (λ v. slack quadratic (weighted ((W -ℤ p -ℤ q) ∷ p ∷ q ∷ []) (a ∷ b ∷ c ∷ [])) v ≡ slack quadratic (weighted ((W -ℤ p -ℤ q) ∷ p ∷ q ∷ []) (a ∷ b ∷ c ∷ [])) a))))

-- four, where the equations of the others hold
pub level_of_four : (quadratic : ℤ) (a b c d : SpacePoint) (p q s W : ℤ)
    → pos 2 *ℤ ((b.x -ℤ a.x) *ℤ (p *ℤ (b.x -ℤ a.x) +ℤ q *ℤ (c.x -ℤ a.x) +ℤ s *ℤ (d.x -ℤ a.x)) +ℤ (b.y -ℤ a.y) *ℤ (p *ℤ (b.y -ℤ a.y) +ℤ q *ℤ (c.y -ℤ a.y) +ℤ s *ℤ (d.y -ℤ a.y)) +ℤ (b.z -ℤ a.z) *ℤ (p *ℤ (b.z -ℤ a.z) +ℤ q *ℤ (c.z -ℤ a.z) +ℤ s *ℤ (d.z -ℤ a.z))) ≡ W *ℤ right_side quadratic a b
    → pos 2 *ℤ ((c.x -ℤ a.x) *ℤ (p *ℤ (b.x -ℤ a.x) +ℤ q *ℤ (c.x -ℤ a.x) +ℤ s *ℤ (d.x -ℤ a.x)) +ℤ (c.y -ℤ a.y) *ℤ (p *ℤ (b.y -ℤ a.y) +ℤ q *ℤ (c.y -ℤ a.y) +ℤ s *ℤ (d.y -ℤ a.y)) +ℤ (c.z -ℤ a.z) *ℤ (p *ℤ (b.z -ℤ a.z) +ℤ q *ℤ (c.z -ℤ a.z) +ℤ s *ℤ (d.z -ℤ a.z))) ≡ W *ℤ right_side quadratic a c
    → pos 2 *ℤ ((d.x -ℤ a.x) *ℤ (p *ℤ (b.x -ℤ a.x) +ℤ q *ℤ (c.x -ℤ a.x) +ℤ s *ℤ (d.x -ℤ a.x)) +ℤ (d.y -ℤ a.y) *ℤ (p *ℤ (b.y -ℤ a.y) +ℤ q *ℤ (c.y -ℤ a.y) +ℤ s *ℤ (d.y -ℤ a.y)) +ℤ (d.z -ℤ a.z) *ℤ (p *ℤ (b.z -ℤ a.z) +ℤ q *ℤ (c.z -ℤ a.z) +ℤ s *ℤ (d.z -ℤ a.z))) ≡ W *ℤ right_side quadratic a d
    → IsLevel quadratic ((W -ℤ p -ℤ q -ℤ s) ∷ p ∷ q ∷ s ∷ []) (a ∷ b ∷ c ∷ d ∷ []) (slack quadratic (weighted ((W -ℤ p -ℤ q -ℤ s) ∷ p ∷ q ∷ s ∷ []) (a ∷ b ∷ c ∷ d ∷ [])) a)
level_of_four quadratic a b c d p q s W hb hc hd =
    All-cons (λ v. slack quadratic (weighted ((W -ℤ p -ℤ q -ℤ s) ∷ p ∷ q ∷ s ∷ []) (a ∷ b ∷ c ∷ d ∷ [])) v ≡ slack quadratic (weighted ((W -ℤ p -ℤ q -ℤ s) ∷ p ∷ q ∷ s ∷ []) (a ∷ b ∷ c ∷ d ∷ [])) a) a (b ∷ c ∷ d ∷ []) refl
    (All-cons (λ v. slack quadratic (weighted ((W -ℤ p -ℤ q -ℤ s) ∷ p ∷ q ∷ s ∷ []) (a ∷ b ∷ c ∷ d ∷ [])) v ≡ slack quadratic (weighted ((W -ℤ p -ℤ q -ℤ s) ∷ p ∷ q ∷ s ∷ []) (a ∷ b ∷ c ∷ d ∷ [])) a) b (c ∷ d ∷ []) (combine1 (pos 1) hb (read (quadratic ∷ a.x ∷ a.y ∷ a.z ∷ b.x ∷ b.y ∷ b.z ∷ c.x ∷ c.y ∷ c.z ∷ d.x ∷ d.y ∷ d.z ∷ p ∷ q ∷ s ∷ W ∷ []) (λ xs v0 v1 v2 v3 v4 v5 v6 v7 v8 v9 v10 v11 v12 v13 v14 v15 v16. simp (v0, v1, v2, v3, v4, v5, v6, v7, v8, v9, v10, v11, v12, v13, v14, v15, v16, polys, lits xs) (den-ring xs _ _ tt))))
    (All-cons (λ v. slack quadratic (weighted ((W -ℤ p -ℤ q -ℤ s) ∷ p ∷ q ∷ s ∷ []) (a ∷ b ∷ c ∷ d ∷ [])) v ≡ slack quadratic (weighted ((W -ℤ p -ℤ q -ℤ s) ∷ p ∷ q ∷ s ∷ []) (a ∷ b ∷ c ∷ d ∷ [])) a) c (d ∷ []) (combine1 (pos 1) hc (read (quadratic ∷ a.x ∷ a.y ∷ a.z ∷ b.x ∷ b.y ∷ b.z ∷ c.x ∷ c.y ∷ c.z ∷ d.x ∷ d.y ∷ d.z ∷ p ∷ q ∷ s ∷ W ∷ []) (λ xs v0 v1 v2 v3 v4 v5 v6 v7 v8 v9 v10 v11 v12 v13 v14 v15 v16. simp (v0, v1, v2, v3, v4, v5, v6, v7, v8, v9, v10, v11, v12, v13, v14, v15, v16, polys, lits xs) (den-ring xs _ _ tt))))
    (All-cons (λ v. slack quadratic (weighted ((W -ℤ p -ℤ q -ℤ s) ∷ p ∷ q ∷ s ∷ []) (a ∷ b ∷ c ∷ d ∷ [])) v ≡ slack quadratic (weighted ((W -ℤ p -ℤ q -ℤ s) ∷ p ∷ q ∷ s ∷ []) (a ∷ b ∷ c ∷ d ∷ [])) a) d [] (combine1 (pos 1) hd (read (quadratic ∷ a.x ∷ a.y ∷ a.z ∷ b.x ∷ b.y ∷ b.z ∷ c.x ∷ c.y ∷ c.z ∷ d.x ∷ d.y ∷ d.z ∷ p ∷ q ∷ s ∷ W ∷ []) (λ xs v0 v1 v2 v3 v4 v5 v6 v7 v8 v9 v10 v11 v12 v13 v14 v15 v16. simp (v0, v1, v2, v3, v4, v5, v6, v7, v8, v9, v10, v11, v12, v13, v14, v15, v16, polys, lits xs) (den-ring xs _ _ tt)))) (All-nil (λ v. slack quadratic (weighted ((W -ℤ p -ℤ q -ℤ s) ∷ p ∷ q ∷ s ∷ []) (a ∷ b ∷ c ∷ d ∷ [])) v ≡ slack quadratic (weighted ((W -ℤ p -ℤ q -ℤ s) ∷ p ∷ q ∷ s ∷ []) (a ∷ b ∷ c ∷ d ∷ [])) a)))))
