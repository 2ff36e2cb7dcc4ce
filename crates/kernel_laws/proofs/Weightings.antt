-- Weights of two, three and four vectors, from a solution of their equations.
use Rattle.std.proofs.Common.{◌≡◌, refl, sym, ◌∙◌, ap, ap₂, subst, ℕ, ℤ, pos, ◌+ℤ◌, ◌-ℤ◌, ◌*ℤ◌, ◌<ℤ◌, List, [], ◌∷◌, arith}
use Rattle.std.proofs.lemmas.Int.{ints}
use Rattle.std.proofs.lemmas.List.Elements.{All-nil, All-cons}
use Rattle.integers.specs.Size.{Size}
use Rattle.bounds_model.specs.Space.{SpacePoint}
use Rattle.bounds_model.specs.Slacks.{slack}
use Rattle.kernel_laws.specs.Solutions.{weighted, IsWeighting, Reduces}
use Rattle.kernel_laws.specs.Systems.{right_side}
use Rattle.kernel_laws.proofs.Levels.{weighting_from_level}
use Rattle.kernel_laws.proofs.Systems.{level_of_one, level_of_two, level_of_three, level_of_four}

-- one vector
pub weighting_of_one : (quadratic : ℤ) (limit : ℕ) (a : SpacePoint) (W : ℤ) (ws : List ℤ) → Reduces (W ∷ []) ws
    → pos 0 <ℤ W → Size limit W → IsWeighting quadratic limit (a ∷ []) ws
weighting_of_one quadratic limit a W ws r some sW =
    let sum : W +ℤ (pos 0) ≡ W = omega (arith, ints) in
    weighting_from_level quadratic limit (a ∷ []) (W ∷ []) ws (slack quadratic (weighted (W ∷ []) (a ∷ [])) a) r refl (level_of_one quadratic a W) (subst (λ t. pos 0 <ℤ t) (sym sum) some)
    (All-cons (Size limit) W [] sW (All-nil (Size limit)))
    (subst (Size limit) (sym sum) sW)

-- two
pub weighting_of_two : (quadratic : ℤ) (limit : ℕ) (a b : SpacePoint) (p W : ℤ) (ws : List ℤ) → Reduces ((W -ℤ p) ∷ p ∷ []) ws
    → pos 2 *ℤ ((b.x -ℤ a.x) *ℤ (p *ℤ (b.x -ℤ a.x)) +ℤ (b.y -ℤ a.y) *ℤ (p *ℤ (b.y -ℤ a.y)) +ℤ (b.z -ℤ a.z) *ℤ (p *ℤ (b.z -ℤ a.z))) ≡ W *ℤ right_side quadratic a b
    → pos 0 <ℤ W → Size limit W → Size limit (W -ℤ p) → Size limit p → IsWeighting quadratic limit (a ∷ b ∷ []) ws
weighting_of_two quadratic limit a b p W ws r hb some sW s0 s1 =
    let sum : (W -ℤ p) +ℤ (p +ℤ (pos 0)) ≡ W = omega (arith, ints) in
    weighting_from_level quadratic limit (a ∷ b ∷ []) ((W -ℤ p) ∷ p ∷ []) ws (slack quadratic (weighted ((W -ℤ p) ∷ p ∷ []) (a ∷ b ∷ [])) a) r refl (level_of_two quadratic a b p W hb) (subst (λ t. pos 0 <ℤ t) (sym sum) some)
    (All-cons (Size limit) (W -ℤ p) (p ∷ []) s0 (All-cons (Size limit) p ([]) s1 (All-nil (Size limit))))
    (subst (Size limit) (sym sum) sW)

-- three
pub weighting_of_three : (quadratic : ℤ) (limit : ℕ) (a b c : SpacePoint) (p q W : ℤ) (ws : List ℤ) → Reduces ((W -ℤ p -ℤ q) ∷ p ∷ q ∷ []) ws
    → pos 2 *ℤ ((b.x -ℤ a.x) *ℤ (p *ℤ (b.x -ℤ a.x) +ℤ q *ℤ (c.x -ℤ a.x)) +ℤ (b.y -ℤ a.y) *ℤ (p *ℤ (b.y -ℤ a.y) +ℤ q *ℤ (c.y -ℤ a.y)) +ℤ (b.z -ℤ a.z) *ℤ (p *ℤ (b.z -ℤ a.z) +ℤ q *ℤ (c.z -ℤ a.z))) ≡ W *ℤ right_side quadratic a b
    → pos 2 *ℤ ((c.x -ℤ a.x) *ℤ (p *ℤ (b.x -ℤ a.x) +ℤ q *ℤ (c.x -ℤ a.x)) +ℤ (c.y -ℤ a.y) *ℤ (p *ℤ (b.y -ℤ a.y) +ℤ q *ℤ (c.y -ℤ a.y)) +ℤ (c.z -ℤ a.z) *ℤ (p *ℤ (b.z -ℤ a.z) +ℤ q *ℤ (c.z -ℤ a.z))) ≡ W *ℤ right_side quadratic a c
    → pos 0 <ℤ W → Size limit W → Size limit (W -ℤ p -ℤ q) → Size limit p → Size limit q → IsWeighting quadratic limit (a ∷ b ∷ c ∷ []) ws
weighting_of_three quadratic limit a b c p q W ws r hb hc some sW s0 s1 s2 =
    let sum : (W -ℤ p -ℤ q) +ℤ (p +ℤ (q +ℤ (pos 0))) ≡ W = omega (arith, ints) in
    weighting_from_level quadratic limit (a ∷ b ∷ c ∷ []) ((W -ℤ p -ℤ q) ∷ p ∷ q ∷ []) ws (slack quadratic (weighted ((W -ℤ p -ℤ q) ∷ p ∷ q ∷ []) (a ∷ b ∷ c ∷ [])) a) r refl (level_of_three quadratic a b c p q W hb hc) (subst (λ t. pos 0 <ℤ t) (sym sum) some)
    (All-cons (Size limit) (W -ℤ p -ℤ q) (p ∷ q ∷ []) s0 (All-cons (Size limit) p (q ∷ []) s1 (All-cons (Size limit) q ([]) s2 (All-nil (Size limit)))))
    (subst (Size limit) (sym sum) sW)

-- four
pub weighting_of_four : (quadratic : ℤ) (limit : ℕ) (a b c d : SpacePoint) (p q s W : ℤ) (ws : List ℤ) → Reduces ((W -ℤ p -ℤ q -ℤ s) ∷ p ∷ q ∷ s ∷ []) ws
    → pos 2 *ℤ ((b.x -ℤ a.x) *ℤ (p *ℤ (b.x -ℤ a.x) +ℤ q *ℤ (c.x -ℤ a.x) +ℤ s *ℤ (d.x -ℤ a.x)) +ℤ (b.y -ℤ a.y) *ℤ (p *ℤ (b.y -ℤ a.y) +ℤ q *ℤ (c.y -ℤ a.y) +ℤ s *ℤ (d.y -ℤ a.y)) +ℤ (b.z -ℤ a.z) *ℤ (p *ℤ (b.z -ℤ a.z) +ℤ q *ℤ (c.z -ℤ a.z) +ℤ s *ℤ (d.z -ℤ a.z))) ≡ W *ℤ right_side quadratic a b
    → pos 2 *ℤ ((c.x -ℤ a.x) *ℤ (p *ℤ (b.x -ℤ a.x) +ℤ q *ℤ (c.x -ℤ a.x) +ℤ s *ℤ (d.x -ℤ a.x)) +ℤ (c.y -ℤ a.y) *ℤ (p *ℤ (b.y -ℤ a.y) +ℤ q *ℤ (c.y -ℤ a.y) +ℤ s *ℤ (d.y -ℤ a.y)) +ℤ (c.z -ℤ a.z) *ℤ (p *ℤ (b.z -ℤ a.z) +ℤ q *ℤ (c.z -ℤ a.z) +ℤ s *ℤ (d.z -ℤ a.z))) ≡ W *ℤ right_side quadratic a c
    → pos 2 *ℤ ((d.x -ℤ a.x) *ℤ (p *ℤ (b.x -ℤ a.x) +ℤ q *ℤ (c.x -ℤ a.x) +ℤ s *ℤ (d.x -ℤ a.x)) +ℤ (d.y -ℤ a.y) *ℤ (p *ℤ (b.y -ℤ a.y) +ℤ q *ℤ (c.y -ℤ a.y) +ℤ s *ℤ (d.y -ℤ a.y)) +ℤ (d.z -ℤ a.z) *ℤ (p *ℤ (b.z -ℤ a.z) +ℤ q *ℤ (c.z -ℤ a.z) +ℤ s *ℤ (d.z -ℤ a.z))) ≡ W *ℤ right_side quadratic a d
    → pos 0 <ℤ W → Size limit W → Size limit (W -ℤ p -ℤ q -ℤ s) → Size limit p → Size limit q → Size limit s → IsWeighting quadratic limit (a ∷ b ∷ c ∷ d ∷ []) ws
weighting_of_four quadratic limit a b c d p q s W ws r hb hc hd some sW s0 s1 s2 s3 =
    let sum : (W -ℤ p -ℤ q -ℤ s) +ℤ (p +ℤ (q +ℤ (s +ℤ (pos 0)))) ≡ W = omega (arith, ints) in
    weighting_from_level quadratic limit (a ∷ b ∷ c ∷ d ∷ []) ((W -ℤ p -ℤ q -ℤ s) ∷ p ∷ q ∷ s ∷ []) ws (slack quadratic (weighted ((W -ℤ p -ℤ q -ℤ s) ∷ p ∷ q ∷ s ∷ []) (a ∷ b ∷ c ∷ d ∷ [])) a) r refl (level_of_four quadratic a b c d p q s W hb hc hd) (subst (λ t. pos 0 <ℤ t) (sym sum) some)
    (All-cons (Size limit) (W -ℤ p -ℤ q -ℤ s) (p ∷ q ∷ s ∷ []) s0 (All-cons (Size limit) p (q ∷ s ∷ []) s1 (All-cons (Size limit) q (s ∷ []) s2 (All-cons (Size limit) s ([]) s3 (All-nil (Size limit))))))
    (subst (Size limit) (sym sum) sW)

-- the list of three weights, by equal parts
pub three_numbers : {t p q u r s : ℤ} → t ≡ u → p ≡ r → q ≡ s → (let ws : List ℤ = (t -ℤ p -ℤ q) ∷ p ∷ q ∷ [] in ws) ≡ (u -ℤ r -ℤ s) ∷ r ∷ s ∷ []
three_numbers {t} {p} {q} {u} {r} {s} e f g =
    let first : (let ws : List ℤ = (t -ℤ p -ℤ q) ∷ p ∷ q ∷ [] in ws) ≡ (u -ℤ p -ℤ q) ∷ p ∷ q ∷ [] = ap (λ t. (t -ℤ p -ℤ q) ∷ p ∷ q ∷ []) e in
    first ∙ ap₂ (λ p q. (u -ℤ p -ℤ q) ∷ p ∷ q ∷ []) f g

-- where the sum of all is twice a number
pub three_weights : {t p q u r s : ℤ} → t ≡ u → p ≡ r → q ≡ s → (let ws : List ℤ = (pos 2 *ℤ t -ℤ p -ℤ q) ∷ p ∷ q ∷ [] in ws) ≡ (pos 2 *ℤ u -ℤ r -ℤ s) ∷ r ∷ s ∷ []
three_weights e f g = three_numbers (ap (λ t. pos 2 *ℤ t) e) f g
