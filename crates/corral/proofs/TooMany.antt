-- Two more vectors than dimensions are dependent.
use Rattle.std.proofs.Common.{◌≡◌, refl, ◌∙◌, ap, ap₂, ◌⊎◌, inl, inr, ℕ, zero, suc, ◌+◌, ◌≤◌, ℤ, pos, negsuc, ◌-ℤ◌, ◌*ℤ◌, List, [], ◌∷◌, length, arith}
use Rattle.std.specs.Prelude.{All}
use Rattle.std.proofs.lemmas.Int.{ints}
use Rattle.bounds_model.specs.Space.{SpacePoint, vector, origin, dot}
use Rattle.bounds_model.specs.Slacks.{AreAffinelyDependent}
use Rattle.kernel_laws.specs.Limits.{IsDifference}
use Rattle.kernel_laws.specs.Systems.{cross}
use Rattle.kernel_laws.proofs.Points.{same_point, squared_length_positive}
use Rattle.kernel_laws.proofs.Repeats.{repeated_of_four, repeated_of_five}
use Rattle.kernel_laws.proofs.Shown.{along_of_four, along_of_five, in_plane_of_five, of_plane_of_four, of_space_of_five}
use Rattle.corral.specs.Laws.{TooManyAreDependent}

-- ---- a number or a vector is zero, or it is not

zero_or_not : (z : ℤ) → (z ≡ pos 0) ⊎ (z ≡ pos 0 → ⊥)
zero_or_not (pos zero) = inl refl
zero_or_not (pos (suc n)) = inr (λ e. absurd (cc))
zero_or_not (negsuc n) = inr (λ e. absurd (cc))

origin_or_not : (v : SpacePoint) → (v ≡ origin) ⊎ (v ≡ origin → ⊥)
origin_or_not v = go (zero_or_not v.x) (zero_or_not v.y) (zero_or_not v.z)
  where
    go : (v.x ≡ pos 0) ⊎ (v.x ≡ pos 0 → ⊥) → (v.y ≡ pos 0) ⊎ (v.y ≡ pos 0 → ⊥) → (v.z ≡ pos 0) ⊎ (v.z ≡ pos 0 → ⊥) → (v ≡ origin) ⊎ (v ≡ origin → ⊥)
    go (inl x) (inl y) (inl z) = inl (same_point x y z)
    go (inr x) y z = inr (λ e. x (ap (λ (v : SpacePoint). v.x) e))
    go (inl x) (inr y) z = inr (λ e. y (ap (λ (v : SpacePoint). v.y) e))
    go (inl x) (inl y) (inr z) = inr (λ e. z (ap (λ (v : SpacePoint). v.z) e))

-- ---- four vectors of the plane

four_in_plane : (a b c d : SpacePoint) → a.z ≡ pos 0 → b.z ≡ pos 0 → c.z ≡ pos 0 → d.z ≡ pos 0 → AreAffinelyDependent (a ∷ b ∷ c ∷ d ∷ [])
four_in_plane a b c d az bz cz dz = first (origin_or_not (vector a b))
  where
    both : (p t : ℤ) → p *ℤ pos 0 -ℤ pos 0 *ℤ t ≡ pos 0
    both p t = omega (arith, ints)

    both_others : (q s : ℤ) → pos 0 *ℤ q -ℤ s *ℤ pos 0 ≡ pos 0
    both_others q s = omega (arith, ints)

    other : (p q s t : ℤ) → p ≡ pos 0 → t ≡ pos 0 → p *ℤ q -ℤ s *ℤ t ≡ pos 0
    other p q s t e f = ap₂ (λ p t. p *ℤ q -ℤ s *ℤ t) e f ∙ both_others q s

    level : (p q : SpacePoint) → p.z ≡ pos 0 → q.z ≡ pos 0 → (vector p q).z ≡ pos 0
    level p q e f = omega (arith, ints)

    nothing : (p q s t : ℤ) → q ≡ pos 0 → s ≡ pos 0 → p *ℤ q -ℤ s *ℤ t ≡ pos 0
    nothing p q s t e f = ap₂ (λ q s. p *ℤ q -ℤ s *ℤ t) e f ∙ both p t

    second : (vector a b ≡ origin → ⊥) → ((cross (vector a b) (vector a c)).z ≡ pos 0) ⊎ ((cross (vector a b) (vector a c)).z ≡ pos 0 → ⊥) → AreAffinelyDependent (a ∷ b ∷ c ∷ d ∷ [])
    second apart (inl e) =
        let u = vector a b in
        let v = vector a c in
        let uz = level a b az bz in
        let vz = level a c az cz in
        let line : cross u v ≡ origin = same_point (nothing u.y v.z u.z v.y vz uz) (other u.z v.x u.x v.z uz vz) e in
        (_, along_of_four a b c d _ _ refl refl (squared_length_positive (vector a b) apart) line)
    second apart (inr n) = (_, of_plane_of_four a b c d _ _ _ refl refl refl n (level a b az bz) (level a c az cz) (level a d az dz))

    first : (vector a b ≡ origin) ⊎ (vector a b ≡ origin → ⊥) → AreAffinelyDependent (a ∷ b ∷ c ∷ d ∷ [])
    first (inl e) = (_, repeated_of_four a b c d e)
    first (inr apart) = second apart (zero_or_not (cross (vector a b) (vector a c)).z)

-- ---- five vectors of space

five_in_space : (a b c d e : SpacePoint) → AreAffinelyDependent (a ∷ b ∷ c ∷ d ∷ e ∷ [])
five_in_space a b c d e = first (origin_or_not (vector a b))
  where
    third : (cross (vector a b) (vector a c) ≡ origin → ⊥) → (dot (cross (vector a b) (vector a c)) (vector a d) ≡ pos 0) ⊎ (dot (cross (vector a b) (vector a c)) (vector a d) ≡ pos 0 → ⊥) → AreAffinelyDependent (a ∷ b ∷ c ∷ d ∷ e ∷ [])
    third apart (inl flat) = (_, in_plane_of_five a b c d e _ _ _ refl refl refl (squared_length_positive (cross (vector a b) (vector a c)) apart) flat)
    third apart (inr n) = (_, of_space_of_five a b c d e _ _ _ _ refl refl refl refl n)

    second : (vector a b ≡ origin → ⊥) → (cross (vector a b) (vector a c) ≡ origin) ⊎ (cross (vector a b) (vector a c) ≡ origin → ⊥) → AreAffinelyDependent (a ∷ b ∷ c ∷ d ∷ e ∷ [])
    second apart (inl line) = (_, along_of_five a b c d e _ _ refl refl (squared_length_positive (vector a b) apart) line)
    second apart (inr n) = third n (zero_or_not (dot (cross (vector a b) (vector a c)) (vector a d)))

    first : (vector a b ≡ origin) ⊎ (vector a b ≡ origin → ⊥) → AreAffinelyDependent (a ∷ b ∷ c ∷ d ∷ e ∷ [])
    first (inl same) = (_, repeated_of_five a b c d e same)
    first (inr apart) = second apart (origin_or_not (cross (vector a b) (vector a c)))

-- ---- by the number of dimensions

of_plane : (vectors : List SpacePoint) → length vectors ≡ 4 → All (λ v. v.z ≡ pos 0) vectors → AreAffinelyDependent vectors
of_plane [] e h = absurd (omega arith)
of_plane (a ∷ []) e h = absurd (omega arith)
of_plane (a ∷ b ∷ []) e h = absurd (omega arith)
of_plane (a ∷ b ∷ c ∷ []) e h = absurd (omega arith)
of_plane (a ∷ b ∷ c ∷ d ∷ []) e h = four_in_plane a b c d (h 0 a (omega arith)) (h 1 a (omega arith)) (h 2 a (omega arith)) (h 3 a (omega arith))
of_plane (a ∷ b ∷ c ∷ d ∷ v ∷ vs) e h = absurd (omega arith)

of_space : (vectors : List SpacePoint) → length vectors ≡ 5 → AreAffinelyDependent vectors
of_space [] e = absurd (omega arith)
of_space (a ∷ []) e = absurd (omega arith)
of_space (a ∷ b ∷ []) e = absurd (omega arith)
of_space (a ∷ b ∷ c ∷ []) e = absurd (omega arith)
of_space (a ∷ b ∷ c ∷ d ∷ []) e = absurd (omega arith)
of_space (a ∷ b ∷ c ∷ d ∷ v ∷ []) e = five_in_space a b c d v
of_space (a ∷ b ∷ c ∷ d ∷ v ∷ w ∷ vs) e = absurd (omega arith)

-- so many are dependent
pub too_many_are_dependent : TooManyAreDependent
too_many_are_dependent dim (inl two) vectors many differences = of_plane vectors (let m = many in omega arith) (λ k d l. (differences k d l).flat two)
too_many_are_dependent dim (inr three) vectors many differences = of_space vectors (let m = many in omega arith)

-- so vectors that are not dependent are fewer
pub independent_are_few : (dim : ℕ) → (dim ≡ 2) ⊎ (dim ≡ 3) → (vectors : List SpacePoint) → length vectors ≤ dim + 2 → All (IsDifference dim) vectors → ¬ AreAffinelyDependent vectors → length vectors ≤ dim + 1
independent_are_few dim flag vectors many differences independent = go (less_or_same (length vectors) (dim + 1) (let m = many in omega arith))
  where
    less_or_same : (m n : ℕ) → m ≤ n + 1 → (m ≤ n) ⊎ (m ≡ n + 1)
    less_or_same m n h = grind arith

    go : (length vectors ≤ dim + 1) ⊎ (length vectors ≡ dim + 1 + 1) → length vectors ≤ dim + 1
    go (inl h) = h
    go (inr e) = absurd (independent (too_many_are_dependent dim flag vectors (omega arith) differences))
