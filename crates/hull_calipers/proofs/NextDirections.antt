-- The direction that comes next, in lowest terms.
use Prim.Native.Nat.{◌∣◌}
use Rattle.std.proofs.Common.{◌≡◌, ◌⊎◌, inl, inr, ℕ, ◌+◌, ◌*◌, ◌<◌, ◌≤◌, sym, ap, subst, ◌∙◌, mul_comm, arith}
use Rattle.std.specs.Int.{IsGcd}
use Rattle.std.proofs.lemmas.Bool.{cases_order}
use Rattle.std.proofs.Math.Nat.{dvd_refl, dvd-zero, eq-one_of_dvd-one, mul_assoc, le_of_mul-le-mul_left, lt_of_mul-lt-mul_left, mul-lt-mul_of_pos_left, mul-le-mul_right}
use Rattle.hull_calipers.specs.declared.directions.Direction.{Direction}
use Rattle.hull_calipers.specs.CaliperMoves.{IsLimited}
use Rattle.hull_calipers.specs.NextDirections.{ComesBefore, IsFirstOf, IsScaled}

-- a direction that may come next after d
pub record IsCandidate (d m : Direction) : Type 0 where
  pub turns : d.y * m.x < d.x * m.y
  pub some : 0 < m.x + m.y
  pub limited : IsLimited m

-- the direction n comes next after d
pub record IsNext (d n : Direction) : Type 0 where
  pub turns : d.y * n.x < d.x * n.y
  pub limited : IsLimited n
  pub lowest : IsGcd n.x n.y 1
  pub north : n.x ≡ 0 → n.y ≡ 1
  pub up : 0 < n.y

-- ---- the first of two

pub first_candidate : (d a b m : Direction) → IsCandidate d a → IsCandidate d b → IsFirstOf a b m → IsCandidate d m
first_candidate d a b m ha hb (inl h) = subst (IsCandidate d) (sym h.0) ha
first_candidate d a b m ha hb (inr h) = subst (IsCandidate d) (sym h.0) hb

pub first_before_left : (a b m : Direction) → IsFirstOf a b m → ComesBefore m a
first_before_left a b m (inl h) = subst (λ v. ComesBefore v a) (sym h.0) (let e : a.y * a.x ≡ a.x * a.y = mul_comm a.y a.x in omega (arith, e))
first_before_left a b m (inr h) = subst (λ v. ComesBefore v a) (sym h.0) (let e : a.x * b.y ≡ b.y * a.x = mul_comm a.x b.y in let f : a.y * b.x ≡ b.x * a.y = mul_comm a.y b.x in let l = h.1 in omega (arith, e, f, l))

pub first_before_right : (a b m : Direction) → IsFirstOf a b m → ComesBefore m b
first_before_right a b m (inl h) = subst (λ v. ComesBefore v b) (sym h.0) h.1
first_before_right a b m (inr h) = subst (λ v. ComesBefore v b) (sym h.0) (let e : b.y * b.x ≡ b.x * b.y = mul_comm b.y b.x in omega (arith, e))

pub first_is : (a b m : Direction) → IsFirstOf a b m → (m ≡ a) ⊎ (m ≡ b)
first_is a b m (inl h) = inl h.0
first_is a b m (inr h) = inr h.0

-- what comes before a direction comes before those that it comes before
pub before_trans : (n m k : Direction) → 0 < m.x + m.y → ComesBefore n m → ComesBefore m k → ComesBefore n k
before_trans n m k some h l = elim (cases_order m.x 0) [
  | inl none ↦
      let up : 0 < m.y = omega (arith, some, none) in
      let low : m.y * k.x ≤ m.y * 0 = subst (λ v. m.y * k.x ≤ v) (ap (λ v. v * k.y) none ∙ (let e : 0 * k.y ≡ m.y * 0 = omega arith in e)) l in
      let flat : k.x ≤ 0 = le_of_mul-le-mul_left low up in
      let zero_x : k.x ≡ 0 = omega (arith, flat) in
      subst (λ v. n.y * v ≤ n.x * k.y) (sym zero_x) (omega arith)
  | inr rest ↦ elim rest [
    | inl less ↦ absurd (omega arith)
    | inr right ↦ le_of_mul-le-mul_left (chain (m.x * (n.y * k.x)) (n.y * m.x * k.x) (n.x * m.y * k.x) (n.x * (m.y * k.x)) (n.x * (m.x * k.y)) (m.x * (n.x * k.y))
        (sym (mul_assoc m.x n.y k.x) ∙ ap (λ v. v * k.x) (mul_comm m.x n.y)) (mul-le-mul_right k.x h) (mul_assoc n.x m.y k.x) (times n.x (m.y * k.x) (m.x * k.y) l)
        (sym (mul_assoc n.x m.x k.y) ∙ ap (λ v. v * k.y) (mul_comm n.x m.x) ∙ mul_assoc m.x n.x k.y)) right
  ]
]
  where
    times : (a b c : ℕ) → b ≤ c → a * b ≤ a * c
    times a b c h = subst (λ v. v ≤ a * c) (mul_comm b a) (subst (λ v. b * a ≤ v) (mul_comm c a) (mul-le-mul_right a h))

    chain : (a b c d e f : ℕ) → a ≡ b → b ≤ c → c ≡ d → d ≤ e → e ≡ f → a ≤ f
    chain a b c d e f p q r s t = omega arith

-- ---- in lowest terms

scale_left : (g m n h : ℕ) → m ≡ g * n → m * h ≡ g * (n * h)
scale_left g m n h e = ap (λ v. v * h) e ∙ mul_assoc g n h

scale_right : (g m n h : ℕ) → m ≡ g * n → h * m ≡ g * (h * n)
scale_right g m n h e = mul_comm h m ∙ scale_left g m n h e ∙ ap (λ v. g * v) (mul_comm n h)

pub scaled_before : (m n a : Direction) → IsScaled m n → ComesBefore m a → ComesBefore n a
scaled_before m n a (g, some, x, y) h = le_of_mul-le-mul_left (subst (λ v. v ≤ g * (n.x * a.y)) (scale_left g m.y n.y a.x y) (subst (λ v. m.y * a.x ≤ v) (scale_left g m.x n.x a.y x) h)) some

scaled_turns : (d m n : Direction) → IsScaled m n → d.y * m.x < d.x * m.y → d.y * n.x < d.x * n.y
scaled_turns d m n (g, some, x, y) h = lt_of_mul-lt-mul_left g (subst (λ v. v < g * (d.x * n.y)) (scale_right g m.x n.x d.y x) (subst (λ v. d.y * m.x < v) (scale_right g m.y n.y d.x y) h))

scaled_along : (m n : Direction) → IsScaled m n → n.y * m.x ≡ n.x * m.y
scaled_along m n (g, some, x, y) = scale_right g m.x n.x n.y x ∙ ap (λ v. g * v) (mul_comm n.y n.x) ∙ sym (scale_right g m.y n.y n.x y)

smaller : (g m n k : ℕ) → 0 < g → m ≡ g * n → m ≤ k → n ≤ k
smaller g m n k some e h = le_of (subst (λ v. v ≤ k) e h)
  where
    one : n ≤ g * n
    one = subst (λ v. v ≤ g * n) (let e : 1 * n ≡ n = omega arith in e) (mul-le-mul_right n (let l : 1 ≤ g = omega arith in l))

    le_of : g * n ≤ k → n ≤ k
    le_of l = let o : n ≤ g * n = one in omega arith

positive_scaled : (g m n : ℕ) → m ≡ g * n → 0 < n → 0 < g → 0 < m
positive_scaled g m n e h k = elim (cases_order m 0) [
  | inl z ↦ absurd (let l : g * 0 < g * n = mul-lt-mul_of_pos_left h k in let f : g * 0 ≡ 0 = omega arith in omega arith)
  | inr rest ↦ elim rest [ inl less ↦ absurd (omega arith) | inr more ↦ more ]
]

one_from_gcd : (x y : ℕ) → IsGcd x y 1 → x ≡ 0 → y ≡ 1
one_from_gcd x y h z = eq-one_of_dvd-one (h.2 y (subst (λ v. y ∣ v) (sym z) (dvd-zero y)) (dvd_refl y))

some_up : (a b p q : ℕ) → b * p < a * q → 0 < q
some_up a b p q h = elim (cases_order q 0) [
  | inl none ↦ absurd (let e : a * q ≡ 0 = ap (λ v. a * v) none ∙ (let f : a * 0 ≡ 0 = omega arith in f) in omega (arith, e, h))
  | inr rest ↦ elim rest [ inl less ↦ absurd (omega arith) | inr more ↦ more ]
]

-- a candidate in lowest terms
pub next_of : (d m n : Direction) → IsCandidate d m → IsScaled m n → IsGcd n.x n.y 1 → IsNext d n
next_of d m n candidate scaled lowest =
    let turns : d.y * n.x < d.x * n.y = scaled_turns d m n scaled candidate.turns in
    record {
      turns = turns;
      limited = record {
        x = smaller scaled.0 m.x n.x 400000 scaled.1 scaled.2 candidate.limited.x;
        y = smaller scaled.0 m.y n.y 400000 scaled.1 scaled.3 candidate.limited.y;
      };
      lowest = lowest;
      north = one_from_gcd n.x n.y lowest;
      up = some_up d.x d.y n.x n.y turns;
    }

-- the direction n is along a, which leads to the right
abbrev pub Meets : Direction → Direction → Type 0
Meets n a = (0 < a.x) × (n.y * a.x ≡ n.x * a.y)

pub meets_scaled : (m n a : Direction) → IsScaled m n → m ≡ a → 0 < n.x → Meets n a
meets_scaled m n a scaled is right = (subst (λ v. 0 < v.x) is (positive_scaled scaled.0 m.x n.x scaled.2 right scaled.1), subst (λ v. n.y * v.x ≡ n.x * v.y) is (scaled_along m n scaled))
