-- The sums of a list of weighted vectors, and how large they are.
use Rattle.std.proofs.Common.{◌≡◌, refl, sym, ◌∙◌, ap, ap₂, subst, ℕ, ◌+◌, ◌-◌, ◌*◌, ◌≤◌, ℤ, pos, negsuc, ◌+ℤ◌, ◌≤ℤ◌, List, [], ◌∷◌, length, take, drop, get_or, arith, le_trans, mul-le-mul_right}
use Rattle.std.specs.Prelude.{All}
use Rattle.std.proofs.lemmas.Int.{ints}
use Rattle.std.proofs.lemmas.List.{take_rest}
use Rattle.std.proofs.lemmas.List.Elements.{All-head, All-tail}
use Rattle.integers.specs.Size.{Size}
use Rattle.integers.specs.Total.{total}
use Rattle.integers.proofs.Sizes.{size_add, size_mul, size_between}
use Rattle.integers.proofs.Sums.{total_nonneg_all}
use Rattle.integers.proofs.Order.{nonneg_from_one}
use Rattle.bounds_model.specs.Space.{SpacePoint, plus, times}
use Rattle.bounds_model.specs.Slacks.{WeightedVector, mass, moment}
use Rattle.kernel_laws.specs.Vectors.{vector_of, vectors_of, sum_of}
use Rattle.kernel_laws.specs.declared.vectors.Vector.{Vector}
use Rattle.kernel_laws.specs.Limits.{IsVectorWithin}
use Rattle.kernel_laws.specs.Solutions.{weighted}
use Rattle.kernel_laws.proofs.SideLimits.{more_within}
use Rattle.corral.specs.declared.sums.Moments.{Moments}
use Rattle.corral.specs.Moments.{AreMoments}
use Rattle.corral.proofs.Supports.{vectors-weighted, mass-weighted, all-weighted, all_vectors}

-- ---- their size

-- a number that is not below 0
natural : (z : ℤ) → pos 1 ≤ℤ z → (k : ℕ) × (z ≡ pos k)
natural (pos k) h = (k, refl)
natural (negsuc k) h = absurd (omega (arith, ints))

-- one vector more
within_more : (n a m : ℕ) (v s : SpacePoint) → IsVectorWithin n v → IsVectorWithin (m * n) s → IsVectorWithin ((a + m) * n) (plus (times (pos a) v) s)
within_more n a m v s hv hs = record {
  x = more (size_add (size_mul weight hv.x) hs.x);
  y = more (size_add (size_mul weight hv.y) hs.y);
  z = more (size_add (size_mul weight hv.z) hs.z);
}
  where
    weight : Size a (pos a)
    weight = record { abs = omega arith }

    more : {z : ℤ} → Size (a * n + m * n) z → Size ((a + m) * n) z
    more h = record { abs = le_trans h.abs (omega arith) }

-- the mass as a natural number, and how large that makes the weighted sum
pub record IsMeasured (n : ℕ) (items : List WeightedVector) : Type 0 where
  pub amount : ℕ
  pub is : mass items ≡ pos amount
  pub within : IsVectorWithin (amount * n) (moment items)

pub measured : (n : ℕ) (items : List WeightedVector) → All (λ item. pos 1 ≤ℤ item.weight) items → All (λ item. IsVectorWithin n item.vector) items → IsMeasured n items
measured n [] weights near = record { amount = 0; is = refl; within = record { x = record { abs = omega arith }; y = record { abs = omega arith }; z = record { abs = omega arith } } }
measured n (x ∷ xs) weights near =
    let rest : IsMeasured n xs = measured n xs (All-tail (λ (item : WeightedVector). pos 1 ≤ℤ item.weight) x xs weights) (All-tail (λ (item : WeightedVector). IsVectorWithin n item.vector) x xs near) in
    let first : (k : ℕ) × (x.weight ≡ pos k) = natural x.weight (All-head (λ (item : WeightedVector). pos 1 ≤ℤ item.weight) x xs weights) in
    record {
      amount = first.0 + rest.amount;
      is = ap₂ (λ a b. a +ℤ b) first.1 rest.is;
      within = subst (λ w. IsVectorWithin ((first.0 + rest.amount) * n) (plus (times w x.vector) (moment xs))) (sym first.1)
          (within_more n first.0 rest.amount x.vector (moment xs) (All-head (λ (item : WeightedVector). IsVectorWithin n item.vector) x xs near) rest.within);
    }

-- a mass of at most `limit` bounds both sums
pub record AreLimited (limit n : ℕ) (m : Moments) : Type 0 where
  pub mass : Size limit m.mass
  pub sum : IsVectorWithin (limit * n) (sum_of m.sum)

pub limited : (limit n : ℕ) (items : List WeightedVector) (m : Moments) → AreMoments items m → All (λ item. pos 1 ≤ℤ item.weight) items → All (λ item. IsVectorWithin n item.vector) items → mass items ≤ℤ pos limit → AreLimited limit n m
limited limit n items m sums weights near light =
    let h : IsMeasured n items = measured n items weights near in
    let most : h.amount ≤ limit = let e = h.is in omega (arith, ints) in
    record {
      mass = subst (Size limit) (sym (sums.mass ∙ h.is)) (record { abs = most });
      sum = subst (IsVectorWithin (limit * n)) (sym sums.sum) (more_within (mul-le-mul_right n most) h.within);
    }

-- the same for weights beside their vectors
pub limited_weighted : (limit n : ℕ) (ws : List ℤ) (vs : List SpacePoint) (m : Moments) → AreMoments (weighted ws vs) m → length ws ≡ length vs
    → All (λ w. pos 1 ≤ℤ w) ws → All (IsVectorWithin n) vs → total (λ w. w) ws ≤ℤ pos limit → AreLimited limit n m
limited_weighted limit n ws vs m sums same some near light =
    limited limit n (weighted ws vs) m sums (all-weighted (λ w. pos 1 ≤ℤ w) ws vs some)
    (all_vectors (IsVectorWithin n) (weighted ws vs) (subst (All (IsVectorWithin n)) (sym (vectors-weighted ws vs same)) near))
    (subst (λ t. t ≤ℤ pos limit) (sym (mass-weighted ws vs same)) light)

-- ---- a list without its first element

-- the others
abbrev pub rest : {A : Type 0} → List A → List A
rest xs = take (length xs - 1) (drop 1 xs)

pub rest-cons : {A : Type 0} (x : A) (xs : List A) → rest (x ∷ xs) ≡ xs
rest-cons x xs = take_rest (x ∷ xs) 1

-- what holds of all holds of them
pub all_rest : {A : Type 0} (P : A → Type 0) (xs : List A) → All P xs → All P (rest xs)
all_rest P [] h = h
all_rest P (x ∷ xs) h = subst (All P) (sym (rest-cons x xs)) (All-tail P x xs h)

-- there is one less
pub length-rest : {A : Type 0} (xs : List A) → length (rest xs) ≡ length xs - 1
length-rest [] = refl
length-rest (x ∷ xs) = ap length (rest-cons x xs) ∙ (omega arith)

-- the weights but the first have no greater sum
pub total-rest : (ws : List ℤ) → All (λ w. pos 1 ≤ℤ w) ws → total (λ w. w) (rest ws) ≤ℤ total (λ w. w) ws
total-rest [] some = omega (arith, ints)
total-rest (w ∷ ws) some =
    let first : pos 1 ≤ℤ w = All-head (λ w. pos 1 ≤ℤ w) w ws some in
    subst (λ rs. total (λ w. w) rs ≤ℤ (w +ℤ total (λ w. w) ws)) (sym (rest-cons w ws)) (omega (arith, ints))

-- and the first is at most the sum of all
pub first_of_total : (limit : ℕ) (ws : List ℤ) (d : ℤ) → 1 ≤ length ws → All (λ w. pos 1 ≤ℤ w) ws → total (λ w. w) ws ≤ℤ pos limit → Size limit (get_or ws 0 d)
first_of_total limit [] d some weights light = absurd (omega arith)
first_of_total limit (w ∷ ws) d some weights light =
    let first : pos 1 ≤ℤ w = All-head (λ w. pos 1 ≤ℤ w) w ws weights in
    let others : pos 0 ≤ℤ total (λ w. w) ws = total_nonneg_all (λ w. w) ws (λ k e l. nonneg_from_one (All-tail (λ w. pos 1 ≤ℤ w) w ws weights k e l)) in
    size_between (omega (arith, ints)) (omega (arith, ints))

-- vectors in bounds, but the first
pub near_rest : (P : SpacePoint → Type 0) (vs : List Vector) → All P (vectors_of vs) → All P (vectors_of (rest vs))
near_rest P [] h = h
near_rest P (v ∷ vs) h = subst (λ us. All P (vectors_of us)) (sym (rest-cons v vs)) (All-tail P (vector_of v) (vectors_of vs) h)

-- ---- the sums of all from those of all but the first

pub moments_of_cons : (ws : List ℤ) (vs : List Vector) (w : ℤ) (v : Vector) → 1 ≤ length ws → length ws ≡ length vs → (m r : Moments)
    → AreMoments (weighted (rest ws) (vectors_of (rest vs))) m → r.mass ≡ get_or ws 0 w +ℤ m.mass
    → sum_of r.sum ≡ plus (times (get_or ws 0 w) (vector_of (get_or vs 0 v))) (sum_of m.sum) → AreMoments (weighted ws (vectors_of vs)) r
moments_of_cons [] vs w v some same m r h e f = absurd (omega arith)
moments_of_cons (x ∷ ws) [] w v some same m r h e f = absurd (omega arith)
moments_of_cons (x ∷ ws) (y ∷ vs) w v some same m r h e f =
    let by_rest : AreMoments (weighted ws (vectors_of vs)) m = subst (λ us. AreMoments (weighted ws (vectors_of us)) m) (rest-cons y vs) (subst (λ rs. AreMoments (weighted rs (vectors_of (rest (y ∷ vs)))) m) (rest-cons x ws) h) in
    record {
      mass = e ∙ ap (λ t. x +ℤ t) by_rest.mass;
      sum = f ∙ ap (λ t. plus (times x (vector_of y)) t) by_rest.sum;
    }
