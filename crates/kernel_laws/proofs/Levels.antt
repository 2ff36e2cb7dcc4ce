-- Equal slacks of weighted vectors, and of the same weights over a common factor.
use Rattle.std.proofs.Common.{◌≡◌, refl, sym, ◌∙◌, ap, ap₂, subst, ℕ, suc, ◌*◌, ◌≤◌, ℤ, pos, ◌+ℤ◌, ◌-ℤ◌, ◌*ℤ◌, ◌<ℤ◌, List, [], ◌∷◌, length, map, nat_abs, arith, mul-le-mul}
use Rattle.std.specs.Prelude.{All}
use Rattle.std.proofs.lemmas.Int.{ints, unsigned_abs-mul}
use Rattle.std.proofs.lemmas.List.Elements.{All-nil, All-cons, All-head, All-tail}
use Rattle.std.proofs.Math.IntN.{*ℤ-zero}
use Rattle.integers.specs.Size.{Size}
use Rattle.integers.specs.Total.{total}
use Rattle.integers.proofs.Identities.{den-ring, read, polys, lits}
use Rattle.integers.proofs.Order.{same_of_mul, lt_of_mul_lt}
use Rattle.integers.proofs.RingLaws.{*ℤ-+ℤ}
use Rattle.bounds_model.specs.Space.{SpacePoint, plus, times, dot, squared_length}
use Rattle.bounds_model.specs.Slacks.{mass, moment, slack, AreEqualSlacks}
use Rattle.kernel_laws.specs.Solutions.{weighted, IsWeighting, Reduces}
use Rattle.kernel_laws.proofs.Points.{same_point}

-- each number times k
abbrev pub scaled : ℤ → List ℤ → List ℤ
scaled k ws = map (λ e. k *ℤ e) ws

-- ---- k times the weights

-- the sum of the weights is k times as great
pub total-scaled : (k : ℤ) (ws : List ℤ) → total (λ w. w) (scaled k ws) ≡ k *ℤ total (λ w. w) ws
total-scaled k [] = sym (*ℤ-zero k)
total-scaled k (w ∷ ws) = ap (λ t. k *ℤ w +ℤ t) (total-scaled k ws) ∙ sym (*ℤ-+ℤ k w (total (λ w. w) ws))

mass-scaled : (k : ℤ) (ws : List ℤ) (vs : List SpacePoint) → mass (weighted (scaled k ws) vs) ≡ k *ℤ mass (weighted ws vs)
mass-scaled k [] vs = sym (*ℤ-zero k)
mass-scaled k (w ∷ ws) [] = sym (*ℤ-zero k)
mass-scaled k (w ∷ ws) (v ∷ vs) = ap (λ t. k *ℤ w +ℤ t) (mass-scaled k ws vs) ∙ sym (*ℤ-+ℤ k w (mass (weighted ws vs)))

one_more : (k w c s : ℤ) → k *ℤ w *ℤ c +ℤ k *ℤ s ≡ k *ℤ (w *ℤ c +ℤ s)
one_more k w c s = read (k ∷ w ∷ c ∷ s ∷ []) (λ xs p q r t. simp (p, q, r, t, polys) (den-ring xs _ _ tt))

moment-scaled : (k : ℤ) (ws : List ℤ) (vs : List SpacePoint) → moment (weighted (scaled k ws) vs) ≡ times k (moment (weighted ws vs))
moment-scaled k [] vs = same_point (sym (*ℤ-zero k)) (sym (*ℤ-zero k)) (sym (*ℤ-zero k))
moment-scaled k (w ∷ ws) [] = same_point (sym (*ℤ-zero k)) (sym (*ℤ-zero k)) (sym (*ℤ-zero k))
moment-scaled k (w ∷ ws) (v ∷ vs) =
    let m = moment (weighted ws vs) in
    ap (λ s. plus (times (k *ℤ w) v) s) (moment-scaled k ws vs)
    ∙ same_point (one_more k w v.x m.x) (one_more k w v.y m.y) (one_more k w v.z m.z)

-- so is each slack
pub slack-scaled : (quadratic k : ℤ) (ws : List ℤ) (vs : List SpacePoint) (v : SpacePoint) → slack quadratic (weighted (scaled k ws) vs) v ≡ k *ℤ slack quadratic (weighted ws vs) v
slack-scaled quadratic k ws vs v =
    let s = moment (weighted ws vs) in
    let m = mass (weighted ws vs) in
    ap₂ (λ s m. pos 2 *ℤ dot v s -ℤ quadratic *ℤ (m *ℤ squared_length v)) (moment-scaled k ws vs) (mass-scaled k ws vs)
    ∙ read (k ∷ quadratic ∷ m ∷ s.x ∷ s.y ∷ s.z ∷ v.x ∷ v.y ∷ v.z ∷ []) (λ xs a b c d e f g h i. simp (a, b, c, d, e, f, g, h, i, polys, lits xs) (den-ring xs _ _ tt))

-- ---- equal slacks

-- all vectors have the slack p
abbrev pub IsLevel : ℤ → List ℤ → List SpacePoint → ℤ → Type 0
IsLevel quadratic ws vs p = All (λ v. slack quadratic (weighted ws vs) v ≡ p) vs

-- what holds of each vector holds of each item's
of_items : (P : SpacePoint → Type 0) (ws : List ℤ) (vs : List SpacePoint) → All P vs → All (λ item. P item.vector) (weighted ws vs)
of_items P [] vs h = All-nil (λ item. P item.vector)
of_items P (w ∷ ws) [] h = All-nil (λ item. P item.vector)
of_items P (w ∷ ws) (v ∷ vs) h = All-cons (λ item. P item.vector) (record { weight = w; vector = v }) (weighted ws vs) (All-head P v vs h) (of_items P ws vs (All-tail P v vs h))

mapped : {A : Type 0} (P Q : A → Type 0) (xs : List A) → ((x : A) → P x → Q x) → All P xs → All Q xs
mapped P Q [] f h = All-nil Q
mapped P Q (x ∷ xs) f h = All-cons Q x xs (f x (All-head P x xs h)) (mapped P Q xs f (All-tail P x xs h))

-- weights of which k times each make the vectors level
pub equal_from_level : (quadratic : ℤ) (k : ℤ) → pos 0 <ℤ k → (ws : List ℤ) (vs : List SpacePoint) (p : ℤ) → IsLevel quadratic (scaled k ws) vs p → AreEqualSlacks quadratic (weighted ws vs)
equal_from_level quadratic k h ws vs p level =
    let each : All (λ v. k *ℤ slack quadratic (weighted ws vs) v ≡ p) vs = mapped (λ v. slack quadratic (weighted (scaled k ws) vs) v ≡ p) (λ v. k *ℤ slack quadratic (weighted ws vs) v ≡ p) vs (λ v e. sym (slack-scaled quadratic k ws vs v) ∙ e) level in
    of_items (λ a. All (λ b. slack quadratic (weighted ws vs) a ≡ slack quadratic (weighted ws vs) b.vector) (weighted ws vs)) ws vs
    (mapped (λ a. k *ℤ slack quadratic (weighted ws vs) a ≡ p) (λ a. All (λ b. slack quadratic (weighted ws vs) a ≡ slack quadratic (weighted ws vs) b.vector) (weighted ws vs)) vs
    (λ a e. of_items (λ b. slack quadratic (weighted ws vs) a ≡ slack quadratic (weighted ws vs) b) ws vs
    (mapped (λ b. k *ℤ slack quadratic (weighted ws vs) b ≡ p) (λ b. slack quadratic (weighted ws vs) a ≡ slack quadratic (weighted ws vs) b) vs (λ b f. same_of_mul k h (e ∙ sym f)) each))
    each)

-- ---- weights over their common factor

size_of_part : (k : ℕ) (q n : ℤ) (limit : ℕ) → 1 ≤ k → pos k *ℤ q ≡ n → Size limit n → Size limit q
size_of_part k q n limit p e h =
    let whole : k * nat_abs q ≡ nat_abs n = sym (unsigned_abs-mul (pos k) q) ∙ ap nat_abs e in
    let less : 1 * nat_abs q ≤ k * nat_abs q = mul-le-mul p (omega arith) in
    record { abs = let s = h.abs in omega arith }

sizes_of_parts : (k : ℕ) (limit : ℕ) → 1 ≤ k → (ws : List ℤ) → All (Size limit) (scaled (pos k) ws) → All (Size limit) ws
sizes_of_parts k limit p [] h = All-nil (Size limit)
sizes_of_parts k limit p (w ∷ ws) h = All-cons (Size limit) w ws (size_of_part k w (pos k *ℤ w) limit p refl (All-head (Size limit) (pos k *ℤ w) (scaled (pos k) ws) h)) (sizes_of_parts k limit p ws (All-tail (Size limit) (pos k *ℤ w) (scaled (pos k) ws) h))

length-scaled : (k : ℤ) (ws : List ℤ) → length (scaled k ws) ≡ length ws
length-scaled k [] = refl
length-scaled k (w ∷ ws) = ap suc (length-scaled k ws)

positive_part : (k : ℕ) (t : ℤ) → 1 ≤ k → pos 0 <ℤ (pos k *ℤ t) → pos 0 <ℤ t
positive_part k t p h =
    let above : (pos k *ℤ pos 0) <ℤ (pos k *ℤ t) = omega (arith, ints) in
    lt_of_mul_lt (pos k) (omega (arith, ints)) above

-- weights that make the vectors level, within the limit and of positive sum, over their common factor
pub weighting_from_level : (quadratic : ℤ) (limit : ℕ) (vs : List SpacePoint) (raw ws : List ℤ) (p : ℤ) → Reduces raw ws → length raw ≡ length vs → IsLevel quadratic raw vs p → pos 0 <ℤ total (λ w. w) raw → All (Size limit) raw → Size limit (total (λ w. w) raw) → IsWeighting quadratic limit vs ws
weighting_from_level quadratic limit vs raw ws p r many level positive sizes size =
    let k = r.factor in
    let e : scaled (pos k) ws ≡ raw = r.scaled in
    let sum : pos k *ℤ total (λ w. w) ws ≡ total (λ w. w) raw = sym (total-scaled (pos k) ws) ∙ ap (total (λ w. w)) e in
    let some : pos 0 <ℤ pos k = let q = r.positive in omega (arith, ints) in
    record {
      as_many = sym (length-scaled (pos k) ws) ∙ ap length e ∙ many;
      lowest = r.no_factor;
      positive = positive_part k (total (λ w. w) ws) r.positive (subst (λ t. pos 0 <ℤ t) (sym sum) positive);
      equal = equal_from_level quadratic (pos k) some ws vs p (subst (λ raw. IsLevel quadratic raw vs p) (sym e) level);
      limited = sizes_of_parts k limit r.positive ws (subst (All (Size limit)) (sym e) sizes);
      sum_limited = size_of_part k (total (λ w. w) ws) (total (λ w. w) raw) limit r.positive sum size;
    }
