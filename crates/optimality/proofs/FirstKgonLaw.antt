-- A polygon that passes is the first of those of greatest area.
use Rattle.std.proofs.Common.{◌≡◌, refl, sym, ap, ap₂, ◌∙◌, subst, ◌⊎◌, inl, inr, ℕ, zero, suc, ◌+◌, ◌-◌, ◌<◌, ◌≤◌, min, ℤ, pos, ◌+ℤ◌, ◌-ℤ◌, ◌*ℤ◌, ◌≤ℤ◌, ◌<ℤ◌, List, [], ◌∷◌, ◌++◌, length, map, take, arith}
use Rattle.std.specs.Prelude.{⊤, All, slice_index_or}
use Rattle.std.specs.List.Sorted.{IsStrictlyIncreasing}
use Rattle.std.proofs.lemmas.Int.{ints}
use Rattle.std.proofs.lemmas.List.{length-map, length_push, append_assoc}
use Rattle.std.proofs.lemmas.List.Elements.{All-head, All-tail, All-cons, All-nil}
use Rattle.integers.proofs.Identities.{den-ring, read, polys}
use Rattle.integers.proofs.Order.{positive_mul, positive_add, positive_from_one, nonneg_from_one, nonneg_add, nonneg_mul, le_from_lt, le_by, lt_by, le_lt_trans_ℤ, nonneg_difference, positive_difference}
use Rattle.bounds_model.specs.Plane.{PlanePoint, point_at, turn}
use Rattle.bounds_model.specs.Best.{IsGreatest}
use Rattle.bounds_model.specs.Hull.{AreCorners, AreCornerCycle}
use Rattle.bounds_model.specs.Kgon.{FitsKgon, triangulated_area, twice_area, kgon_size, most_added}
use Rattle.bounds_model.specs.KgonAnswer.{KgonAnswer, corner_points, potential, chosen_at, most_with, PassesKgon}
use Rattle.bounds_model.specs.Firsts.{ComesFirst}
use Rattle.model_laws.proofs.CornerLaw.{passing_kgon}
use Rattle.model_laws.proofs.StrictCorners.{turns_left}
use Rattle.model_laws.proofs.MostAdded.{last_of, turn_same, area-push, rising-uncons, added_below}
use Rattle.optimality.specs.Laws.{PassingKgonsAreFirst}
use Rattle.optimality.proofs.KgonLaw.{kgon_law, area_below}
use Rattle.optimality.proofs.Bounds.{not_above}

-- ---- from the first corner on

-- at each later chosen corner, no corner before it could stand in its place: S is twice the area so far, and l the corner so far
abbrev Skips : List PlanePoint → ℕ → ℤ → ℤ → ℤ → ℕ → ℕ → List ℕ → Type 0
Skips corners first D B S l more [] = ⊤
Skips corners first D B S l more (c ∷ rest) =
    ((x : ℕ) → l < x → x < c → ((S +ℤ turn (point_at corners first) (point_at corners l) (point_at corners x) +ℤ most_added corners first (more - 1) x) *ℤ D) <ℤ B)
    × Skips corners first D B (S +ℤ turn (point_at corners first) (point_at corners l) (point_at corners c)) c (more - 1) rest

-- three corners in their order turn left
abbrev TurnsLeft : List PlanePoint → Type 0
TurnsLeft corners = (a b c : ℕ) → a < b → b < c → c < length corners → pos 0 <ℤ turn (point_at corners a) (point_at corners b) (point_at corners c)

-- so the triangles after a corner cover something
covers : (corners : List PlanePoint) → TurnsLeft corners → (first l : ℕ) (rest : List ℕ) → first < l → IsStrictlyIncreasing (l ∷ rest) → All (λ i. i < length corners) rest → pos 0 ≤ℤ triangulated_area (point_at corners first) (map (point_at corners) (l ∷ rest))
covers corners left first l [] h rises inside = zero_least
  where
    zero_least : pos 0 ≤ℤ pos 0
    zero_least = omega (arith, ints)
covers corners left first l (c ∷ rest) h rises inside =
    let next = rising-uncons l c rest rises in
    nonneg_add (le_from_lt (left first l c h next.0 (All-head (λ i. i < length corners) c rest inside)))
    (covers corners left first c rest (omega (arith, h, next.0)) next.1 (All-tail (λ i. i < length corners) c rest inside))

-- the first corner, or a later one
abbrev IsFirstOrLater : ℕ → ℕ → ℤ → Type 0
IsFirstOrLater first l S = (first < l) ⊎ ((first ≡ l) × (S ≡ pos 0))

-- what is at most twice the size is less where there is more to come
less_so_far : (corners : List PlanePoint) → TurnsLeft corners → (first : ℕ) (D B S : ℤ) (l c : ℕ) (rest : List ℕ) → pos 0 <ℤ D → pos 0 <ℤ B → IsFirstOrLater first l S → IsStrictlyIncreasing (l ∷ c ∷ rest) → All (λ i. i < length corners) (c ∷ rest)
    → (S +ℤ triangulated_area (point_at corners first) (map (point_at corners) (l ∷ c ∷ rest))) *ℤ D ≡ B → (S *ℤ D) <ℤ B
less_so_far corners left first D B S l c rest some bound place rises inside total = elim place [
  | inl after ↦
      let next = rising-uncons l c rest rises in
      let more = positive_sum (left first l c after next.0 (All-head (λ i. i < length corners) c rest inside)) (covers corners left first c rest (omega (arith, after, next.0)) next.1 (All-tail (λ i. i < length corners) c rest inside)) in
      subst (λ z. (S *ℤ D) <ℤ z) total (grown S (triangulated_area (point_at corners first) (map (point_at corners) (l ∷ c ∷ rest))) D some more)
  | inr at_first ↦ subst (λ s. (s *ℤ D) <ℤ B) (sym at_first.1) (nothing D B bound)
]
  where
    positive_sum : {a b : ℤ} → pos 0 <ℤ a → pos 0 ≤ℤ b → pos 0 <ℤ (a +ℤ b)
    positive_sum h k = omega (arith, ints)

    grown : (S t D : ℤ) → pos 0 <ℤ D → pos 0 <ℤ t → (S *ℤ D) <ℤ ((S +ℤ t) *ℤ D)
    grown S t D h k = lt_by (positive_mul k h) (read (S ∷ t ∷ D ∷ []) (λ xs a b c. simp (a, b, c, polys) (den-ring xs _ _ tt)))

    nothing : (D B : ℤ) → pos 0 <ℤ B → (pos 0 *ℤ D) <ℤ B
    nothing D B h = omega (arith, ints)

none_after : (S D : ℤ) → (S +ℤ pos 0) *ℤ D ≡ S *ℤ D
none_after S D = ap (λ z. z *ℤ D) (plain S)
  where
    plain : (S : ℤ) → S +ℤ pos 0 ≡ S
    plain S = omega (arith, ints)

regroup : (S t f : ℤ) → S +ℤ (t +ℤ f) ≡ S +ℤ t +ℤ f
regroup S t f = omega (arith, ints)

-- of two lists of corners after a common part, of which the other one reaches the size too, the chosen one comes first
comes_first : (corners : List PlanePoint) → TurnsLeft corners → (first : ℕ) (D B S : ℤ) (l more : ℕ) (chosen others : List ℕ) → pos 0 <ℤ D → pos 0 <ℤ B → IsFirstOrLater first l S
    → IsStrictlyIncreasing (l ∷ chosen) → All (λ i. i < length corners) chosen → (S +ℤ triangulated_area (point_at corners first) (map (point_at corners) (l ∷ chosen))) *ℤ D ≡ B → Skips corners first D B S l more chosen
    → IsStrictlyIncreasing (l ∷ others) → All (λ i. i < length corners) others → length others ≤ more → B ≤ℤ ((S +ℤ triangulated_area (point_at corners first) (map (point_at corners) (l ∷ others))) *ℤ D)
    → first ≤ l → ComesFirst chosen others
comes_first corners left first D B S l more [] others some bound place rises inside total skips rises' inside' count reaches low = tt
comes_first corners left first D B S l more (c ∷ rest) [] some bound place rises inside total skips rises' inside' count reaches low =
    absurd (not_above reaches (subst (λ z. z <ℤ B) (sym (none_after S D)) (less_so_far corners left first D B S l c rest some bound place rises inside total)))
comes_first corners left first D B S l more (c ∷ rest) (o ∷ others) some bound place rises inside total skips rises' inside' count reaches low =
    elim (order c o) [
      | inl less ↦ inl less
      | inr at_least ↦ elim at_least [
        | inl same ↦ inr (
          same,
          comes_first corners left first D B (S +ℤ turn (point_at corners first) (point_at corners l) (point_at corners c)) c (more - 1) rest others some bound (inl (omega (arith, next.0, low))) next.1 (All-tail (λ i. i < length corners) c rest inside)
              (ap (λ z. z *ℤ D) (sym (regroup S _ _)) ∙ total) skips.1 (subst (λ i. IsStrictlyIncreasing (i ∷ others)) (sym same) next'.1) (All-tail (λ i. i < length corners) o others inside') (omega (arith, count))
              (subst (λ i. B ≤ℤ ((S +ℤ turn (point_at corners first) (point_at corners l) (point_at corners i) +ℤ triangulated_area (point_at corners first) (map (point_at corners) (i ∷ others))) *ℤ D)) (sym same) (subst (λ z. B ≤ℤ (z *ℤ D)) (regroup S _ _) reaches))
              (omega (arith, next.0, low)),
        )
        | inr more_than ↦ absurd (not_above reaches (le_lt_trans_ℤ (most_is S _ _ _ D some (added_below corners first (more - 1) o others next'.1 (All-tail (λ i. i < length corners) o others inside') (omega (arith, count)))) (skips.0 o next'.0 more_than)))
      ]
    ]
  where
    next : (l < c) × IsStrictlyIncreasing (c ∷ rest)
    next = rising-uncons l c rest rises

    next' : (l < o) × IsStrictlyIncreasing (o ∷ others)
    next' = rising-uncons l o others rises'

    order : (c o : ℕ) → (c < o) ⊎ ((c ≡ o) ⊎ (o < c))
    order c o = grind arith

    most_is : (S t u v D : ℤ) → pos 0 <ℤ D → u ≤ℤ v → ((S +ℤ (t +ℤ u)) *ℤ D) ≤ℤ ((S +ℤ t +ℤ v) *ℤ D)
    most_is S t u v D h k = le_by (nonneg_mul (nonneg_difference k) (le_from_lt h)) (read (S ∷ t ∷ u ∷ v ∷ D ∷ []) (λ xs a b c d e. simp (a, b, c, d, e, polys) (den-ring xs _ _ tt)))

-- ---- what the answer says of its chosen corners

-- the chosen corners from a place on skip no corner that reaches the size
skips_from : (k : ℕ) (points : List PlanePoint) (a : KgonAnswer) → PassesKgon k points a → (first : ℕ) (before rest : List ℕ) → a.chosen ≡ first ∷ before ++ rest
    → Skips (corner_points points a) first a.size.d (pos 2 *ℤ a.size.n) (twice_area (map (point_at (corner_points points a)) (first ∷ before))) (last_of first before) (a.layers + 1 - length before) rest
skips_from k points a h first before [] is = tt
skips_from k points a h first before (c ∷ rest) is = (
  λ x after below. subst (λ z. (z *ℤ a.size.d) <ℤ (pos 2 *ℤ a.size.n)) (value x)
      (h.none_between (length before) in_list x (subst (λ i. x < i) (sym next_is) below) (subst (λ i. i < x) (sym last_is) after)),
  subst (λ s. Skips corners first a.size.d (pos 2 *ℤ a.size.n) s c (a.layers + 1 - length before - 1) rest) (area-push (point_at corners) first before c)
      (subst (λ l. Skips corners first a.size.d (pos 2 *ℤ a.size.n) (twice_area (map (point_at corners) (first ∷ before ++ c ∷ []))) l (a.layers + 1 - length before - 1) rest) (last_of-push first before c)
      (subst (λ m. Skips corners first a.size.d (pos 2 *ℤ a.size.n) (twice_area (map (point_at corners) (first ∷ before ++ c ∷ []))) (last_of first (before ++ c ∷ [])) m rest) (one_less (length (before ++ c ∷ [])) (length before) (length_push before c))
      (skips_from k points a h first (before ++ c ∷ []) rest (is ∙ ap (λ xs. first ∷ xs) (sym (append_assoc before (c ∷ []) rest)))))),
)
  where
    corners : List PlanePoint
    corners = corner_points points a

    last_of-push : (i : ℕ) (xs : List ℕ) (c : ℕ) → last_of i (xs ++ c ∷ []) ≡ c
    last_of-push i [] c = refl
    last_of-push i (x ∷ xs) c = last_of-push x xs c

    one_less : (m n : ℕ) → m ≡ n + 1 → a.layers + 1 - m ≡ a.layers + 1 - n - 1
    one_less m n e = omega arith

    longer : (xs ys : List ℕ) (c : ℕ) → length xs < length (first ∷ xs ++ c ∷ ys) - 1
    longer [] ys c = omega arith
    longer (x ∷ xs) ys c = omega (arith, longer xs ys c)

    in_list : length before < length a.chosen - 1
    in_list = subst (λ xs. length before < length xs - 1) (sym is) (longer before rest c)

    at_next : (i : ℕ) (xs ys : List ℕ) (c : ℕ) → slice_index_or (i ∷ xs ++ c ∷ ys) (suc (length xs)) 0 ≡ c
    at_next i [] ys c = refl
    at_next i (x ∷ xs) ys c = at_next x xs ys c

    at_last : (i : ℕ) (xs ys : List ℕ) → slice_index_or (i ∷ xs ++ ys) (length xs) 0 ≡ last_of i xs
    at_last i [] ys = refl
    at_last i (x ∷ xs) ys = at_last x xs ys

    one_up : (n : ℕ) → n + 1 ≡ suc n
    one_up n = omega arith

    next_is : chosen_at a (length before + 1) ≡ c
    next_is = ap (λ xs. slice_index_or xs (length before + 1) 0) is ∙ ap (λ i. slice_index_or (first ∷ before ++ c ∷ rest) i 0) (one_up (length before)) ∙ at_next first before rest c

    last_is : chosen_at a (length before) ≡ last_of first before
    last_is = ap (λ xs. slice_index_or xs (length before) 0) is ∙ at_last first before (c ∷ rest)

    taken : (xs ys : List ℕ) → take (length xs) (xs ++ ys) ≡ xs
    taken [] ys = refl
    taken (x ∷ xs) ys = ap (λ zs. x ∷ zs) (taken xs ys)

    taken_is : take (length before + 1) a.chosen ≡ first ∷ before
    taken_is = ap (take (length before + 1)) is ∙ ap (λ i. take i (first ∷ before ++ c ∷ rest)) (one_up (length before)) ∙ ap (λ xs. first ∷ xs) (taken before (c ∷ rest))

    begins : chosen_at a 0 ≡ first
    begins = ap (λ xs. slice_index_or xs 0 0) is

    value : (x : ℕ) → most_with corners a (length before + 1) x ≡ twice_area (map (point_at corners) (first ∷ before)) +ℤ turn (point_at corners first) (point_at corners (last_of first before)) (point_at corners x) +ℤ most_added corners first (a.layers + 1 - length before - 1) x
    value x = ap₂ (λ xs i. twice_area (map (point_at corners) (xs ++ x ∷ [])) +ℤ most_added corners i (a.layers + 1 - (length before + 1)) x) taken_is begins
        ∙ ap₂ (λ s m. s +ℤ most_added corners first m x) (area-push (point_at corners) first before x) (less (length before))
      where
        less : (n : ℕ) → a.layers + 1 - (n + 1) ≡ a.layers + 1 - n - 1
        less n = omega arith

-- ---- an earlier first corner

-- a potential of an earlier first corner is below twice the size
earlier_potential : (k : ℕ) (points : List PlanePoint) (a : KgonAnswer) → PassesKgon k points a → pos 0 <ℤ (pos 2 *ℤ a.size.n) → (i layer b : ℕ) → i < chosen_at a 0 → i < b → b < length a.corners → layer ≤ a.layers → (potential a i layer b *ℤ a.size.d) <ℤ (pos 2 *ℤ a.size.n)
earlier_potential k points a h bound i zero b early after inside few = nothing a.size.d (pos 2 *ℤ a.size.n) bound
  where
    nothing : (D B : ℤ) → pos 0 <ℤ B → (pos 0 *ℤ D) <ℤ B
    nothing D B h = omega (arith, ints)
earlier_potential k points a h bound i (suc layer) b early after inside few = subst (λ n. (potential a i n b *ℤ a.size.d) <ℤ (pos 2 *ℤ a.size.n)) (one_up layer) (h.earlier_below i early b inside after layer (omega arith))
  where
    one_up : (n : ℕ) → n + 1 ≡ suc n
    one_up n = omega arith

-- so the polygons with an earlier first corner are smaller
earlier_along : (k : ℕ) (points : List PlanePoint) (answer : KgonAnswer) → PassesKgon k points answer → pos 0 <ℤ (pos 2 *ℤ answer.size.n) → (a layer b : ℕ) (rest : List ℕ) → a < chosen_at answer 0 → a < b → IsStrictlyIncreasing (b ∷ rest) → All (λ i. i < length answer.corners) (b ∷ rest) → layer + length rest ≤ answer.layers
    → ((potential answer a layer b +ℤ triangulated_area (point_at (corner_points points answer) a) (map (point_at (corner_points points answer)) (b ∷ rest))) *ℤ answer.size.d) <ℤ (pos 2 *ℤ answer.size.n)
earlier_along k points answer h bound a layer b [] early after rises inside count =
    subst (λ z. z <ℤ (pos 2 *ℤ answer.size.n)) (sym (none_after (potential answer a layer b) answer.size.d)) (earlier_potential k points answer h bound a layer b early after (All-head (λ i. i < length answer.corners) b [] inside) (omega arith))
earlier_along k points answer h bound a layer b (c ∷ rest) early after rises inside count =
    let corners = corner_points points answer in
    let next = rising-uncons b c rest rises in
    let others = All-tail (λ i. i < length answer.corners) b (c ∷ rest) inside in
    one_more_below (potential answer a layer b) (turn (point_at corners a) (point_at corners b) (point_at corners c)) (potential answer a (layer + 1) c) (triangulated_area (point_at corners a) (map (point_at corners) (c ∷ rest))) answer.size.d (pos 2 *ℤ answer.size.n) (nonneg_from_one h.ranges.size.lowest.not_negative.denominator)
    (h.grows c (All-head (λ i. i < length answer.corners) c rest others) b next.0 a after layer (omega (arith, count)))
    (earlier_along k points answer h bound a (layer + 1) c rest early (omega (arith, after, next.0)) next.1 others (omega (arith, count)))
  where
    one_more_below : (u t v f D B : ℤ) → pos 0 ≤ℤ D → (u +ℤ t) ≤ℤ v → ((v +ℤ f) *ℤ D) <ℤ B → ((u +ℤ (t +ℤ f)) *ℤ D) <ℤ B
    one_more_below u t v f D B pD h k =
        lt_by (positive_add (positive_difference k) (nonneg_mul pD (nonneg_difference h))) (read (u ∷ t ∷ v ∷ f ∷ D ∷ B ∷ []) (λ xs a b c d e f. simp (a, b, c, d, e, f, polys) (den-ring xs _ _ tt)))

-- ---- all together

-- another best polygon reaches the size
reaches : (k : ℕ) (points : List PlanePoint) (a : KgonAnswer) → PassesKgon k points a → (other : List ℕ) → IsGreatest (FitsKgon k (corner_points points a)) (kgon_size (corner_points points a)) other
    → (pos 2 *ℤ a.size.n) ≤ℤ (twice_area (map (point_at (corner_points points a)) other) *ℤ a.size.d)
reaches k points a h other best =
    plain a.size.n a.size.d (twice_area (map (point_at (corner_points points a)) a.chosen)) (twice_area (map (point_at (corner_points points a)) other)) (nonneg_from_one h.ranges.size.lowest.not_negative.denominator) h.size (best.greatest a.chosen h.chosen)
  where
    plain : (n d t u : ℤ) → pos 0 ≤ℤ d → n *ℤ pos 2 ≡ t *ℤ d → (t *ℤ pos 2) ≤ℤ (u *ℤ pos 2) → (pos 2 *ℤ n) ≤ℤ (u *ℤ d)
    plain n d t u pd e l = from_twice n (t *ℤ d) (u *ℤ d) e (le_by (nonneg_mul (halved t u l) pd) (read (t ∷ u ∷ d ∷ []) (λ xs a b c. simp (a, b, c, polys) (den-ring xs _ _ tt))))
      where
        halved : (t u : ℤ) → (t *ℤ pos 2) ≤ℤ (u *ℤ pos 2) → pos 0 ≤ℤ (u -ℤ t)
        halved t u l = omega (arith, ints)

        from_twice : (n p q : ℤ) → n *ℤ pos 2 ≡ p → p ≤ℤ q → (pos 2 *ℤ n) ≤ℤ q
        from_twice n p q e l = omega (arith, ints)

-- the chosen corners have the size
has_size : (k : ℕ) (points : List PlanePoint) (a : KgonAnswer) → PassesKgon k points a → twice_area (map (point_at (corner_points points a)) a.chosen) *ℤ a.size.d ≡ pos 2 *ℤ a.size.n
has_size k points a h = plain a.size.n (twice_area (map (point_at (corner_points points a)) a.chosen) *ℤ a.size.d) h.size
  where
    plain : (n p : ℤ) → n *ℤ pos 2 ≡ p → p ≡ pos 2 *ℤ n
    plain n p e = omega (arith, ints)

-- seen from a corner, the way from it to the next covers nothing
from_itself : (f : ℕ → PlanePoint) (i : ℕ) (rest : List ℕ) → triangulated_area (f i) (map f (i ∷ rest)) ≡ triangulated_area (f i) (map f rest)
from_itself f i [] = refl
from_itself f i (c ∷ rest) = ap (λ z. z +ℤ triangulated_area (f i) (map f (c ∷ rest))) (turn_same (f i) (f c)) ∙ plain (triangulated_area (f i) (map f (c ∷ rest)))
  where
    plain : (z : ℤ) → pos 0 +ℤ z ≡ z
    plain z = omega (arith, ints)

-- what is known of an answer with three corners or more
record IsWide (k : ℕ) (points : List PlanePoint) (a : KgonAnswer) : Type 0 where
  passes : PassesKgon k points a
  left : TurnsLeft (corner_points points a)
  three : 3 ≤ length a.corners
  most : 3 ≤ k
  bound : pos 0 <ℤ (pos 2 *ℤ a.size.n)

-- a corner of the other is a corner of the list
same_count : (points : List PlanePoint) (a : KgonAnswer) → length (corner_points points a) ≡ length a.corners
same_count points a = length-map a.corners (point_at points)

-- a best polygon does not begin earlier
not_earlier : (k : ℕ) (points : List PlanePoint) (a : KgonAnswer) → IsWide k points a → (o : ℕ) (others : List ℕ) → FitsKgon k (corner_points points a) (o ∷ others) → o < chosen_at a 0
    → (twice_area (map (point_at (corner_points points a)) (o ∷ others)) *ℤ a.size.d) <ℤ (pos 2 *ℤ a.size.n)
not_earlier k points a w o [] fits early = nothing a.size.d (pos 2 *ℤ a.size.n) w.bound
  where
    nothing : (D B : ℤ) → pos 0 <ℤ B → (pos 0 *ℤ D) <ℤ B
    nothing D B h = omega (arith, ints)
not_earlier k points a w o (c ∷ others) fits early =
    let next = rising-uncons o c others fits.rising in
    subst (λ v. (v *ℤ a.size.d) <ℤ (pos 2 *ℤ a.size.n)) (from_zero _)
    (earlier_along k points a w.passes w.bound o 0 c others early next.0 next.1
    (All-tail (λ i. i < length a.corners) o (c ∷ others) (subst (λ n. All (λ i. i < n) (o ∷ c ∷ others)) (same_count points a) fits.in_range))
    (in_layers w.passes.layers (subst (λ n. length (o ∷ c ∷ others) ≤ min k n) (same_count points a) fits.count.at_most)))
  where
    from_zero : (z : ℤ) → pos 0 +ℤ z ≡ z
    from_zero z = omega (arith, ints)

    in_layers : {m : ℕ} → a.layers ≡ m - 2 → length (o ∷ c ∷ others) ≤ m → 0 + length others ≤ a.layers
    in_layers e l = omega arith

-- of the chosen corners and those of another best polygon, with one first corner, the chosen ones come first
after_first : (k : ℕ) (points : List PlanePoint) (a : KgonAnswer) → IsWide k points a → (first : ℕ) (rest others : List ℕ) → a.chosen ≡ first ∷ rest → FitsKgon k (corner_points points a) (first ∷ others)
    → (pos 2 *ℤ a.size.n) ≤ℤ (twice_area (map (point_at (corner_points points a)) (first ∷ others)) *ℤ a.size.d) → ComesFirst rest others
after_first k points a w first rest others is fits reach =
    comes_first corners w.left first a.size.d (pos 2 *ℤ a.size.n) (pos 0) first (a.layers + 1) rest others (positive_from_one w.passes.ranges.size.lowest.not_negative.denominator) w.bound (inr (refl, refl))
    (subst IsStrictlyIncreasing is w.passes.chosen.rising) (All-tail (λ i. i < length corners) first rest (subst (All (λ i. i < length corners)) is w.passes.chosen.in_range))
    (ap (λ z. z *ℤ a.size.d) (whole rest) ∙ subst (λ xs. twice_area (map (point_at corners) xs) *ℤ a.size.d ≡ pos 2 *ℤ a.size.n) is (has_size k points a w.passes))
    (subst (λ m. Skips corners first a.size.d (pos 2 *ℤ a.size.n) (pos 0) first m rest) (none_less (a.layers + 1)) (skips_from k points a w.passes first [] rest is))
    fits.rising (All-tail (λ i. i < length corners) first others fits.in_range)
    (in_layers w.passes.layers w.three w.most (subst (λ n. length (first ∷ others) ≤ min k n) (same_count points a) fits.count.at_most))
    (subst (λ z. (pos 2 *ℤ a.size.n) ≤ℤ (z *ℤ a.size.d)) (sym (whole others)) reach)
    (itself first)
  where
    corners : List PlanePoint
    corners = corner_points points a

    itself : (n : ℕ) → n ≤ n
    itself n = omega arith

    none_less : (n : ℕ) → n - 0 ≡ n
    none_less n = omega arith

    whole : (xs : List ℕ) → pos 0 +ℤ triangulated_area (point_at corners first) (map (point_at corners) (first ∷ xs)) ≡ twice_area (map (point_at corners) (first ∷ xs))
    whole xs = from_zero _ ∙ from_itself (point_at corners) first xs
      where
        from_zero : (z : ℤ) → pos 0 +ℤ z ≡ z
        from_zero z = omega (arith, ints)

    in_layers : {n : ℕ} → a.layers ≡ min k n - 2 → 3 ≤ n → 3 ≤ k → length (first ∷ others) ≤ min k n → length others ≤ a.layers + 1
    in_layers {n} e p q l = at_most (min k n) e l (both p q)
      where
        both : 3 ≤ n → 3 ≤ k → 3 ≤ min k n
        both p q = omega arith

        at_most : (m : ℕ) → a.layers ≡ m - 2 → length (first ∷ others) ≤ m → 3 ≤ m → length others ≤ a.layers + 1
        at_most m e l p = omega arith

-- the chosen corners come first of those of best polygons
wide_first : (k : ℕ) (points : List PlanePoint) (a : KgonAnswer) → IsWide k points a → (chosen other : List ℕ) → a.chosen ≡ chosen → IsGreatest (FitsKgon k (corner_points points a)) (kgon_size (corner_points points a)) other → ComesFirst chosen other
wide_first k points a w [] other is best = tt
wide_first k points a w (e ∷ rest) [] is best = absurd (none best.fits.count.at_least)
  where
    none : 1 ≤ 0 → ⊥
    none h = omega arith
wide_first k points a w (e ∷ rest) (o ∷ others) is best = elim (order e o) [
  | inl less ↦ inl less
  | inr at_least ↦ elim at_least [
    | inl same ↦ inr (
      same,
      after_first k points a w e rest others is (subst (λ i. FitsKgon k (corner_points points a) (i ∷ others)) (sym same) best.fits)
          (subst (λ i. (pos 2 *ℤ a.size.n) ≤ℤ (twice_area (map (point_at (corner_points points a)) (i ∷ others)) *ℤ a.size.d)) (sym same) reach),
    )
    | inr earlier ↦ absurd (not_above reach (not_earlier k points a w o others best.fits (subst (λ xs. o < slice_index_or xs 0 0) (sym is) earlier)))
  ]
]
  where
    order : (c o : ℕ) → (c < o) ⊎ ((c ≡ o) ⊎ (o < c))
    order c o = grind arith

    reach : (pos 2 *ℤ a.size.n) ≤ℤ (twice_area (map (point_at (corner_points points a)) (o ∷ others)) *ℤ a.size.d)
    reach = reaches k points a w.passes (o ∷ others) best

-- three corners or more make a cycle
cycle_of : (points corners : List PlanePoint) → AreCorners points corners → 3 ≤ length corners → AreCornerCycle points corners
cycle_of points [] h l = absurd h
cycle_of points (a ∷ []) h l = absurd (omega arith)
cycle_of points (a ∷ b ∷ []) h l = absurd (omega arith)
cycle_of points (a ∷ b ∷ c ∷ rest) h l = h

-- the triangle of the first three corners has an area
first_triangle : (k : ℕ) (points : List PlanePoint) (a : KgonAnswer) → PassesKgon k points a → TurnsLeft (corner_points points a) → 3 ≤ length a.corners → 3 ≤ k → pos 0 <ℤ (pos 2 *ℤ a.size.n)
first_triangle k points a h left three most =
    under (positive_mul (more (left 0 1 2 (omega arith) (omega arith) (omega (arith, same_count points a)))) (positive_from_one h.ranges.size.lowest.not_negative.denominator))
    (area_below k points a h (0 ∷ 1 ∷ 2 ∷ []) (record { count = record { at_least = omega arith; at_most = fits }; rising = rising; in_range = inside }))
  where
    corners : List PlanePoint
    corners = corner_points points a

    under : {x y : ℤ} → pos 0 <ℤ x → x ≤ℤ y → pos 0 <ℤ y
    under h k = omega (arith, ints)

    more : {t : ℤ} → pos 0 <ℤ t → pos 0 <ℤ (t +ℤ pos 0)
    more h = omega (arith, ints)

    fits : 3 ≤ min k (length corners)
    fits = subst (λ n. 3 ≤ min k n) (sym (same_count points a)) (both three most)
      where
        both : 3 ≤ length a.corners → 3 ≤ k → 3 ≤ min k (length a.corners)
        both p q = omega arith

    rising : IsStrictlyIncreasing (0 ∷ 1 ∷ 2 ∷ [])
    rising zero l = omega arith
    rising (suc zero) l = omega arith
    rising (suc (suc i)) l = absurd (omega arith)

    inside : All (λ i. i < length corners) (0 ∷ 1 ∷ 2 ∷ [])
    inside =
        All-cons (λ i. i < length corners) 0 (1 ∷ 2 ∷ []) (below 0 (omega arith))
        (All-cons (λ i. i < length corners) 1 (2 ∷ []) (below 1 (omega arith)) (All-cons (λ i. i < length corners) 2 [] (below 2 (omega arith)) (All-nil (λ i. i < length corners))))
      where
        below : (i : ℕ) → i < 3 → i < length corners
        below i l = omega (arith, same_count points a, three)

-- one corner alone, the first, comes before all
alone_first : (k : ℕ) (corners : List PlanePoint) (chosen other : List ℕ) → chosen ≡ 0 ∷ [] → FitsKgon k corners other → ComesFirst chosen other
alone_first k corners chosen [] is fits = absurd (none fits.count.at_least)
  where
    none : 1 ≤ 0 → ⊥
    none h = omega arith
alone_first k corners chosen (o ∷ others) is fits = subst (λ xs. ComesFirst xs (o ∷ others)) (sym is) (by_first o)
  where
    by_first : (o : ℕ) → ComesFirst (0 ∷ []) (o ∷ others)
    by_first zero = inr (refl, tt)
    by_first (suc o) = inl (omega arith)

-- a polygon that passes is the first of those of greatest area
pub kgon_first_law : PassingKgonsAreFirst
kgon_first_law k points a most h = record {
  best = (kgon_law k points a h).2.greatest;
  first = λ other best. elim (few_or_three (length a.corners)) [
    | inl few ↦ alone_first k (corner_points points a) a.chosen other (h.few few) best.fits
    | inr three ↦
        let left = turns_left points (corner_points points a) (cycle_of points (corner_points points a) (passing_kgon k points a h) (subst (λ n. 3 ≤ n) (sym (same_count points a)) three)) in
        wide_first k points a (record { passes = h; left = left; three = three; most = most; bound = first_triangle k points a h left three most }) a.chosen other refl best
  ];
}
  where
    few_or_three : (n : ℕ) → (n < 3) ⊎ (3 ≤ n)
    few_or_three n = grind arith
