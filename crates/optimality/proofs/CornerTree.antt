-- Where few squares cover points, the corner lemma leads along the tree of corners to a leaf without two far points.
use Rattle.std.proofs.Common.{◌≡◌, inl, inr, refl, sym, ap, subst, ℕ, zero, suc, ◌+◌, ◌-◌, ◌*◌, ◌/◌, ◌%◌, ◌^◌, ◌<◌, ◌≤◌, ℤ, pos, negsuc, nat_abs, ◌-ℤ◌, neg_ℤ, ◌≤ℤ◌, List, [], ◌∷◌, length, arith}
use Rattle.std.specs.Prelude.{All}
use Rattle.std.proofs.lemmas.Int.{ints}
use Rattle.std.proofs.lemmas.List.Elements.{All-nil, All-cons, All-head, All-tail}
use Rattle.bounds_model.specs.Plane.{PlanePoint}
use Rattle.bounds_model.specs.CentresAnswer.{digits, outside, corner_square, IsLeftOver, AreFar}
use Rattle.optimality.proofs.Colours.{AreNear, Colouring, IsColoured, fewer}

-- ---- a way down the tree

-- so many corners, whose squares leave only points that are near each other
record WayDown (side count : ℕ) (ps : List PlanePoint) : Type 0 where
  corners : List ℕ
  as_many : length corners ≡ count
  four : All (λ corner. corner < 4) corners
  near : (p q : PlanePoint) → IsLeftOver side corners ps p → IsLeftOver side corners ps q → AreNear side p q

-- each square takes one of up to three colours, and the points that are left in the end have one
way_down : (side count : ℕ) (ps : List PlanePoint) (colour : Colouring ps) → count ≤ 2 → IsColoured side (suc count) ps colour → WayDown side count ps
way_down side zero ps colour few h = record { corners = []; as_many = refl; four = All-nil (λ corner. corner < 4); near = λ p q m n. h.near p q m n (only_one (h.below p m) (h.below q n)) }
  where
    only_one : {a b : ℕ} → a < 1 → b < 1 → a ≡ b
    only_one l k = omega arith
way_down side (suc count) ps colour few h =
    let f = fewer side (suc count) ps colour (omega arith) h in
    let way = way_down side count (outside (corner_square side f.corner ps) ps) f.colour (omega arith) f.coloured in
    record {
      corners = f.corner ∷ way.corners;
      as_many = ap suc way.as_many;
      four = All-cons (λ corner. corner < 4) f.corner way.corners f.four way.four;
      near = way.near;
    }

-- ---- its leaf

-- a number whose digits are these, of up to two corners
numbered : (count : ℕ) (corners : List ℕ) → count ≤ 2 → length corners ≡ count → All (λ corner. corner < 4) corners → (number : ℕ) × (number < 4 ^ count) × (digits count number ≡ corners)
numbered zero [] few e four = (0, omega arith, refl)
numbered zero (d ∷ rest) few e four = absurd (omega arith)
numbered (suc count) [] few e four = absurd (omega arith)
numbered (suc zero) (d ∷ []) few e four = (d, All-head (λ corner. corner < 4) d [] four, λ i. one (All-head (λ corner. corner < 4) d [] four) i ∷ [])
  where
    one : d < 4 → d / 4 ^ 0 % 4 ≡ d
    one h = omega arith
numbered (suc zero) (d ∷ e ∷ rest) few l four = absurd (omega arith)
numbered (suc (suc zero)) (d ∷ []) few l four = absurd (omega arith)
numbered (suc (suc zero)) (d ∷ e ∷ []) few l four =
    let hd = All-head (λ corner. corner < 4) d (e ∷ []) four in
    let he = All-head (λ corner. corner < 4) e [] (All-tail (λ corner. corner < 4) d (e ∷ []) four) in
    (4 * d + e, small hd he, λ i. first he hd i ∷ second he i ∷ [])
  where
    small : d < 4 → e < 4 → 4 * d + e < 4 ^ 2
    small hd he = omega arith

    first : e < 4 → d < 4 → (4 * d + e) / 4 ^ 1 % 4 ≡ d
    first he hd = omega arith

    second : e < 4 → (4 * d + e) / 4 ^ 0 % 4 ≡ e
    second he = omega arith
numbered (suc (suc zero)) (d ∷ e ∷ f ∷ rest) few l four = absurd (omega arith)
numbered (suc (suc (suc count))) corners few l four = absurd (omega arith)

-- near points are not far from each other
near_not_far : (side : ℕ) (p q : PlanePoint) → AreNear side p q → AreNear side q p → ¬ AreFar side p q
near_not_far side p q h k far = elim far [ inl l ↦ contradicts p.x q.x h.in_x k.in_x l | inr l ↦ contradicts p.y q.y h.in_y k.in_y l ]
  where
    magnitude_within : (z : ℤ) → z ≤ℤ pos side → neg_ℤ z ≤ℤ pos side → nat_abs z ≤ side
    magnitude_within (pos k) h l = omega (arith, ints)
    magnitude_within (negsuc k) h l = omega (arith, ints)

    other_way : (a b : ℤ) → (a -ℤ b) ≤ℤ pos side → neg_ℤ (b -ℤ a) ≤ℤ pos side
    other_way a b h = omega (arith, ints)

    contradicts : (a b : ℤ) → (a -ℤ b) ≤ℤ pos side → (b -ℤ a) ≤ℤ pos side → side < nat_abs (b -ℤ a) → ⊥
    contradicts a b h k l = let within = magnitude_within (b -ℤ a) k (other_way a b h) in omega (arith, within, l)

-- a number below so many leaves, whose leaf has no two far points left
abbrev pub NearLeaf : ℕ → ℕ → List PlanePoint → Type 0
NearLeaf side count ps = (number : ℕ) × (number < 4 ^ count) × ((p q : PlanePoint) → IsLeftOver side (digits count number) ps p → IsLeftOver side (digits count number) ps q → ¬ AreFar side p q)

-- for points of up to three colours there is one
pub some_leaf_is_near : (side count : ℕ) (ps : List PlanePoint) (colour : Colouring ps) → 1 ≤ count → count ≤ 3 → IsColoured side count ps colour → NearLeaf side (count - 1) ps
some_leaf_is_near side zero ps colour some few h = absurd (omega arith)
some_leaf_is_near side (suc count) ps colour some few h =
    let way = way_down side count ps colour (omega arith) h in
    let leaf = numbered count way.corners (omega arith) way.as_many way.four in
    let near = subst (λ corners. (p q : PlanePoint) → IsLeftOver side corners ps p → IsLeftOver side corners ps q → ¬ AreFar side p q) (sym leaf.2) (λ p q m n. near_not_far side p q (way.near p q m n) (way.near q p n m)) in
    subst (λ k. NearLeaf side k ps) (one_less count) (leaf.0, leaf.1, near)
  where
    one_less : (k : ℕ) → k ≡ suc k - 1
    one_less k = omega arith
