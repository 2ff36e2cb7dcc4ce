-- Edges that turn left with all points to their left, and the directions that they look out to.
use Rattle.std.proofs.Common.{◌≡◌, sym, ap, ap₂, subst, ◌∙◌, ℕ, ◌+◌, ◌-◌, ◌<◌, ◌%◌, ℤ, pos, ◌-ℤ◌, ◌≤ℤ◌, ◌<ℤ◌, List, [], ◌∷◌, length, map, get_or, arith}
use Rattle.std.specs.Prelude.{All, Contains}
use Rattle.std.proofs.Math.Nat.{mod-lt, mod-mod, mod-add-mod, add-mod_right, mod-eq_of_lt}
use Rattle.std.proofs.lemmas.Int.{ints}
use Rattle.std.proofs.lemmas.List.{length-map}
use Rattle.integers.proofs.Identities.{den-ring, read, polys}
use Rattle.bounds_model.specs.Plane.{PlanePoint, point_at, vector, cross, dot}
use Rattle.bounds_model.specs.Hull.{around}
use Rattle.bounds_model.specs.CornerTest.{GoAround}
use Rattle.fan_test.specs.Chains.{Turns, Leads, Encloses, AreListed}
use Rattle.hull_test.specs.Outward.{right_of, outward}
use Rattle.hull_test.proofs.HullReads.{corner_listed}

-- ---- corners that are counted around

pub around_again : (corners : List PlanePoint) (i : ℕ) → around corners (i + length corners) ≡ around corners i
around_again corners i = ap (point_at corners) (add-mod_right i (length corners))

around_first : (corners : List PlanePoint) (i : ℕ) → around corners (i % length corners) ≡ around corners i
around_first corners i = ap (point_at corners) (mod-mod i (length corners))

around_later : (corners : List PlanePoint) (i j : ℕ) → around corners (i % length corners + j) ≡ around corners (i + j)
around_later corners i j = ap (point_at corners) (mod-add-mod i (length corners) j)

-- a round less one, and then one or two more
round_less_one : (corners : List PlanePoint) (i j : ℕ) → 0 < length corners → around corners (i + 1 + j + (length corners - 1)) ≡ around corners (i + j)
round_less_one corners i j some = ap (around corners) (let e : i + 1 + j + (length corners - 1) ≡ i + j + length corners = omega (arith, some) in e) ∙ around_again corners (i + j)

-- ---- turns

right_turns : (a b c d : PlanePoint) → cross (right_of a b) (right_of c d) ≡ cross (vector a b) (vector c d)
right_turns a b c d = read (a.x ∷ a.y ∷ b.x ∷ b.y ∷ c.x ∷ c.y ∷ d.x ∷ d.y ∷ []) (λ xs p q r s t u v w. simp (p, q, r, s, t, u, v, w, polys) (den-ring xs _ _ tt))

-- the turn at the corner i
abbrev turn_at : List PlanePoint → ℕ → ℤ
turn_at corners i = cross (vector (around corners i) (around corners (i + 1))) (vector (around corners (i + 1)) (around corners (i + 2)))

-- the corner before one
abbrev before : List PlanePoint → ℕ → ℕ
before corners i = (i + (length corners - 1)) % length corners

before_is : (corners : List PlanePoint) (i : ℕ) → around corners (before corners i) ≡ around corners (i + (length corners - 1))
before_is corners i = around_first corners (i + (length corners - 1))

after_before : (corners : List PlanePoint) (i j : ℕ) → 0 < length corners → around corners (before corners i + (1 + j)) ≡ around corners (i + j)
after_before corners i j some = around_later corners (i + (length corners - 1)) (1 + j)
    ∙ ap (around corners) (let e : i + (length corners - 1) + (1 + j) ≡ i + j + length corners = omega (arith, some) in e) ∙ around_again corners (i + j)

pub turns_of : (points corners : List PlanePoint) → 0 < length corners → GoAround points corners → Turns (outward corners) (length corners)
turns_of points corners some h i low =
    subst (λ z. pos 0 <ℤ z) (sym (right_turns (around corners (i + (length corners - 1))) (around corners i) (around corners (i + 1 + (length corners - 1))) (around corners (i + 1)) ∙ same))
    (h.left_turns (before corners i) (mod-lt (i + (length corners - 1)) some))
  where
    here : around corners (before corners i + 1) ≡ around corners i
    here = after_before corners i 0 some ∙ ap (around corners) (let e : i + 0 ≡ i = omega arith in e)

    next : around corners (before corners i + 2) ≡ around corners (i + 1)
    next = after_before corners i 1 some

    again : around corners (i + 1 + (length corners - 1)) ≡ around corners i
    again = ap (around corners) (let e : i + 1 + (length corners - 1) ≡ i + length corners = omega (arith, some) in e) ∙ around_again corners i

    same : cross (vector (around corners (i + (length corners - 1))) (around corners i)) (vector (around corners (i + 1 + (length corners - 1))) (around corners (i + 1))) ≡ turn_at corners
        (before corners i)
    same =
        ap (λ v. cross (vector (around corners (i + (length corners - 1))) (around corners i)) (vector v (around corners (i + 1)))) again
        ∙ ap₂ (λ v w. cross (vector v w) (vector w (around corners (i + 1)))) (sym (before_is corners i)) (sym here)
        ∙ ap (λ v. cross (vector (around corners (before corners i)) (around corners (before corners i + 1))) (vector (around corners (before corners i + 1)) v)) (sym next)

-- ---- points to the left

left_by_first : (a b p : PlanePoint) → cross (vector a b) (vector a p) ≡ dot (right_of a b) a -ℤ dot (right_of a b) p
left_by_first a b p = read (a.x ∷ a.y ∷ b.x ∷ b.y ∷ p.x ∷ p.y ∷ []) (λ xs q r s t u v. simp (q, r, s, t, u, v, polys) (den-ring xs _ _ tt))

left_by_second : (a b p : PlanePoint) → cross (vector a b) (vector a p) ≡ dot (right_of a b) b -ℤ dot (right_of a b) p
left_by_second a b p = read (a.x ∷ a.y ∷ b.x ∷ b.y ∷ p.x ∷ p.y ∷ []) (λ xs q r s t u v. simp (q, r, s, t, u, v, polys) (den-ring xs _ _ tt))

not_out : (c x y : ℤ) → c ≡ x -ℤ y → pos 0 ≤ℤ c → y ≤ℤ x
not_out c x y e h = omega (arith, ints)

not_right : (c x y : ℤ) → c ≡ x -ℤ y → y ≤ℤ x → pos 0 ≤ℤ c
not_right c x y e h = omega (arith, ints)

-- the edge before a corner, and the one after it
after_is : (corners : List PlanePoint) (i : ℕ) → 0 < length corners → around corners (i + 1 + (length corners - 1)) ≡ around corners i
after_is corners i some = ap (around corners) (let e : i + 1 + (length corners - 1) ≡ i + length corners = omega (arith, some) in e) ∙ around_again corners i

pub encloses_of : (points corners : List PlanePoint) → 0 < length corners → GoAround points corners → Encloses points (outward corners) (around corners) (length corners)
encloses_of points corners some h k d low i small = record {
  begin =
      let j = before corners i in
      let a = around corners (i + (length corners - 1)) in
      let left = h.all_left j (mod-lt (i + (length corners - 1)) some) k d low in
      not_out (cross (vector a (around corners i)) (vector a p)) (dot (right_of a (around corners i)) (around corners i)) (dot (right_of a (around corners i)) p)
      (left_by_second a (around corners i) p)
      (subst (λ v. pos 0 ≤ℤ cross (vector v (around corners i)) (vector v p)) (before_is corners i)
      (subst (λ v. pos 0 ≤ℤ cross (vector (around corners j) v) (vector (around corners j) p)) (after_before corners i 0 some ∙ ap (around corners) (let e : i + 0 ≡ i = omega arith in e)) left));
  end =
      let left = h.all_left i small k d low in
      not_out (cross (vector (around corners (i + 1 + (length corners - 1))) (around corners (i + 1))) (vector (around corners (i + 1 + (length corners - 1))) p))
      (dot (outward corners (i + 1)) (around corners i)) (dot (outward corners (i + 1)) p)
      (left_by_first (around corners (i + 1 + (length corners - 1))) (around corners (i + 1)) p
      ∙ ap (λ v. dot (outward corners (i + 1)) v -ℤ dot (outward corners (i + 1)) p) (after_is corners i some))
      (subst (λ v. pos 0 ≤ℤ cross (vector v (around corners (i + 1))) (vector v p)) (sym (after_is corners i some)) left);
}
  where
    p : PlanePoint
    p = get_or points k d

-- corners whose outward directions turn left, and enclose all points, go around
pub around_of : (points corners : List PlanePoint) → 0 < length corners → Turns (outward corners) (length corners) → Encloses points (outward corners) (around corners) (length corners)
    → GoAround points corners
around_of points corners some turns encloses = record {
  left_turns = λ j low. subst (λ z. pos 0 <ℤ z) (right_turns (around corners (next j + (length corners - 1))) (around corners (next j)) (around corners (next j + 1 + (length corners - 1)))
      (around corners (next j + 1)) ∙ same j) (turns ((j + 1) % length corners) (mod-lt (j + 1) some));
  all_left = λ j low k d below.
      let at = (encloses k d below j low).end in
      subst (λ v. pos 0 ≤ℤ cross (vector v (around corners (j + 1))) (vector v (get_or points k d))) (after_is corners j some)
      (not_right (cross (vector (around corners (j + 1 + (length corners - 1))) (around corners (j + 1))) (vector (around corners (j + 1 + (length corners - 1))) (get_or points k d)))
      (dot (outward corners (j + 1)) (around corners j)) (dot (outward corners (j + 1)) (get_or points k d))
      (left_by_first (around corners (j + 1 + (length corners - 1))) (around corners (j + 1)) (get_or points k d)
      ∙ ap (λ v. dot (outward corners (j + 1)) v -ℤ dot (outward corners (j + 1)) (get_or points k d)) (after_is corners j some)) at);
}
  where
    next : ℕ → ℕ
    next j = (j + 1) % length corners

    a_is : (j : ℕ) → around corners (next j + (length corners - 1)) ≡ around corners j
    a_is j = around_later corners (j + 1) (length corners - 1) ∙ after_is corners j some

    b_is : (j : ℕ) → around corners (next j) ≡ around corners (j + 1)
    b_is j = around_first corners (j + 1)

    c_is : (j : ℕ) → around corners (next j + 1 + (length corners - 1)) ≡ around corners (j + 1)
    c_is j = after_is corners (next j) some ∙ b_is j

    d_is : (j : ℕ) → around corners (next j + 1) ≡ around corners (j + 2)
    d_is j = around_later corners (j + 1) 1 ∙ ap (around corners) (let e : j + 1 + 1 ≡ j + 2 = omega arith in e)

    same : (j : ℕ) → cross (vector (around corners (next j + (length corners - 1))) (around corners (next j)))
        (vector (around corners (next j + 1 + (length corners - 1))) (around corners (next j + 1))) ≡ turn_at corners j
    same j =
        ap₂ (λ v w. cross (vector v w) (vector (around corners (next j + 1 + (length corners - 1))) (around corners (next j + 1)))) (a_is j) (b_is j)
        ∙ ap₂ (λ v w. cross (vector (around corners j) (around corners (j + 1))) (vector v w)) (c_is j) (d_is j)

-- the corners are points
pub corners_listed : (points : List PlanePoint) (numbers : List ℕ) → 0 < length numbers → All (λ n. n < length points) numbers
    → AreListed points (around (map (point_at points) numbers)) (length numbers)
corners_listed points numbers some below i low =
    subst (λ c. Contains points (point_at (map (point_at points) numbers) c)) (sym
    (mod-eq_of_lt {m = length (map (point_at points) numbers)} (subst (λ n. i < n) (sym (length-map numbers (point_at points))) low))) (corner_listed points numbers i low below)

-- the test of the chain, with the count that is read
pub chain_leads : (points corners : List PlanePoint) (n : ℕ) (first last : PlanePoint) → 0 < n → n ≡ length corners → first ≡ outward corners 0 → last ≡ outward corners n
    → GoAround points corners → Leads (outward corners) n first last
chain_leads points corners n first last some is begin end h = record {
  begins = sym begin;
  ends = sym end;
  turns = subst (Turns (outward corners)) (sym is) (turns_of points corners (subst (λ m. 0 < m) is some) h);
}

pub chain_encloses : (points corners : List PlanePoint) (n : ℕ) → 0 < n → n ≡ length corners → GoAround points corners → Encloses points (outward corners) (around corners) n
chain_encloses points corners n some is h = subst (Encloses points (outward corners) (around corners)) (sym is) (encloses_of points corners (subst (λ m. 0 < m) is some) h)

pub chain_around : (points corners : List PlanePoint) (n : ℕ) → 0 < n → n ≡ length corners → Turns (outward corners) n → Encloses points (outward corners) (around corners) n → GoAround points corners
chain_around points corners n some is turns encloses =
    around_of points corners (subst (λ m. 0 < m) is some) (subst (Turns (outward corners)) is turns) (subst (Encloses points (outward corners) (around corners)) is encloses)
