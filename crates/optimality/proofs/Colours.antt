-- The corner lemma: where at most three squares cover points, a square in a corner of the bounding box can be one of them.
-- Each point has the colour of a square that covers it, so points of one colour are within a side of each other.
use Rattle.std.proofs.Common.{◌≡◌, ◌⊎◌, inl, inr, ◌≢◌, refl, sym, ◌∙◌, ℕ, suc, ◌<◌, ◌≤◌, pos, ◌-ℤ◌, ◌≤ℤ◌, Bool, true, false, not, List, [], ◌∷◌, arith}
use Rattle.std.specs.Prelude.{Contains, ◌==◌, if◌then◌else◌, Decides}
use Rattle.std.proofs.lemmas.Bool.{cases_eq}
use Rattle.std.proofs.lemmas.Bool.Decides.{Decides-eqb}
use Rattle.std.proofs.lemmas.List.Elements.{All-contains, All-filter, All-contains_itself, filter_passes}
use Rattle.integers.specs.Extremes.{greatest, least}
use Rattle.integers.proofs.Extremes.{has_greatest, has_least}
use Rattle.bounds_model.specs.Plane.{PlanePoint}
use Rattle.bounds_model.specs.CentresAnswer.{Square, contains, outside, corner_square}
use Rattle.model_laws.proofs.Decisions.{false-not_true}
use Rattle.optimality.proofs.CornerSquares.{x_of, y_of, near_lowest, near_highest, within_a_side, lower_left, lower_right, upper_left, upper_right}

-- ---- colours

-- p is at most a side to the right of q, and above it
pub record AreNear (side : ℕ) (p q : PlanePoint) : Type 0 where
  pub in_x : (p.x -ℤ q.x) ≤ℤ pos side
  pub in_y : (p.y -ℤ q.y) ≤ℤ pos side

-- a colour for each point of a list, at each of its ranges
abbrev pub Colouring : List PlanePoint → Type 0
Colouring ps = (p : PlanePoint) → Contains ps p → ℕ

-- so many colours, and points of one colour are near each other
pub record IsColoured (side count : ℕ) (ps : List PlanePoint) (colour : Colouring ps) : Type 0 where
  pub below : (p : PlanePoint) (m : Contains ps p) → colour p m < count
  pub near : (p q : PlanePoint) (m : Contains ps p) (n : Contains ps q) → colour p m ≡ colour q n → AreNear side p q

-- ---- a colour fills a corner

-- the square in this corner holds all points of this colour
record IsFilled (side count : ℕ) (ps : List PlanePoint) (colour : Colouring ps) : Type 0 where
  corner : ℕ
  four : corner < 4
  chosen : ℕ
  below : chosen < count
  fills : (p : PlanePoint) (m : Contains ps p) → colour p m ≡ chosen → contains (corner_square side corner ps) p ≡ true

-- a point on each side of the bounding box
record Extremes (ps : List PlanePoint) : Type 0 where
  left : (p : PlanePoint) × Contains ps p × (least x_of ps ≡ x_of p)
  right : (p : PlanePoint) × Contains ps p × (greatest x_of ps ≡ x_of p)
  bottom : (p : PlanePoint) × Contains ps p × (least y_of ps ≡ y_of p)
  top : (p : PlanePoint) × Contains ps p × (greatest y_of ps ≡ y_of p)

-- of the colours of the four points, these two are the same
data TwoAlike (left right bottom top : ℕ) : Type 0 where
  left_bottom : left ≡ bottom → TwoAlike left right bottom top
  right_bottom : right ≡ bottom → TwoAlike left right bottom top
  left_top : left ≡ top → TwoAlike left right bottom top
  right_top : right ≡ top → TwoAlike left right bottom top
  left_right : left ≡ right → TwoAlike left right bottom top
  bottom_top : bottom ≡ top → TwoAlike left right bottom top

-- three colours are not enough for four points without two alike
two_alike : (count left right bottom top : ℕ) → count ≤ 3 → left < count → right < count → bottom < count → top < count → TwoAlike left right bottom top
two_alike count l r b t few hl hr hb ht =
    unless (cases_eq l b) left_bottom (λ lb.
    unless (cases_eq r b) right_bottom (λ rb.
    unless (cases_eq l t) left_top (λ lt.
    unless (cases_eq r t) right_top (λ rt.
    unless (cases_eq l r) left_right (λ lr.
    unless (cases_eq b t) bottom_top (λ bt. absurd (all_differ lb rb lt rt lr bt)))))))
  where
    unless : {P : Type 0} → P ⊎ (P → ⊥) → (P → TwoAlike l r b t) → ((P → ⊥) → TwoAlike l r b t) → TwoAlike l r b t
    unless either f g = elim either [ inl p ↦ f p | inr n ↦ g n ]

    all_differ : l ≢ b → r ≢ b → l ≢ t → r ≢ t → l ≢ r → b ≢ t → ⊥
    all_differ n1 n2 n3 n4 n5 n6 = omega arith

-- two alike on sides that meet fill the corner between these; two alike on opposite sides leave the box no wider than a side, and the corner is filled by the colour of a point beside it
filled_by : (side count : ℕ) (ps : List PlanePoint) (colour : Colouring ps) → IsColoured side count ps colour → (e : Extremes ps)
    → TwoAlike (colour e.left.0 e.left.1) (colour e.right.0 e.right.1) (colour e.bottom.0 e.bottom.1) (colour e.top.0 e.top.1) → IsFilled side count ps colour
filled_by side count ps colour c e (left_bottom same) = record {
  corner = 0;
  four = omega arith;
  chosen = colour e.left.0 e.left.1;
  below = c.below e.left.0 e.left.1;
  fills = λ p m s. lower_left side ps p
      (near_lowest side x_of ps p e.left.0 m e.left.2 (c.near p e.left.0 m e.left.1 s).in_x)
      (near_lowest side y_of ps p e.bottom.0 m e.bottom.2 (c.near p e.bottom.0 m e.bottom.1 (s ∙ same)).in_y);
}
filled_by side count ps colour c e (right_bottom same) = record {
  corner = 1;
  four = omega arith;
  chosen = colour e.right.0 e.right.1;
  below = c.below e.right.0 e.right.1;
  fills = λ p m s. lower_right side ps p
      (near_highest side x_of ps p e.right.0 m e.right.2 (c.near e.right.0 p e.right.1 m (sym s)).in_x)
      (near_lowest side y_of ps p e.bottom.0 m e.bottom.2 (c.near p e.bottom.0 m e.bottom.1 (s ∙ same)).in_y);
}
filled_by side count ps colour c e (left_top same) = record {
  corner = 2;
  four = omega arith;
  chosen = colour e.left.0 e.left.1;
  below = c.below e.left.0 e.left.1;
  fills = λ p m s. upper_left side ps p
      (near_lowest side x_of ps p e.left.0 m e.left.2 (c.near p e.left.0 m e.left.1 s).in_x)
      (near_highest side y_of ps p e.top.0 m e.top.2 (c.near e.top.0 p e.top.1 m (sym (s ∙ same))).in_y);
}
filled_by side count ps colour c e (right_top same) = record {
  corner = 3;
  four = omega arith;
  chosen = colour e.right.0 e.right.1;
  below = c.below e.right.0 e.right.1;
  fills = λ p m s. upper_right side ps p
      (near_highest side x_of ps p e.right.0 m e.right.2 (c.near e.right.0 p e.right.1 m (sym s)).in_x)
      (near_highest side y_of ps p e.top.0 m e.top.2 (c.near e.top.0 p e.top.1 m (sym (s ∙ same))).in_y);
}
filled_by side count ps colour c e (left_right same) = record {
  corner = 0;
  four = omega arith;
  chosen = colour e.bottom.0 e.bottom.1;
  below = c.below e.bottom.0 e.bottom.1;
  fills = λ p m s. lower_left side ps p
      (within_a_side side x_of ps p e.left.0 e.right.0 m e.left.2 e.right.2 (c.near e.right.0 e.left.0 e.right.1 e.left.1 (sym same)).in_x)
      (near_lowest side y_of ps p e.bottom.0 m e.bottom.2 (c.near p e.bottom.0 m e.bottom.1 s).in_y);
}
filled_by side count ps colour c e (bottom_top same) = record {
  corner = 0;
  four = omega arith;
  chosen = colour e.left.0 e.left.1;
  below = c.below e.left.0 e.left.1;
  fills = λ p m s. lower_left side ps p
      (near_lowest side x_of ps p e.left.0 m e.left.2 (c.near p e.left.0 m e.left.1 s).in_x)
      (within_a_side side y_of ps p e.bottom.0 e.top.0 m e.bottom.2 e.top.2 (c.near e.top.0 e.bottom.0 e.top.1 e.bottom.1 (sym same)).in_y);
}

-- so with up to three colours, a corner's square contains all points of one
fills_a_corner : (side count : ℕ) (ps : List PlanePoint) (colour : Colouring ps) → count ≤ 3 → IsColoured side count ps colour → Extremes ps → IsFilled side count ps colour
fills_a_corner side count ps colour few c e =
    filled_by side count ps colour c e
    (two_alike count (colour e.left.0 e.left.1) (colour e.right.0 e.right.1) (colour e.bottom.0 e.bottom.1) (colour e.top.0 e.top.1) few (c.below e.left.0 e.left.1) (c.below e.right.0 e.right.1) (c.below e.bottom.0 e.bottom.1) (c.below e.top.0 e.top.1))

-- ---- one colour fewer

-- the colour j replaces the colour c, which falls away
abbrev recolour : ℕ → ℕ → ℕ → ℕ
recolour j c x = if x == c then j else x

-- a colour other than j becomes one below c
recolour_below : (j c x : ℕ) → j < suc c → x < suc c → x ≢ j → recolour j c x < c
recolour_below j c x hj hx n = by_bool (x == c) (Decides-eqb x c)
  where
    by_bool : (t : Bool) → Decides t (x ≡ c) → (if t then j else x) < c
    by_bool true d = let e : x ≡ c = d.0 refl in omega arith
    by_bool false d = let e : x ≢ c = λ e. false-not_true (d.1 e) in omega arith

-- and different ones stay different
recolour_same : (j c x y : ℕ) → x ≢ j → y ≢ j → recolour j c x ≡ recolour j c y → x ≡ y
recolour_same j c x y nx ny = by_bools (x == c) (y == c) (Decides-eqb x c) (Decides-eqb y c)
  where
    by_bools : (s t : Bool) → Decides s (x ≡ c) → Decides t (y ≡ c) → (if s then j else x) ≡ (if t then j else y) → x ≡ y
    by_bools true true d e h = d.0 refl ∙ sym (e.0 refl)
    by_bools true false d e h = absurd (ny (sym h))
    by_bools false true d e h = absurd (nx h)
    by_bools false false d e h = h

-- outside of a square that holds all points of one colour, one colour fewer is left
pub without_one : (side c : ℕ) (ps : List PlanePoint) (square : Square) (colour : Colouring ps) → IsColoured side (suc c) ps colour → (chosen : ℕ) → chosen < suc c
    → ((p : PlanePoint) (m : Contains ps p) → colour p m ≡ chosen → contains square p ≡ true) → (fewer : Colouring (outside square ps)) × IsColoured side c (outside square ps) fewer
without_one side c ps square colour h chosen chosen_below fills = (
  λ p m. recolour chosen c (colour p (listed p m)),
  record {
    below = λ p m. recolour_below chosen c (colour p (listed p m)) chosen_below (h.below p (listed p m)) (other p m);
    near = λ p q m n e. h.near p q (listed p m) (listed q n) (recolour_same chosen c (colour p (listed p m)) (colour q (listed q n)) (other p m) (other q n) e);
  },
)
  where
    rest : List PlanePoint
    rest = outside square ps

    listed : (p : PlanePoint) → Contains rest p → Contains ps p
    listed p m = All-contains (Contains ps) rest p (All-filter (λ q. not (contains square q)) (Contains ps) ps (All-contains_itself ps)) m

    not_contained : (p : PlanePoint) → Contains rest p → not (contains square p) ≡ true
    not_contained p m = All-contains (λ q. not (contains square q) ≡ true) rest p (filter_passes (λ q. not (contains square q)) ps) m

    not_both : (b : Bool) → b ≡ true → not b ≡ true → ⊥
    not_both true e f = cc
    not_both false e f = cc

    other : (p : PlanePoint) (m : Contains rest p) → colour p (listed p m) ≢ chosen
    other p m e = not_both (contains square p) (fills p (listed p m) e) (not_contained p m)

-- without what the square in this corner holds, one colour fewer is left
pub record HasFewer (side c : ℕ) (ps : List PlanePoint) : Type 0 where
  pub corner : ℕ
  pub four : corner < 4
  pub colour : Colouring (outside (corner_square side corner ps) ps)
  pub coloured : IsColoured side c (outside (corner_square side corner ps) ps) colour

-- it is so where a colour fills the corner
fewer_by_filled : (side c : ℕ) (ps : List PlanePoint) (colour : Colouring ps) → IsColoured side (suc c) ps colour → IsFilled side (suc c) ps colour → HasFewer side c ps
fewer_by_filled side c ps colour h f =
    let rest = without_one side c ps (corner_square side f.corner ps) colour h f.chosen f.below f.fills in
    record { corner = f.corner; four = f.four; colour = rest.0; coloured = rest.1 }

-- and so some corner's square leaves one colour fewer of up to three
pub fewer : (side c : ℕ) (ps : List PlanePoint) (colour : Colouring ps) → suc c ≤ 3 → IsColoured side (suc c) ps colour → HasFewer side c ps
fewer side c [] colour few h = record { corner = 0; four = omega arith; colour = λ p m. 0; coloured = record { below = λ p m. absurd (none p m); near = λ p q m n e. absurd (none p m) } }
  where
    none : (p : PlanePoint) → ¬ Contains [] p
    none p m = let l = m.1 in omega arith
fewer side c (p ∷ ps) colour few h =
    fewer_by_filled side c (p ∷ ps) colour h
    (fills_a_corner side (suc c) (p ∷ ps) colour few h (record {
      left = has_least x_of (p ∷ ps) (omega arith);
      right = has_greatest x_of (p ∷ ps) (omega arith);
      bottom = has_least y_of (p ∷ ps) (omega arith);
      top = has_greatest y_of (p ∷ ps) (omega arith);
    }))
