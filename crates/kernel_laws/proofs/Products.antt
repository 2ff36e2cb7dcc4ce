-- Products of the differences of items, as code finds them: what they are, and that they and their differences fit 128 bits.
use Rattle.std.proofs.Common.{◌≡◌, sym, ◌∙◌, ap, ap₂, subst, ◌^◌, ◌*◌, ℕ, ◌+◌, ◌⊎◌, inl, inr, ℤ, pos, negsuc, neg_ℤ, ◌-ℤ◌, ◌*ℤ◌, ◌<ℤ◌, ◌≤ℤ◌, List, [], ◌∷◌, FitsSigned, to_z, of_z, arith, w64}
use Rattle.std.proofs.lemmas.Int.{ints}
use mir.Syntax.{w128}
use Rattle.integers.specs.Size.{Size}
use Rattle.integers.proofs.Sizes.{size_mul, size_sub, size_fits, size_fits64, size_more, size_neg, wrap_is, wrap_is_in}
use Rattle.integers.proofs.MachineArithmetic.{Given, given, with_inputs, codes, size_within}
use Rattle.bounds_model.specs.Space.{SpacePoint, vector, dot, squared_length, origin}
use Rattle.kernel_laws.specs.Limits.{IsVectorWithin}
use Rattle.kernel_laws.specs.Solutions.{AreItems, Reduces}
use Rattle.kernel_laws.specs.Systems.{right_side, cross, sum3}
use Rattle.kernel_laws.proofs.Points.{squared_length_positive}
use Rattle.kernel_laws.proofs.SideLimits.{more_within}
use Rattle.kernel_laws.proofs.Crosses.{cross_within, volume_within, zero_from, not_zero_from}
use Rattle.kernel_laws.proofs.Three.{three_items, height_positive, twice_square, positive_from}
use Rattle.kernel_laws.proofs.ProductSums.{back}
use Rattle.kernel_laws.proofs.Four.{difference_within, ball_centre, same_sum, same_centre}

abbrev inputs : {u v : SpacePoint} {n : ℕ} → IsVectorWithin n u → IsVectorWithin n v → List Given
inputs u v = given u.x ∷ given u.y ∷ given u.z ∷ given v.x ∷ given v.y ∷ given v.z ∷ []

-- the product of a cross product and a vector, as code finds it, of equal vectors
pub triple_of : {u v w u' v' w' n x : SpacePoint} {t : ℤ} → u ≡ u' → v ≡ v' → w ≡ w' → n ≡ cross u v → x ≡ w → t ≡ dot n x → t ≡ dot (cross u' v') w'
triple_of eu ev ew en ex e = e ∙ ap₂ dot (en ∙ ap₂ cross eu ev) (ex ∙ ew)

-- a difference among the sums has the size of a cross product
pub wide_within : {u x : SpacePoint} → IsVectorWithin 800000 u → x ≡ u → IsVectorWithin (2 ^ 41) x
wide_within h e = subst (IsVectorWithin (2 ^ 41)) (sym e) (more_within (omega arith) h)

-- the height of a cross product, as code finds it
pub height_of : {u v u' v' n : SpacePoint} → u ≡ u' → v ≡ v' → n ≡ cross u v → n.z ≡ (cross u' v').z
height_of eu ev en = ap (λ n. n.z) (en ∙ ap₂ cross eu ev)

-- a cross product that is not zero
pub apart : (a b c : SpacePoint) {u v n : SpacePoint} → u ≡ vector a b → v ≡ vector a c → n ≡ cross u v → (n ≡ origin → ⊥) → pos 0 <ℤ squared_length (cross (vector a b) (vector a c))
apart a b c {u} {v} {n} eu ev en some = subst (λ n. pos 0 <ℤ squared_length n) (en ∙ ap₂ cross eu ev) (squared_length_positive n some)

-- ---- near items

-- the difference of two near items
pub near : {a b u : SpacePoint} → IsVectorWithin 16000 a → IsVectorWithin 16000 b → u ≡ vector a b → IsVectorWithin 32000 u
near {a} {b} ha hb e = subst (IsVectorWithin 32000) (sym e) (difference_within a b ha hb)

-- the cross product of two of their differences
pub near_cross : {u v n : SpacePoint} → IsVectorWithin 32000 u → IsVectorWithin 32000 v → n ≡ cross u v → IsVectorWithin (2 ^ 31) n
near_cross {u} {v} hu hv e = subst (IsVectorWithin (2 ^ 31)) (sym e) (cross_within u v hu hv)

-- the triple product of the differences from the first of four
pub record Volume (a b c d : SpacePoint) (t : ℤ) : Type 0 where
  pub value : t ≡ dot (cross (vector a b) (vector a c)) (vector a d)
  pub size : Size (2 ^ 50) t

-- as code finds it
pub volume_of : {a b c d u v w n x : SpacePoint} {t : ℤ} → IsVectorWithin 16000 a → IsVectorWithin 16000 b → IsVectorWithin 16000 c → IsVectorWithin 16000 d → u ≡ vector a b → v ≡ vector a c → w ≡ vector a d → n ≡ cross u v → x ≡ w → t ≡ dot n x → Volume a b c d t
volume_of {a} {b} {c} {d} ha hb hc hd eu ev ew en ex e =
    let value : _ ≡ dot (cross (vector a b) (vector a c)) (vector a d) = triple_of eu ev ew en ex e in
    record { value = value; size = subst (Size (2 ^ 50)) (sym value) (volume_within (vector a b) (vector a c) (vector a d) (difference_within a b ha hb) (difference_within a c ha hc) (difference_within a d ha hd)) }

-- where code found it to be 0
pub flat : {a b c d : SpacePoint} {t : ℤ} → Volume a b c d t → of_z w128 t ≡ 0 → dot (cross (vector a b) (vector a c)) (vector a d) ≡ pos 0
flat h e = sym h.value ∙ zero_from (size_fits h.size tt) e

-- or not to be 0
pub some_volume : {a b c d : SpacePoint} {t : ℤ} → Volume a b c d t → (of_z w128 t ≡ 0 → ⊥) → t ≡ pos 0 → ⊥
some_volume h f e = not_zero_from (size_fits h.size tt) f e

-- and then the four are not in a plane
pub solid : {a b c d : SpacePoint} {t : ℤ} → Volume a b c d t → (of_z w128 t ≡ 0 → ⊥) → dot (cross (vector a b) (vector a c)) (vector a d) ≡ pos 0 → ⊥
solid h f e = some_volume h f (h.value ∙ e)

-- the centre of a ball, as code finds it
pub centre_of : (quadratic : ℤ) (a b c d : SpacePoint) {u v w n x y m : SpacePoint} {r s t : ℤ} → u ≡ vector a b → v ≡ vector a c → w ≡ vector a d → n ≡ cross u v → x ≡ cross v w → y ≡ cross w u → r ≡ right_side quadratic a b → s ≡ right_side quadratic a c → t ≡ right_side quadratic a d → m ≡ sum3 r s t x y n
    → m ≡ ball_centre (vector a b) (vector a c) (vector a d) (right_side quadratic a b) (right_side quadratic a c) (right_side quadratic a d)
centre_of quadratic a b c d {r = r} {s = s} {t = t} eu ev ew en ex ey er es et e = e ∙ same_sum r s t (ex ∙ ap₂ cross ev ew) (ey ∙ ap₂ cross ew eu) (en ∙ ap₂ cross eu ev) ∙ same_centre (vector a b) (vector a c) (vector a d) er es et

-- equal numbers reduce to the same
pub same_reduction : {xs ys ws : List ℤ} → xs ≡ ys → Reduces xs ws → Reduces ys ws
same_reduction {ws = ws} e h = subst (λ xs. Reduces xs ws) e h

-- ---- two numbers of items on a line

-- the products that show that three items are on a line
pub record LineNumbers (a b c : SpacePoint) (p q : ℤ) : Type 0 where
  pub first : p ≡ dot (vector a b) (vector a c)
  pub second : q ≡ dot (vector a b) (vector a b)
  pub some : pos 0 <ℤ q
  pub line : cross (vector a b) (vector a c) ≡ origin

-- as code finds them
pub line_numbers : (a b c : SpacePoint) {u v n : SpacePoint} {p q : ℤ} → u ≡ vector a b → v ≡ vector a c → n ≡ cross u v → p ≡ dot u v → q ≡ dot u u → (u ≡ origin → ⊥) → n ≡ origin → LineNumbers a b c p q
line_numbers a b c {u} eu ev en ep eq some none = record { first = ep ∙ ap₂ dot eu ev; second = eq ∙ ap₂ dot eu eu; some = subst (λ n. pos 0 <ℤ n) (sym eq) (squared_length_positive u some); line = sym (en ∙ ap₂ cross eu ev) ∙ none }

-- ---- three numbers of items in a plane

-- the products that show that four items are in a plane
pub record PlaneNumbers (a b c d : SpacePoint) (p q s : ℤ) : Type 0 where
  pub first : p ≡ dot (cross (vector a d) (vector a c)) (cross (vector a b) (vector a c))
  pub second : q ≡ dot (cross (vector a b) (vector a d)) (cross (vector a b) (vector a c))
  pub third : s ≡ squared_length (cross (vector a b) (vector a c))

-- as code finds them
pub plane_numbers : (a b c d : SpacePoint) {u v w n x y : SpacePoint} {p q s : ℤ} → u ≡ vector a b → v ≡ vector a c → w ≡ vector a d → n ≡ cross u v → x ≡ cross w v → y ≡ cross u w → p ≡ dot x n → q ≡ dot y n → s ≡ dot n n → PlaneNumbers a b c d p q s
plane_numbers a b c d eu ev ew en ex ey ep eq es =
    let normal = en ∙ ap₂ cross eu ev in
    record { first = ep ∙ ap₂ dot (ex ∙ ap₂ cross ew ev) normal; second = eq ∙ ap₂ dot (ey ∙ ap₂ cross eu ew) normal; third = es ∙ ap squared_length normal }

-- the product of two vectors of the size of cross products
pub product_size : {m n : SpacePoint} {t : ℤ} → IsVectorWithin (2 ^ 41) m → IsVectorWithin (2 ^ 41) n → t ≡ dot m n → Size (2 ^ 84) t
product_size hm hn e = subst (Size (2 ^ 84)) (sym e) (with_inputs (inputs hm hn) (λ xs h a b c d e f. simp (a, b, c, d, e, f, codes) (size_within xs h _ tt)))

-- ---- differences that code takes in turn

-- from one number two others
pub record Remainders (s p q : ℤ) : Type 0 where
  pub whole : FitsSigned w128 s
  pub first : FitsSigned w128 p
  pub second : FitsSigned w128 q
  pub less_first : FitsSigned w128 (s -ℤ p)
  pub less_both : FitsSigned w128 (s -ℤ p -ℤ q)
  pub opposite : FitsSigned w128 (pos 0 -ℤ s)
  pub below : pos 0 -ℤ s ≡ neg_ℤ s
  pub negative : FitsSigned w128 (neg_ℤ s)

-- they fit
pub remainders : {s p q : ℤ} → Size (2 ^ 84) s → Size (2 ^ 84) p → Size (2 ^ 84) q → Remainders s p q
remainders hs hp hq = record {
  whole = size_fits hs tt;
  first = size_fits hp tt;
  second = size_fits hq tt;
  less_first = size_fits (size_sub hs hp) tt;
  less_both = size_fits (size_sub (size_sub hs hp) hq) tt;
  opposite = size_fits (size_sub {a = pos 0} {m = 0} (record { abs = omega arith }) hs) tt;
  below = omega (arith, ints);
  negative = size_fits (size_neg hs) tt;
}

-- from one number three others
pub record MoreRemainders (t p q s : ℤ) : Type 0 where
  pub two : Remainders t p q
  pub third : FitsSigned w128 s
  pub less_all : FitsSigned w128 (t -ℤ p -ℤ q -ℤ s)

-- of the products on a line
pub line_remainders : {u v : SpacePoint} {p q : ℤ} → IsVectorWithin 800000 u → IsVectorWithin 800000 v → p ≡ dot u v → q ≡ dot u u → Remainders q p p
line_remainders hu hv ep eq =
    let wide = more_within (omega arith) hu in
    let size_p = product_size wide (more_within (omega arith) hv) ep in
    remainders (product_size wide wide eq) size_p size_p

-- of those in a plane
pub plane_remainders : {n x y : SpacePoint} {p q s : ℤ} → IsVectorWithin (2 ^ 41) n → IsVectorWithin (2 ^ 41) x → IsVectorWithin (2 ^ 41) y → p ≡ dot x n → q ≡ dot y n → s ≡ dot n n → Remainders s p q
plane_remainders hn hx hy ep eq es = remainders (product_size hn hn es) (product_size hx hn ep) (product_size hy hn eq)

-- of those in space
pub space_remainders : {n x y w z f g : SpacePoint} {p q s t : ℤ} → IsVectorWithin (2 ^ 41) n → IsVectorWithin (2 ^ 41) x → IsVectorWithin (2 ^ 41) y → IsVectorWithin 800000 w → IsVectorWithin 800000 z → f ≡ w → g ≡ z → t ≡ dot n f → p ≡ dot x f → q ≡ dot y f → s ≡ dot n g → MoreRemainders t p q s
space_remainders hn hx hy hw hz ef eg et ep eq es =
    let hf = wide_within hw ef in
    let hg = wide_within hz eg in
    let size_t = product_size hn hf et in
    let size_p = product_size hx hf ep in
    let size_q = product_size hy hf eq in
    let size_s = product_size hn hg es in
    record { two = remainders size_t size_p size_q; third = size_fits size_s tt; less_all = size_fits (size_sub (size_sub (size_sub size_t size_p) size_q) size_s) tt }

-- of heights
pub height_remainders : {n x y : SpacePoint} → IsVectorWithin (2 ^ 41) n → IsVectorWithin (2 ^ 41) x → IsVectorWithin (2 ^ 41) y → Remainders n.z x.z y.z
height_remainders hn hx hy = remainders (size_more hn.z tt) (size_more hx.z tt) (size_more hy.z tt)

-- twice a number
pub record Twice (t : ℤ) : Type 0 where
  pub once : FitsSigned w128 t
  pub size : Size (2 ^ 52) (pos 2 *ℤ t)
  pub fits : FitsSigned w128 (pos 2 *ℤ t)

-- it fits
pub twice : {t : ℤ} → Size (2 ^ 50) t → Twice t
twice {t} h =
    let double : Size (2 * 2 ^ 50) (pos 2 *ℤ t) = size_mul {a = pos 2} {m = 2} (record { abs = omega arith }) h in
    record { once = size_fits h tt; size = size_more double tt; fits = size_fits double tt }

-- ---- signs, from a value that code compared

-- below 0, the opposite is above
pub below_from : {t x : ℤ} → t ≡ x → t <ℤ pos 0 → pos 0 <ℤ (negsuc 0 *ℤ x)
below_from e h = omega (arith, ints)

-- a number that is not below 0 and not 0 is above
pub above_from : {t x : ℤ} → t ≡ x → (t ≡ pos 0 → ⊥) → pos 0 ≤ℤ t → pos 0 <ℤ (pos 1 *ℤ x)
above_from {t} {x} e some least = let above : pos 0 <ℤ t = positive_from t some least in omega (arith, ints)

-- twice a quadratic is above 0
pub square_from : {t x : ℤ} → t ≡ x → (t ≡ pos 0 → ⊥) → pos 0 <ℤ (pos 2 *ℤ t *ℤ x)
square_from {t} e some = subst (λ n. pos 0 <ℤ (pos 2 *ℤ t *ℤ n)) e (twice_square t some)

-- a quadratic's factor that code found not to be 1
pub not_one : {q r : ℤ} → (q ≡ pos 0) ⊎ (q ≡ pos 1) → r ≡ q → (of_z w128 r ≡ 1 → ⊥) → q ≡ pos 0
not_one (inl none) e f = none
not_one (inr one) e f = absurd (f (ap (of_z w128) (e ∙ one)))

-- ---- three items of the plane

-- the cross product of their differences, if it is not zero, has a height
pub some_height : (quadratic : ℤ) (dim : ℕ) (a b c : SpacePoint) {u v n : SpacePoint} → AreItems quadratic dim (a ∷ b ∷ c ∷ []) → dim ≡ 2 → u ≡ vector a b → v ≡ vector a c → n ≡ cross u v → (n ≡ origin → ⊥) → n.z ≡ pos 0 → ⊥
some_height quadratic dim a b c h two eu ev en some e = height_positive dim a b c two (three_items quadratic dim a b c h) (apart a b c eu ev en some) (sym (height_of eu ev en) ∙ e)

-- twice a height
pub twice_height : {t : ℤ} → Size (2 ^ 41) t → Size (2 ^ 43) (pos 2 *ℤ t)
twice_height {t} h =
    let double : Size (2 * 2 ^ 41) (pos 2 *ℤ t) = size_mul {a = pos 2} {m = 2} (record { abs = omega arith }) h in
    size_more double tt

-- a coordinate and its opposite, in 64 and in 128 bits
pub record Opposites (x : ℤ) : Type 0 where
  pub narrow : FitsSigned w64 x
  pub wide : FitsSigned w128 x
  pub narrow_opposite : FitsSigned w64 (pos 0 -ℤ x)
  pub wide_opposite : FitsSigned w128 (pos 0 -ℤ x)
  pub size : Size (2 ^ 64) (pos 0 -ℤ x)

-- they fit
pub opposites : {x : ℤ} → Size 400000 x → Opposites x
opposites {x} h =
    let opposite : Size 400000 (pos 0 -ℤ x) = size_sub {a = pos 0} {m = 0} (record { abs = omega arith }) h in
    record { narrow = size_fits64 h tt; wide = size_fits h tt; narrow_opposite = size_fits64 opposite tt; wide_opposite = size_fits opposite tt; size = size_more opposite tt }

-- ---- numbers that went to their bits and back

-- from 64 bits to 128
abbrev pub widened : ℤ → ℤ
widened x = back (to_z w64 (of_z w64 x))

-- it is the same number
pub widened_is : {x : ℤ} → Size 800000 x → widened x ≡ x
widened_is h = ap back (wrap_is_in w64 h tt) ∙ wrap_is h tt

-- the difference of two products, as code finds it
pub record Minor (r y s z t : ℤ) : Type 0 where
  pub value : t ≡ r *ℤ y -ℤ s *ℤ z
  pub size : Size (2 ^ 64) t
  pub size_back : Size (2 ^ 64) (back t)

pub minor_of : {r y s z t : ℤ} → Size (2 ^ 42) r → Size 800000 y → Size (2 ^ 42) s → Size 800000 z → t ≡ back r *ℤ widened y -ℤ back s *ℤ widened z → Minor r y s z t
minor_of {r} {y} {s} {z} {t} hr hy hs hz e =
    let first : back r *ℤ widened y ≡ r *ℤ y = ap₂ (λ m n. m *ℤ n) (wrap_is hr tt) (widened_is hy) in
    let second : back s *ℤ widened z ≡ s *ℤ z = ap₂ (λ m n. m *ℤ n) (wrap_is hs tt) (widened_is hz) in
    let value : t ≡ r *ℤ y -ℤ s *ℤ z = e ∙ ap₂ (λ m n. m -ℤ n) first second in
    let whole : Size (2 ^ 42 * 800000 + 2 ^ 42 * 800000) (r *ℤ y -ℤ s *ℤ z) = size_sub (size_mul hr hy) (size_mul hs hz) in
    let size : Size (2 ^ 64) t = subst (Size (2 ^ 64)) (sym value) (size_more whole tt) in
    record { value = value; size = size; size_back = subst (Size (2 ^ 64)) (sym (wrap_is size tt)) size }
