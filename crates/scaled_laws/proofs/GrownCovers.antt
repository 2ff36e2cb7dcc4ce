-- Growing covers of squares: centres and radius by the scale.
use Rattle.std.proofs.Common.{◌≡◌, sym, ◌∙◌, ap, subst, ℕ, ◌^◌, ◌≤◌, ℤ, pos, nat_abs, ◌-ℤ◌, ◌*ℤ◌, ◌≤ℤ◌, ◌<ℤ◌, List, [], ◌∷◌, map, inl, inr, neg_ℤ, arith}
use Rattle.std.specs.Prelude.{Any}
use Rattle.std.proofs.lemmas.Int.{ints, unsigned_abs-mul}
use Rattle.std.proofs.lemmas.List.{length-map}
use Rattle.std.proofs.lemmas.List.Elements.{All-weaker, All-map}
use Rattle.std.proofs.Math.IntN.{pos-*ℤ-pos}
use Rattle.integers.proofs.Identities.{den-ring, read, polys}
use Rattle.integers.proofs.Order.{positive_mul, nonneg_mul, nonneg_difference, le_by, le_from_lt, at_least_one, positive_from_one, combine1}
use Rattle.bounds_model.specs.Plane.{PlanePoint, PlaneRatio}
use Rattle.bounds_model.specs.Fractions.{over, multiple}
use Rattle.bounds_model.specs.Centres.{Cover, IsNear, FitsCentres, centres_size}
use Rattle.bounds_model.specs.Scaled.{grown_plane_ratio, grown_cover, SameCentres, SameCover}
use Rattle.model_laws.proofs.Decisions.{any-nil, any-cons, any-uncons}
use Rattle.model_laws.proofs.SizeDenominators.{centres_denominator}
use Rattle.scaled_laws.proofs.Scaling.{Grows}
use Rattle.scaled_laws.proofs.GrownNumbers.{same_over, stretched, fraction_shrinks, fraction_grows, same_fraction, from_product}
use Rattle.scaled_laws.proofs.GrownObjects.{above_zero, first_power}

abbrev pub shrunk_plane_ratio : ℕ → PlaneRatio → PlaneRatio
shrunk_plane_ratio scale c = record { x = c.x; y = c.y; w = pos scale *ℤ c.w }

abbrev pub shrunk_cover : ℕ → Cover → Cover
shrunk_cover scale cover = record { centres = map (shrunk_plane_ratio scale) cover.centres; radius = over scale cover.radius }

-- a centre with all its numbers grown
abbrev regrown : ℕ → PlaneRatio → PlaneRatio
regrown scale c = grown_plane_ratio scale (shrunk_plane_ratio scale c)

-- the centres with all their numbers grown
abbrev regrown_all : ℕ → List PlaneRatio → List PlaneRatio
regrown_all scale cs = map (grown_plane_ratio scale) (map (shrunk_plane_ratio scale) cs)

-- each is the same place
same_centres : (scale : ℕ) (cs : List PlaneRatio) → SameCentres (regrown_all scale cs) cs
same_centres scale [] = tt
same_centres scale (c ∷ cs) = (record { in_x = same_over (pos scale) c.w c.x; in_y = same_over (pos scale) c.w c.y }, same_centres scale cs)

-- some element of a list that was made from another
any_of_map : {X Y : Type 0} (P : Y → Type 0) (f : X → Y) (xs : List X) → Any (λ x. P (f x)) xs → Any P (map f xs)
any_of_map P f [] h = absurd (any-nil (λ x. P (f x)) h)
any_of_map P f (x ∷ xs) h = elim (any-uncons (λ x. P (f x)) x xs h) [
  | inl here ↦ any-cons P (f x) (map f xs) (inl here)
  | inr later ↦ any-cons P (f x) (map f xs) (inr (any_of_map P f xs later))
]

-- some element has what follows
any_weaker : {X : Type 0} (P Q : X → Type 0) → ((x : X) → P x → Q x) → (xs : List X) → Any P xs → Any Q xs
any_weaker P Q f xs h = (h.0, h.1, h.2, h.3, f h.1 h.4)

-- a distance along an axis, in numbers that are s times as large
axis_grows : (s w x p n d : ℤ) → pos 0 <ℤ s → (pos (nat_abs (w *ℤ p -ℤ x)) *ℤ d) ≤ℤ (n *ℤ w) → (pos (nat_abs (s *ℤ w *ℤ p -ℤ s *ℤ x)) *ℤ (d *ℤ s)) ≤ℤ (s *ℤ n *ℤ (s *ℤ w))
axis_grows s w x p n d s+ h =
    le_by (nonneg_mul (nonneg_mul (le_from_lt s+) (le_from_lt s+)) (nonneg_difference h))
    (combine1 (neg_ℤ (d *ℤ s)) (magnitude s (w *ℤ p) x (from_product s w p) (le_from_lt s+)) (identity s w n d (pos (nat_abs (w *ℤ p -ℤ x))) (pos (nat_abs (s *ℤ w *ℤ p -ℤ s *ℤ x)))))
  where
    identity : (s w n d far far' : ℤ) → s *ℤ n *ℤ (s *ℤ w) -ℤ far' *ℤ (d *ℤ s) -ℤ s *ℤ s *ℤ (n *ℤ w -ℤ far *ℤ d) ≡ neg_ℤ (d *ℤ s) *ℤ (far' -ℤ s *ℤ far)
    identity s w n d far far' = read (s ∷ w ∷ n ∷ d ∷ far ∷ far' ∷ []) (λ xs a b c e f g. simp (a, b, c, e, f, g, polys) (den-ring xs _ _ tt))

    absolute : (s : ℤ) → pos 0 ≤ℤ s → pos (nat_abs s) ≡ s
    absolute s h = omega (arith, ints)

    magnitude : (s a x : ℤ) {b : ℤ} → s *ℤ a ≡ b → pos 0 ≤ℤ s → pos (nat_abs (b -ℤ s *ℤ x)) ≡ s *ℤ pos (nat_abs (a -ℤ x))
    magnitude s a x {b} e h =
        ap (λ z. pos (nat_abs (z -ℤ s *ℤ x))) (sym e) ∙ ap (λ z. pos (nat_abs z)) (stretched s x a) ∙ ap pos (unsigned_abs-mul s (a -ℤ x))
        ∙ sym (pos-*ℤ-pos (nat_abs s) (nat_abs (a -ℤ x))) ∙ ap (λ z. z *ℤ pos (nat_abs (a -ℤ x))) (absolute s h)

pub covers_grow : (scale : ℕ) → 1 ≤ scale → (count : ℕ) (points : List PlanePoint) → Grows (FitsCentres count points) SameCover centres_size (grown_cover scale) (shrunk_cover scale) (pos (scale ^ 1))
covers_grow scale l count points = record {
  factor = subst (λ n. pos 0 <ℤ pos n) (sym (first_power scale)) (above_zero scale l);
  same = λ cover. record { centres = same_centres scale cover.centres; radius = same_fraction (pos scale) cover.radius.n cover.radius.d };
  fits = fits;
  denominator = centres_denominator count points;
  shrunk_denominator = λ cover h. positive_mul (centres_denominator count points cover h) (above_zero scale l);
  grown_denominator = λ cover h. centres_denominator count points (grown_cover scale cover) h;
  shrunk_size = λ cover. fraction_shrinks (pos (scale ^ 1)) (pos scale) cover.radius.n cover.radius.d (ap pos (first_power scale));
  grown_size = λ cover. fraction_grows (pos (scale ^ 1)) (pos scale) cover.radius.n cover.radius.d (ap pos (first_power scale));
}
  where
    near_grown : (cover : Cover) (p : PlanePoint) (c : PlaneRatio) → IsNear cover.radius p c → IsNear (multiple scale (over scale cover.radius)) p (regrown scale c)
    near_grown cover p c h = record {
      in_x = axis_grows (pos scale) c.w c.x p.x cover.radius.n cover.radius.d (above_zero scale l) h.in_x;
      in_y = axis_grows (pos scale) c.w c.y p.y cover.radius.n cover.radius.d (above_zero scale l) h.in_y;
    }

    covered : (cover : Cover) (p : PlanePoint) → Any (IsNear cover.radius p) cover.centres → Any (IsNear (multiple scale (over scale cover.radius)) p) (regrown_all scale cover.centres)
    covered cover p h =
        any_of_map (IsNear (multiple scale (over scale cover.radius)) p) (grown_plane_ratio scale) (map (shrunk_plane_ratio scale) cover.centres)
        (any_of_map (λ c. IsNear (multiple scale (over scale cover.radius)) p (grown_plane_ratio scale c)) (shrunk_plane_ratio scale) cover.centres
        (any_weaker (IsNear cover.radius p) (λ c. IsNear (multiple scale (over scale cover.radius)) p (regrown scale c)) (near_grown cover p) cover.centres h))

    fits : (cover : Cover) → FitsCentres count points cover → FitsCentres count points (grown_cover scale (shrunk_cover scale cover))
    fits cover h = record {
      as_many = length-map (map (shrunk_plane_ratio scale) cover.centres) (grown_plane_ratio scale) ∙ length-map cover.centres (shrunk_plane_ratio scale) ∙ h.as_many;
      denominators = All-map (λ c. pos 1 ≤ℤ c.w) (grown_plane_ratio scale) (map (shrunk_plane_ratio scale) cover.centres)
          (All-map (λ c. pos 1 ≤ℤ c.w) (shrunk_plane_ratio scale) cover.centres
          (All-weaker (λ c. pos 1 ≤ℤ c.w) (λ c. pos 1 ≤ℤ (pos scale *ℤ c.w)) (λ c m. at_least_one (positive_mul (above_zero scale l) (positive_from_one m))) cover.centres h.denominators));
      radius = record {
        numerator = nonneg_mul (le_from_lt (above_zero scale l)) h.radius.numerator;
        denominator = at_least_one (positive_mul (positive_from_one h.radius.denominator) (above_zero scale l));
      };
      near = All-weaker (λ p. Any (IsNear cover.radius p) cover.centres) (λ p. Any (IsNear (multiple scale (over scale cover.radius)) p) (regrown_all scale cover.centres)) (covered cover) points h.near;
    }
