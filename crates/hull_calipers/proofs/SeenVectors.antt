-- Vectors as they are seen from a side.
use Rattle.std.proofs.Common.{◌≡◌, ℤ, neg_ℤ, ◌-ℤ◌, [], ◌∷◌, refl, sym, ap, ap₂, ◌∙◌}
use Rattle.integers.proofs.Identities.{den-ring, read, polys}
use Rattle.bounds_model.specs.Plane.{PlanePoint, vector, dot, cross, turn}
use Rattle.hull_calipers.specs.declared.sides.Side.{Side}
use Rattle.hull_calipers.specs.declared.sides.Side.TheVariants.{Right, Top, Left, Bottom}
use Rattle.hull_calipers.specs.ExtremeCorners.{aligned, turned, next_side, normal}

pub dot-turned : (side : Side) (d e : PlanePoint) → dot (turned side d) e ≡ dot d (aligned side e)
dot-turned Right d e = refl
dot-turned Top d e = read (d.x ∷ d.y ∷ e.x ∷ e.y ∷ []) (λ xs a b c d. simp (a, b, c, d, polys) (den-ring xs _ _ tt))
dot-turned Left d e = read (d.x ∷ d.y ∷ e.x ∷ e.y ∷ []) (λ xs a b c d. simp (a, b, c, d, polys) (den-ring xs _ _ tt))
dot-turned Bottom d e = read (d.x ∷ d.y ∷ e.x ∷ e.y ∷ []) (λ xs a b c d. simp (a, b, c, d, polys) (den-ring xs _ _ tt))

pub cross-aligned : (side : Side) (d e : PlanePoint) → cross (aligned side d) (aligned side e) ≡ cross d e
cross-aligned Right d e = refl
cross-aligned Top d e = read (d.x ∷ d.y ∷ e.x ∷ e.y ∷ []) (λ xs a b c d. simp (a, b, c, d, polys) (den-ring xs _ _ tt))
cross-aligned Left d e = read (d.x ∷ d.y ∷ e.x ∷ e.y ∷ []) (λ xs a b c d. simp (a, b, c, d, polys) (den-ring xs _ _ tt))
cross-aligned Bottom d e = read (d.x ∷ d.y ∷ e.x ∷ e.y ∷ []) (λ xs a b c d. simp (a, b, c, d, polys) (den-ring xs _ _ tt))

-- along an edge, a direction gains what it gains along the edge as it is seen
pub dot-edge : (side : Side) (d a b : PlanePoint) → dot (turned side d) b -ℤ dot (turned side d) a ≡ dot d (aligned side (vector a b))
dot-edge side d a b = difference (turned side d) a b ∙ dot-turned side d (vector a b)
  where
    difference : (w a b : PlanePoint) → dot w b -ℤ dot w a ≡ dot w (vector a b)
    difference w a b = read (w.x ∷ w.y ∷ a.x ∷ a.y ∷ b.x ∷ b.y ∷ []) (λ xs a b c d e f. simp (a, b, c, d, e, f, polys) (den-ring xs _ _ tt))

pub dot-normal : (e v : PlanePoint) → dot (normal e) v ≡ neg_ℤ (cross e v)
dot-normal e v = read (e.x ∷ e.y ∷ v.x ∷ v.y ∷ []) (λ xs a b c d. simp (a, b, c, d, polys) (den-ring xs _ _ tt))

pub cross-normal : (d e : PlanePoint) → cross d (normal e) ≡ neg_ℤ (dot d e)
cross-normal d e = read (d.x ∷ d.y ∷ e.x ∷ e.y ∷ []) (λ xs a b c d. simp (a, b, c, d, polys) (den-ring xs _ _ tt))

-- the opposite side sees the opposite value
pub opposite_dot : (side : Side) (v p : PlanePoint) → dot (turned (next_side (next_side side)) v) p ≡ neg_ℤ (dot (turned side v) p)
opposite_dot Right v p = read (v.x ∷ v.y ∷ p.x ∷ p.y ∷ []) (λ xs a b c d. simp (a, b, c, d, polys) (den-ring xs _ _ tt))
opposite_dot Top v p = read (v.x ∷ v.y ∷ p.x ∷ p.y ∷ []) (λ xs a b c d. simp (a, b, c, d, polys) (den-ring xs _ _ tt))
opposite_dot Left v p = read (v.x ∷ v.y ∷ p.x ∷ p.y ∷ []) (λ xs a b c d. simp (a, b, c, d, polys) (den-ring xs _ _ tt))
opposite_dot Bottom v p = read (v.x ∷ v.y ∷ p.x ∷ p.y ∷ []) (λ xs a b c d. simp (a, b, c, d, polys) (den-ring xs _ _ tt))

-- turned vectors turn by as much
pub turned-cross : (side : Side) (d n : PlanePoint) → cross (turned side d) (turned side n) ≡ cross d n
turned-cross Right d n = refl
turned-cross Top d n = read (d.x ∷ d.y ∷ n.x ∷ n.y ∷ []) (λ xs a b c d. simp (a, b, c, d, polys) (den-ring xs _ _ tt))
turned-cross Left d n = read (d.x ∷ d.y ∷ n.x ∷ n.y ∷ []) (λ xs a b c d. simp (a, b, c, d, polys) (den-ring xs _ _ tt))
turned-cross Bottom d n = read (d.x ∷ d.y ∷ n.x ∷ n.y ∷ []) (λ xs a b c d. simp (a, b, c, d, polys) (den-ring xs _ _ tt))

-- a vector seen from a known side
pub seen_from : (side s : Side) (a b : PlanePoint) (x y : ℤ) → side ≡ s → x ≡ (aligned s (vector a b)).x → y ≡ (aligned s (vector a b)).y → (let r : PlanePoint = record { x = x; y = y } in r) ≡ aligned side (vector a b)
seen_from side s a b x y e p q = ap₂ (λ x y. let r : PlanePoint = record { x = x; y = y } in r) p q ∙ same s ∙ ap (λ s. aligned s (vector a b)) (sym e)
  where
    same : (s : Side) → (let r : PlanePoint = record { x = (aligned s (vector a b)).x; y = (aligned s (vector a b)).y } in r) ≡ aligned s (vector a b)
    same s = refl
