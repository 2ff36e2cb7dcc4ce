-- A chord across a direction, coordinate by coordinate.
use Rattle.std.proofs.Common.{◌≡◌, ◌↔◌, sym, subst, ap, ◌-ℤ◌, ◌+ℤ◌, ◌*ℤ◌, Some}
use Rattle.std.specs.Prelude.{List, slice_get}
use Rattle.bounds_model.specs.Plane.{PlanePoint, point_at, vector, plus, times, quarter_turn}
use Rattle.bounds_model.specs.ParallelogramAnswer.{Chord, IsAcross}
use Rattle.directions.proofs.Reading.{point_is}

-- from p, with its weights to q and r, the chord leads along v
abbrev Leads : Chord → PlanePoint → PlanePoint → PlanePoint → PlanePoint → Type 0
Leads chord p q r v = plus (times chord.beta (vector p q)) (times chord.gamma (vector p r)) ≡ times chord.k v

-- it does in both coordinates
pub record LeadsInBoth (chord : Chord) (p q r v : PlanePoint) : Type 0 where
  pub x : chord.beta *ℤ (q.x -ℤ p.x) +ℤ chord.gamma *ℤ (r.x -ℤ p.x) ≡ chord.k *ℤ v.x
  pub y : chord.beta *ℤ (q.y -ℤ p.y) +ℤ chord.gamma *ℤ (r.y -ℤ p.y) ≡ chord.k *ℤ v.y

in_both : (chord : Chord) (p q r v : PlanePoint) → Leads chord p q r v ↔ LeadsInBoth chord p q r v
in_both chord p q r v = (λ e. record { x = ap (λ z. z.x) e; y = ap (λ z. z.y) e }, λ h. λ i. record { x = h.x i; y = h.y i })

-- the chord is across a direction where it leads along the turned direction, in both coordinates
pub across_parts : (points : List PlanePoint) (d v : PlanePoint) (chord : Chord) (p q r : PlanePoint) → slice_get points chord.a ≡ Some p → slice_get points chord.b ≡ Some q → slice_get points chord.c ≡ Some r → v ≡ quarter_turn d
    → IsAcross points d chord ↔ LeadsInBoth chord p q r v
across_parts points d v chord p q r ha hb hc turned =
    subst (λ o. Leads chord o (point_at points chord.b) (point_at points chord.c) (quarter_turn d) ↔ LeadsInBoth chord p q r v) (sym (point_is points chord.a p ha))
    (subst (λ o. Leads chord p o (point_at points chord.c) (quarter_turn d) ↔ LeadsInBoth chord p q r v) (sym (point_is points chord.b q hb))
    (subst (λ o. Leads chord p q o (quarter_turn d) ↔ LeadsInBoth chord p q r v) (sym (point_is points chord.c r hc))
    (subst (λ o. Leads chord p q r o ↔ LeadsInBoth chord p q r v) turned (in_both chord p q r v))))
