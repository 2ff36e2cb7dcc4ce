-- The greatest and the least level of points, one point after another.
use Rattle.std.proofs.Common.{◌≡◌, sym, subst, ap, ap₂, ◌∙◌, ℕ, ◌+◌, ◌*◌, ◌<◌, ◌^◌, ℤ, List, map, take}
use Rattle.std.specs.Prelude.{slice_get, Some}
use Rattle.std.specs.Int.{int_max, int_min}
use Rattle.std.proofs.lemmas.List.{length-map}
use Rattle.std.proofs.lemmas.Option.{slice_get_within}
use Rattle.integers.specs.Size.{Size}
use Rattle.integers.proofs.Sizes.{size_more, wrap_is}
use Rattle.integers.proofs.Extremes.{greatest-take_one, least-take_one, greatest-take_more, least-take_more}
use Rattle.bounds_model.specs.Space.{SpacePoint, SpaceRatio, origin}
use Rattle.bounds_model.specs.ShellAnswer.{power}
use Rattle.kernel_laws.proofs.Points.{point_at_place}
use Rattle.ring_check.specs.declared.levels.Levels.{Levels}
use Rattle.ring_check.specs.Rings.{IsCentre, HasLevelSize, AreLevels}
use Rattle.ring_check.proofs.RingNumbers.{back128, size_max, size_min}

-- levels within the limits of shells
pub wide_level : {c : SpaceRatio} {z : ℤ} → IsCentre (2 ^ 50) c → HasLevelSize c z → Size (2 ^ 90) z
wide_level centre size = size_more (size (2 ^ 50) centre) tt

-- and within those of annuli
pub narrow_level : {c : SpaceRatio} {z : ℤ} → IsCentre (2 ^ 42) c → HasLevelSize c z → Size (2 ^ 80) z
narrow_level centre size = size_more (size (2 ^ 42) centre) tt

-- of one point
pub one_level : {P : Type 0} (place : P → SpacePoint) (c : SpaceRatio) (points : List P) (p : P) (v : ℤ) → IsCentre (2 ^ 50) c → slice_get points 0 ≡ Some p → v ≡ power c (place p) → HasLevelSize c v
    → AreLevels c (take 1 (map place points)) (record { greatest = back128 v; least = back128 v })
one_level place c points p v centre is value size =
    let some = subst (λ n. 0 < n) (sym (length-map points place)) (slice_get_within points 0 p is) in
    let wraps = wrap_is (wide_level centre size) tt in
    let here = wraps ∙ value ∙ ap (power c) (sym (point_at_place place points 0 p is)) in
    record {
      greatest = here ∙ sym (greatest-take_one (power c) (map place points) origin some);
      least = here ∙ sym (least-take_one (power c) (map place points) origin some);
      greatest_size = subst (HasLevelSize c) (sym wraps) size;
      least_size = subst (HasLevelSize c) (sym wraps) size;
    }

-- of one point more
pub more_levels : {P : Type 0} (place : P → SpacePoint) (c : SpaceRatio) (points : List P) (i : ℕ) (h : Levels) (p : P) (v m n : ℤ) → IsCentre (2 ^ 50) c → 0 < i → slice_get points i ≡ Some p
    → AreLevels c (take i (map place points)) h → v ≡ power c (place p) → HasLevelSize c v → m ≡ int_max (back128 h.greatest) (back128 v) → n ≡ int_min (back128 h.least) (back128 v)
    → AreLevels c (take (i + 1) (map place points)) (record { greatest = back128 m; least = back128 n })
more_levels place c points i h p v m n centre some is levels value size greater smaller =
    let below = subst (λ n. i < n) (sym (length-map points place)) (slice_get_within points i p is) in
    let here = value ∙ ap (power c) (sym (point_at_place place points i p is)) in
    let wide = wrap_is (wide_level centre size) tt in
    let m_is = greater ∙ ap₂ int_max (wrap_is (wide_level centre levels.greatest_size) tt) wide in
    let n_is = smaller ∙ ap₂ int_min (wrap_is (wide_level centre levels.least_size) tt) wide in
    let m_size : HasLevelSize c m = λ limit k. subst (Size (limit * 2 ^ 38)) (sym m_is) (size_max (levels.greatest_size limit k) (size limit k)) in
    let n_size : HasLevelSize c n = λ limit k. subst (Size (limit * 2 ^ 38)) (sym n_is) (size_min (levels.least_size limit k) (size limit k)) in
    let m_wraps = wrap_is (wide_level centre m_size) tt in
    let n_wraps = wrap_is (wide_level centre n_size) tt in
    record {
      greatest = m_wraps ∙ m_is ∙ ap₂ int_max levels.greatest here ∙ sym (greatest-take_more (power c) (map place points) i origin some below);
      least = n_wraps ∙ n_is ∙ ap₂ int_min levels.least here ∙ sym (least-take_more (power c) (map place points) i origin some below);
      greatest_size = subst (HasLevelSize c) (sym m_wraps) m_size;
      least_size = subst (HasLevelSize c) (sym n_wraps) n_size;
    }
