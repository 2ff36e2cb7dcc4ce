-- The corners of a hull pass the checker's test.
use Rattle.std.proofs.Common.{◌≡◌, ◌≢◌, refl, sym, subst, ℕ, suc, ◌+◌, ◌<◌, arith, ℤ, pos, ◌≤ℤ◌, ◌<ℤ◌, List, [], ◌∷◌}
use Rattle.std.specs.Prelude.{AllPairs}
use mathlib.Core.Logic.{inr}
use Rattle.std.proofs.lemmas.Int.{ints}
use Rattle.std.proofs.lemmas.List.Elements.{All-weaker, All-cons, All-nil}
use Rattle.bounds_model.specs.Plane.{PlanePoint, IsBefore}
use Rattle.bounds_model.specs.Hull.{around, AreCorners}
use Rattle.bounds_model.specs.CornerTest.{CornersPass, FirstIsOnce}
use Rattle.model_laws.proofs.Turning.{edge_turn}

-- the first of different corners stands once
first_once : (a : PlanePoint) (rest : List PlanePoint) → AllPairs (λ p q. p ≢ q) (a ∷ rest) → FirstIsOnce (a ∷ rest)
first_once a rest h = λ k d low e. h 0 (suc k) d (omega arith) (after low) (sym e)
  where
    after : {k n : ℕ} → k < n → suc k < suc n
    after h = omega arith

-- a point is before those that are equal to it
before_same : (a p : PlanePoint) → p ≡ a → IsBefore a p
before_same a p e = subst (IsBefore a) (sym e) (inr (refl, least a.y))
  where
    least : (z : ℤ) → z ≤ℤ z
    least z = omega (arith, ints)

pub corners_pass : (points corners : List PlanePoint) → AreCorners points corners → CornersPass points corners
corners_pass points [] h = absurd h
corners_pass points (a ∷ []) h = record {
  from_least = record { listed = h.listed; least = All-weaker (λ p. p ≡ a) (IsBefore a) (before_same a) points h.only };
  once = λ k d low. absurd (none low);
  surround = h.only;
}
  where
    none : {k : ℕ} → k < 0 → ⊥
    none h = omega arith
corners_pass points (a ∷ b ∷ []) h = record {
  from_least = h.from_least;
  once = All-cons (λ c. c ≢ a) b [] (λ e. h.distinct (sym e)) (All-nil (λ c. c ≢ a));
  surround = record { to_greatest = h.to_greatest; on_line = h.on_line };
}
corners_pass points (a ∷ b ∷ c ∷ rest) h = record {
  from_least = h.from_least;
  once = first_once a (b ∷ c ∷ rest) h.distinct;
  surround = record {
    left_turns = λ i low. subst (λ z. pos 0 <ℤ z) (sym (edge_turn (around (a ∷ b ∷ c ∷ rest) i) (around (a ∷ b ∷ c ∷ rest) (i + 1)) (around (a ∷ b ∷ c ∷ rest) (i + 2)))) (h.left_turns i low);
    all_left = h.inside;
  };
}
