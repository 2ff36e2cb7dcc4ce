-- What is left to ask of an answer on centres once its numbers are within their limits and its squares cover the points: the leaves.
use Rattle.std.proofs.Common.{◌≡◌, ◌↔◌, subst, ℕ, ◌≤◌, pos, ◌≤ℤ◌, List, length, All, Any, Bool, IsTrue, arith}
use Rattle.std.proofs.lemmas.List.Elements.{All-weaker}
use Rattle.bounds_model.specs.Plane.{PlanePoint, PlaneRatio}
use Rattle.bounds_model.specs.Ranges.{IsPlaneRatio, point_limit}
use Rattle.bounds_model.specs.Centres.{IsNear}
use Rattle.bounds_model.specs.CentresAnswer.{CentresAnswer, Leaf, PassesCentres, IsCentreWithinLimits, AreLeaves, side}
use Rattle.bounds_model.specs.FourAnswer.{AreFourLeaves, PassesFour}
use Rattle.corner_squares.proofs.SoundSquares.{AreSound}
use Rattle.centres_check.specs.CentresLimits.{IsSmallCentre, IsWithinLimits, NamesPoints}

-- squares within their limits that cover the points are as a checker asks
sound : (count : ℕ) (points : List PlanePoint) (a : CentresAnswer) → IsWithinLimits count points a → All (λ p. Any (IsNear a.size p) a.squares) points → AreSound count points a
sound count points a limits near = record {
  size = limits.radius.range;
  halves = limits.radius.halves;
  size_limit = limits.radius.limit;
  squares = All-weaker IsSmallCentre IsPlaneRatio (λ c small. small.range) a.squares limits.centres;
  centres = All-weaker IsSmallCentre IsCentreWithinLimits (λ c small. small.near) a.squares limits.centres;
  covers = record {
    as_many = limits.as_many;
    denominators = All-weaker IsSmallCentre (λ c. pos 1 ≤ℤ c.w) (λ c small. small.range.denominator) a.squares limits.centres;
    radius = limits.radius.range.lowest.not_negative;
    near = near;
  };
}

leaf_ranges : (points : List PlanePoint) (leaves : List Leaf) → length points ≤ 10000 → All (NamesPoints (length points)) leaves → All (λ leaf. (leaf.first ≤ point_limit) × (leaf.second ≤ point_limit)) leaves
leaf_ranges points leaves few names =
    All-weaker (NamesPoints (length points)) (λ leaf. (leaf.first ≤ point_limit) × (leaf.second ≤ point_limit)) (λ leaf h. (omega (arith, h.0, few), omega (arith, h.1, few))) leaves names

-- one to three squares pass where the leaves of their tree hold
pub centres_pass : (count : ℕ) (points : List PlanePoint) (a : CentresAnswer) → 1 ≤ count → length points ≤ 10000 → length a.squares ≤ 3 → length a.leaves ≤ 16 → AreSound count points a → All (NamesPoints (length points)) a.leaves
    → PassesCentres count points a ↔ AreLeaves (side a.size) count points a.leaves
centres_pass count points a some few squares leaves h names = (
  λ p. p.leaves,
  λ are. record {
    ranges = record {
      size = h.size;
      square_count = (let e = h.covers.as_many in record { at_least = omega (arith, e, some); at_most = squares });
      squares = h.squares;
      leaf_count = record { at_least = omega arith; at_most = leaves };
      leaves = leaf_ranges points a.leaves few names;
    };
    numbers = names;
    halves = h.halves;
    size_limit = h.size_limit;
    centres = h.centres;
    covers = h.covers;
    leaves = are;
  },
)

-- four squares pass where the leaves at each height hold
pub four_pass : (points : List PlanePoint) (a : CentresAnswer) → length points ≤ 10000 → length a.leaves ≤ 16000 → AreSound 4 points a → All (NamesPoints (length points)) a.leaves → PassesFour points a ↔ AreFourLeaves (side a.size) points a.leaves
four_pass points a few leaves h names = (
  λ p. p.leaves,
  λ are. record {
    ranges = record {
      size = h.size;
      square_count = (let e = h.covers.as_many in record { at_least = omega (arith, e); at_most = omega (arith, e) });
      squares = h.squares;
      leaf_count = record { at_least = omega arith; at_most = leaves };
      leaves = leaf_ranges points a.leaves few names;
    };
    numbers = names;
    halves = h.halves;
    size_limit = h.size_limit;
    centres = h.centres;
    covers = h.covers;
    leaves = are;
  },
)

-- the last test decides, with the answer's lists as slices
pub decided : {yes : Bool} {n : ℕ} (count : ℕ) (points : List PlanePoint) (a : CentresAnswer) (squares : List PlaneRatio) (leaves : List Leaf) (Passes : Type 0) (Leaves : ℕ → List Leaf → Type 0) → squares ≡ a.squares → leaves ≡ a.leaves
    → IsWithinLimits count points (record { size = a.size; squares = squares; leaves = leaves }) → All (λ p. Any (IsNear a.size p) squares) points → n ≡ side a.size → (IsTrue yes ↔ Leaves n leaves)
    → (AreSound count points a → All (NamesPoints (length points)) a.leaves → Passes ↔ Leaves (side a.size) a.leaves) → IsTrue yes ↔ Passes
decided {yes} {n} count points a squares leaves Passes Leaves same_squares same_leaves limits near side_is last pass =
    let within : IsWithinLimits count points a = subst (λ ls. IsWithinLimits count points (record { size = a.size; squares = a.squares; leaves = ls })) same_leaves (subst (λ ss. IsWithinLimits count points (record { size = a.size; squares = ss; leaves = leaves })) same_squares limits) in
    let all = pass (sound count points a within (subst (λ ss. All (λ p. Any (IsNear a.size p) ss) points) same_squares near)) within.numbers in
    let decides : IsTrue yes ↔ Leaves (side a.size) a.leaves = subst (λ ls. IsTrue yes ↔ Leaves (side a.size) ls) same_leaves (subst (λ m. IsTrue yes ↔ Leaves m leaves) side_is last) in
    (λ t. all.1 (decides.0 t), λ p. decides.1 (all.0 p))
