-- Between two sides the least one is found by halving, in as many tries as the distance has binary digits.
use Rattle.std.proofs.Common.{◌≡◌, ◌⊎◌, inl, inr, refl, sym, subst, ap, ℕ, zero, suc, ◌+◌, ◌-◌, ◌*◌, ◌/◌, ◌^◌, ◌<◌, ◌≤◌, List, [], map, All, arith}
use Rattle.std.proofs.Math.Nat.{mul-le-mul_right}
use Rattle.std.proofs.lemmas.List.Elements.{All-nil}
use Rattle.bounds_model.specs.Plane.{PlanePoint}
use Rattle.bounds_model.specs.CentresAnswer.{AreLeaves}
use Rattle.answers.specs.Answers.{leaf_of}
use Rattle.corner_squares.specs.declared.square.Square.{Square}
use Rattle.corner_squares.specs.declared.bounds.Bounds.{Bounds}
use Rattle.corner_squares.specs.Extents.{IsRestBox}
use Rattle.corner_squares.specs.Trees.{NamesPoints, AreLeavesAt, nodes}
use Rattle.corner_squares.proofs.Trees.{tree_leaves}
use Rattle.p_centres.specs.declared.sides.Bracket.{Bracket}
use Rattle.p_centres.specs.Surveys.{IsFirstFar}
use Rattle.p_centres.specs.Covers.{IsFirstRefuted}
use Rattle.p_centres.specs.Sides.{IsBracket, IsStart}
use Rattle.corner_squares.specs.Covers.{IsCover}
use Rattle.corner_squares.proofs.Placing.{cover_by_more, cover_with_one_more}

-- ---- how many tries are left

-- so many tries more find the side, and n points are read in 21 passes at most in each
pub record HasTries (n first now low high : ℕ) : Type 0 where
  pub tries : ℕ
  pub enough : high - low < 2 ^ tries
  pub steps : now + tries * (21 * n) ≤ first + 428 * n

pub tries_at_first : (n first seen now low high : ℕ) → low ≤ high → high ≤ 400000 → seen ≤ first + 8 * n → now ≤ seen + 21 * n → HasTries n first now low high
tries_at_first n first seen now low high order limit h k = record { tries = 19; enough = omega (arith, limit); steps = omega (arith, h, k) }

pub one_try_less : (n first now then low high low_then high_then side : ℕ) → HasTries n first now low high → low < high → side ≡ low + (high - low) / 2
    → ((low_then ≡ low) × (high_then ≡ side)) ⊎ ((low_then ≡ side + 1) × (high_then ≡ high)) → then ≤ now + 21 * n → HasTries n first then low_then high_then
one_try_less n first now then low high low_then high_then side h some is half more = at h.tries h.enough h.steps
  where
    at : (t : ℕ) → high - low < 2 ^ t → now + t * (21 * n) ≤ first + 428 * n → HasTries n first then low_then high_then
    at zero e s = absurd (omega (arith, e, some))
    at (suc t) e s =
        let power : 2 ^ suc t ≡ 2 * 2 ^ t = omega arith in
        record { tries = t; enough = halved (2 ^ t) (subst (λ m. high - low < m) power e); steps = omega (arith, s, more) }
      where
        halved : (m : ℕ) → high - low < 2 * m → high_then - low_then < m
        halved m e = elim half [ inl h' ↦ (let a = h'.0 in let b = h'.1 in omega (arith, e, some, is, a, b)) | inr h' ↦ (let a = h'.0 in let b = h'.1 in omega (arith, e, some, is, a, b)) ]

pub steps_in_all : (n first now low high : ℕ) → HasTries n first now low high → now ≤ first + 428 * n
steps_in_all n first now low high h = let s = h.steps in omega (arith, s)

-- ---- brackets

-- one square as wide as the box
pub bracket_at_first : (points : List PlanePoint) (count : ℕ) (bounds : Bounds) (b : Bracket) → 1 ≤ count → IsRestBox points [] bounds → IsStart bounds b → IsBracket points count b
bracket_at_first points count bounds b some box h = record {
  order = (let z = h.low in omega (arith, z));
  limit = h.limit;
  cover = cover_by_more points b.high 1 count b.squares.items some
      (cover_with_one_more points b.high [] b.squares.items bounds (record { left = bounds.across.low; bottom = bounds.up.low; side = b.high }) (All-nil _) (box, h.no_longer)
      (record { left = refl; bottom = refl; wide = refl }) h.squares);
  names = subst (λ ls. All (NamesPoints points) (map leaf_of ls)) (sym h.leaves) (All-nil (NamesPoints points));
  leaves = subst (λ low. AreLeaves low count points (map leaf_of b.leaves.items)) (sym h.low) (ap (map leaf_of) h.leaves);
  earliest = λ _. subst (λ ls. All (IsFirstFar points [] (b.low - 1)) (map leaf_of ls)) (sym h.leaves) (All-nil (IsFirstFar points [] (b.low - 1)));
}

-- the squares of a side that serves
pub bracket_lowered : (points : List PlanePoint) (count side : ℕ) (old new : Bracket) → 1 ≤ count → IsBracket points count old → old.low ≤ side → side < old.high → new.low ≡ old.low → new.high ≡ side → new.leaves ≡ old.leaves
    → IsCover points side (0 + (count - 1) + 1) new.squares.items → IsBracket points count new
bracket_lowered points count side old new some h from to is_low is_high same cover = record {
  order = omega (arith, from, is_low, is_high);
  limit = (let l = h.limit in omega (arith, to, is_high, l));
  cover = subst (λ high. IsCover points high count new.squares.items) (sym is_high) (cover_by_more points side (0 + (count - 1) + 1) count new.squares.items (omega (arith, some)) cover);
  names = subst (λ ls. All (NamesPoints points) (map leaf_of ls)) (sym (ap (λ ls. ls.items) same)) h.names;
  leaves = subst (λ low. AreLeaves low count points (map leaf_of new.leaves.items)) (sym is_low) (subst (λ ls. AreLeaves old.low count points (map leaf_of ls)) (sym (ap (λ ls. ls.items) same)) h.leaves);
  earliest = λ one. subst (λ low. All (IsFirstFar points [] (low - 1)) (map leaf_of new.leaves.items)) (sym is_low) (subst (λ ls. All (IsFirstFar points [] (old.low - 1)) (map leaf_of ls)) (sym (ap (λ ls. ls.items) same)) (h.earliest one));
}

-- the leaves of a side that does not
pub bracket_raised : (points : List PlanePoint) (count side : ℕ) (placed : List Square) (old new : Bracket) → IsBracket points count old → old.low ≤ side → side < old.high → new.low ≡ side + 1 → new.high ≡ old.high → new.squares ≡ old.squares
    → IsFirstRefuted points side (count - 1) [] placed [] new.leaves.items → IsBracket points count new
bracket_raised points count side placed old new h from to is_low is_high same refuted = record {
  order = omega (arith, to, is_low, is_high);
  limit = (let l = h.limit in omega (arith, is_high, l));
  cover = subst (λ high. IsCover points high count new.squares.items) (sym is_high) (subst (λ ss. IsCover points old.high count ss) (sym (ap (λ ss. ss.items) same)) h.cover);
  names = λ k d below. (leaves.each k d below).names;
  leaves = subst (λ low. AreLeaves low count points (map leaf_of new.leaves.items)) (sym one_more) (tree_leaves side count points (map leaf_of new.leaves.items) leaves);
  earliest = λ one.
      let first = refuted.earliest (omega (arith, one)) in
      subst (λ limit. All (IsFirstFar points [] limit) (map leaf_of new.leaves.items)) (omega (arith, is_low)) (subst (λ ls. All (IsFirstFar points [] side) (map leaf_of ls)) (sym first.1) first.2);
}
  where
    leaves : AreLeavesAt side (count - 1) points points (map leaf_of new.leaves.items)
    leaves = subst (λ ls. AreLeavesAt side (count - 1) points points (map leaf_of ls)) (sym refuted.refuted.appended) refuted.refuted.refuted

    one_more : new.low ≡ suc side
    one_more = omega (arith, is_low)

-- a tree for up to three squares has a depth of at most 2
each_depth : (P : ℕ → Type 0) → P 0 → P 1 → P 2 → (count : ℕ) → 1 ≤ count → count ≤ 3 → P (count - 1)
each_depth P p0 p1 p2 zero some few = absurd (omega (arith, some))
each_depth P p0 p1 p2 (suc zero) some few = p0
each_depth P p0 p1 p2 (suc (suc zero)) some few = p1
each_depth P p0 p1 p2 (suc (suc (suc zero))) some few = p2
each_depth P p0 p1 p2 (suc (suc (suc (suc count)))) some few = absurd (omega (arith, few))

pub room_for_tree : (count : ℕ) → 1 ≤ count → count ≤ 3 → 4 ^ (count - 1) ≤ 16
room_for_tree = each_depth (λ depth. 4 ^ depth ≤ 16) (omega arith) (omega arith) (omega arith)

few_nodes : (count : ℕ) → 1 ≤ count → count ≤ 3 → nodes (count - 1) ≤ 21
few_nodes = each_depth (λ depth. nodes depth ≤ 21) (omega arith) (omega arith) (omega arith)

pub tree_steps : (count n now then : ℕ) → 1 ≤ count → count ≤ 3 → then ≤ now + nodes (count - 1) * n → then ≤ now + 21 * n
tree_steps count n now then some few h = let l = mul-le-mul_right n (few_nodes count some few) in omega (arith, h, l)
