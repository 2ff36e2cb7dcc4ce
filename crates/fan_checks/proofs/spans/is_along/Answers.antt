use Rattle.std.proofs.Common.{◌≡◌, sym, ap, ◌∙◌, true, ℤ, pos, neg_ℤ, ◌+ℤ◌, ◌-ℤ◌, ◌*ℤ◌, ◌<ℤ◌, [], ◌∷◌, w64, to_z, of_z, arith}
use lib.Signed.{lt_z}
use Rattle.std.proofs.lemmas.Int.{ints}
use Rattle.integers.proofs.Identities.{den-ring, read, polys}
use Rattle.integers.proofs.Sizes.{wrap_is_in}
use Rattle.bounds_model.specs.Plane.{PlanePoint, dot, cross, quarter_turn}
use Rattle.answers.specs.Answers.{vector_of}
use Rattle.fan_checks.proofs.spans.is_along.Goals as goal

above : {x a : ℤ} → lt_z (pos 0) x ≡ true → x ≡ a → pos 0 <ℤ a
above {x} {a} h e = grind (arith, ints)

is_above : {x a : ℤ} → pos 0 <ℤ a → x ≡ a → lt_z (pos 0) x ≡ true
is_above {x} {a} h e = grind (arith, ints)

-- the cross product with a direction that is turned is the product
turned : (d u : PlanePoint) → cross d (quarter_turn u) ≡ dot d u
turned d u = plain d.x d.y u.x u.y
  where
    plain : (dx dy ux uy : ℤ) → dx *ℤ ux -ℤ dy *ℤ neg_ℤ uy ≡ dx *ℤ ux +ℤ dy *ℤ uy
    plain dx dy ux uy = read (dx ∷ dy ∷ ux ∷ uy ∷ []) (λ xs a b c d. simp (a, b, c, d, polys) (den-ring xs _ _ tt))

pub returns-then-cross_directions-eq0 : goal.returns-then-cross_directions-eq0
returns-then-cross_directions-eq0 c =
    let second = c.cross_directions-then-cross_directions-eq0 in
    let zero : to_z w64 (of_z w64 c.cross_directions.result) ≡ pos 0 = ap (to_z w64) c.if-cross_directions-eq0.true in
    let level = sym c.cross_directions.ensures.value ∙ sym (wrap_is_in w64 c.cross_directions.ensures.size tt) ∙ zero in
    let product = wrap_is_in w64 second.ensures.size tt ∙ second.ensures.value ∙ ap (cross (vector_of c.args.d)) c.quarter_turn.ensures.value ∙ turned (vector_of c.args.d) (vector_of c.args.u) in
    (λ same. (level, above same product), λ both. is_above both.1 product)
