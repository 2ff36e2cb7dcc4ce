use Rattle.std.proofs.Common.{◌≡◌, ◌<◌, length, map, [], ◌∷◌, true, false, ℤ, ◌+ℤ◌, ◌<ℤ◌, w64, to_z, of_z, arith, below_more}
use lib.Signed.{le_z}
use Rattle.std.proofs.lemmas.Int.{ints}
use Rattle.integers.proofs.Sizes.{wrap_is_in}
use Rattle.integers.proofs.MachineArithmetic.{given, with_inputs, codes, fits}
use Rattle.bounds_model.specs.Plane.{point_at, cross}
use Rattle.added_areas.specs.PlaneVectors.{vector_of}
use Rattle.added_areas.specs.AddedRows.{most_after}
use Rattle.polygon_check.proofs.PassedOver.{number_size, sum_is}
use Rattle.polygon_check.proofs.firsts.stay_below.Goals as goal

pub overflow_add-area : goal.overflow_add-area
overflow_add-area c =
    let below : c.others.other < length c.args.vectors.now = omega (arith, c.others-test.true, c.requires.next) in
    with_inputs (given c.area.ensures.small ∷ given (number_size c.args.vectors.now c.args.more c.others.other c.args.rows.now c.requires.short c.requires.rows c.requires.more below) ∷ []) (λ xs h a b. simp (a, b, codes) (fits xs h w64 _ tt))

-- tests of numbers that the machine keeps
at_most : {x y a b : ℤ} → le_z x y ≡ true → x ≡ a → y ≡ b → b <ℤ a → ⊥
at_most {x} {y} {a} {b} h e f k = grind (arith, ints)

above : {x y b : ℤ} → le_z x y ≡ false → y ≡ b → b <ℤ x
above {x} {y} {b} h f = grind (arith, ints)

pub returns-then-area-rows : goal.returns-then-area-rows
returns-then-area-rows c =
    let below : c.others.other < length c.args.vectors.now = omega (arith, c.others-test.true, c.requires.next) in
    let after : c.args.last < c.others.other = omega (arith, c.others.auto) in
    let sum = sum_is c.args.vectors.now c.args.last c.args.more c.others.other c.args.rows.now c.area.result c.requires.short c.requires.rows c.requires.more c.requires.last below c.area.ensures.small c.area.ensures.value in
    (λ yes. absurd (cc yes), λ all. absurd (at_most c.if-area-rows.true (wrap_is_in w64 c.requires.left tt) sum (all c.others.other c.others-test.true after)))

pub others-preserved : goal.others-preserved
others-preserved c =
    let vectors = map vector_of c.args.vectors.now in
    let below : c.others.other < length c.args.vectors.now = omega (arith, c.others-test.true, c.requires.next) in
    let sum = sum_is c.args.vectors.now c.args.last c.args.more c.others.other c.args.rows.now c.area.result c.requires.short c.requires.rows c.requires.more c.requires.last below c.area.ensures.small c.area.ensures.value in
    below_more (λ k. c.args.last < k → (cross (point_at vectors c.args.last) (point_at vectors k) +ℤ most_after vectors c.args.more k) <ℤ to_z w64 (of_z w64 c.args.left)) c.others.other c.others.invariant
    (λ after. above c.if-area-rows.false sum)
