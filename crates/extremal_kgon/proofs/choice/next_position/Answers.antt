use Rattle.std.proofs.Common.{◌≡◌, sym, subst, ◌+◌, ◌<◌, ◌≤◌, map, [], ◌∷◌, true, false, ℤ, ◌≤ℤ◌, ◌<ℤ◌, w64, arith}
use lib.Signed.{le_z}
use Rattle.std.proofs.lemmas.Int.{ints}
use Rattle.std.proofs.lemmas.List.{length-map}
use Rattle.integers.proofs.Sizes.{wrap_is_in}
use Rattle.integers.proofs.MachineArithmetic.{given, with_inputs, codes, fits}
use Rattle.added_areas.specs.PlaneVectors.{vector_of}
use Rattle.extremal_kgon.proofs.NextPositions.{none-before, none-more, next-found, next-some, number_size, sum_is, as_kept, from_kept}
use Rattle.extremal_kgon.proofs.choice.next_position.Goals as goal

pub later-init : goal.later-init
later-init c = as_kept (map vector_of c.args.vectors.now) c.args.last c.args.more (c.args.last + 1) c.args.covered c.args.size c.requires.covered c.requires.size (none-before (map vector_of c.args.vectors.now) c.args.last c.args.more c.args.covered c.args.size)

pub overflow_add-with_next-in-later : goal.overflow_add-with_next-in-later
overflow_add-with_next-in-later c = with_inputs (given c.requires.covered ∷ given c.area.ensures.small ∷ given (number_size c.args.vectors.now c.args.more c.later.next c.args.rows.now c.requires.short c.requires.rows c.requires.more c.later-test.true) ∷ []) (λ xs h a b d. simp (a, b, d, codes) (fits xs h w64 _ tt))

-- tests of numbers that the machine keeps
at_most : {x y a b : ℤ} → le_z x y ≡ true → x ≡ a → y ≡ b → a ≤ℤ b
at_most {x} {y} {a} {b} h e f = grind (arith, ints)

above : {x y a b : ℤ} → le_z x y ≡ false → x ≡ a → y ≡ b → b <ℤ a
above {x} {y} {a} {b} h e f = grind (arith, ints)

pub returns-then-with_next-rows : goal.returns-then-with_next-rows
returns-then-with_next-rows c =
    let sum = sum_is c.args.vectors.now c.args.last c.args.more c.later.next c.args.rows.now c.args.covered c.area.result c.requires.short c.requires.rows c.requires.more c.requires.last c.later-test.true c.requires.covered c.area.ensures.small c.area.ensures.value in
    next-found (map vector_of c.args.vectors.now) c.args.last c.args.more c.args.covered c.args.size c.later.next (from_kept (map vector_of c.args.vectors.now) c.args.last c.args.more c.later.next c.args.covered c.args.size c.requires.covered c.requires.size c.later.invariant) (omega (arith, c.later.auto)) (subst (λ n. c.later.next < n) (sym (length-map c.args.vectors.now vector_of)) c.later-test.true) c.requires.reaches
    (at_most c.if-with_next-rows.true (wrap_is_in w64 c.requires.size tt) sum)

pub later-preserved : goal.later-preserved
later-preserved c =
    let sum = sum_is c.args.vectors.now c.args.last c.args.more c.later.next c.args.rows.now c.args.covered c.area.result c.requires.short c.requires.rows c.requires.more c.requires.last c.later-test.true c.requires.covered c.area.ensures.small c.area.ensures.value in
    as_kept (map vector_of c.args.vectors.now) c.args.last c.args.more (c.later.next + 1) c.args.covered c.args.size c.requires.covered c.requires.size
    (none-more (map vector_of c.args.vectors.now) c.args.last c.args.more c.args.covered c.args.size c.later.next (from_kept (map vector_of c.args.vectors.now) c.args.last c.args.more c.later.next c.args.covered c.args.size c.requires.covered c.requires.size c.later.invariant) (above c.if-with_next-rows.false (wrap_is_in w64 c.requires.size tt) sum))

pub unreachable-requires : goal.unreachable-requires
unreachable-requires c =
    next-some (map vector_of c.args.vectors.now) c.args.last c.args.more c.args.covered c.args.size c.later.next (from_kept (map vector_of c.args.vectors.now) c.args.last c.args.more c.later.next c.args.covered c.args.size c.requires.covered c.requires.size c.later.invariant) (subst (λ n. c.args.last < n) (sym (length-map c.args.vectors.now vector_of)) c.requires.last) (subst (λ n. n ≤ c.later.next) (sym (length-map c.args.vectors.now vector_of)) c.later-test.false) c.requires.unfinished c.requires.reaches
