use Rattle.std.proofs.Common.{◌≡◌, refl, sym, subst, ap, ◌∙◌, ◌↔◌, ℕ, ◌*◌, ◌<◌, ◌≤◌, IsTrue, ℤ, pos, ◌≤ℤ◌, length, take, All, w64, arith}
use Rattle.std.specs.Prelude.{nat_abs, slice_index_or}
use Rattle.std.proofs.lemmas.Int.{ints}
use Rattle.std.proofs.lemmas.List.{length-take-le}
use Rattle.integers.proofs.Sizes.{wrap_is_in}
use Rattle.bounds_model.specs.KgonAnswer.{pairs_before}
use Rattle.answers.specs.Answers.{polygon_of}
use Rattle.polygon_check.proofs.EarlierPotentials.{earlier_within, earlier_smaller}
use Rattle.polygon_check.proofs.polygons.are_earlier_below.Goals as goal

at_most : {m n : ℕ} → m < n → m ≤ n
at_most h = omega arith

-- a number that is not below 0 is its magnitude
magnitude : {a : ℤ} {m : ℕ} → pos 0 ≤ℤ a → m ≡ nat_abs a → a ≡ pos m
magnitude {a} {m} h e = omega (arith, ints)

pub slice_bounds-are_below-end : goal.slice_bounds-are_below-end
slice_bounds-are_below-end c =
    let a = c.args.a.now in
    let first = slice_index_or a.chosen.items 0 0 in
    let is = c.potentials_before-earlier.ensures ∙ ap (λ xs. a.layers * pairs_before (length a.corners) (slice_index_or xs 0 0)) c.deref.ensures.0 in
    let within = earlier_within a.layers (length a.corners) first (length a.potentials) c.requires.as_many (at_most (c.requires.chosen 0 0 (omega (arith, c.requires.some)))) in
    sym (length-take-le c.potentials_before-earlier.result c.as_slice.result.now (subst (λ xs. c.potentials_before-earlier.result ≤ length xs) (sym c.as_slice.ensures.items) (subst (λ n. n ≤ length a.potentials) (sym is) within)))

pub returns : goal.returns
returns c =
    let a = c.args.a.now in
    let us = a.potentials in
    let first = slice_index_or a.chosen.items 0 0 in
    let m = c.from-limit.result in
    let is = c.potentials_before-earlier.ensures ∙ ap (λ xs. a.layers * pairs_before (length a.corners) (slice_index_or xs 0 0)) c.deref.ensures.0 in
    let limit_is = magnitude c.requires.not_negative (c.from-limit.ensures ∙ c.unsigned_abs.ensures.value ∙ ap nat_abs (wrap_is_in w64 c.requires.small tt)) in
    let law = earlier_smaller (polygon_of a) us c.args.area m first refl limit_is c.requires.as_many (at_most (c.requires.chosen 0 0 (omega (arith, c.requires.some)))) in
    let here = subst (λ n. IsTrue c.are_below.result ↔ All (λ u. u < m) (take n us)) is (subst (λ xs. IsTrue c.are_below.result ↔ All (λ u. u < m) (take c.potentials_before-earlier.result xs)) c.as_slice.ensures.items c.are_below.ensures) in
    (λ y. law.0 (here.0 y), λ h. here.1 (law.1 h))
