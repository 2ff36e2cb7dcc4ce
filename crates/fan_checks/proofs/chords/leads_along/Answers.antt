use Rattle.std.proofs.Common.{sym, ◌∙◌, ℕ, ◌^◌, ◌<◌, pos, ◌+ℤ◌, ◌≤ℤ◌, FitsSigned, w32, w64, to_z-of_z, arith}
use Rattle.std.proofs.lemmas.Int.{ints, to_z_pos}
use mir.Syntax.{w128}
use Rattle.integers.proofs.Sizes.{size_fits_in}
use Rattle.directions.proofs.Bounds.{size_in}
use Rattle.fan_checks.proofs.chords.leads_along.Goals as goal

pub product-requires-clause-k : goal.product-requires-clause-k
product-requires-clause-k c =
    let size = size_in c.requires.short.k in
    let wide : FitsSigned w128 c.args.chord.k = size_fits_in w128 size tt in
    let narrow : FitsSigned w64 c.args.chord.k = size_fits_in w64 size tt in
    simp to_z-of_z size

pub product-requires-clause-x : goal.product-requires-clause-x
product-requires-clause-x c =
    let size = size_in c.requires.along in
    let wide : FitsSigned w128 c.args.along = size_fits_in w128 size tt in
    let narrow : FitsSigned w64 c.args.along = size_fits_in w64 size tt in
    simp to_z-of_z size

pub returns : goal.returns
returns c =
    let k = size_in c.requires.short.k in
    let x = size_in c.requires.along in
    let wide_k : FitsSigned w128 c.args.chord.k = size_fits_in w128 k tt in
    let narrow_k : FitsSigned w64 c.args.chord.k = size_fits_in w64 k tt in
    let wide_x : FitsSigned w128 c.args.along = size_fits_in w128 x tt in
    let narrow_x : FitsSigned w64 c.args.along = size_fits_in w64 x tt in
    let way : FitsSigned w64 c.weighted-way.result = size_fits_in w64 c.weighted-way.ensures.size tt in
    let there : FitsSigned w64 c.product.result = size_fits_in w64 c.product.ensures.size tt in
    let a : FitsSigned w32 c.args.a = size_fits_in w32 c.requires.a tt in
    let b : FitsSigned w32 c.args.b = size_fits_in w32 c.requires.b tt in
    let e : FitsSigned w32 c.args.c = size_fits_in w32 c.requires.c tt in
    let same = simp to_z-of_z at c.are_equal.ensures in
    let is_there = simp to_z-of_z at c.product.ensures.value in
    let beta : c.args.chord.beta < 2 ^ 63 = below c.args.chord.beta c.args.chord.gamma c.requires.short.weights in
    let gamma : c.args.chord.gamma < 2 ^ 63 = other_below c.args.chord.beta c.args.chord.gamma c.requires.short.weights in
    let is_way = simp (to_z_pos w64 c.args.chord.beta beta, to_z_pos w64 c.args.chord.gamma gamma, to_z-of_z) at c.weighted-way.ensures.value in (
      λ yes. sym is_way ∙ same.0 yes ∙ is_there,
      λ e. same.1 (is_way ∙ e ∙ sym is_there),
    )
  where
    below : (x y : ℕ) → (pos x +ℤ pos y) ≤ℤ pos (2 ^ 39) → x < 2 ^ 63
    below x y h = omega (arith, ints)

    other_below : (x y : ℕ) → (pos x +ℤ pos y) ≤ℤ pos (2 ^ 39) → y < 2 ^ 63
    other_below x y h = omega (arith, ints)
