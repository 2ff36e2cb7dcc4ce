use Rattle.std.proofs.Common.{◌≡◌, sym, subst, ap, ap₂, ◌∙◌, ℕ, ◌<◌, [], ◌∷◌, ◌++◌, List, length, map, pos, arith}
use Rattle.std.specs.Prelude.{slice_index_or}
use Rattle.integers.proofs.Narrowing.{kept64}
use Rattle.bounds_model.specs.Plane.{cross}
use Rattle.added_areas.specs.declared.vectors.PlaneVector.{PlaneVector}
use Rattle.added_areas.specs.PlaneVectors.{vector_of}
use Rattle.extremal_kgon.specs.Rows.{area_at, AddsAreas}
use Rattle.extremal_kgon.proofs.Reading.{read-map}
use Rattle.extremal_kgon.proofs.AreaLists.{adds-none, adds-more}
use Rattle.extremal_kgon.proofs.triangles.push_areas.Goals as goal

pub earlier-init : goal.earlier-init
earlier-init c = adds-none (area_at (map vector_of c.args.vectors.now) c.args.i) c.args.areas.now.items

pub push-requires : goal.push-requires
push-requires c = let room : length c.earlier.areas.items < 8128 = omega (arith, c.earlier.invariant.as_many, c.earlier-test.true, c.requires.room) in (omega arith, room)

-- the area over two of the vectors
area_read : (vectors : List PlaneVector) (i j : ℕ) → cross (vector_of (slice_index_or vectors j (record { x = pos 0; y = pos 0 }))) (vector_of (slice_index_or vectors i (record { x = pos 0; y = pos 0 }))) ≡ area_at (map vector_of vectors) i j
area_read vectors i j = sym (ap₂ cross (read-map vector_of vectors j (record { x = pos 0; y = pos 0 })) (read-map vector_of vectors i (record { x = pos 0; y = pos 0 })))

pub earlier-preserved : goal.earlier-preserved
earlier-preserved c =
    adds-more (area_at (map vector_of c.args.vectors.now) c.args.i) c.earlier.j c.args.areas.now.items c.earlier.areas.items c.push.new.self.items c.area.result c.earlier.invariant
    (c.push.ensures.items ∙ ap (λ u. c.earlier.areas.items ++ u ∷ []) (kept64 {z = c.area.result} c.area.type_inv)) (c.area.ensures.value ∙ area_read c.args.vectors.now c.args.i c.earlier.j) c.area.ensures.small

pub returns : goal.returns
returns c = let all : c.earlier.j ≡ c.args.i = omega arith in subst (λ n. AddsAreas (area_at (map vector_of c.args.vectors.now) c.args.i) n c.args.areas.now.items c.earlier.areas.items) all c.earlier.invariant
