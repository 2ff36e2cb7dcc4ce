use Rattle.std.proofs.Common.{◌≡◌, sym, subst, ◌+◌, ◌≤◌, length, map, arith}
use Rattle.added_areas.specs.PlaneVectors.{vector_of}
use Rattle.extremal_kgon.specs.Rows.{AreAreas}
use Rattle.extremal_kgon.proofs.AreaLists.{pairs_limit, areas-none, areas-more}
use Rattle.extremal_kgon.proofs.triangles.set_areas.Goals as goal

pub later-init : goal.later-init
later-init c = areas-none (map vector_of c.args.vectors.now) c.clear.new.self.items c.clear.ensures

pub push_areas-requires-clause-room : goal.push_areas-requires-clause-room
push_areas-requires-clause-room c = subst (λ n. n + c.later.i ≤ 8128) (sym c.later.invariant.as_many) (pairs_limit c.later.i (length c.args.vectors.now) c.later-test.true c.requires.few)

pub later-preserved : goal.later-preserved
later-preserved c = areas-more (map vector_of c.args.vectors.now) c.later.i c.later.areas.items c.push_areas.new.areas.items c.later.invariant c.push_areas.ensures

pub returns : goal.returns
returns c = let all : c.later.i ≡ length c.args.vectors.now = omega arith in subst (λ n. AreAreas (map vector_of c.args.vectors.now) n c.later.areas.items) all c.later.invariant
