use Rattle.std.proofs.Common.{◌≡◌, ◌∙◌, ap}
use Rattle.bounded_coords.specs.Clouds.{points_of}
use Rattle.min_shell.specs.declared.vertices.Vertex.{Vertex}
use Rattle.min_shell.proofs.KeptAxes.{flat_yz, flat_z_first, flat_first_second}
use Rattle.min_shell.proofs.bases.Basis.of.Goals as goal

pub returns-clause-first : goal.returns-clause-first
returns-clause-first c = c.turned-3.ensures.first (c.turned-2.ensures.second c.turned.ensures.third)

pub returns-clause-second : goal.returns-clause-second
returns-clause-second c = c.turned-3.ensures.second c.turned-2.ensures.third

-- vertices that are the same have the same vector
vector_is : {v w : Vertex} → v ≡ w → v.vector ≡ w.vector
vector_is = ap (λ v. v.vector)

-- each turn keeps the first axis, where its coordinate is determined, and passes the other two on
pub returns-clause-axes : goal.returns-clause-axes
returns-clause-axes c =
    let points = points_of c.args.cloud in
    let one = c.turned.result in
    let two = c.turned-2.result in
    let y_is = vector_is c.turned.ensures.next ∙ c.axes.ensures.y in
    let z_is = vector_is c.turned.ensures.after ∙ c.axes.ensures.z in
    let z_next = vector_is c.turned-2.ensures.next ∙ z_is in
    record {
      x = λ n h. vector_is (c.turned-3.ensures.next ∙ c.turned-2.ensures.after ∙ c.turned.ensures.remains (flat_yz points n _ _ h c.axes.ensures.y c.axes.ensures.z)) ∙ c.axes.ensures.x;
      y = λ n h. vector_is (c.turned-3.ensures.after ∙ c.turned-2.ensures.remains (flat_z_first points n one.first one.second one.third h y_is z_is c.turned.ensures.third)) ∙ y_is;
      z = λ n h. vector_is (c.turned-3.ensures.remains (flat_first_second points n two.first two.second two.third h z_next (c.turned-2.ensures.second c.turned.ensures.third) c.turned-2.ensures.third)) ∙ z_next;
    }
