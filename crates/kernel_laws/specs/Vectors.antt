-- What vectors in machine numbers mean.
use Rattle.std.specs.Prelude.{List, map}
use Rattle.bounds_model.specs.Space.{SpacePoint}
use Rattle.kernel_laws.specs.declared.vectors.Vector.{Vector}
use Rattle.kernel_laws.specs.declared.vectors.Sum.{Sum}

-- the vector
abbrev pub vector_of : Vector → SpacePoint
vector_of v = record { x = v.x; y = v.y; z = v.z }

-- the sum as a vector
abbrev pub sum_of : Sum → SpacePoint
sum_of s = record { x = s.x; y = s.y; z = s.z }

-- the vectors of a list
abbrev pub vectors_of : List Vector → List SpacePoint
vectors_of vs = map vector_of vs
