use Rattle.kernel_laws.proofs.Points.{same_point}
use Rattle.kernel_laws.proofs.ProductSums.{product_sum}
use Rattle.kernel_laws.proofs.arithmetic.combined.Goals as goal

pub overflow_mul-result : goal.overflow_mul-result
overflow_mul-result c = (product_sum c.requires.r c.requires.n.x c.requires.s c.requires.o.x c.requires.t c.requires.p.x).first

pub overflow_mul-result-2 : goal.overflow_mul-result-2
overflow_mul-result-2 c = (product_sum c.requires.r c.requires.n.x c.requires.s c.requires.o.x c.requires.t c.requires.p.x).second

pub overflow_add-result : goal.overflow_add-result
overflow_add-result c = (product_sum c.requires.r c.requires.n.x c.requires.s c.requires.o.x c.requires.t c.requires.p.x).two

pub overflow_mul-result-3 : goal.overflow_mul-result-3
overflow_mul-result-3 c = (product_sum c.requires.r c.requires.n.x c.requires.s c.requires.o.x c.requires.t c.requires.p.x).third

pub overflow_add-result-2 : goal.overflow_add-result-2
overflow_add-result-2 c = (product_sum c.requires.r c.requires.n.x c.requires.s c.requires.o.x c.requires.t c.requires.p.x).all

pub overflow_mul-result-4 : goal.overflow_mul-result-4
overflow_mul-result-4 c = (product_sum c.requires.r c.requires.n.y c.requires.s c.requires.o.y c.requires.t c.requires.p.y).first

pub overflow_mul-result-5 : goal.overflow_mul-result-5
overflow_mul-result-5 c = (product_sum c.requires.r c.requires.n.y c.requires.s c.requires.o.y c.requires.t c.requires.p.y).second

pub overflow_add-result-3 : goal.overflow_add-result-3
overflow_add-result-3 c = (product_sum c.requires.r c.requires.n.y c.requires.s c.requires.o.y c.requires.t c.requires.p.y).two

pub overflow_mul-result-6 : goal.overflow_mul-result-6
overflow_mul-result-6 c = (product_sum c.requires.r c.requires.n.y c.requires.s c.requires.o.y c.requires.t c.requires.p.y).third

pub overflow_add-result-4 : goal.overflow_add-result-4
overflow_add-result-4 c = (product_sum c.requires.r c.requires.n.y c.requires.s c.requires.o.y c.requires.t c.requires.p.y).all

pub overflow_mul-result-7 : goal.overflow_mul-result-7
overflow_mul-result-7 c = (product_sum c.requires.r c.requires.n.z c.requires.s c.requires.o.z c.requires.t c.requires.p.z).first

pub overflow_mul-result-8 : goal.overflow_mul-result-8
overflow_mul-result-8 c = (product_sum c.requires.r c.requires.n.z c.requires.s c.requires.o.z c.requires.t c.requires.p.z).second

pub overflow_add-result-5 : goal.overflow_add-result-5
overflow_add-result-5 c = (product_sum c.requires.r c.requires.n.z c.requires.s c.requires.o.z c.requires.t c.requires.p.z).two

pub overflow_mul-result-9 : goal.overflow_mul-result-9
overflow_mul-result-9 c = (product_sum c.requires.r c.requires.n.z c.requires.s c.requires.o.z c.requires.t c.requires.p.z).third

pub overflow_add-result-6 : goal.overflow_add-result-6
overflow_add-result-6 c = (product_sum c.requires.r c.requires.n.z c.requires.s c.requires.o.z c.requires.t c.requires.p.z).all

pub returns-clause-value : goal.returns-clause-value
returns-clause-value c =
    let in_x = product_sum c.requires.r c.requires.n.x c.requires.s c.requires.o.x c.requires.t c.requires.p.x in
    let in_y = product_sum c.requires.r c.requires.n.y c.requires.s c.requires.o.y c.requires.t c.requires.p.y in
    let in_z = product_sum c.requires.r c.requires.n.z c.requires.s c.requires.o.z c.requires.t c.requires.p.z in
    same_point in_x.value in_y.value in_z.value

pub returns-clause-within : goal.returns-clause-within
returns-clause-within c =
    let in_x = product_sum c.requires.r c.requires.n.x c.requires.s c.requires.o.x c.requires.t c.requires.p.x in
    let in_y = product_sum c.requires.r c.requires.n.y c.requires.s c.requires.o.y c.requires.t c.requires.p.y in
    let in_z = product_sum c.requires.r c.requires.n.z c.requires.s c.requires.o.z c.requires.t c.requires.p.z in
    record { x = in_x.size; y = in_y.size; z = in_z.size }
