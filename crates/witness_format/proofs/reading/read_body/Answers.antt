use Rattle.witness_format.proofs.reading.read_body.Goals as goal

pub returns-in-Circle : goal.returns-in-Circle
returns-in-Circle c = rw c.in-Circle.is c.read_circle.ensures

pub returns-in-Sphere : goal.returns-in-Sphere
returns-in-Sphere c = rw c.in-Sphere.is c.read_sphere.ensures

pub returns-in-Rectangle : goal.returns-in-Rectangle
returns-in-Rectangle c = rw c.in-Rectangle.is c.read_rectangle.ensures

pub returns-in-Parallelogram : goal.returns-in-Parallelogram
returns-in-Parallelogram c = rw c.in-Parallelogram.is c.read_parallelogram.ensures

pub returns-in-Strip : goal.returns-in-Strip
returns-in-Strip c = rw c.in-Strip.is c.read_strip.ensures

pub returns-in-Annulus : goal.returns-in-Annulus
returns-in-Annulus c = rw c.in-Annulus.is c.read_annulus.ensures

pub returns-in-Empty : goal.returns-in-Empty
returns-in-Empty c = rw c.in-Empty.is c.read_empty.ensures

pub returns-in-Kgon : goal.returns-in-Kgon
returns-in-Kgon c = rw c.in-Kgon.is c.read_kgon.ensures

pub returns-in-Distance : goal.returns-in-Distance
returns-in-Distance c = rw c.in-Distance.is c.read_distance.ensures

pub returns-in-Centres : goal.returns-in-Centres
returns-in-Centres c = rw c.in-Centres.is c.read_centres.ensures

pub returns-in-Furthest : goal.returns-in-Furthest
returns-in-Furthest c = rw c.in-Furthest.is c.read_furthest.ensures

pub returns-in-Four : goal.returns-in-Four
returns-in-Four c = rw c.in-Four.is c.read_four.ensures

pub returns-in-Shell : goal.returns-in-Shell
returns-in-Shell c = rw c.in-Shell.is c.read_shell.ensures
