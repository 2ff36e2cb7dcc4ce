use Rattle.integers.proofs.Cramer.{cramer3_x, cramer3_y, cramer3_z}
use Rattle.integers.proofs.laws.cramer_of_three.Goals as goal

pub returns : goal.returns
returns c = λ ax ay az bx by bz cx cy cz x y z p q r h k l. (cramer3_x ax ay az bx by bz cx cy cz x y z p q r h k l, cramer3_y ax ay az bx by bz cx cy cz x y z p q r h k l, cramer3_z ax ay az bx by bz cx cy cz x y z p q r h k l)
