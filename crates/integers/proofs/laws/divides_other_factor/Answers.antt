use Rattle.integers.proofs.Divisors.{dvd_of_dvd-mul}
use Rattle.integers.proofs.laws.divides_other_factor.Goals as goal

pub returns : goal.returns
returns c = dvd_of_dvd-mul
