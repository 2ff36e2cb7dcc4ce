-- Lines of causes.
use Rattle.std.proofs.Common.{◌≡◌, refl}
use Rattle.std.specs.Prelude.{codes}
use Rattle.std.specs.Fmt.{digits}
use Rattle.bounds_model.specs.ErrorLines.{missing_option, seed_option, too_long, answer_file, too_many_corners, bad_answer, write_fault, error_line}

-- a cause that names an option
an_option : error_line (missing_option seed_option) ≡ codes "bounds: usage: option --seed is missing\n"
unfolding error_line
an_option = refl

-- a cause that names a file
a_file : error_line (too_long answer_file) ≡ codes "bounds: answer: file is too long\n"
unfolding error_line
a_file = refl

-- a cause with a count
a_number : error_line (too_many_corners 129) ≡ codes "bounds: points: 129 corners, at most 128 are taken\n"
unfolding digits error_line
a_number = refl

-- a cause with the number of a line
a_line : error_line (bad_answer 7) ≡ codes "bounds: answer: line 7 is not understood\n"
unfolding digits error_line
a_line = refl

-- a cause that names nothing
no_number : error_line write_fault ≡ codes "bounds: output cannot be written\n"
unfolding error_line
no_number = refl
