-- From the printed size to the object's own: it is enough to compare the objects that fit with the printed fraction.
use Rattle.std.proofs.Common.{refl, pos, ◌<ℤ◌}
use Rattle.integers.proofs.Order.{positive_from_one}
use Rattle.integers.proofs.Fractions.{fraction_equal, fraction_equal_right}
use Rattle.bounds_model.specs.Fractions.{Fraction, IsAtMost, IsLowest}
use Rattle.bounds_model.specs.Best.{IsPrintedSize}
use Rattle.optimality.specs.Laws.{IsSmallestPrinted, IsGreatestPrinted}

-- a size in lowest terms prints as itself
pub printed_as_is : (size : Fraction) → IsLowest size → IsPrintedSize size size
printed_as_is size h = record { lowest = h; same = refl }

-- an object whose printed size is at most the size of each that fits is the smallest
pub smallest_by_printed : {Object : Type 0} (Fits : Object → Type 0) (size : Object → Fraction) → ((o : Object) → Fits o → pos 0 <ℤ (size o).d)
    → (object : Object) (printed : Fraction) → Fits object → IsPrintedSize (size object) printed → ((other : Object) → Fits other → IsAtMost printed (size other)) → IsSmallestPrinted Fits size object printed
smallest_by_printed Fits size denominator object printed fits p bound = record {
  smallest = record {
    fits = fits;
    smallest = λ other f. fraction_equal printed.n printed.d (size object).n (size object).d (size other).n (size other).d (positive_from_one p.lowest.not_negative.denominator) (denominator object fits) p.same (bound other f);
  };
  is_printed = p;
}

-- an object whose printed size is at least the size of each that fits is the greatest
pub greatest_by_printed : {Object : Type 0} (Fits : Object → Type 0) (size : Object → Fraction) → ((o : Object) → Fits o → pos 0 <ℤ (size o).d)
    → (object : Object) (printed : Fraction) → Fits object → IsPrintedSize (size object) printed → ((other : Object) → Fits other → IsAtMost (size other) printed) → IsGreatestPrinted Fits size object printed
greatest_by_printed Fits size denominator object printed fits p bound = record {
  greatest = record {
    fits = fits;
    greatest = λ other f. fraction_equal_right printed.n printed.d (size object).n (size object).d (size other).n (size other).d (positive_from_one p.lowest.not_negative.denominator) (denominator object fits) p.same (bound other f);
  };
  is_printed = p;
}
