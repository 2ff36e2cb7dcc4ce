-- The texts of empty rectangles.
use Rattle.std.proofs.Common.{[], ◌∷◌, refl, arith}
use Rattle.bounds_model.specs.EmptyAnswer.{EmptyAnswer, EmptyRanges}
use Rattle.bounds_model.specs.Answers.{empty}
use Rattle.bounds_model.specs.AnswerText.Fields.{fraction, blocker}
use Rattle.bounds_model.specs.AnswerText.Kinds.{empty_kind, side_fields}
use Rattle.text_laws.proofs.AnswerTexts.AnswerLaws.{KindLaw, Written}
use Rattle.text_laws.proofs.AnswerTexts.RangeLaws.{line_ranges, line_fits}

-- empty rectangles keep the laws
pub empty_law : KindLaw empty_kind
empty_law = record {
  sound = record { name = refl; parts = λ b. (refl, (refl, (refl, (refl, (refl, tt))))) };
  named = λ lines. refl;
  named_scaled = λ lines. refl;
  not_plain = λ lines. refl;
  said = λ size b. refl;
  power = λ size b. refl;
  size = λ size b. refl;
  short = λ b fits. omega arith;
  ranges = λ size b size-fits fits.
      let box = line_ranges side_fields b.0 fits.0 in
      record {
        size = (line_ranges (fraction ∷ []) (size, tt) size-fits).0;
        box_left = box.0;
        box_bottom = box.1.0;
        box_right = box.1.1.0;
        box_top = box.1.1.1.0;
        left = (line_ranges (blocker ∷ []) b.1.0 fits.1.0).0;
        bottom = (line_ranges (blocker ∷ []) b.1.1.0 fits.1.1.0).0;
        right = (line_ranges (blocker ∷ []) b.1.1.1.0 fits.1.1.1.0).0;
        top = (line_ranges (blocker ∷ []) b.1.1.1.1.0 fits.1.1.1.1.0).0;
      };
}

-- an empty rectangle that keeps its ranges is one that its format writes
pub empty_written : (a : EmptyAnswer) → EmptyRanges a → Written (empty a)
empty_written a ranges = record {
  kind = empty_kind;
  law = empty_law;
  size = a.size;
  body = ((a.box.left, (a.box.bottom, (a.box.right, (a.box.top, tt)))), ((a.left, tt), ((a.bottom, tt), ((a.right, tt), ((a.top, tt), tt)))));
  is = refl;
  size_fits = line_fits (fraction ∷ []) (a.size, tt) refl (ranges.size, tt);
  body_fits = (
    line_fits side_fields (a.box.left, (a.box.bottom, (a.box.right, (a.box.top, tt)))) refl (ranges.box_left, (ranges.box_bottom, (ranges.box_right, (ranges.box_top, tt)))),
    (
      line_fits (blocker ∷ []) (a.left, tt) refl (ranges.left, tt),
      (
        line_fits (blocker ∷ []) (a.bottom, tt) refl (ranges.bottom, tt),
        (line_fits (blocker ∷ []) (a.right, tt) refl (ranges.right, tt), (line_fits (blocker ∷ []) (a.top, tt) refl (ranges.top, tt), tt)),
      ),
    ),
  );
}
