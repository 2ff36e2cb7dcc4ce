-- Each worked text is the spelling of its answer, and reads as it.
use Rattle.std.proofs.Common.{◌≡◌, refl, Ok}
use Rattle.std.specs.Fmt.{digits}
use Rattle.bounds_model.specs.AnswerText.Spelling.{spelling}
use Rattle.bounds_model.specs.AnswerText.Reading.{reading}
use Rattle.text_laws.proofs.AnswerTexts.Worked.{the_circle, circle_text, the_rectangle, rectangle_text, the_strip, strip_text, the_parallelogram, parallelogram_text, the_annulus, annulus_text, the_empty, empty_text, the_kgon, kgon_text, the_distance, distance_text, the_centres, centres_text}

-- the text is the spelling
circle_spelled : spelling the_circle ≡ circle_text
unfolding digits
circle_spelled = refl

-- the text reads as the answer
circle_read : reading circle_text ≡ Ok the_circle
circle_read = refl

-- the text is the spelling
rectangle_spelled : spelling the_rectangle ≡ rectangle_text
unfolding digits
rectangle_spelled = refl

-- the text reads as the answer
rectangle_read : reading rectangle_text ≡ Ok the_rectangle
rectangle_read = refl

-- the text is the spelling
strip_spelled : spelling the_strip ≡ strip_text
unfolding digits
strip_spelled = refl

-- the text reads as the answer
strip_read : reading strip_text ≡ Ok the_strip
strip_read = refl

-- the text is the spelling
parallelogram_spelled : spelling the_parallelogram ≡ parallelogram_text
unfolding digits
parallelogram_spelled = refl

-- the text reads as the answer
parallelogram_read : reading parallelogram_text ≡ Ok the_parallelogram
parallelogram_read = refl

-- the text is the spelling
annulus_spelled : spelling the_annulus ≡ annulus_text
unfolding digits
annulus_spelled = refl

-- the text reads as the answer
annulus_read : reading annulus_text ≡ Ok the_annulus
annulus_read = refl

-- the text is the spelling
empty_spelled : spelling the_empty ≡ empty_text
unfolding digits
empty_spelled = refl

-- the text reads as the answer
empty_read : reading empty_text ≡ Ok the_empty
empty_read = refl

-- the text is the spelling
kgon_spelled : spelling the_kgon ≡ kgon_text
unfolding digits
kgon_spelled = refl

-- the text reads as the answer
kgon_read : reading kgon_text ≡ Ok the_kgon
kgon_read = refl

-- the text is the spelling
distance_spelled : spelling the_distance ≡ distance_text
unfolding digits
distance_spelled = refl

-- the text reads as the answer
distance_read : reading distance_text ≡ Ok the_distance
distance_read = refl

-- the text is the spelling
centres_spelled : spelling the_centres ≡ centres_text
unfolding digits
centres_spelled = refl

-- the text reads as the answer
centres_read : reading centres_text ≡ Ok the_centres
centres_read = refl
