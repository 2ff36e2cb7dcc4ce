-- Texts that are refused, at which line and why.
use Rattle.std.proofs.Common.{◌≡◌, refl, Err}
use Rattle.std.specs.Prelude.{codes}
use Rattle.bounds_model.specs.AnswerText.Formats.{bad_answer, big_number}
use Rattle.bounds_model.specs.AnswerText.Reading.{reading}

-- ---- the form of a line

-- without its last line
without_last_line : reading (codes "answer 1 circle\nsize 25/4\ncenter 4 3 2\nsupports 2\n1 1\n2 1\n") ≡ Err (bad_answer 7)
without_last_line = refl

-- with the last line twice
end_twice : reading (codes "answer 1 circle\nsize 25/4\ncenter 4 3 2\nsupports 2\n1 1\n2 1\nend\nend\n") ≡ Err (bad_answer 8)
end_twice = refl

-- without its last line feed
no_last_feed : reading (codes "answer 1 circle\nsize 25/4\ncenter 4 3 2\nsupports 2\n1 1\n2 1\nend") ≡ Err (bad_answer 7)
no_last_feed = refl

-- a number past the limit in a last line without its line feed
unended_big : reading (codes "answer 1 circle\nsize 25/4\ncenter 4 3 85070591730234615865843651857942052865") ≡ Err (bad_answer 3)
unended_big = refl

-- with a byte behind the last line
more_bytes : reading (codes "answer 1 circle\nsize 25/4\ncenter 4 3 2\nsupports 2\n1 1\n2 1\nend\n ") ≡ Err (bad_answer 8)
more_bytes = refl

-- a text of no bytes
empty_text : reading (codes "") ≡ Err (bad_answer 1)
empty_text = refl

-- a carriage return
carriage_return : reading (codes "answer 1 circle\r\nsize 25/4\ncenter 4 3 2\nsupports 2\n1 1\n2 1\nend\n") ≡ Err (bad_answer 1)
carriage_return = refl

-- a kind that is not known
other_kind : reading (codes "answer 1 blob\nsize 25/4\ncenter 4 3 2\nsupports 2\n1 1\n2 1\nend\n") ≡ Err (bad_answer 1)
other_kind = refl

-- a number past the limit in range of the word 1
big_version : reading (codes "answer 85070591730234615865843651857942052865 circle\nsize 25/4\ncenter 4 3 2\nsupports 2\n1 1\n2 1\nend\n") ≡ Err (bad_answer 1)
big_version = refl

-- a leading zero
leading_zero : reading (codes "answer 1 circle\nsize 25/4\ncenter 04 3 2\nsupports 2\n1 1\n2 1\nend\n") ≡ Err (bad_answer 3)
leading_zero = refl

-- a plus sign
plus_sign : reading (codes "answer 1 circle\nsize 25/4\ncenter +4 3 2\nsupports 2\n1 1\n2 1\nend\n") ≡ Err (bad_answer 3)
plus_sign = refl

-- a zero with a sign
negative_zero : reading (codes "answer 1 circle\nsize 25/4\ncenter 4 -0 2\nsupports 2\n1 1\n2 1\nend\n") ≡ Err (bad_answer 3)
negative_zero = refl

-- a second blank
second_blank : reading (codes "answer 1 circle\nsize 25/4\ncenter 4  3 2\nsupports 2\n1 1\n2 1\nend\n") ≡ Err (bad_answer 3)
second_blank = refl

-- a blank at the end of a line
last_blank : reading (codes "answer 1 circle\nsize 25/4\ncenter 4 3 2 \nsupports 2\n1 1\n2 1\nend\n") ≡ Err (bad_answer 3)
last_blank = refl

-- a field too few
field_missing : reading (codes "answer 1 circle\nsize 25/4\ncenter 4 3\nsupports 2\n1 1\n2 1\nend\n") ≡ Err (bad_answer 3)
field_missing = refl

-- a sign at the number of a point
signed_point : reading (codes "answer 1 circle\nsize 25/4\ncenter 4 3 2\nsupports 2\n-1 1\n2 1\nend\n") ≡ Err (bad_answer 5)
signed_point = refl

-- a sign at a weight
signed_weight : reading (codes "answer 1 circle\nsize 25/4\ncenter 4 3 2\nsupports 2\n1 1\n2 -1\nend\n") ≡ Err (bad_answer 6)
signed_weight = refl

-- a size without a slash
no_slash : reading (codes "answer 1 circle\nsize 25\ncenter 4 3 2\nsupports 2\n1 1\n2 1\nend\n") ≡ Err (bad_answer 2)
no_slash = refl

-- a size without a denominator
no_denominator : reading (codes "answer 1 circle\nsize 25/\ncenter 4 3 2\nsupports 2\n1 1\n2 1\nend\n") ≡ Err (bad_answer 2)
no_denominator = refl

-- fewer lines than the count says
support_missing : reading (codes "answer 1 circle\nsize 25/4\ncenter 4 3 2\nsupports 3\n1 1\n2 1\nend\n") ≡ Err (bad_answer 7)
support_missing = refl

-- more lines than the count says
support_more : reading (codes "answer 1 circle\nsize 25/4\ncenter 4 3 2\nsupports 1\n1 1\n2 1\nend\n") ≡ Err (bad_answer 6)
support_more = refl

-- a row of potentials that is too short
short_row : reading (codes "answer 1 kgon\nsize 2/1\ncorners 4\n0\n1\n2\n3\nchosen 3\n0\n1\n2\nlayers 1\n0 4\n0 4\n0\nend\n") ≡ Err (bad_answer 13)
short_row = refl

-- a row of potentials that is too long
long_row : reading (codes "answer 1 kgon\nsize 2/1\ncorners 4\n0\n1\n2\n3\nchosen 3\n0\n1\n2\nlayers 1\n0 4 4\n0 4\n0 0\nend\n") ≡ Err (bad_answer 15)
long_row = refl

-- a blocker that is neither the word nor a number
other_word : reading (codes "answer 1 empty\nsize 12/1\nrectangle 1 0 4 4\nleft 0\nbottom side\nright box\ntop box\nend\n") ≡ Err (bad_answer 5)
other_word = refl

-- ---- a number past the limit

-- a denominator one above the limit
big_denominator : reading (codes "answer 1 circle\nsize 25/4\ncenter 4 3 85070591730234615865843651857942052865\nsupports 2\n1 1\n2 1\nend\n") ≡ Err (big_number 3)
big_denominator = refl

-- a number one below the negative limit
big_negative : reading (codes "answer 1 circle\nsize 25/4\ncenter -85070591730234615865843651857942052865 3 2\nsupports 2\n1 1\n2 1\nend\n") ≡ Err (big_number 3)
big_negative = refl

-- a size past the limit that is not in lowest terms
big_size : reading (codes "answer 1 circle\nsize 85070591730234615865843651857942052865/5\ncenter 4 3 2\nsupports 2\n1 1\n2 1\nend\n") ≡ Err (big_number 2)
big_size = refl

-- a count past the limit
big_count : reading (codes "answer 1 circle\nsize 25/4\ncenter 4 3 2\nsupports 85070591730234615865843651857942052865\n1 1\n2 1\nend\n") ≡ Err (big_number 4)
big_count = refl

-- a point's number past the limit
big_point : reading (codes "answer 1 circle\nsize 25/4\ncenter 4 3 2\nsupports 2\n85070591730234615865843651857942052865 1\n2 1\nend\n") ≡ Err (big_number 5)
big_point = refl

-- a blocker's number past the limit
big_blocker : reading (codes "answer 1 empty\nsize 12/1\nrectangle 1 0 4 4\nleft 85070591730234615865843651857942052865\nbottom box\nright box\ntop box\nend\n") ≡ Err (big_number 4)
big_blocker = refl

-- a number outside its range before one past the limit
big_behind_range : reading (codes "answer 1 circle\nsize 25/4\ncenter 4 3 2\nsupports 2\n10000 85070591730234615865843651857942052865\n2 1\nend\n") ≡ Err (big_number 5)
big_behind_range = refl

-- a number of a hundred digits
many_digits : reading (codes "answer 1 circle\nsize 25/4\ncenter 4 3 2\nsupports 2\n1 1\n2 7777777777777777777777777777777777777777777777777777777777777777777777777777777777777777777777777777\nend\n") ≡ Err (big_number 6)
many_digits = refl

-- a number past the limit in a line of another form
big_and_form : reading (codes "answer 1 circle\nsize 25/4\ncenter 4 85070591730234615865843651857942052865\nsupports 2\n1 1\n2 1\nend\n") ≡ Err (bad_answer 3)
big_and_form = refl

-- a number past the limit and a second blank
big_and_blank : reading (codes "answer 1 circle\nsize 25/4\ncenter 4 3 2\nsupports 2\n1  85070591730234615865843651857942052865\n2 1\nend\n") ≡ Err (bad_answer 5)
big_and_blank = refl

-- ---- a number outside the range of its range

-- a size that is not in lowest terms
not_lowest : reading (codes "answer 1 circle\nsize 50/8\ncenter 4 3 2\nsupports 2\n1 1\n2 1\nend\n") ≡ Err (bad_answer 2)
not_lowest = refl

-- a radius that is not in lowest terms
square_not_lowest : reading (codes "answer 1 centres\nsize 6/4\nsquares 1\n3 3 2\nleaves 1\n0 1\nend\n") ≡ Err (bad_answer 2)
square_not_lowest = refl

-- a zero that is not written 0/1
zero_size : reading (codes "answer 1 circle\nsize 0/4\ncenter 4 3 2\nsupports 2\n1 1\n2 1\nend\n") ≡ Err (bad_answer 2)
zero_size = refl

-- a denominator of 0
zero_denominator : reading (codes "answer 1 circle\nsize 1/0\ncenter 4 3 2\nsupports 2\n1 1\n2 1\nend\n") ≡ Err (bad_answer 2)
zero_denominator = refl

-- a size below 0
negative_size : reading (codes "answer 1 circle\nsize -1/2\ncenter 4 3 2\nsupports 2\n1 1\n2 1\nend\n") ≡ Err (bad_answer 2)
negative_size = refl

-- a centre that is not in lowest terms
centre_not_lowest : reading (codes "answer 1 circle\nsize 25/4\ncenter 8 6 4\nsupports 2\n1 1\n2 1\nend\n") ≡ Err (bad_answer 3)
centre_not_lowest = refl

-- a denominator below 0
negative_centre : reading (codes "answer 1 circle\nsize 25/4\ncenter 4 3 -2\nsupports 2\n1 1\n2 1\nend\n") ≡ Err (bad_answer 3)
negative_centre = refl

-- a count above its range
four_supports : reading (codes "answer 1 circle\nsize 25/4\ncenter 4 3 2\nsupports 4\n1 1\n2 1\nend\n") ≡ Err (bad_answer 4)
four_supports = refl

-- a count below its range
no_supports : reading (codes "answer 1 circle\nsize 25/4\ncenter 4 3 2\nsupports 0\n1 1\n2 1\nend\n") ≡ Err (bad_answer 4)
no_supports = refl

-- a point's number above its range
point_past : reading (codes "answer 1 circle\nsize 25/4\ncenter 4 3 2\nsupports 2\n10000 1\n2 1\nend\n") ≡ Err (bad_answer 5)
point_past = refl

-- a position above its range
position_past : reading (codes "answer 1 kgon\nsize 2/1\ncorners 4\n0\n1\n2\n3\nchosen 3\n128\n1\n2\nlayers 1\n0 4 4\n0 4\n0\nend\n") ≡ Err (bad_answer 9)
position_past = refl

-- a blocker's number above its range
blocker_past : reading (codes "answer 1 empty\nsize 12/1\nrectangle 1 0 4 4\nleft 10000\nbottom box\nright box\ntop box\nend\n") ≡ Err (bad_answer 4)
blocker_past = refl

-- a fan of one direction
one_direction : reading (codes "answer 1 strip\nsize 144/25\ndirection 3 4\nbounds 0 12\nfan 1\n1 0 1 0\n3 4 2 0\n0 1 2 1\n-1 0\nend\n") ≡ Err (bad_answer 5)
one_direction = refl

-- two refused lines: the first decides
first_line_decides : reading (codes "answer 1 circle\nsize 50/8\ncenter 4 3 85070591730234615865843651857942052865\nsupports 2\n1 1\n2 1\nend\n") ≡ Err (bad_answer 2)
first_line_decides = refl
