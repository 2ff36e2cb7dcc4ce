-- Texts with what the definition says of them.
use Rattle.std.proofs.Common.{◌≡◌, refl, ℤ, pos, neg_ℤ, [], ◌∷◌, codes, Ok, Err}
use Rattle.bounds_model.specs.Plane.{PlanePoint}
use Rattle.bounds_model.specs.Space.{SpacePoint}
use Rattle.bounds_model.specs.Asks.{one_plane, one_space, plane_or_bare, two_space, plane, space, two, bare, unscaled}
use Rattle.bounds_model.specs.PointText.{file_of_text, bad_line, out_of_range, no_points, wrong_sets}
use Rattle.csv.proofs.OnLiterals.{csv_on_literals}
use Rattle.point_text.specs.declared.text.Form.TheVariants.{Csv}
use Rattle.point_text.specs.Files.{file_of_fields, file_of_bytes}
use Rattle.point_text.specs.Keeping.{KeepsPoint}

abbrev at : ℤ → ℤ → PlanePoint
at x y = record { x = x; y = y }

abbrev at_height : ℤ → ℤ → ℤ → SpacePoint
at_height x y z = record { x = x; y = y; z = z }

-- ---- one set of the plane

two_points : file_of_text one_plane (codes "0 0\n3 1\n") ≡ Ok (unscaled (plane (at (pos 0) (pos 0) ∷ at (pos 3) (pos 1) ∷ [])))
unfolding file_of_text
two_points = refl

-- the last line may lack its line feed
one_point : file_of_text one_plane (codes "7 -2") ≡ Ok (unscaled (plane (at (pos 7) (neg_ℤ (pos 2)) ∷ [])))
unfolding file_of_text
one_point = refl

-- repeats are kept, and a number may begin with zeros
repeated : file_of_text one_plane (codes "-0 007\n0 7\n") ≡ Ok (unscaled (plane (at (pos 0) (pos 7) ∷ at (pos 0) (pos 7) ∷ [])))
unfolding file_of_text
repeated = refl

-- a file with comments, carriage returns, tabs, signs and an empty line
as_surveyed : file_of_text one_plane (codes "# plot 7\r\n+0 0\r\n\t+4 -0\r\n\r\n0 3 # corner\r\n")
    ≡ Ok (unscaled (plane (at (pos 0) (pos 0) ∷ at (pos 4) (pos 0) ∷ at (pos 0) (pos 3) ∷ [])))
unfolding file_of_text
as_surveyed = refl

-- a comment may begin within a field
comment_in_field : file_of_text one_plane (codes "1 2#3\n") ≡ Ok (unscaled (plane (at (pos 1) (pos 2) ∷ [])))
unfolding file_of_text
comment_in_field = refl

too_far : file_of_text one_plane (codes "200001 0\n") ≡ Err (out_of_range 1)
unfolding file_of_text
too_far = refl

-- the form of a line goes before the range of its numbers, and an earlier line before a later one
bad_form_first : file_of_text one_plane (codes "0 0\n200001 x\n200001 0\n") ≡ Err (bad_line 2)
unfolding file_of_text
bad_form_first = refl

-- a bad last line
bad_end : file_of_text one_plane (codes "0 0\n4 0\n0") ≡ Err (bad_line 3)
unfolding file_of_text
bad_end = refl

three_numbers : file_of_text one_plane (codes "0 0 0\n") ≡ Err (bad_line 1)
unfolding file_of_text
three_numbers = refl

-- a carriage return within a line, and a second one at its end
carriage_returns : file_of_text one_plane (codes "0 0\r\r\n") ≡ Err (bad_line 1)
unfolding file_of_text
carriage_returns = refl

sign_alone : file_of_text one_plane (codes "+ 0\n") ≡ Err (bad_line 1)
unfolding file_of_text
sign_alone = refl

two_signs : file_of_text one_plane (codes "+-1 0\n") ≡ Err (bad_line 1)
unfolding file_of_text
two_signs = refl

empty_text : file_of_text one_plane [] ≡ Err (no_points 1)
unfolding file_of_text
empty_text = refl

comment_alone : file_of_text one_plane (codes "# none") ≡ Err (no_points 1)
unfolding file_of_text
comment_alone = refl

-- a second set, though it is empty
second_set : file_of_text one_plane (codes "0 0\n---\n1 1\n") ≡ Err (wrong_sets 2)
unfolding file_of_text
second_set = refl

-- the number of sets goes before the emptiness of one
no_set_has_points : file_of_text one_plane (codes "\t---  # next\n--- \r\n") ≡ Err (wrong_sets 3)
unfolding file_of_text
no_set_has_points = refl

-- a bad line goes before the number of sets, also in a set that is not kept
bad_third_set : file_of_text one_plane (codes "---\n---\nx\n") ≡ Err (bad_line 3)
unfolding file_of_text
bad_third_set = refl

separator_with_more : file_of_text one_plane (codes "--- 0\n") ≡ Err (bad_line 1)
unfolding file_of_text
separator_with_more = refl

-- ---- a set that may be empty

bare_text : file_of_text plane_or_bare (codes "\r\n# none\n") ≡ Ok (unscaled bare)
unfolding file_of_text
bare_text = refl

kept_in_frame : file_of_text plane_or_bare (codes "9 9\n") ≡ Ok (unscaled (plane (at (pos 9) (pos 9) ∷ [])))
unfolding file_of_text
kept_in_frame = refl

two_bare_sets : file_of_text plane_or_bare (codes "---\n") ≡ Err (wrong_sets 2)
unfolding file_of_text
two_bare_sets = refl

-- ---- sets of space

space_point : file_of_text one_space (codes "8000 -8000 +1\n") ≡ Ok (unscaled (space (at_height (pos 8000) (neg_ℤ (pos 8000)) (pos 1) ∷ [])))
unfolding file_of_text
space_point = refl

too_high : file_of_text one_space (codes "0 0 8001\n") ≡ Err (out_of_range 1)
unfolding file_of_text
too_high = refl

two_numbers : file_of_text one_space (codes "0 0\n") ≡ Err (bad_line 1)
unfolding file_of_text
two_numbers = refl

apart : file_of_text two_space (codes "0 0 0\n---\n3 0 0\n0 3 0\n0 0 3\n")
    ≡ Ok (unscaled (two (at_height (pos 0) (pos 0) (pos 0) ∷ [])
    (at_height (pos 3) (pos 0) (pos 0) ∷ at_height (pos 0) (pos 3) (pos 0) ∷ at_height (pos 0) (pos 0) (pos 3) ∷ [])))
unfolding file_of_text
apart = refl

second_empty : file_of_text two_space (codes "0 0 0\n---\n") ≡ Err (no_points 2)
unfolding file_of_text
second_empty = refl

first_empty : file_of_text two_space (codes "---\n") ≡ Err (no_points 1)
unfolding file_of_text
first_empty = refl

one_set : file_of_text two_space (codes "0 0 0\n") ≡ Err (wrong_sets 1)
unfolding file_of_text
one_set = refl

three_sets : file_of_text two_space (codes "0 0 0\n---\n1 1 1\n---\n2 2 2\n") ≡ Err (wrong_sets 3)
unfolding file_of_text
three_sets = refl

-- ---- scales

-- tenths, behind lines that say nothing
scaled : file_of_text one_plane (codes "# tenths\n\n scale\t0010 # ten\r\n0 0\n3 1\n")
    ≡ Ok (record { scale = 10; sets = plane (at (pos 0) (pos 0) ∷ at (pos 3) (pos 1) ∷ []) })
unfolding file_of_text
scaled = refl

scale_of_one : file_of_text one_plane (codes "scale 1\n0 0\n") ≡ Ok (unscaled (plane (at (pos 0) (pos 0) ∷ [])))
unfolding file_of_text
scale_of_one = refl

no_units : file_of_text one_plane (codes "scale 0\n0 0\n") ≡ Err (out_of_range 1)
unfolding file_of_text
no_units = refl

most_units : file_of_text one_plane (codes "scale 1000\n0 0\n") ≡ Ok (record { scale = 1000; sets = plane (at (pos 0) (pos 0) ∷ []) })
unfolding file_of_text
most_units = refl

too_many_units : file_of_text one_plane (codes "scale 1001\n0 0\n") ≡ Err (out_of_range 1)
unfolding file_of_text
too_many_units = refl

-- a number of any length has the form
far_units : file_of_text one_plane (codes "scale 10000000000000000000000000000000000000001\n") ≡ Err (out_of_range 1)
unfolding file_of_text
far_units = refl

-- behind a point, an end of a set or another scale it is bad, and its range is not asked
scale_behind_point : file_of_text one_plane (codes "0 0\nscale 0\n") ≡ Err (bad_line 2)
unfolding file_of_text
scale_behind_point = refl

scale_behind_end : file_of_text two_space (codes "---\nscale 2\n") ≡ Err (bad_line 2)
unfolding file_of_text
scale_behind_end = refl

second_scale : file_of_text one_plane (codes "scale 2\nscale 2\n0 0\n") ≡ Err (bad_line 2)
unfolding file_of_text
second_scale = refl

scale_alone : file_of_text one_plane (codes "scale\n") ≡ Err (bad_line 1)
unfolding file_of_text
scale_alone = refl

scale_with_more : file_of_text one_plane (codes "scale 2 2\n") ≡ Err (bad_line 1)
unfolding file_of_text
scale_with_more = refl

scale_with_sign : file_of_text one_plane (codes "scale +2\n") ≡ Err (bad_line 1)
unfolding file_of_text
scale_with_sign = refl

scale_in_capitals : file_of_text one_plane (codes "Scale 2\n") ≡ Err (bad_line 1)
unfolding file_of_text
scale_in_capitals = refl

-- a scale is no point
scale_without_points : file_of_text one_plane (codes "scale 2\n") ≡ Err (no_points 1)
unfolding file_of_text
scale_without_points = refl

scale_of_none : file_of_text plane_or_bare (codes "scale 2\n") ≡ Ok (record { scale = 2; sets = bare })
unfolding file_of_text
scale_of_none = refl

-- ---- records

scaled_records : file_of_bytes Csv one_plane (codes "scale,10\r\n0,0\r\n") ≡ Ok (record { scale = 10; sets = plane (at (pos 0) (pos 0) ∷ []) })
unfolding file_of_fields csv_on_literals
scaled_records = refl

signed_record : file_of_bytes Csv one_plane (codes "scale,-1\n0,0\n") ≡ Err (bad_line 1)
unfolding file_of_fields csv_on_literals
signed_record = refl

late_record : file_of_bytes Csv one_plane (codes "0,0\n\"scale\",2\n") ≡ Err (bad_line 2)
unfolding file_of_fields csv_on_literals
late_record = refl

as_records : file_of_bytes Csv one_plane (codes "0,0\r\n4,0\r\n0,3\r\n") ≡ Ok (unscaled (plane (at (pos 0) (pos 0) ∷ at (pos 4) (pos 0) ∷ at (pos 0) (pos 3) ∷ [])))
unfolding file_of_fields csv_on_literals
as_records = refl

-- quotes are no part of a field, and the last record may lack its end
quoted : file_of_bytes Csv one_plane (codes "\"1\",2\n-3,\"+04\"") ≡ Ok (unscaled (plane (at (pos 1) (pos 2) ∷ at (neg_ℤ (pos 3)) (pos 4) ∷ [])))
unfolding file_of_fields csv_on_literals
quoted = refl

-- a record of the field `---`, quoted or not, parts sets
parting_records : file_of_bytes Csv one_plane (codes "0,0\n---\n\"---\"\n") ≡ Err (wrong_sets 3)
unfolding file_of_fields csv_on_literals
parting_records = refl

-- the first record is a point like any other
header_row : file_of_bytes Csv one_plane (codes "x,y\n0,0\n") ≡ Err (bad_line 1)
unfolding file_of_fields csv_on_literals
header_row = refl

-- records are counted, an empty line is none, and there are no comments
no_comment : file_of_bytes Csv one_plane (codes "\n0,0\n\n# c\n") ≡ Err (bad_line 2)
unfolding file_of_fields csv_on_literals
no_comment = refl

-- a blank is a part of its field
no_blank : file_of_bytes Csv one_plane (codes "0, 0\n") ≡ Err (bad_line 1)
unfolding file_of_fields csv_on_literals
no_blank = refl

-- a record of one empty field is no empty line
empty_field : file_of_bytes Csv one_plane (codes "0,0\n\"\"\n") ≡ Err (bad_line 2)
unfolding file_of_fields csv_on_literals
empty_field = refl

-- a quote that is left open holds the rest of the file
open_quote : file_of_bytes Csv one_plane (codes "0,0\n\"1,2\n3,4\n") ≡ Err (bad_line 2)
unfolding file_of_fields csv_on_literals
open_quote = refl

no_record : file_of_bytes Csv one_plane [] ≡ Err (no_points 1)
unfolding file_of_fields csv_on_literals
no_record = refl

records_of_space : file_of_bytes Csv two_space (codes "0,0,0\n---\n3,0,0\n") ≡ Ok (unscaled (two (at_height (pos 0) (pos 0) (pos 0) ∷ []) (at_height (pos 3) (pos 0) (pos 0) ∷ [])))
unfolding file_of_fields csv_on_literals
records_of_space = refl

-- ---- texts of which a point is kept, and so those that may want memory

kept_before_a_bad_line : KeepsPoint one_plane (codes "# plot\n---\n0 0\nx\n")
kept_before_a_bad_line = refl

none_kept : KeepsPoint one_plane (codes "x") → ⊥
none_kept = λ kept. cc

none_of_no_bytes : KeepsPoint one_plane (codes "") → ⊥
none_of_no_bytes = λ kept. cc

none_behind_a_bad_line : KeepsPoint one_plane (codes "# plot\nx\n0 0\n") → ⊥
none_behind_a_bad_line = λ kept. cc

-- a point of space is none of the plane
none_of_space : KeepsPoint one_plane (codes "1 2 3\n") → ⊥
none_of_space = λ kept. cc

kept_of_space : KeepsPoint one_space (codes "1 2 3\n")
kept_of_space = refl

-- nor is one out of bounds
none_in_bounds : KeepsPoint one_plane (codes "200001 0\n") → ⊥
none_in_bounds = λ kept. cc

-- a refused scale goes before the points behind it
none_behind_a_bad_scale : KeepsPoint one_plane (codes "scale 0\n0 0\n") → ⊥
none_behind_a_bad_scale = λ kept. cc

kept_behind_a_scale : KeepsPoint one_plane (codes "scale 5\n0 0\n")
kept_behind_a_scale = refl
