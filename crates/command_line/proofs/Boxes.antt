-- Numbers with commas between them, as a box.
use Rattle.std.proofs.Common.{◌≡◌, refl, ap, cond, ℕ, Bool, true, false, List, Option, Some, None, ℤ, rules}
use Rattle.std.specs.Prelude.{int_lt, ◌&&◌, ◌↔◌, IsSome, IfSome}
use Rattle.bounds_model.specs.AnswerText.Numerals.{◌>>=◌}
use Rattle.bounds_model.specs.EmptyRectangle.{Box, IsFrame}
use Rattle.bounds_model.specs.Numbers.{IsWithin}
use Rattle.bounds_model.specs.Plane.{plane_limit}
use Rattle.command_line.specs.Values.{coordinate, before_comma, after_comma, with_inside, frame_written}
use Rattle.model_laws.proofs.Decisions.{less_ℤ_law}

-- ---- boxes

-- the box of four numbers
abbrev pub box_of : Option ℤ → Option ℤ → Option ℤ → Option ℤ → Option Box
box_of l b r t = l >>= λ l. b >>= λ b. r >>= λ r. t >>= λ t. with_inside (record { left = l; bottom = b; right = r; top = t })

pub box_of-no_bottom : (l r t : Option ℤ) → box_of l None r t ≡ None
box_of-no_bottom None r t = refl
box_of-no_bottom (Some l) r t = refl

pub box_of-no_right : (l b t : Option ℤ) → box_of l b None t ≡ None
box_of-no_right None b t = refl
box_of-no_right (Some l) None t = refl
box_of-no_right (Some l) (Some b) t = refl

pub box_of-no_top : (l b r : Option ℤ) → box_of l b r None ≡ None
box_of-no_top None b r = refl
box_of-no_top (Some l) None r = refl
box_of-no_top (Some l) (Some b) None = refl
box_of-no_top (Some l) (Some b) (Some r) = refl

-- the four parts of a text
pub frame_written-parts : (text l rest b rest' r t : List ℕ) → l ≡ before_comma text → rest ≡ after_comma text → b ≡ before_comma rest → rest' ≡ after_comma rest
    → r ≡ before_comma rest' → t ≡ after_comma rest' → frame_written text ≡ box_of (coordinate l) (coordinate b) (coordinate r) (coordinate t)
unfolding frame_written
frame_written-parts text l rest b rest' r t le reste be reste' re te = rw (le, be, re, te, reste', reste) refl

-- a frame is a box of coordinates with an inside
pub frame_made : (l b r t : ℤ) (made : Option Box) → IsWithin plane_limit l → IsWithin plane_limit b → IsWithin plane_limit r → IsWithin plane_limit t
    → (IsSome made ↔ IsFrame (record { left = l; bottom = b; right = r; top = t }))
    → IfSome made (λ f. f ≡ record { left = l; bottom = b; right = r; top = t })
    → made ≡ with_inside (record { left = l; bottom = b; right = r; top = t })
frame_made l b r t None in_l in_b in_r in_t some is = go (int_lt l r) (int_lt b t) refl refl
  where
    box : Box
    box = record { left = l; bottom = b; right = r; top = t }

    go : (w h : Bool) → int_lt l r ≡ w → int_lt b t ≡ h → None ≡ cond (w && h) (Some box) None
    go false h we he = refl
    go true false we he = refl
    go true true we he =
        let bad : false ≡ true = some.1 (record { left = in_l; bottom = in_b; right = in_r; top = in_t; wide = (less_ℤ_law l r).0 we; high = (less_ℤ_law b t).0 he }) in
        absurd cc
frame_made l b r t (Some f) in_l in_b in_r in_t some is =
    let frame = some.0 (search rules) in
    let wide : int_lt l r ≡ true = (less_ℤ_law l r).1 frame.wide in
    let high : int_lt b t ≡ true = (less_ℤ_law b t).1 frame.high in
    rw (wide, high) (ap Some is)
