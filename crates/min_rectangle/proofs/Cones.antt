-- The cones of a fan over a quarter turn, each with its direction and its points.
use Rattle.std.proofs.Common.{◌≡◌, refl, sym, ◌∙◌, ap, ap₂, subst, ℕ, suc, ◌+◌, ◌-◌, ◌<◌, inl, inr, ℤ, pos, ◌*ℤ◌, ◌<ℤ◌, List, [], ◌∷◌, length, map, All, Some, arith}
use Rattle.std.specs.Prelude.{slice_index_or, slice_get}
use Rattle.std.proofs.lemmas.Bool.{cases_lt}
use Rattle.std.proofs.lemmas.List.{length-map, length-append, get_or-map, get_or_append_left}
use Rattle.std.proofs.lemmas.Option.{slice_get_within, slice_get-get_or, get_or_from_slice_get}
use Rattle.integers.proofs.Identities.{den-ring, read, polys}
use Rattle.bounds_model.specs.Plane.{PlanePoint, origin, point_at, squared_length, quarter_turn}
use Rattle.bounds_model.specs.Fractions.{HaveNoCommonFactor}
use Rattle.bounds_model.specs.Fans.{QuarterFan, QuarterCone, quarter_directions, AreExtreme, IsQuarterExtreme, IsShort, reach, east, north, west}
use Rattle.bounds_model.specs.RectangleAnswer.{reached_area}
use Rattle.answers.specs.declared.fans.QuarterCone as declared_cones
use Rattle.answers.specs.declared.fans.QuarterFan as declared_fans
use Rattle.answers.specs.Answers.{quarter_cone_of, quarter_fan_of}
use Rattle.directions.proofs.Reaches.{reach_same, reach_opposite, extreme_opposite, lowest_long}
use Rattle.directions.proofs.FanLists as lists
use Rattle.min_rectangle.specs.PlainFan.{IsPlainFan, no_cone, cone_at}

-- ---- cones that are read

-- there are as many cones in the model
pub cones_length : (f : declared_fans.QuarterFan) → length (quarter_fan_of f).cones ≡ length f.cones
cones_length f = length-map f.cones quarter_cone_of

-- a cone that is read
pub cone_read : (f : declared_fans.QuarterFan) (i : ℕ) (x : declared_cones.QuarterCone) → slice_get f.cones i ≡ Some x → quarter_cone_of x ≡ cone_at (quarter_fan_of f) i
cone_read f i x h = sym (lists.cone_at quarter_cone_of f.cones i x no_cone h)

-- it is a number of the model's list
pub listed_read : (f : declared_fans.QuarterFan) (i : ℕ) (x : declared_cones.QuarterCone) → slice_get f.cones i ≡ Some x → i < length (quarter_fan_of f).cones
listed_read f i x h = subst (λ n. i < n) (sym (cones_length f)) (slice_get_within f.cones i x h)

-- a cone that is read with any default
pub cone_any : (fan : QuarterFan) (i : ℕ) (d : QuarterCone) → i < length fan.cones → slice_index_or fan.cones i d ≡ cone_at fan i
cone_any fan i d l = get_or_from_slice_get fan.cones i (slice_index_or fan.cones i no_cone) d (slice_get-get_or fan.cones i no_cone l)

-- ---- directions

-- there is one direction more than cones
length_directions : (fan : QuarterFan) → length (quarter_directions fan) ≡ suc (length fan.cones)
length_directions fan =
    let e = length-append (map (λ cone. cone.direction) fan.cones) (fan.last ∷ []) in
    let f = length-map fan.cones (λ cone. cone.direction) in
    omega (arith, e, f)

-- each cone begins at the direction of its number
pub direction_is : (fan : QuarterFan) (i : ℕ) → i < length fan.cones → point_at (quarter_directions fan) i ≡ (cone_at fan i).direction
direction_is fan i h =
    get_or_append_left (map (λ cone. cone.direction) fan.cones) (fan.last ∷ []) origin i (subst (λ n. i < n) (sym (length-map fan.cones (λ cone. cone.direction))) h)
    ∙ get_or-map (λ (cone : QuarterCone). cone.direction) fan.cones i no_cone origin h

-- what holds of all directions holds of each cone's
of_direction : (fan : QuarterFan) (P : PlanePoint → Type 0) → All P (quarter_directions fan) → (i : ℕ) → i < length fan.cones → P (cone_at fan i).direction
of_direction fan P each i l = subst P (direction_is fan i l) (each i origin (let e = length_directions fan in omega (arith, e, l)))

-- ---- a cone of a fan that holds

-- its points are points
pub record IsNamed (points : List PlanePoint) (cone : QuarterCone) : Type 0 where
  pub high : cone.high < length points
  pub low : cone.low < length points
  pub over : cone.over < length points
  pub under : cone.under < length points

-- its direction is short, long enough and in lowest terms, and its points are extreme there
pub record IsCone (points : List PlanePoint) (cone : QuarterCone) : Type 0 where
  pub short : IsShort cone.direction
  pub long : pos 0 <ℤ squared_length cone.direction
  pub lowest : HaveNoCommonFactor (cone.direction.x ∷ cone.direction.y ∷ [])
  pub named : IsNamed points cone
  pub along : AreExtreme points cone.direction cone.high cone.low
  pub across : AreExtreme points (quarter_turn cone.direction) cone.over cone.under

pub is_cone : (points : List PlanePoint) (fan : QuarterFan) → IsPlainFan points fan → (i : ℕ) → i < length fan.cones → IsCone points (cone_at fan i)
is_cone points fan h i l =
    let names = h.holds.numbers i no_cone l in
    let extreme = subst (λ d. IsQuarterExtreme points d (cone_at fan i)) (direction_is fan i l) (h.holds.extremes i no_cone l).0 in
    record {
      short = of_direction fan IsShort h.short i l;
      long = lowest_long (cone_at fan i).direction (of_direction fan (λ d. HaveNoCommonFactor (d.x ∷ d.y ∷ [])) h.lowest i l);
      lowest = of_direction fan (λ d. HaveNoCommonFactor (d.x ∷ d.y ∷ [])) h.lowest i l;
      named = record { high = names.0; low = names.1; over = names.2; under = names.3 };
      along = extreme.0;
      across = extreme.1;
    }

-- so is one that is read
pub is_cone_read : (points : List PlanePoint) (f : declared_fans.QuarterFan) (i : ℕ) (x : declared_cones.QuarterCone) → IsPlainFan points (quarter_fan_of f) → slice_get f.cones i ≡ Some x → IsCone points (quarter_cone_of x)
is_cone_read points f i x h is = subst (IsCone points) (sym (cone_read f i x is)) (is_cone points (quarter_fan_of f) h i (listed_read f i x is))

-- ---- the area at a direction

-- cones that are extreme in a direction reach equally far, along it and across it
area_same : (points : List PlanePoint) (d : PlanePoint) (c c' : QuarterCone) → IsNamed points c → IsNamed points c' → IsQuarterExtreme points d c → IsQuarterExtreme points d c' → reached_area points d c ≡ reached_area points d c'
area_same points d c c' n n' h h' =
    ap₂ (λ x y. x *ℤ y)
    (reach_same points d c.high c.low c'.high c'.low n.high n.low n'.high n'.low h.0 h'.0)
    (reach_same points (quarter_turn d) c.over c.under c'.over c'.under n.over n.under n'.over n'.under h.1 h'.1)

-- the rectangle in the direction up is that in the direction to the right
turned_same : (points : List PlanePoint) (c c' : QuarterCone) → IsNamed points c → IsNamed points c' → IsQuarterExtreme points north c → IsQuarterExtreme points east c' → reached_area points north c ≡ reached_area points east c'
turned_same points c c' n n' h h' =
    ap₂ (λ x y. x *ℤ y)
    (reach_same points north c.high c.low c'.over c'.under n.high n.low n'.over n'.under h.0 h'.1)
    (reach_same points west c.over c.under c'.low c'.high n.over n.under n'.low n'.high h.1 (extreme_opposite points east c'.high c'.low h'.0) ∙ reach_opposite points east c'.high c'.low)
    ∙ exchanged (reach points north c'.over c'.under) (reach points east c'.high c'.low)
  where
    exchanged : (x y : ℤ) → x *ℤ y ≡ y *ℤ x
    exchanged x y = read (x ∷ y ∷ []) (λ xs a b. simp (a, b, polys) (den-ring xs _ _ tt))

-- the number of a cone whose direction has the rectangle of the direction at a cone's end, and is as long
pub record HasSame (points : List PlanePoint) (fan : QuarterFan) (d : PlanePoint) (cone : QuarterCone) : Type 0 where
  pub number : ℕ
  pub listed : number < length fan.cones
  pub same_area : reached_area points (cone_at fan number).direction (cone_at fan number) ≡ reached_area points d cone
  pub same_length : squared_length (cone_at fan number).direction ≡ squared_length d

-- at its beginning a cone has its own
pub same_at_start : (points : List PlanePoint) (fan : QuarterFan) → (i : ℕ) → i < length fan.cones → HasSame points fan (point_at (quarter_directions fan) i) (cone_at fan i)
same_at_start points fan i l =
    subst (λ d. HasSame points fan d (cone_at fan i)) (sym (direction_is fan i l)) (record { number = i; listed = l; same_area = refl; same_length = refl })

-- at its end it has that of the next, and the last cone that of the first
pub same_at_end : (points : List PlanePoint) (fan : QuarterFan) → IsPlainFan points fan → (i : ℕ) → i < length fan.cones → HasSame points fan (point_at (quarter_directions fan) (i + 1)) (cone_at fan i)
same_at_end points fan h i l =
    let here = is_cone points fan h i l in
    let extreme = (h.holds.extremes i no_cone l).1 in
    elim (cases_lt (i + 1) (length fan.cones)) [
      | inl n ↦
          let next = is_cone points fan h (i + 1) n in
          let is = direction_is fan (i + 1) n in
          subst (λ d. HasSame points fan d (cone_at fan i)) (sym is)
          (record {
            number = i + 1;
            listed = n;
            same_area = area_same points (cone_at fan (i + 1)).direction (cone_at fan (i + 1)) (cone_at fan i) next.named here.named (next.along, next.across) (subst (λ d. IsQuarterExtreme points d (cone_at fan i)) is extreme);
            same_length = refl;
          })
      | inr n ↦
          let some : 0 < length fan.cones = omega (arith, l) in
          let first = is_cone points fan h 0 some in
          let is_east : (cone_at fan 0).direction ≡ east = sym (direction_is fan 0 some) ∙ h.holds.directions.begins in
          let last : length (quarter_directions fan) - 1 ≡ i + 1 = omega (arith, length_directions fan, l, n) in
          let is_north : point_at (quarter_directions fan) (i + 1) ≡ north = subst (λ k. point_at (quarter_directions fan) k ≡ north) last h.holds.directions.ends in
          let at_east = subst (λ d. IsQuarterExtreme points d (cone_at fan 0)) is_east (first.along, first.across) in
          let at_north = subst (λ d. IsQuarterExtreme points d (cone_at fan i)) is_north extreme in
          subst (λ d. HasSame points fan d (cone_at fan i)) (sym is_north)
          (record {
            number = 0;
            listed = some;
            same_area = ap (λ d. reached_area points d (cone_at fan 0)) is_east ∙ sym (turned_same points (cone_at fan i) (cone_at fan 0) here.named first.named at_north at_east);
            same_length = ap squared_length is_east;
          })
    ]
