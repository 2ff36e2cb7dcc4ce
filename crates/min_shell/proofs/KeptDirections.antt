-- The walk keeps the directions of the coordinates that are determined, so that the centre is 0 in these.
use Rattle.std.proofs.Common.{◌≡◌, refl, sym, ◌∙◌, ap, ap₂, subst, inl, inr, ◌⊎◌, ℤ, pos, ◌+ℤ◌, ◌-ℤ◌, ◌*ℤ◌, neg_ℤ, ◌≤ℤ◌, List, arith}
use Rattle.std.proofs.lemmas.Int.{ints}
use Rattle.bounds_model.specs.Space.{SpacePoint, SpaceRatio, SamePlace}
use Rattle.min_shell.specs.declared.lifted_vectors.LiftedVector.{LiftedVector}
use Rattle.min_shell.specs.declared.linear_forms.LinearForm.{LinearForm}
use Rattle.min_shell.specs.declared.vertices.Vertex.{Vertex}
use Rattle.min_shell.specs.declared.targets.Target.{Target}
use Rattle.min_shell.specs.declared.tetrahedra.Tetrahedron.{Tetrahedron}
use Rattle.min_shell.specs.Vectors.{dot, volume}
use Rattle.min_shell.specs.Vertices.{IsPair}
use Rattle.min_shell.specs.LinearForms.{rise, centre_of}
use Rattle.min_shell.specs.Tetrahedra.{IsTetrahedron, IsExchange, form_through}
use Rattle.min_shell.specs.OpenCoordinates.{IsZeroWhereDetermined, HasDirection, KeepsDirections, x_axis, y_axis, z_axis}
use Rattle.min_shell.proofs.Starting.{pair_flat}
use Rattle.min_shell.proofs.Measure.{first_rise, second_rise, third_rise}
use Rattle.min_shell.proofs.Ending.{width_is}
use Rattle.min_shell.proofs.ExchangedTetrahedra.{some_width, pair_one}
use Rattle.min_shell.proofs.KeptAxes.{in_one_plane, first_zero}

-- ---- at an exchange

-- a direction stays, since the pair that was last is in each plane that holds all differences
still_directed : (points : List SpacePoint) (direction : LiftedVector) (t new : Tetrahedron) (e : Vertex) → IsPair points t.d → IsExchange t e new → HasDirection points direction t → HasDirection points direction new
still_directed points direction t new e last exchange has = elim exchange [
  | inl same ↦ moved (record { a = t.a; b = t.b; c = t.c; d = e }) same has.a has.b has.c
  | inr f ↦ elim f [
    | inl same ↦ moved (record { a = t.b; b = t.a; c = t.d; d = e }) same has.b has.a own
    | inr g ↦ elim g [
      | inl same ↦ moved (record { a = t.c; b = t.d; c = t.a; d = e }) same has.c own has.a
      | inr same ↦ moved (record { a = t.d; b = t.c; c = t.b; d = e }) same own has.c has.b
    ]
  ]
]
  where
    Has : Vertex → Type 0
    Has v = (v.vector ≡ direction) ⊎ (dot has.normal v.vector ≡ pos 0)

    own : Has t.d
    own = inr (pair_flat points has.normal t.d has.flat last)

    moved : (n : Tetrahedron) → new ≡ n → Has n.a → Has n.b → Has n.c → HasDirection points direction new
    moved n same a b c = subst (HasDirection points direction) (sym same) (record { normal = has.normal; flat = has.flat; apart = has.apart; a = a; b = b; c = c })

-- all of them stay
pub still_kept : (points : List SpacePoint) (target : Target) (t new : Tetrahedron) (e : Vertex) → IsTetrahedron points target t → IsExchange t e new → KeepsDirections points t → KeepsDirections points new
still_kept points target t new e is exchange keeps = record {
  x = λ n h. still_directed points x_axis t new e is.d exchange (keeps.x n h);
  y = λ n h. still_directed points y_axis t new e is.d exchange (keeps.y n h);
  z = λ n h. still_directed points z_axis t new e is.d exchange (keeps.z n h);
}

-- ---- at the end

-- the form through the vertices does not rise along a direction that they have: it is one of them, or they would span no volume
level_along : (points : List SpacePoint) (target : Target) (t : Tetrahedron) (direction : LiftedVector) → IsTetrahedron points target t → direction.one ≡ pos 0 → HasDirection points direction t
    → rise (form_through t.a.vector t.b.vector t.c.vector t.d.vector) direction ≡ pos 0
level_along points target t direction is none has = elim has.a [
  | inl is_a ↦ of_vertex a is_a (first_rise a b c d)
  | inr flat_a ↦ elim has.b [
    | inl is_b ↦ of_vertex b is_b (second_rise a b c d)
    | inr flat_b ↦ elim has.c [
      | inl is_c ↦ of_vertex c is_c (third_rise a b c d)
      | inr flat_c ↦ absurd (clash (some_width points target t form refl is)
          (width_is a b c d (pair_one points t.d is.d) ∙ nothing a.one b.one c.one d.one (flat b c d flat_b flat_c flat_d) (flat a d c flat_a flat_d flat_c) (flat a b d flat_a flat_b flat_d) (flat a c b flat_a flat_c flat_b)))
    ]
  ]
]
  where
    a : LiftedVector
    a = t.a.vector

    b : LiftedVector
    b = t.b.vector

    c : LiftedVector
    c = t.c.vector

    d : LiftedVector
    d = t.d.vector

    form : LinearForm
    form = form_through a b c d

    flat_d : dot has.normal d ≡ pos 0
    flat_d = pair_flat points has.normal t.d has.flat is.d

    flat : (u v w : LiftedVector) → dot has.normal u ≡ pos 0 → dot has.normal v ≡ pos 0 → dot has.normal w ≡ pos 0 → volume u v w ≡ pos 0
    flat u v w hu hv hw = in_one_plane has.normal direction u v w has.apart hu hv hw

    of_vertex : (v : LiftedVector) → v ≡ direction → rise form v ≡ v.one *ℤ rise form d → rise form direction ≡ pos 0
    of_vertex v same rises = ap (rise form) (sym same) ∙ rises ∙ ap (λ o. o *ℤ rise form d) (ap (λ u. u.one) same ∙ none) ∙ zero_times (rise form d)
      where
        zero_times : (z : ℤ) → pos 0 *ℤ z ≡ pos 0
        zero_times z = omega (arith, ints)

    nothing : {u v w m : ℤ} (o p q r : ℤ) → u ≡ pos 0 → v ≡ pos 0 → w ≡ pos 0 → m ≡ pos 0 → u *ℤ o +ℤ v *ℤ p +ℤ w *ℤ q +ℤ m *ℤ r ≡ pos 0
    nothing o p q r hu hv hw hm =
        ap₂ (λ x y. x +ℤ y) (ap₂ (λ x y. x +ℤ y) (ap₂ (λ u v. u *ℤ o +ℤ v *ℤ p) hu hv) (ap (λ w. w *ℤ q) hw)) (ap (λ m. m *ℤ r) hm) ∙ zeros o p q r
      where
        zeros : (o p q r : ℤ) → pos 0 *ℤ o +ℤ pos 0 *ℤ p +ℤ pos 0 *ℤ q +ℤ pos 0 *ℤ r ≡ pos 0
        zeros o p q r = omega (arith, ints)

    clash : {w : ℤ} → pos 1 ≤ℤ w → w ≡ pos 0 → ⊥
    clash h e = omega (arith, ints)

-- what a form rises along an axis is a coordinate, turned
rise_x : (f : LinearForm) → rise f x_axis ≡ neg_ℤ f.x
rise_x f = plain f.w f.x f.y f.z
  where
    plain : (w x y z : ℤ) → w *ℤ pos 0 -ℤ (x *ℤ pos 1 +ℤ y *ℤ pos 0 +ℤ z *ℤ pos 0) ≡ neg_ℤ x
    plain w x y z = omega (arith, ints)

rise_y : (f : LinearForm) → rise f y_axis ≡ neg_ℤ f.y
rise_y f = plain f.w f.x f.y f.z
  where
    plain : (w x y z : ℤ) → w *ℤ pos 0 -ℤ (x *ℤ pos 0 +ℤ y *ℤ pos 1 +ℤ z *ℤ pos 0) ≡ neg_ℤ y
    plain w x y z = omega (arith, ints)

rise_z : (f : LinearForm) → rise f z_axis ≡ neg_ℤ f.z
rise_z f = plain f.w f.x f.y f.z
  where
    plain : (w x y z : ℤ) → w *ℤ pos 0 -ℤ (x *ℤ pos 0 +ℤ y *ℤ pos 0 +ℤ z *ℤ pos 1) ≡ neg_ℤ z
    plain w x y z = omega (arith, ints)

-- so the coordinate is 0, where it does not rise
opposite : {x z : ℤ} → z ≡ neg_ℤ x → z ≡ pos 0 → x ≡ pos 0
opposite h e = omega (arith, ints)

-- so its centre is 0 in the coordinates that are determined
pub determined_zero : (points : List SpacePoint) (target : Target) (t : Tetrahedron) (f : LinearForm) → f ≡ form_through t.a.vector t.b.vector t.c.vector t.d.vector → IsTetrahedron points target t → KeepsDirections points t
    → IsZeroWhereDetermined points (centre_of f)
determined_zero points target t f is_form is keeps = subst (λ f. IsZeroWhereDetermined points (centre_of f)) (sym is_form) (record {
  x = λ n h. opposite (rise_x form) (level_along points target t x_axis is refl (keeps.x n h));
  y = λ n h. opposite (rise_y form) (level_along points target t y_axis is refl (keeps.y n h));
  z = λ n h. opposite (rise_z form) (level_along points target t z_axis is refl (keeps.z n h));
})
  where
    form : LinearForm
    form = form_through t.a.vector t.b.vector t.c.vector t.d.vector

-- ---- in lowest terms

-- a centre is 0 where the centre at the same place is
pub same_zero : (points : List SpacePoint) (c d : SpaceRatio) → SamePlace c d → pos 1 ≤ℤ d.w → IsZeroWhereDetermined points d → IsZeroWhereDetermined points c
same_zero points c d same some h = record {
  x = λ n k. zero_of c.x d.x (same.in_x) (h.x n k);
  y = λ n k. zero_of c.y d.y (same.in_y) (h.y n k);
  z = λ n k. zero_of c.z d.z (same.in_z) (h.z n k);
}
  where
    zero_of : (x y : ℤ) → x *ℤ d.w ≡ y *ℤ c.w → y ≡ pos 0 → x ≡ pos 0
    zero_of x y e none = first_zero x d.w (e ∙ ap (λ z. z *ℤ c.w) none ∙ zero_times c.w) (λ is_none. clash some is_none)
      where
        zero_times : (z : ℤ) → pos 0 *ℤ z ≡ pos 0
        zero_times z = omega (arith, ints)

        clash : {w : ℤ} → pos 1 ≤ℤ w → w ≡ pos 0 → ⊥
        clash h e = omega (arith, ints)
