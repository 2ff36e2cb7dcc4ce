-- The best size is the same for the points in another order, for all kinds.
use Rattle.std.proofs.Common.{◌≡◌, refl, sym, ◌∙◌, ap, ℕ, List, []}
use Rattle.std.specs.Prelude.{IsPermutation, IsSomeAnd}
use Rattle.std.specs.declared.option.Option.{Option}
use Rattle.std.specs.declared.option.Option.TheVariants.{Some, None}
use Rattle.std.proofs.lemmas.List.Sorted.{IsPermutation-refl}
use Rattle.bounds_model.specs.Plane.{PlanePoint}
use Rattle.bounds_model.specs.Space.{SpacePoint}
use Rattle.bounds_model.specs.EmptyRectangle.{Box}
use Rattle.bounds_model.specs.Asks.{Ask, Sets}
use Rattle.bounds_model.specs.Asks.Ask.{ask_circle, ask_sphere, ask_rectangle, ask_parallelogram, ask_strip, ask_annulus, ask_empty, ask_kgon, ask_distance, ask_centres, ask_furthest, ask_four, ask_shell}
use Rattle.bounds_model.specs.Asks.Sets.{plane, space, two, bare}
use Rattle.bounds_model.specs.Answers.{Answer, Claim, claim, ClaimFits, ClaimIsBest, IsBest, size_of}
use Rattle.bounds_model.specs.Answers.Answer.{circle, sphere, rectangle, parallelogram, strip, annulus, empty, kgon, distance, centres, furthest, four, shell}
use Rattle.bounds_model.specs.Answers.Claim.{circle_claim, sphere_claim, rectangle_claim, parallelogram_claim, strip_claim, annulus_claim, empty_claim, kgon_claim, distance_claim, centres_claim, furthest_claim, four_claim, shell_claim}
use Rattle.model_laws.specs.Laws.{ArePermuted, BestSizeHasNoOrder, BestSizeIsUnique, OptimumIsUnique}
use Rattle.model_laws.proofs.KindSizes.{Stands, circle_sizes, sphere_sizes, rectangle_sizes, parallelogram_sizes, strip_sizes, annulus_sizes, empty_sizes, kgon_sizes, distance_sizes, centres_sizes, four_sizes, shell_sizes}
use Rattle.model_laws.proofs.FurthestSizes.{furthest_sizes}

-- ---- the points of a set

-- the points of the plane, if any
abbrev plane_points : Sets → List PlanePoint
plane_points (plane points) = points
plane_points sets = []

-- the points of space, if any
abbrev space_points : Sets → List SpacePoint
space_points (space points) = points
space_points sets = []

-- the first of two sets, if any
abbrev first_points : Sets → List SpacePoint
first_points (two ps qs) = ps
first_points sets = []

-- the second of two sets, if any
abbrev second_points : Sets → List SpacePoint
second_points (two ps qs) = qs
second_points sets = []

-- points are in the order of themselves
pub permuted_itself : (sets : Sets) → ArePermuted sets sets
permuted_itself (plane points) = IsPermutation-refl points
permuted_itself (space points) = IsPermutation-refl points
permuted_itself (two ps qs) = (IsPermutation-refl ps, IsPermutation-refl qs)
permuted_itself bare = tt

-- the points of the plane are in another order
plane_permuted : (sets other : Sets) → ArePermuted sets other → IsPermutation (plane_points sets) (plane_points other)
plane_permuted (plane ps) (plane qs) p = p
plane_permuted (space ps) (space qs) p = IsPermutation-refl []
plane_permuted (two ps qs) (two ps' qs') p = IsPermutation-refl []
plane_permuted bare bare p = IsPermutation-refl []
plane_permuted sets other p = absurd p

-- and those of space
space_permuted : (sets other : Sets) → ArePermuted sets other → IsPermutation (space_points sets) (space_points other)
space_permuted (plane ps) (plane qs) p = IsPermutation-refl []
space_permuted (space ps) (space qs) p = p
space_permuted (two ps qs) (two ps' qs') p = IsPermutation-refl []
space_permuted bare bare p = IsPermutation-refl []
space_permuted sets other p = absurd p

-- and those of two sets
two_permuted : (sets other : Sets) → ArePermuted sets other → IsPermutation (first_points sets) (first_points other) × IsPermutation (second_points sets) (second_points other)
two_permuted (plane ps) (plane qs) p = (IsPermutation-refl [], IsPermutation-refl [])
two_permuted (space ps) (space qs) p = (IsPermutation-refl [], IsPermutation-refl [])
two_permuted (two ps qs) (two ps' qs') p = p
two_permuted bare bare p = (IsPermutation-refl [], IsPermutation-refl [])
two_permuted sets other p = absurd p

-- ---- what a best answer claims

-- both hold of a claim
some_both : (o : Option Claim) → IsSomeAnd o ClaimFits → IsSomeAnd o ClaimIsBest → IsSomeAnd o Stands
some_both None h k = h
some_both (Some c) h k = (h, k)

-- what a best answer claims stands
stands : (ask : Ask) (sets : Sets) (answer : Answer) → IsBest ask sets answer → IsSomeAnd (claim ask sets answer) Stands
stands ask sets answer h = some_both (claim ask sets answer) h.fits h.best

-- the answer is of this kind, and what it claims stands
abbrev Case : {A : Type 0} → (A → Answer) → (A → Claim) → Answer → Type 0
Case {A} wrap claimed answer = (a : A) × (answer ≡ wrap a) × Stands (claimed a)

-- a best answer on circles, and so on for each kind
circle_case : (sets : Sets) (answer : Answer) → IsBest ask_circle sets answer → Case circle (circle_claim (plane_points sets)) answer
circle_case sets answer h = by_claim sets answer (stands ask_circle sets answer h)
  where
    by_claim : (sets : Sets) (answer : Answer) → IsSomeAnd (claim ask_circle sets answer) Stands → Case circle (circle_claim (plane_points sets)) answer
    by_claim (plane points) (circle a) h = (a, refl, h)
    by_claim sets answer h = absurd h

sphere_case : (sets : Sets) (answer : Answer) → IsBest ask_sphere sets answer → Case sphere (sphere_claim (space_points sets)) answer
sphere_case sets answer h = by_claim sets answer (stands ask_sphere sets answer h)
  where
    by_claim : (sets : Sets) (answer : Answer) → IsSomeAnd (claim ask_sphere sets answer) Stands → Case sphere (sphere_claim (space_points sets)) answer
    by_claim (space points) (sphere a) h = (a, refl, h)
    by_claim sets answer h = absurd h

rectangle_case : (sets : Sets) (answer : Answer) → IsBest ask_rectangle sets answer → Case rectangle (rectangle_claim (plane_points sets)) answer
rectangle_case sets answer h = by_claim sets answer (stands ask_rectangle sets answer h)
  where
    by_claim : (sets : Sets) (answer : Answer) → IsSomeAnd (claim ask_rectangle sets answer) Stands → Case rectangle (rectangle_claim (plane_points sets)) answer
    by_claim (plane points) (rectangle a) h = (a, refl, h)
    by_claim sets answer h = absurd h

parallelogram_case : (sets : Sets) (answer : Answer) → IsBest ask_parallelogram sets answer → Case parallelogram (parallelogram_claim (plane_points sets)) answer
parallelogram_case sets answer h = by_claim sets answer (stands ask_parallelogram sets answer h)
  where
    by_claim : (sets : Sets) (answer : Answer) → IsSomeAnd (claim ask_parallelogram sets answer) Stands → Case parallelogram (parallelogram_claim (plane_points sets)) answer
    by_claim (plane points) (parallelogram a) h = (a, refl, h)
    by_claim sets answer h = absurd h

strip_case : (sets : Sets) (answer : Answer) → IsBest ask_strip sets answer → Case strip (strip_claim (plane_points sets)) answer
strip_case sets answer h = by_claim sets answer (stands ask_strip sets answer h)
  where
    by_claim : (sets : Sets) (answer : Answer) → IsSomeAnd (claim ask_strip sets answer) Stands → Case strip (strip_claim (plane_points sets)) answer
    by_claim (plane points) (strip a) h = (a, refl, h)
    by_claim sets answer h = absurd h

annulus_case : (sets : Sets) (answer : Answer) → IsBest ask_annulus sets answer → Case annulus (annulus_claim (plane_points sets)) answer
annulus_case sets answer h = by_claim sets answer (stands ask_annulus sets answer h)
  where
    by_claim : (sets : Sets) (answer : Answer) → IsSomeAnd (claim ask_annulus sets answer) Stands → Case annulus (annulus_claim (plane_points sets)) answer
    by_claim (plane points) (annulus a) h = (a, refl, h)
    by_claim sets answer h = absurd h

empty_case : (frame : Box) (sets : Sets) (answer : Answer) → IsBest (ask_empty frame) sets answer → Case empty (empty_claim frame (plane_points sets)) answer
empty_case frame sets answer h = by_claim sets answer (stands (ask_empty frame) sets answer h)
  where
    by_claim : (sets : Sets) (answer : Answer) → IsSomeAnd (claim (ask_empty frame) sets answer) Stands → Case empty (empty_claim frame (plane_points sets)) answer
    by_claim (plane points) (empty a) h = (a, refl, h)
    by_claim bare (empty a) h = (a, refl, h)
    by_claim sets answer h = absurd h

centres_case : (count : ℕ) (sets : Sets) (answer : Answer) → IsBest (ask_centres count) sets answer → Case centres (centres_claim count (plane_points sets)) answer
centres_case count sets answer h = by_claim sets answer (stands (ask_centres count) sets answer h)
  where
    by_claim : (sets : Sets) (answer : Answer) → IsSomeAnd (claim (ask_centres count) sets answer) Stands → Case centres (centres_claim count (plane_points sets)) answer
    by_claim (plane points) (centres a) h = (a, refl, h)
    by_claim sets answer h = absurd h

kgon_case : (k : ℕ) (sets : Sets) (answer : Answer) → IsBest (ask_kgon k) sets answer → Case kgon (kgon_claim k (plane_points sets)) answer
kgon_case k sets answer h = by_claim sets answer (stands (ask_kgon k) sets answer h)
  where
    by_claim : (sets : Sets) (answer : Answer) → IsSomeAnd (claim (ask_kgon k) sets answer) Stands → Case kgon (kgon_claim k (plane_points sets)) answer
    by_claim (plane points) (kgon a) h = (a, refl, h)
    by_claim sets answer h = absurd h

distance_case : (sets : Sets) (answer : Answer) → IsBest ask_distance sets answer → Case distance (distance_claim (first_points sets) (second_points sets)) answer
distance_case sets answer h = by_claim sets answer (stands ask_distance sets answer h)
  where
    by_claim : (sets : Sets) (answer : Answer) → IsSomeAnd (claim ask_distance sets answer) Stands → Case distance (distance_claim (first_points sets) (second_points sets)) answer
    by_claim (two ps qs) (distance a) h = (a, refl, h)
    by_claim sets answer h = absurd h

furthest_case : (sets : Sets) (answer : Answer) → IsBest ask_furthest sets answer → Case furthest (furthest_claim (plane_points sets)) answer
furthest_case sets answer h = by_claim sets answer (stands ask_furthest sets answer h)
  where
    by_claim : (sets : Sets) (answer : Answer) → IsSomeAnd (claim ask_furthest sets answer) Stands → Case furthest (furthest_claim (plane_points sets)) answer
    by_claim (plane points) (furthest a) h = (a, refl, h)
    by_claim sets answer h = absurd h

four_case : (sets : Sets) (answer : Answer) → IsBest ask_four sets answer → Case four (four_claim (plane_points sets)) answer
four_case sets answer h = by_claim sets answer (stands ask_four sets answer h)
  where
    by_claim : (sets : Sets) (answer : Answer) → IsSomeAnd (claim ask_four sets answer) Stands → Case four (four_claim (plane_points sets)) answer
    by_claim (plane points) (four a) h = (a, refl, h)
    by_claim sets answer h = absurd h

shell_case : (sets : Sets) (answer : Answer) → IsBest ask_shell sets answer → Case shell (shell_claim (space_points sets)) answer
shell_case sets answer h = by_claim sets answer (stands ask_shell sets answer h)
  where
    by_claim : (sets : Sets) (answer : Answer) → IsSomeAnd (claim ask_shell sets answer) Stands → Case shell (shell_claim (space_points sets)) answer
    by_claim (space points) (shell a) h = (a, refl, h)
    by_claim sets answer h = absurd h

-- ---- all kinds

-- the best size is the same for the points in another order
pub one_size : BestSizeHasNoOrder
one_size ask_circle sets other first second p h g =
    let a = circle_case sets first h in
    let b = circle_case other second g in
    ap size_of a.1 ∙ circle_sizes (plane_points sets) (plane_points other) a.0 b.0 (plane_permuted sets other p) a.2 b.2 ∙ sym (ap size_of b.1)
one_size ask_sphere sets other first second p h g =
    let a = sphere_case sets first h in
    let b = sphere_case other second g in
    ap size_of a.1 ∙ sphere_sizes (space_points sets) (space_points other) a.0 b.0 (space_permuted sets other p) a.2 b.2 ∙ sym (ap size_of b.1)
one_size ask_rectangle sets other first second p h g =
    let a = rectangle_case sets first h in
    let b = rectangle_case other second g in
    ap size_of a.1 ∙ rectangle_sizes (plane_points sets) (plane_points other) a.0 b.0 (plane_permuted sets other p) a.2 b.2 ∙ sym (ap size_of b.1)
one_size ask_parallelogram sets other first second p h g =
    let a = parallelogram_case sets first h in
    let b = parallelogram_case other second g in
    ap size_of a.1 ∙ parallelogram_sizes (plane_points sets) (plane_points other) a.0 b.0 (plane_permuted sets other p) a.2 b.2 ∙ sym (ap size_of b.1)
one_size ask_strip sets other first second p h g =
    let a = strip_case sets first h in
    let b = strip_case other second g in
    ap size_of a.1 ∙ strip_sizes (plane_points sets) (plane_points other) a.0 b.0 (plane_permuted sets other p) a.2 b.2 ∙ sym (ap size_of b.1)
one_size ask_annulus sets other first second p h g =
    let a = annulus_case sets first h in
    let b = annulus_case other second g in
    ap size_of a.1 ∙ annulus_sizes (plane_points sets) (plane_points other) a.0 b.0 (plane_permuted sets other p) a.2 b.2 ∙ sym (ap size_of b.1)
one_size (ask_empty frame) sets other first second p h g =
    let a = empty_case frame sets first h in
    let b = empty_case frame other second g in
    ap size_of a.1 ∙ empty_sizes frame (plane_points sets) (plane_points other) a.0 b.0 (plane_permuted sets other p) a.2 b.2 ∙ sym (ap size_of b.1)
one_size (ask_kgon k) sets other first second p h g =
    let a = kgon_case k sets first h in
    let b = kgon_case k other second g in
    ap size_of a.1 ∙ kgon_sizes k (plane_points sets) (plane_points other) a.0 b.0 (plane_permuted sets other p) a.2 b.2 ∙ sym (ap size_of b.1)
one_size ask_distance sets other first second p h g =
    let a = distance_case sets first h in
    let b = distance_case other second g in
    let s = two_permuted sets other p in
    ap size_of a.1 ∙ distance_sizes (first_points sets) (second_points sets) (first_points other) (second_points other) a.0 b.0 s.0 s.1 a.2 b.2 ∙ sym (ap size_of b.1)
one_size (ask_centres count) sets other first second p h g =
    let a = centres_case count sets first h in
    let b = centres_case count other second g in
    ap size_of a.1 ∙ centres_sizes count (plane_points sets) (plane_points other) a.0 b.0 (plane_permuted sets other p) a.2 b.2 ∙ sym (ap size_of b.1)
one_size ask_furthest sets other first second p h g =
    let a = furthest_case sets first h in
    let b = furthest_case other second g in
    ap size_of a.1 ∙ furthest_sizes (plane_points sets) (plane_points other) a.0 b.0 (plane_permuted sets other p) a.2 b.2 ∙ sym (ap size_of b.1)
one_size ask_four sets other first second p h g =
    let a = four_case sets first h in
    let b = four_case other second g in
    ap size_of a.1 ∙ four_sizes (plane_points sets) (plane_points other) a.0 b.0 (plane_permuted sets other p) a.2 b.2 ∙ sym (ap size_of b.1)
one_size ask_shell sets other first second p h g =
    let a = shell_case sets first h in
    let b = shell_case other second g in
    ap size_of a.1 ∙ shell_sizes (space_points sets) (space_points other) a.0 b.0 (space_permuted sets other p) a.2 b.2 ∙ sym (ap size_of b.1)

-- so it is for the same points
pub one_size_of_same : BestSizeIsUnique
one_size_of_same ask sets first second h g = one_size ask sets sets first second (permuted_itself sets) h g

-- so there is one optimum at most
pub one_optimum : OptimumIsUnique
one_optimum ask sets first second h g = sym h.printed ∙ one_size_of_same ask sets h.answer g.answer h.best g.best ∙ g.printed
