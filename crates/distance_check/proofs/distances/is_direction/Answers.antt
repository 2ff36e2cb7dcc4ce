use Rattle.std.proofs.Common.{◌≡◌, sym, subst, ap, int_eq, ◌&&◌}
use Rattle.std.proofs.lemmas.Bool.Decides.{Decides-at, Decides-and, Decides-int_eq}
use Rattle.bounds_model.specs.DistanceAnswer.{IsDirectionOf}
use Rattle.kernel_laws.proofs.Points.{same_point}
use Rattle.answers.specs.Answers.{space_vector_of}
use Rattle.pair_sums.specs.Sums.{pull_of}
use Rattle.pair_sums.proofs.Directions.{direction_unique}
use Rattle.pair_sums.proofs.WeightedMeans.{are_numbers}
use Rattle.distance_check.specs.DeterminedDistances.{AreNumbers}
use Rattle.distance_check.proofs.distances.is_direction.Goals as goal

pub returns : goal.returns
returns c =
    let given = space_vector_of c.args.direction in
    let found = space_vector_of c.direction.result in
    let numbers = are_numbers c.direction.ensures.limit in
    let decides = Decides-at c.eq.result (int_eq given.x found.x && (int_eq given.y found.y && int_eq given.z found.z)) c.eq.ensures
    (Decides-and (int_eq given.x found.x) (int_eq given.y found.y && int_eq given.z found.z) (Decides-int_eq given.x found.x)
    (Decides-and (int_eq given.y found.y) (int_eq given.z found.z) (Decides-int_eq given.y found.y) (Decides-int_eq given.z found.z))) in (
      λ yes.
          let parts = decides.0 yes in
          let same : given ≡ found = same_point parts.0 parts.1.0 parts.1.1 in
          (subst AreNumbers (sym same) (record { x = numbers.0; y = numbers.1; z = numbers.2 }), subst (IsDirectionOf (pull_of c.args.totals.now)) (sym same) c.direction.ensures.direction),
      λ h.
          let same = direction_unique (pull_of c.args.totals.now) given found h.1 c.direction.ensures.direction in
          decides.1 (ap (λ v. v.x) same, (ap (λ v. v.y) same, ap (λ v. v.z) same)),
    )
