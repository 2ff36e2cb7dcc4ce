use Rattle.std.proofs.Common.{◌≡◌, sym, subst, ap, ap₂, ◌∙◌, ◌<◌, ◌≤◌, take, [], ◌∷◌, ◌++◌, length, arith, ℕ, List}
use Rattle.std.proofs.lemmas.List.{take_all, take_more, length-take-le}
use Rattle.hull_calipers.specs.CornerLists.{numbers_in}
use Rattle.extremal_kgon.proofs.polygon.numbers.Goals as goal

pub corners-init : goal.corners-init
corners-init c = c.new-numbers.ensures

-- so many are few
room : (xs ys : List ℕ) (i : ℕ) → xs ≡ take i ys → i < length ys → length ys ≤ 10000 → length xs < 1000000
room xs ys i is below few = enough (ap length is ∙ length-take-le i ys (under below)) below few
  where
    under : {n : ℕ} → i < n → i ≤ n
    under h = omega arith

    enough : {m n : ℕ} → m ≡ i → i < n → n ≤ 10000 → m < 1000000
    enough e h k = omega arith

pub push-requires : goal.push-requires
push-requires c = room c.corners.numbers (numbers_in c.args.hull.now) c.corners.i c.corners.invariant (subst (λ n. c.corners.i < n) c.len-i-end.ensures.count c.corners-test.true) (subst (λ n. n ≤ 10000) c.len-i-end.ensures.count c.len-i-end.ensures.few)

pub corners-preserved : goal.corners-preserved
corners-preserved c =
    c.in_ok-push.ensures.added ∙ ap₂ (λ xs x. xs ++ x ∷ []) c.corners.invariant c.number.ensures.number ∙ sym (take_more (numbers_in c.args.hull.now) c.corners.i 0 (subst (λ n. c.corners.i < n) c.len-i-end.ensures.count c.corners-test.true))

pub returns : goal.returns
returns c = c.corners.invariant ∙ take_all c.corners.i (numbers_in c.args.hull.now) (omega (arith, c.len-i-end.ensures.count))
