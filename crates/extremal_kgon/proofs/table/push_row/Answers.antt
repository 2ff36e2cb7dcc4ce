use Rattle.std.proofs.Common.{◌≡◌, sym, ap, ◌∙◌, ◌+◌, ◌<◌, ◌≤◌, ◌++◌, length, map, ℕ, List, [], ◌∷◌, take, ℤ, pos, arith, w64, append_assoc, length-append}
use Rattle.std.specs.Prelude.{nat_abs, slice_index_or}
use Rattle.std.proofs.lemmas.List.{append-nil, take_more, map-append, length-map, length-take-le, take_all}
use Rattle.integers.proofs.Sizes.{wrap_is_in}
use Rattle.extremal_kgon.proofs.table.push_row.Goals as goal

pub row-init : goal.row-init
row-init c = sym (append-nil c.args.potentials.now)

-- there is room for the rest of the row
room : (old now : List ℕ) (row : List ℤ) (i : ℕ) → now ≡ old ++ map nat_abs (take i row) → i < length row → length old + length row ≤ 1000000 → length now < 1000000
room old now row i is below fits = enough _ (ap length is ∙ length-append old (map nat_abs (take i row)) ∙ ap (λ n. length old + n) (length-map (take i row) nat_abs ∙ length-take-le i row (under below))) below fits
  where
    under : {n : ℕ} → i < n → i ≤ n
    under h = omega arith

    enough : (a : ℕ) {b n : ℕ} → n ≡ a + i → i < b → a + b ≤ 1000000 → n < 1000000
    enough a e h k = omega arith

pub push-requires : goal.push-requires
push-requires c = room c.args.potentials.now c.row.potentials c.args.row.now c.row.i c.row.invariant c.row-test.true c.requires.room

-- one number more
pushed : (old now new : List ℕ) (row : List ℤ) (i v : ℕ) → now ≡ old ++ map nat_abs (take i row) → i < length row → v ≡ nat_abs (slice_index_or row i (pos 0)) → new ≡ now ++ v ∷ [] → new ≡ old ++ map nat_abs (take (i + 1) row)
pushed old now new row i v is below value added =
    added ∙ ap (λ xs. xs ++ v ∷ []) is ∙ append_assoc old (map nat_abs (take i row)) (v ∷ [])
    ∙ ap (λ xs. old ++ xs) (ap (λ w. map nat_abs (take i row) ++ w ∷ []) value ∙ sym (map-append nat_abs (take i row) (slice_index_or row i (pos 0) ∷ [])) ∙ ap (map nat_abs) (sym (take_more row i (pos 0) below)))

pub row-preserved : goal.row-preserved
row-preserved c =
    pushed c.args.potentials.now c.row.potentials c.push.new.self c.args.row.now c.row.i c.from.result c.row.invariant c.row-test.true
    (c.from.ensures ∙ c.unsigned_abs.ensures.value ∙ ap nat_abs (wrap_is_in w64 (c.requires.sizes c.row.i (pos 0) c.row-test.true) tt)) c.in_ok-push.ensures.added

pub returns : goal.returns
returns c = c.row.invariant ∙ ap (λ xs. c.args.potentials.now ++ map nat_abs xs) (take_all c.row.i c.args.row.now (omega arith))
