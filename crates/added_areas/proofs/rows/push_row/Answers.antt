use Rattle.std.proofs.Common.{◌≡◌, sym, subst, ap, ◌∙◌, ◌+◌, ◌*◌, ◌<◌, ◌≤◌, ◌++◌, length, map, ℕ, [], ◌∷◌, arith}
use Rattle.std.proofs.lemmas.List.{length-map}
use native.Mathlib.Nat.{mul-le-mul}
use Rattle.integers.proofs.Narrowing.{kept64}
use Rattle.added_areas.specs.PlaneVectors.{vector_of}
use Rattle.added_areas.specs.AddedRows.{AreAdded}
use Rattle.added_areas.proofs.AddedNumbers.{row-none, row-more, row-whole}
use Rattle.added_areas.proofs.rows.push_row.Goals as goal

pub lasts-init : goal.lasts-init
lasts-init c = row-none (map vector_of c.args.vectors.now) c.args.layer c.args.rows.now.items (subst (λ n. length c.args.rows.now.items ≡ (c.args.layer + 1) * n) (sym (length-map c.args.vectors.now vector_of)) c.requires.as_many) c.requires.rows

pub most_from-most-requires-clause-rows : goal.most_from-most-requires-clause-rows
most_from-most-requires-clause-rows c = subst (AreAdded (map vector_of c.args.vectors.now) c.args.layer) (sym c.as_slice.ensures.value) c.lasts.invariant.below

-- there is room for the row
room : {layer count last rows n : ℕ} → rows ≡ (layer + 1) * n + last → n ≡ count → layer < 10 → count ≤ 128 → last < count → rows < 1408
room {layer} {count} {last} {rows} {n} e f few some low = under ((layer + 1) * n) (mul-le-mul (ten few) (subst (λ m. m ≤ 128) (sym f) some)) e low some
  where
    ten : layer < 10 → layer + 1 ≤ 10
    ten h = omega arith

    under : (p : ℕ) → p ≤ 10 * 128 → rows ≡ p + last → last < count → count ≤ 128 → rows < 1408
    under p h e l s = omega arith

pub push-requires : goal.push-requires
push-requires c = let enough : length c.lasts.rows.items < 1408 = room c.lasts.invariant.as_many (length-map c.args.vectors.now vector_of) c.requires.layer c.requires.few c.lasts-test.true in (omega arith, enough)

pub lasts-preserved : goal.lasts-preserved
lasts-preserved c = row-more (map vector_of c.args.vectors.now) c.args.layer c.lasts.last c.lasts.rows.items c.push.new.self.items c.most_from-most.result c.lasts.invariant (c.push.ensures.items ∙ ap (λ u. c.lasts.rows.items ++ u ∷ []) (kept64 {z = c.most_from-most.result} c.most_from-most.type_inv)) c.most_from-most.ensures

pub returns-clause-as_many : goal.returns-clause-as_many
returns-clause-as_many c = subst (λ n. length c.lasts.rows.items ≡ (c.args.layer + 2) * n) (length-map c.args.vectors.now vector_of) (row-whole (map vector_of c.args.vectors.now) c.args.layer c.lasts.last c.lasts.rows.items c.lasts.invariant (omega (arith, c.lasts-test.false, c.lasts.auto.last-end, length-map c.args.vectors.now vector_of))).0

pub returns-clause-rows : goal.returns-clause-rows
returns-clause-rows c = (row-whole (map vector_of c.args.vectors.now) c.args.layer c.lasts.last c.lasts.rows.items c.lasts.invariant (omega (arith, c.lasts-test.false, c.lasts.auto.last-end, length-map c.args.vectors.now vector_of))).1
