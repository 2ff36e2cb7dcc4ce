use Rattle.std.proofs.Common.{◌≡◌, subst, ap, ◌+◌, ◌*◌, ◌<◌, length, map, ℕ, arith}
use Rattle.std.proofs.lemmas.List.{length-map}
use Rattle.added_areas.specs.PlaneVectors.{vector_of}
use Rattle.added_areas.specs.AddedRows.{AreAdded}
use Rattle.added_areas.proofs.AddedNumbers.{zeros-more, zeros-added}
use Rattle.added_areas.proofs.rows.added_rows.Goals as goal

pub zeros-init : goal.zeros-init
zeros-init c = record { as_many = ap length c.new-rows.ensures; each = λ k l. absurd (none l) }
  where
    none : {k : ℕ} → k < 0 → ⊥
    none h = omega arith

pub push-requires : goal.push-requires
push-requires c = let room : length c.zeros.rows.items < 1408 = omega (arith, c.zeros.invariant.as_many, c.zeros-test.true, c.requires.few) in (omega arith, room)

pub zeros-preserved : goal.zeros-preserved
zeros-preserved c = zeros-more c.zeros._last c.zeros.rows.items c.push.new.self.items c.zeros.invariant c.push.ensures.items

pub layers-init : goal.layers-init
layers-init c =
    let whole = zeros-added (map vector_of c.args.vectors.now) c.zeros._last c.zeros.rows.items c.zeros.invariant (omega (arith, c.zeros-test.false, c.zeros.auto._last-end, length-map c.args.vectors.now vector_of)) in
    record { as_many = subst (λ n. length c.zeros.rows.items ≡ (0 + 1) * n) (length-map c.args.vectors.now vector_of) whole.0; rows = whole.1 }

pub push_row-requires-clause-as_many : goal.push_row-requires-clause-as_many
push_row-requires-clause-as_many c = c.layers.invariant.as_many

pub push_row-requires-clause-rows : goal.push_row-requires-clause-rows
push_row-requires-clause-rows c = c.layers.invariant.rows

pub layers-preserved : goal.layers-preserved
layers-preserved c = record { as_many = subst (λ m. length c.push_row.new.rows.items ≡ m * length c.args.vectors.now) (two c.layers.layer) c.push_row.ensures.as_many; rows = c.push_row.ensures.rows }
  where
    two : (n : ℕ) → n + 2 ≡ n + 1 + 1
    two n = omega arith

pub returns : goal.returns
returns c = let all : c.layers.layer ≡ c.args.layers = omega arith in subst (λ n. AreAdded (map vector_of c.args.vectors.now) n c.layers.rows.items) all c.layers.invariant.rows
