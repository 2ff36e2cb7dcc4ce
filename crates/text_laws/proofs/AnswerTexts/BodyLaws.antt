-- Lists of lines: what was written is read again, and what was read was written so.
use Rattle.std.proofs.Common.{◌≡◌, ℕ, zero, suc, ◌+◌, ◌-◌, ◌≤◌, ℤ, pos, Bool, true, ◌&&◌, List, [], ◌∷◌, ◌++◌, length, take, drop, refl, sym, ap, subst, ◌∙◌, append_assoc, arith, Ok}
use Rattle.std.specs.Prelude.{Result, nat_lt, nat_le, int_le, ◌==◌}
use Rattle.std.specs.List.{list_all, concat, flat_map}
use Rattle.std.proofs.lemmas.Bool.{eqb-true, leb-true}
use Rattle.std.proofs.lemmas.List.{take_at, drop_at, take-append-drop}
use Rattle.bounds_model.specs.AnswerText.Fields.{naturals, bounded}
use Rattle.bounds_model.specs.AnswerText.LineFormats.{LineFormat, untitled, Values}
use Rattle.bounds_model.specs.AnswerText.Formats.{Refusal, ◌>>=◌, Unread, line_at, lines_at, rows_at, count_format, Part, line, counted, count, rows, PartValue, counts_after, part_at, Body, body_at}
use Rattle.bounds_model.specs.AnswerText.Written.{format_line, row_format, rows_bytes, part_bytes, body_bytes}
use Rattle.text_laws.proofs.AnswerTexts.NumberLaws.{both_true}
use Rattle.text_laws.proofs.AnswerTexts.ValueLaws.{Fits, first_fits}
use Rattle.text_laws.proofs.AnswerTexts.FormLaws.{then_again, bind_ok, read_is, is_format, unread, line_again, line_back}

-- ---- lines of one format

-- each line fits its format
abbrev pub AllFit : (format : LineFormat) → List (Values format.fields) → Type 0
AllFit format [] = Unit {0}
AllFit format (v ∷ vs) = Fits format.fields v × AllFit format vs

-- lines that were written are read again
pub lines_again : (format : LineFormat) (vs : List (Values format.fields)) (n : ℕ) (rest : List ℕ) → is_format format ≡ true → AllFit format vs
    → (m : ℕ) × (lines_at (length vs) format (unread n (flat_map (format_line format) vs ++ rest)) ≡ Ok (vs, unread m rest))
lines_again format [] n rest sound fits = (n, refl)
lines_again format (v ∷ vs) n rest sound fits =
    let others = lines_again format vs (n + 1) rest sound fits.1 in
    let text = append_assoc (format_line format v) (flat_map (format_line format) vs) rest in
    let first = ap (λ (bytes : List ℕ). line_at format (unread n bytes)) text ∙ line_again format v n (flat_map (format_line format) vs ++ rest) sound fits.0 in (
      others.0,
      then_again (line_at format (unread n (flat_map (format_line format) (v ∷ vs) ++ rest))) (v, unread (n + 1) (flat_map (format_line format) vs ++ rest)) _ _ first
          (then_again (lines_at (length vs) format (unread (n + 1) (flat_map (format_line format) vs ++ rest))) (vs, unread others.0 rest) _ _ others.1 refl),
    )

-- lines that were read stand at the front of the text
pub lines_back : (format : LineFormat) (amount : ℕ) (from : Unread) (vs : List (Values format.fields)) (to : Unread) → lines_at amount format from ≡ Ok (vs, to)
    → (concat from.lines ≡ flat_map (format_line format) vs ++ concat to.lines) × (length vs ≡ amount) × AllFit format vs
lines_back format zero from vs to e =
    let is : ◌≡◌ {A = List (Values format.fields) × Unread} ([], from) (vs, to) = read_is {A = List (Values format.fields) × Unread} ([], from) (vs, to) e in
    subst (λ (p : List (Values format.fields) × Unread). (concat from.lines ≡ flat_map (format_line format) p.0 ++ concat p.1.lines) × (length p.0 ≡ 0) × AllFit format p.0) is (refl, refl, tt)
lines_back format (suc amount) from vs to e =
    let r = bind_ok (line_at format from) (λ first. ◌>>=◌ {B = List (Values format.fields) × Unread} (lines_at amount format first.1) (λ others. Ok (first.0 ∷ others.0, others.1))) (vs, to) e in
    let q = bind_ok (lines_at amount format r.0.1) (more r.0.0) (vs, to) r.2 in
    let is : ◌≡◌ {A = List (Values format.fields) × Unread} (r.0.0 ∷ q.0.0, q.0.1) (vs, to) = read_is {A = List (Values format.fields) × Unread} (r.0.0 ∷ q.0.0, q.0.1) (vs, to) q.2 in
    let first = line_back format from r.0.0 r.0.1 r.1 in
    let others = lines_back format amount r.0.1 q.0.0 q.0.1 q.1 in
    let text = first.0 ∙ ap (λ (bytes : List ℕ). format_line format r.0.0 ++ bytes) others.0 ∙ sym (append_assoc (format_line format r.0.0) (flat_map (format_line format) q.0.0) (concat q.0.1.lines)) in
    subst (λ (p : List (Values format.fields) × Unread). (concat from.lines ≡ flat_map (format_line format) p.0 ++ concat p.1.lines) × (length p.0 ≡ suc amount) × AllFit format p.0) is (text, ap suc others.1, (first.1, others.2))
  where
    more : Values format.fields → List (Values format.fields) × Unread → Result (List (Values format.fields) × Unread) Refusal
    more v others = Ok (v ∷ others.0, others.1)

-- ---- rows of numbers

-- the rows have these widths, and their numbers fit
abbrev pub RowsFit : List ℕ → List ℤ → Type 0
RowsFit [] zs = zs ≡ []
RowsFit (width ∷ widths) zs = Fits (naturals width ∷ []) (take width zs, tt) × RowsFit widths (drop width zs)

-- rows that were written are read again
pub rows_again : (widths : List ℕ) (zs : List ℤ) (n : ℕ) (rest : List ℕ) → list_all (λ w. nat_lt 0 w) widths ≡ true → RowsFit widths zs
    → (m : ℕ) × (rows_at widths (unread n (rows_bytes widths zs ++ rest)) ≡ Ok (zs, unread m rest))
rows_again [] zs n rest sound fits = (n, ap (λ (ys : List ℤ). Ok (ys, unread n rest)) (sym fits))
rows_again (width ∷ widths) zs n rest sound fits =
    let parts = both_true (nat_lt 0 width) (list_all (λ w. nat_lt 0 w) widths) sound in
    let others = rows_again widths (drop width zs) (n + 1) rest parts.1 fits.1 in
    let row = format_line (row_format width) (take width zs, tt) in
    let text = append_assoc row (rows_bytes widths (drop width zs)) rest in
    let sound-row : is_format (row_format width) ≡ true = ap (λ (t : Bool). t) parts.0 in
    let first = ap (λ (bytes : List ℕ). line_at (row_format width) (unread n bytes)) text ∙ line_again (row_format width) (take width zs, tt) n (rows_bytes widths (drop width zs) ++ rest) sound-row fits.0 in (
      others.0,
      then_again (line_at (row_format width) (unread n (rows_bytes (width ∷ widths) zs ++ rest))) ((take width zs, tt), unread (n + 1) (rows_bytes widths (drop width zs) ++ rest)) _ _ first
          (then_again (rows_at widths (unread (n + 1) (rows_bytes widths (drop width zs) ++ rest))) (drop width zs, unread others.0 rest) _ _ others.1
          (ap (λ (ys : List ℤ). Ok (ys, unread others.0 rest)) (take-append-drop width zs))),
    )

-- rows that were read stand at the front of the text
pub rows_back : (widths : List ℕ) (from : Unread) (zs : List ℤ) (to : Unread) → rows_at widths from ≡ Ok (zs, to) → (concat from.lines ≡ rows_bytes widths zs ++ concat to.lines) × RowsFit widths zs
rows_back [] from zs to e =
    let is : ◌≡◌ {A = List ℤ × Unread} ([], from) (zs, to) = read_is {A = List ℤ × Unread} ([], from) (zs, to) e in
    (ap (λ (p : List ℤ × Unread). concat p.1.lines) is, sym (ap (λ (p : List ℤ × Unread). p.0) is))
rows_back (width ∷ widths) from zs to e =
    let r = bind_ok (line_at (row_format width) from) (λ row. ◌>>=◌ {B = List ℤ × Unread} (rows_at widths row.1) (λ others. Ok (row.0.0 ++ others.0, others.1))) (zs, to) e in
    let q = bind_ok (rows_at widths r.0.1) (more r.0.0.0) (zs, to) r.2 in
    let is : ◌≡◌ {A = List ℤ × Unread} (r.0.0.0 ++ q.0.0, q.0.1) (zs, to) = read_is {A = List ℤ × Unread} (r.0.0.0 ++ q.0.0, q.0.1) (zs, to) q.2 in
    let first = line_back (row_format width) from r.0.0 r.0.1 r.1 in
    let others = rows_back widths r.0.1 q.0.0 q.0.1 q.1 in
    subst (λ (p : List ℤ × Unread). (concat from.lines ≡ rows_bytes (width ∷ widths) p.0 ++ concat p.1.lines) × RowsFit (width ∷ widths) p.0) is (joined r.0.0.0 q.0.0 (concat r.0.1.lines) (concat q.0.1.lines) first.0 first.1 others.0 others.1)
  where
    more : List ℤ → List ℤ × Unread → Result (List ℤ × Unread) Refusal
    more row others = Ok (row ++ others.0, others.1)

    joined : (row ys : List ℤ) (middle end : List ℕ) → concat from.lines ≡ format_line (row_format width) (row, tt) ++ middle → Fits (naturals width ∷ []) (row, tt) → middle ≡ rows_bytes widths ys ++ end → RowsFit widths ys
        → (concat from.lines ≡ rows_bytes (width ∷ widths) (row ++ ys) ++ end) × RowsFit (width ∷ widths) (row ++ ys)
    joined row ys middle end text fits others rest =
        let long : length row ≡ width = eqb-true (length row) width (both_true (length row == width) (list_all (λ z. int_le (pos 0) z) row) (first_fits (naturals width) [] (row, tt) fits).1).0 in
        let front : take width (row ++ ys) ≡ row = take_at row ys width long in
        let back : drop width (row ++ ys) ≡ ys = drop_at row ys width long in
        let row-bytes = format_line (row_format width) (row, tt) in
        let whole : concat from.lines ≡ row-bytes ++ rows_bytes widths ys ++ end = text ∙ ap (λ (bytes : List ℕ). row-bytes ++ bytes) others ∙ sym (append_assoc row-bytes (rows_bytes widths ys) end) in (
          whole ∙ ap (λ (xs : List ℤ). format_line (row_format width) (xs, tt) ++ rows_bytes widths ys ++ end) (sym front) ∙ ap (λ (xs : List ℤ). format_line (row_format width) (take width (row ++ ys), tt) ++ rows_bytes widths xs ++ end) (sym back),
          (subst (λ (xs : List ℤ). Fits (naturals width ∷ []) (xs, tt)) (sym front) fits, subst (λ (xs : List ℤ). RowsFit widths xs) (sym back) rest),
        )

-- ---- parts

-- the numbers of a part are within the limit and in the ranges of their ranges
abbrev pub PartFits : (part : Part) → List ℕ → PartValue part → Type 0
PartFits (line format) counts values = Fits format.fields values
PartFits (counted c less fields) counts vs = Fits (bounded c.low c.high ∷ []) (length vs + less, tt) × AllFit (untitled fields) vs
PartFits (count c) counts n = Fits (bounded c.low c.high ∷ []) (n, tt)
PartFits (rows widths) counts zs = RowsFit (widths counts) zs

-- a part whose lines have words, and whose count is not below what it is lessened by
abbrev pub is_part : Part → List ℕ → Bool
is_part (line format) counts = is_format format
is_part (counted c less fields) counts = is_format (count_format c) && (is_format (untitled fields) && nat_le less c.low)
is_part (count c) counts = is_format (count_format c)
is_part (rows widths) counts = list_all (λ w. nat_lt 0 w) (widths counts)

-- a part that was written is read again
pub part_again : (part : Part) (counts : List ℕ) (v : PartValue part) (n : ℕ) (rest : List ℕ) → is_part part counts ≡ true → PartFits part counts v
    → (m : ℕ) × (part_at part counts (unread n (part_bytes part counts v ++ rest)) ≡ Ok (v, unread m rest))
part_again (line format) counts v n rest sound fits = (n + 1, line_again format v n rest sound fits)
part_again (counted c less fields) counts vs n rest sound fits =
    let parts = both_true (is_format (count_format c)) (is_format (untitled fields) && nat_le less c.low) sound in
    let lines-sound = (both_true (is_format (untitled fields)) (nat_le less c.low) parts.1).0 in
    let head = format_line (count_format c) (length vs + less, tt) in
    let tail = flat_map (format_line (untitled fields)) vs in
    let first = ap (λ (bytes : List ℕ). line_at (count_format c) (unread n bytes)) (append_assoc head tail rest) ∙ line_again (count_format c) (length vs + less, tt) n (tail ++ rest) parts.0 fits.0 in
    let others = lines_again (untitled fields) vs (n + 1) rest lines-sound fits.1 in
    let amount : length vs + less - less ≡ length vs = omega arith in (
      others.0,
      then_again (line_at (count_format c) (unread n (head ++ tail ++ rest))) ((length vs + less, tt), unread (n + 1) (tail ++ rest)) _ _ first
          (ap (λ (k : ℕ). lines_at k (untitled fields) (unread (n + 1) (tail ++ rest))) amount ∙ others.1),
    )
part_again (count c) counts k n rest sound fits =
    (n + 1, then_again (line_at (count_format c) (unread n (format_line (count_format c) (k, tt) ++ rest))) ((k, tt), unread (n + 1) rest) _ _ (line_again (count_format c) (k, tt) n rest sound fits) refl)
part_again (rows widths) counts zs n rest sound fits = rows_again (widths counts) zs n rest sound fits

-- a part that was read stands at the front of the text
pub part_back : (part : Part) (counts : List ℕ) (from : Unread) (v : PartValue part) (to : Unread) → is_part part counts ≡ true → part_at part counts from ≡ Ok (v, to)
    → (concat from.lines ≡ part_bytes part counts v ++ concat to.lines) × PartFits part counts v
part_back (line format) counts from v to sound e = line_back format from v to e
part_back (counted c less fields) counts from vs to sound e =
    let r = bind_ok (line_at (count_format c) from) (λ n. lines_at (n.0.0 - less) (untitled fields) n.1) (vs, to) e in
    let first = line_back (count_format c) from r.0.0 r.0.1 r.1 in
    let others = lines_back (untitled fields) (r.0.0.0 - less) r.0.1 vs to r.2 in
    let parts = both_true (is_format (untitled fields)) (nat_le less c.low) (both_true (is_format (count_format c)) (is_format (untitled fields) && nat_le less c.low) sound).1 in
    let below : less ≤ c.low = leb-true less c.low parts.1 in
    let above : c.low ≤ r.0.0.0 = leb-true c.low r.0.0.0 (both_true (nat_le c.low r.0.0.0) (nat_le r.0.0.0 c.high) (first_fits (bounded c.low c.high) [] r.0.0 first.1).1).0 in
    let amount : r.0.0.0 ≡ length vs + less = omega (arith, others.1) in
    let tail = flat_map (format_line (untitled fields)) vs in
    let head = format_line (count_format c) (length vs + less, tt) in (
      first.0 ∙ ap (λ (k : ℕ). format_line (count_format c) (k, tt) ++ concat r.0.1.lines) amount ∙ ap (λ (bytes : List ℕ). head ++ bytes) others.0 ∙ sym (append_assoc head tail (concat to.lines)),
      (subst (λ (k : ℕ). Fits (bounded c.low c.high ∷ []) (k, tt)) amount first.1, others.2),
    )
part_back (count c) counts from k to sound e =
    let r = bind_ok (line_at (count_format c) from) alone (k, to) e in
    let is : ◌≡◌ {A = ℕ × Unread} (r.0.0.0, r.0.1) (k, to) = read_is {A = ℕ × Unread} (r.0.0.0, r.0.1) (k, to) r.2 in
    let first = line_back (count_format c) from r.0.0 r.0.1 r.1 in
    subst (λ (p : ℕ × Unread). (concat from.lines ≡ format_line (count_format c) (p.0, tt) ++ concat p.1.lines) × Fits (bounded c.low c.high ∷ []) (p.0, tt)) is first
  where
    alone : Values (bounded c.low c.high ∷ []) × Unread → Result (ℕ × Unread) Refusal
    alone n = Ok (n.0.0, n.1)
part_back (rows widths) counts from zs to sound e = rows_back (widths counts) from zs to e

-- ---- bodies

-- each part fits
abbrev pub BodyFits : (parts : List Part) → List ℕ → Body parts → Type 0
BodyFits [] counts body = Unit {0}
BodyFits (part ∷ parts) counts body = PartFits part counts body.0 × BodyFits parts (counts_after part body.0 counts) body.1

-- each part is sound, whatever the parts before it say
abbrev pub AreParts : (parts : List Part) → List ℕ → Body parts → Type 0
AreParts [] counts body = Unit {0}
AreParts (part ∷ parts) counts body = (is_part part counts ≡ true) × AreParts parts (counts_after part body.0 counts) body.1

-- a body that was written is read again
pub body_again : (parts : List Part) (counts : List ℕ) (body : Body parts) (n : ℕ) (rest : List ℕ) → AreParts parts counts body → BodyFits parts counts body
    → (m : ℕ) × (body_at parts counts (unread n (body_bytes parts counts body ++ rest)) ≡ Ok (body, unread m rest))
body_again [] counts body n rest sound fits = (n, refl)
body_again (part ∷ parts) counts body n rest sound fits =
    let after = counts_after part body.0 counts in
    let tail = body_bytes parts after body.1 in
    let first = part_again part counts body.0 n (tail ++ rest) sound.0 fits.0 in
    let others = body_again parts after body.1 first.0 rest sound.1 fits.1 in
    let text = append_assoc (part_bytes part counts body.0) tail rest in (
      others.0,
      then_again (part_at part counts (unread n (body_bytes (part ∷ parts) counts body ++ rest))) (body.0, unread first.0 (tail ++ rest)) _ _ (ap (λ (bytes : List ℕ). part_at part counts (unread n bytes)) text ∙ first.1)
          (then_again (body_at parts after (unread first.0 (tail ++ rest))) (body.1, unread others.0 rest) _ _ others.1 refl),
    )

-- a body that was read stands at the front of the text
pub body_back : (parts : List Part) (counts : List ℕ) (from : Unread) (body : Body parts) (to : Unread) → ((b : Body parts) → AreParts parts counts b) → body_at parts counts from ≡ Ok (body, to)
    → (concat from.lines ≡ body_bytes parts counts body ++ concat to.lines) × BodyFits parts counts body
body_back [] counts from body to sound e =
    let is : ◌≡◌ {A = Unit {0} × Unread} (tt, from) (body, to) = read_is {A = Unit {0} × Unread} (tt, from) (body, to) e in
    (ap (λ (p : Unit {0} × Unread). concat p.1.lines) is, tt)
body_back (part ∷ parts) counts from body to sound e =
    let r = bind_ok (part_at part counts from) (λ first. ◌>>=◌ {B = Body (part ∷ parts) × Unread} (body_at parts (counts_after part first.0 counts) first.1) (λ others. Ok ((first.0, others.0), others.1))) (body, to) e in
    let after = counts_after part r.0.0 counts in
    let q = bind_ok (body_at parts after r.0.1) (more r.0.0) (body, to) r.2 in
    let is : ◌≡◌ {A = Body (part ∷ parts) × Unread} ((r.0.0, q.0.0), q.0.1) (body, to) = read_is {A = Body (part ∷ parts) × Unread} ((r.0.0, q.0.0), q.0.1) (body, to) q.2 in
    let first = part_back part counts from r.0.0 r.0.1 (sound (r.0.0, q.0.0)).0 r.1 in
    let others = body_back parts after r.0.1 q.0.0 q.0.1 (λ b. (sound (r.0.0, b)).1) q.1 in
    let head = part_bytes part counts r.0.0 in
    let text = first.0 ∙ ap (λ (bytes : List ℕ). head ++ bytes) others.0 ∙ sym (append_assoc head (body_bytes parts after q.0.0) (concat q.0.1.lines)) in
    subst (λ (p : Body (part ∷ parts) × Unread). (concat from.lines ≡ body_bytes (part ∷ parts) counts p.0 ++ concat p.1.lines) × BodyFits (part ∷ parts) counts p.0) is (text, (first.1, others.1))
  where
    more : PartValue part → Body parts × Unread → Result (Body (part ∷ parts) × Unread) Refusal
    more v others = Ok ((v, others.0), others.1)
