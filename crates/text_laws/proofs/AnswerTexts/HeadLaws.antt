-- The head of a text: what was written is read again, and what was read was written so.
use Rattle.std.proofs.Common.{◌≡◌, ℕ, ◌+◌, ◌^◌, ◌<◌, ◌≤◌, ℤ, pos, negsuc, ◌<ℤ◌, nat_abs, arith, Bool, true, false, ◌&&◌, List, [], ◌∷◌, ◌++◌, refl, sym, ap, subst, ◌∙◌, append_assoc, Ok, Err}
use Rattle.std.specs.Prelude.{Option, Some, None, Result, find, cond, is_ok, nat_le}
use Rattle.std.specs.List.{concat, AllByRecursion}
use Rattle.std.proofs.lemmas.Bool.{leb-true}
use Rattle.std.proofs.lemmas.Int.{ints}
use Rattle.bounds_model.specs.Fractions.{Fraction, lowest_form, over, multiple}
use Rattle.bounds_model.specs.Ranges.{number_limit, IsFraction}
use Rattle.bounds_model.specs.Asks.{scale_limit}
use Rattle.bounds_model.specs.AnswerText.Fields.{bounded, fraction}
use Rattle.bounds_model.specs.AnswerText.Formats.{Refusal, bad_answer, ◌>>=◌, Unread, line_at}
use Rattle.bounds_model.specs.AnswerText.Kinds.{Kind}
use Rattle.bounds_model.specs.AnswerText.Heads.{Format, plain, scaled, first_format, scale_format, size_format, Head, whole_size, size_within, own_size, sizes_at, Named, kind_of, named_or, named_by, head_of}
use Rattle.bounds_model.specs.AnswerText.Written.{format_line, head_bytes}
use Rattle.text_laws.proofs.AnswerTexts.NumberLaws.{some_is, both_true}
use Rattle.text_laws.proofs.AnswerTexts.FieldLaws.{within}
use Rattle.text_laws.proofs.AnswerTexts.ValueLaws.{Fits, first_fits, none_fit}
use Rattle.text_laws.proofs.AnswerTexts.FormLaws.{then_again, bind_ok, read_is, is_format, unread, line_again, line_back}
use Rattle.text_laws.proofs.AnswerTexts.RangeLaws.{line_ranges, line_fits}
use Rattle.text_laws.proofs.AnswerTexts.SizeLaws.{over_times, times_over, times_range, some_power}

-- a name that is a word makes a first line of each format
pub format_sound : (format : Format) (name : List ℕ) → is_format (first_format plain name) ≡ true → is_format (first_format format name) ≡ true
format_sound plain name sound = sound
format_sound scaled name sound = sound

-- the scale and the size of a head are such as a text of the format says
abbrev pub HeadFits : Format → Head → Type 0
HeadFits plain head = (head.scale ≡ 1) × Fits (fraction ∷ []) (head.size, tt)
HeadFits scaled head = Fits (bounded 2 scale_limit ∷ []) (head.scale, tt) × Fits (fraction ∷ []) (whole_size head, tt) × Fits (fraction ∷ []) (head.size, tt)

-- the lines behind the first one
abbrev pub sizes_bytes : Format → Head → List ℕ
sizes_bytes plain head = format_line size_format (head.size, tt)
sizes_bytes scaled head = format_line scale_format (head.scale, tt) ++ format_line size_format (whole_size head, tt)

-- a head is its first line and those
pub head_parts : (format : Format) (head : Head) → head_bytes format head ≡ format_line (first_format format head.kind.name) tt ++ sizes_bytes format head
head_parts plain head = refl
head_parts scaled head = refl

-- ---- the size

-- a size that fits keeps its range
pub size_range : (size : Fraction) → Fits (fraction ∷ []) (size, tt) → IsFraction size
size_range size fits = (line_ranges (fraction ∷ []) (size, tt) fits).0

-- and one that keeps its range fits
pub size_fits : (size : Fraction) → IsFraction size → Fits (fraction ∷ []) (size, tt)
size_fits size range = line_fits (fraction ∷ []) (size, tt) refl (range, tt)

-- a size that fits is within the limit
pub within_again : (number : ℕ) (size : Fraction) → Fits (fraction ∷ []) (size, tt) → size_within number size ≡ Ok size
within_again number size fits = ap (λ (t : Bool). cond t (Ok size) (Err (bad_answer number))) (both_true (within size.n) (within size.d && true) (first_fits fraction [] (size, tt) fits).0).0

-- a numerator past the limit is refused
pub past_refused : (number : ℕ) (size : Fraction) → pos number_limit <ℤ size.n → size_within number size ≡ Err (bad_answer number)
past_refused number size past = by_test (nat_le (nat_abs size.n) number_limit) refl
  where
    apart : (z : ℤ) → pos number_limit <ℤ z → nat_abs z ≤ number_limit → ⊥
    apart (pos n) h k = omega (arith, ints)
    apart (negsuc n) h k = omega (arith, ints)

    by_test : (t : Bool) → nat_le (nat_abs size.n) number_limit ≡ t → ◌≡◌ {A = Result Fraction Refusal} (cond t (Ok size) (Err (bad_answer number))) (Err (bad_answer number))
    by_test true test = absurd (apart size.n past (leb-true (nat_abs size.n) number_limit test))
    by_test false test = refl

-- a size that was taken is within the limit
within_back : (number : ℕ) (size taken : Fraction) → size_within number size ≡ Ok taken → (size ≡ taken) × (nat_abs size.n ≤ number_limit)
within_back number size taken e = by_test (nat_le (nat_abs size.n) number_limit) refl e
  where
    by_test : (t : Bool) → nat_le (nat_abs size.n) number_limit ≡ t → ◌≡◌ {A = Result Fraction Refusal} (cond t (Ok size) (Err (bad_answer number))) (Ok taken) → (size ≡ taken) × (nat_abs size.n ≤ number_limit)
    by_test true test f = (read_is size taken f, leb-true (nat_abs size.n) number_limit test)
    by_test false test f = absurd cc

-- the size in whole units gives back that in units of the file
own_again : (head : Head) (number : ℕ) → 1 ≤ head.scale → Fits (fraction ∷ []) (head.size, tt) → own_size head.kind head.scale number (whole_size head) ≡ Ok head.size
own_again head number some fits =
    let units = head.scale ^ head.kind.power in
    ap (size_within number) (over_times head.size units (some_power head.scale head.kind.power some) (size_range head.size fits).lowest) ∙ within_again number head.size fits

-- ---- behind the first line

-- a scale that fits is one of those that are written
pub scale_range : (scale : ℕ) → Fits (bounded 2 scale_limit ∷ []) (scale, tt) → (2 ≤ scale) × (scale ≤ scale_limit)
scale_range scale fits = (line_ranges (bounded 2 scale_limit ∷ []) (scale, tt) fits).0

-- scale and size that were written are read again
pub sizes_again : (format : Format) (head : Head) (n : ℕ) (more : List ℕ) → HeadFits format head → (m : ℕ) × (sizes_at format head.kind (unread n (sizes_bytes format head ++ more)) ≡ Ok (head, unread m more))
sizes_again plain head n more fits =
    let line = format_line size_format (head.size, tt) in (
      n + 1,
      then_again (line_at size_format (unread n (line ++ more))) ((head.size, tt), unread (n + 1) more) _ _ (line_again size_format (head.size, tt) n more refl fits.1)
          (ap (λ (s : ℕ). ok_head (record { kind = head.kind; scale = s; size = head.size })) (sym fits.0)),
    )
  where
    ok_head : Head → Result (Head × Unread) Refusal
    ok_head h = Ok (h, unread (n + 1) more)
sizes_again scaled head n more fits =
    let first = format_line scale_format (head.scale, tt) in
    let second = format_line size_format (whole_size head, tt) in
    let some = (scale_range head.scale fits.0).0 in (
      n + 1 + 1,
      ap (λ (bytes : List ℕ). sizes_at scaled head.kind (unread n bytes)) (append_assoc first second more)
          ∙ then_again (line_at scale_format (unread n (first ++ (second ++ more)))) ((head.scale, tt), unread (n + 1) (second ++ more)) _ _ (line_again scale_format (head.scale, tt) n (second ++ more) refl fits.0)
          (then_again (line_at size_format (unread (n + 1) (second ++ more))) ((whole_size head, tt), unread (n + 1 + 1) more) _ _ (line_again size_format (whole_size head, tt) (n + 1) more refl fits.1)
          (then_again (own_size head.kind head.scale (n + 1) (whole_size head)) head.size _ _ (own_again head (n + 1) (omega (arith, some)) fits.2) refl)),
    )

-- what the lines behind the first one are
pub record SizesFound (format : Format) (kind : Kind) (lines : List (List ℕ)) (head : Head) (to : Unread) : Type 0 where
  pub kind_is : head.kind ≡ kind
  pub text : concat lines ≡ sizes_bytes format head ++ concat to.lines
  pub fits : HeadFits format head

-- a head that was read
abbrev pair_is : Head → Unread → Head × Unread
pair_is head to = (head, to)

-- scale and size that were read were written so
pub sizes_back : (format : Format) (kind : Kind) (from : Unread) (head : Head) (to : Unread) → sizes_at format kind from ≡ Ok (head, to) → SizesFound format kind from.lines head to
sizes_back plain kind from head to e =
    let a = bind_ok (line_at size_format from) (λ size. Ok (pair_is (record { kind = kind; scale = 1; size = size.0.0 }) size.1)) (head, to) e in
    let size = line_back size_format from a.0.0 a.0.1 a.1 in
    let is = read_is (pair_is (record { kind = kind; scale = 1; size = a.0.0.0 }) a.0.1) (pair_is head to) a.2 in
    subst (λ (p : Head × Unread). SizesFound plain kind from.lines p.0 p.1) is (record { kind_is = refl; text = size.0; fits = (refl, size.1) })
sizes_back scaled kind from head to e =
    let a = bind_ok (line_at scale_format from) (λ scale. line_at size_format scale.1 >>= λ size. own_size kind scale.0.0 scale.1.number size.0.0 >>= λ own. Ok (pair_is (record { kind = kind; scale = scale.0.0; size = own }) size.1)) (head, to) e in
    let b = bind_ok (line_at size_format a.0.1) (λ size. own_size kind a.0.0.0 a.0.1.number size.0.0 >>= λ own. Ok (pair_is (record { kind = kind; scale = a.0.0.0; size = own }) size.1)) (head, to) a.2 in
    let c = bind_ok (own_size kind a.0.0.0 a.0.1.number b.0.0.0) (λ own. Ok (pair_is (record { kind = kind; scale = a.0.0.0; size = own }) b.0.1)) (head, to) b.2 in
    let scale = line_back scale_format from a.0.0 a.0.1 a.1 in
    let size = line_back size_format a.0.1 b.0.0 b.0.1 b.1 in
    let units = a.0.0.0 ^ kind.power in
    let found : Head = record { kind = kind; scale = a.0.0.0; size = c.0 } in
    let some : 0 < units = some_power a.0.0.0 kind.power (omega (arith, (scale_range a.0.0.0 scale.1).0)) in
    let own = within_back a.0.1.number (lowest_form (multiple units b.0.0.0)) c.0 c.1 in
    let range = size_range b.0.0.0 size.1 in
    let own-range : IsFraction c.0 = subst IsFraction own.0 (times_range b.0.0.0 units some range own.1) in
    let whole : whole_size found ≡ b.0.0.0 = ap (λ (f : Fraction). lowest_form (over units f)) (sym own.0) ∙ times_over b.0.0.0 units some range.lowest in
    let first = format_line scale_format (a.0.0.0, tt) in
    let lines : concat from.lines ≡ sizes_bytes scaled found ++ concat b.0.1.lines =
    scale.0 ∙ ap (λ (x : List ℕ). first ++ x) size.0 ∙ sym (append_assoc first (format_line size_format b.0.0) (concat b.0.1.lines))
    ∙ ap (λ (f : Fraction). (first ++ format_line size_format (f, tt)) ++ concat b.0.1.lines) (sym whole) in
    let is = read_is (pair_is found b.0.1) (pair_is head to) c.2 in
    subst (λ (p : Head × Unread). SizesFound scaled kind from.lines p.0 p.1) is (record {
      kind_is = refl;
      text = lines;
      fits = (scale.1, subst (λ (f : Fraction). Fits (fraction ∷ []) (f, tt)) (sym whole) size.1, size_fits c.0 own-range);
    })

-- ---- what the first line names

-- a kind that was found is one of the kinds
pub found_kind : (P : Kind → Type 0) (known : List Kind) (test : Kind → Bool) (kind : Kind) → AllByRecursion P known → find test known ≡ Some kind → P kind
found_kind P [] test kind all e = absurd cc
found_kind P (first ∷ known) test kind all e = by_test (test first) first known test kind all (λ f. found_kind P known test kind all.1 f) e
  where
    by_test : (t : Bool) (k : Kind) (ks : List Kind) (more : Kind → Bool) (found : Kind) → AllByRecursion P (k ∷ ks) → (find more ks ≡ Some found → P found) → cond t (Some k) (find more ks) ≡ Some found → P found
    by_test true k ks more found a others f = subst P (some_is k found f) a.0
    by_test false k ks more found a others f = others f

-- what is named is of the known formats and kinds
pub found_named : (Q : Format → Type 0) (P : Kind → Type 0) (formats : List Format) (known : List Kind) (from : Unread) (named : Named) → AllByRecursion Q formats → AllByRecursion P known → named_by formats known from ≡ Some named → Q named.format × P named.kind
found_named Q P [] known from named qs ps e = absurd cc
found_named Q P (format ∷ formats) known from named qs ps e = by_kind (λ f. found_named Q P formats known from named qs.1 ps f) (kind_of format known from) refl e
  where
    some_named : Named → Option Named
    some_named n = Some n

    by_kind : (named_by formats known from ≡ Some named → Q named.format × P named.kind) → (found : Option Kind) → kind_of format known from ≡ found → named_or format found (named_by formats known from) ≡ Some named → Q named.format × P named.kind
    by_kind others None is f = others f
    by_kind others (Some kind) is f =
        let here = some_is (record { format = format; kind = kind }) named f in
        subst (λ (n : Named). Q n.format × P n.kind) here (qs.0, found_kind P known (λ k. is_ok (line_at (first_format format k.name) from)) kind ps is)

-- a head that was read stands at the front of the text
pub record HeadFound (from : Unread) (head : Head) (to : Unread) (named : Named) : Type 0 where
  pub kind_is : head.kind ≡ named.kind
  pub text : concat from.lines ≡ head_bytes named.format head ++ concat to.lines
  pub fits : HeadFits named.format head

-- the head of what was named
pub head_back : (named : Named) (from : Unread) (head : Head) (to : Unread) → head_of (Some named) from ≡ Ok (head, to) → HeadFound from head to named
head_back named from head to e =
    let a = bind_ok (line_at (first_format named.format named.kind.name) from) (λ first. sizes_at named.format named.kind first.1) (head, to) e in
    let first = line_back (first_format named.format named.kind.name) from a.0.0 a.0.1 a.1 in
    let sizes = sizes_back named.format named.kind a.0.1 head to a.2 in
    let line = format_line (first_format named.format named.kind.name) tt in
    record {
      kind_is = sizes.kind_is;
      text = first.0 ∙ ap (λ (x : List ℕ). line ++ x) sizes.text ∙ sym (append_assoc line (sizes_bytes named.format head) (concat to.lines))
          ∙ ap (λ (k : Kind). (format_line (first_format named.format k.name) tt ++ sizes_bytes named.format head) ++ concat to.lines) (sym sizes.kind_is)
          ∙ ap (λ (x : List ℕ). x ++ concat to.lines) (sym (head_parts named.format head));
      fits = sizes.fits;
    }

-- a head that was written is read again
pub head_again : (format : Format) (head : Head) (more : List ℕ) → is_format (first_format plain head.kind.name) ≡ true → HeadFits format head
    → (m : ℕ) × (head_of (Some (record { format = format; kind = head.kind })) (unread 1 (head_bytes format head ++ more)) ≡ Ok (head, unread m more))
head_again format head more sound fits =
    let line = format_line (first_format format head.kind.name) tt in
    let rest = sizes_bytes format head in
    let sizes = sizes_again format head 2 more fits in
    let text : head_bytes format head ++ more ≡ line ++ (rest ++ more) = ap (λ (x : List ℕ). x ++ more) (head_parts format head) ∙ append_assoc line rest more in (
      sizes.0,
      ap (λ (bytes : List ℕ). head_of (Some (record { format = format; kind = head.kind })) (unread 1 bytes)) text
          ∙ then_again (line_at (first_format format head.kind.name) (unread 1 (line ++ (rest ++ more)))) (tt, unread 2 (rest ++ more)) _ _
          (line_again (first_format format head.kind.name) tt 1 (rest ++ more) (format_sound format head.kind.name sound) none_fit) sizes.1,
    )
