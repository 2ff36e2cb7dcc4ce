-- A whole text: what was written is read again, and what was read was written so, for any kind whose format is sound.
use Rattle.std.proofs.Common.{◌≡◌, ℕ, ◌+◌, ◌^◌, ◌<◌, ◌≤◌, length, arith, true, List, [], ◌∷◌, ◌++◌, refl, sym, ap, subst, ◌∙◌, append_assoc, Ok}
use Rattle.std.specs.Prelude.{Option, Some, None, Result}
use Rattle.std.specs.List.{concat}
use Rattle.std.proofs.lemmas.List.{append-nil, length-append}
use Rattle.bounds_model.specs.Fractions.{Fraction}
use Rattle.bounds_model.specs.Answers.{Answer, size_of, KeepsRanges}
use Rattle.bounds_model.specs.Reports.{Report, power}
use Rattle.bounds_model.specs.AnswerText.Lines.{lines_of}
use Rattle.bounds_model.specs.AnswerText.Fields.{fraction}
use Rattle.bounds_model.specs.AnswerText.LineFormats.{Values}
use Rattle.bounds_model.specs.AnswerText.Formats.{Refusal, ◌>>=◌, Unread, line_at, Body, body_at}
use Rattle.bounds_model.specs.AnswerText.Kinds.{Kind, kinds}
use Rattle.bounds_model.specs.AnswerText.Heads.{Format, plain, scaled, first_format, scale_format, size_format, last_format, Head, whole_size, Named, kind_of, named_or, named_by, head_of}
use Rattle.bounds_model.specs.AnswerText.Reading.{ended, report_behind, all_lines, report_of}
use Rattle.bounds_model.specs.AnswerText.Written.{format_line, head_bytes, body_bytes, text_bytes, kind_bytes}
use Rattle.bounds_model.specs.AnswerText.Spelling.{Said, said_of, spelling, report_bytes}
use Rattle.bounds_model.specs.AnswerText.Spelling as spelled
use Rattle.text_laws.proofs.AnswerTexts.ValueLaws.{Fits, none_fit}
use Rattle.text_laws.proofs.AnswerTexts.FormLaws.{then_again, bind_ok, read_is, is_format, unread, format_lines, line_again, line_back}
use Rattle.text_laws.proofs.AnswerTexts.BodyLaws.{BodyFits, AreParts, body_again, body_back}
use Rattle.text_laws.proofs.AnswerTexts.LengthLaws.{line_bound, line_length, body_bound, body_length}
use Rattle.text_laws.proofs.AnswerTexts.HeadLaws.{HeadFits, sizes_bytes, head_parts, format_sound, head_again, head_back}

-- a kind with a name that is a word, and with a sound format
pub record IsKind (kind : Kind) : Type 0 where
  pub name : is_format (first_format plain kind.name) ≡ true
  pub parts : (body : Body kind.body) → AreParts kind.body [] body

-- the report of a head and a body
abbrev pub report_with : (head : Head) → Body head.kind.body → Report
report_with head body = record { scale = head.scale; answer = head.kind.answer head.size body }

-- ---- again

-- a body and the last line are read again behind a head, whatever follows
behind_again : (head : Head) (body : Body head.kind.body) (n : ℕ) (more : List ℕ) → IsKind head.kind → BodyFits head.kind.body [] body
    → (m : ℕ) × (report_behind head (unread n ((body_bytes head.kind.body [] body ++ format_line last_format tt) ++ more)) ≡ ended (report_with head body) m (lines_of more))
behind_again head body n more sound body-fits =
    let middle = body_bytes head.kind.body [] body in
    let end = format_line last_format tt in
    let read_body = body_again head.kind.body [] body n (end ++ more) (sound.parts body) body-fits in
    let last = read_body.0 in (
      last + 1,
      ap (λ (bytes : List ℕ). report_behind head (unread n bytes)) (append_assoc middle end more)
          ∙ then_again (body_at head.kind.body [] (unread n (middle ++ (end ++ more)))) (body, unread last (end ++ more)) _ _ read_body.1
          (then_again (line_at last_format (unread last (end ++ more))) (tt, unread (last + 1) more) _ _ (line_again last_format tt last more refl none_fit) refl),
    )

-- a text that was written is read again, whatever follows, where its first line is known
pub text_again : (formats : List Format) (known : List Kind) (format : Format) (head : Head) (body : Body head.kind.body) (more : List ℕ) → IsKind head.kind
    → ((lines : List (List ℕ)) → named_by formats known (record { number = 1; lines = format_line (first_format format head.kind.name) tt ∷ lines }) ≡ Some (record { format = format; kind = head.kind }))
    → HeadFits format head → BodyFits head.kind.body [] body → (m : ℕ) × (report_of formats known (text_bytes format head body ++ more) ≡ ended (report_with head body) m (lines_of more))
text_again formats known format head body more sound named head-fits body-fits =
    let first = format_line (first_format format head.kind.name) tt in
    let front = head_bytes format head in
    let tail = body_bytes head.kind.body [] body ++ format_line last_format tt in
    let read_head = head_again format head (tail ++ more) sound.name head-fits in
    let read_rest = behind_again head body read_head.0 more sound body-fits in
    let text : text_bytes format head body ++ more ≡ front ++ (tail ++ more) = append_assoc front tail more in
    let parts : front ++ (tail ++ more) ≡ first ++ (sizes_bytes format head ++ (tail ++ more)) = ap (λ (x : List ℕ). x ++ (tail ++ more)) (head_parts format head) ∙ append_assoc first (sizes_bytes format head) (tail ++ more) in
    let lines = ap lines_of parts ∙ format_lines (first_format format head.kind.name) tt (sizes_bytes format head ++ (tail ++ more)) (format_sound format head.kind.name sound.name) none_fit in
    let found = ap (λ (ls : List (List ℕ)). named_by formats known (record { number = 1; lines = ls })) lines ∙ named (lines_of (sizes_bytes format head ++ (tail ++ more))) in (
      read_rest.0,
      ap (report_of formats known) text
          ∙ ap (λ (o : Option Named). head_of o (all_lines (front ++ (tail ++ more))) >>= λ h. report_behind h.0 h.1) found
          ∙ then_again (head_of (Some (record { format = format; kind = head.kind })) (all_lines (front ++ (tail ++ more)))) (head, unread read_head.0 (tail ++ more)) _ _ read_head.1 read_rest.1,
    )

-- ---- back

-- where nothing follows, the report stands
pub ended_back : (a b : Report) (n : ℕ) (lines : List (List ℕ)) → ended a n lines ≡ Ok b → (a ≡ b) × (lines ≡ [])
ended_back a b n [] e = (read_is a b e, refl)
ended_back a b n (line ∷ lines) e = absurd cc

-- the head and the body that a text has
pub record Found (named : Named) (bytes : List ℕ) (report : Report) : Type 0 where
  pub head : Head
  pub kind_is : head.kind ≡ named.kind
  pub body : Body head.kind.body
  pub is : report_with head body ≡ report
  pub text : bytes ≡ text_bytes named.format head body
  pub head_fits : HeadFits named.format head
  pub body_fits : BodyFits head.kind.body [] body

-- the parts of a text, one after the other, and nothing behind them
joined : (whole one two head middle tail : List ℕ) (lines : List (List ℕ)) → whole ≡ head ++ one → one ≡ middle ++ two → two ≡ tail ++ concat lines → lines ≡ [] → whole ≡ head ++ (middle ++ tail)
joined whole one two head middle tail lines p q r none =
    let end : two ≡ tail = r ∙ ap (λ (ls : List (List ℕ)). tail ++ concat ls) none ∙ append-nil tail in
    p ∙ ap (λ (x : List ℕ). head ++ x) (q ∙ ap (λ (x : List ℕ). middle ++ x) end)

-- a text that was read is the text of its head and its body
pub text_back : (named : Named) (from : Unread) (report : Report) → IsKind named.kind → (head_of (Some named) from >>= λ h. report_behind h.0 h.1) ≡ Ok report → Found named (concat from.lines) report
text_back named from report sound e =
    let a = bind_ok (head_of (Some named) from) (λ h. report_behind h.0 h.1) report e in
    let head = head_back named from a.0.0 a.0.1 a.1 in
    let b = bind_ok (body_at a.0.0.kind.body [] a.0.1) (λ body. line_at last_format body.1 >>= finished a.0.0 body.0) report a.2 in
    let c = bind_ok (line_at last_format b.0.1) (finished a.0.0 b.0.0) report b.2 in
    let end = ended_back (report_with a.0.0 b.0.0) report c.0.1.number c.0.1.lines c.2 in
    let kind-sound : IsKind a.0.0.kind = subst IsKind (sym head.kind_is) sound in
    let body = body_back a.0.0.kind.body [] a.0.1 b.0.0 b.0.1 kind-sound.parts b.1 in
    let last = line_back last_format b.0.1 c.0.0 c.0.1 c.1 in
    record {
      head = a.0.0;
      kind_is = head.kind_is;
      body = b.0.0;
      is = end.0;
      text = joined (concat from.lines) (concat a.0.1.lines) (concat b.0.1.lines) (head_bytes named.format a.0.0) (body_bytes a.0.0.kind.body [] b.0.0) (format_line last_format tt) c.0.1.lines head.text body.0 last.0 end.1;
      head_fits = head.fits;
      body_fits = body.1;
    }
  where
    finished : (head : Head) → Body head.kind.body → Values [] × Unread → Result Report Refusal
    finished head body last = ended (report_with head body) last.1.number last.1.lines

-- ---- lengths

-- how long a text of a kind can be, in either format
abbrev pub text_bound : (kind : Kind) → Body kind.body → ℕ
text_bound kind body = line_bound (first_format plain kind.name) + (line_bound scale_format + (line_bound size_format + (body_bound kind.body [] body + line_bound last_format)))

-- how long a head can be
head_length : (format : Format) (head : Head) → HeadFits format head → length (head_bytes format head) ≤ line_bound (first_format plain head.kind.name) + (line_bound scale_format + line_bound size_format)
head_length plain head fits =
    let first = format_line (first_format plain head.kind.name) tt in
    omega (arith, length-append first (format_line size_format (head.size, tt)), line_length (first_format plain head.kind.name) tt none_fit, line_length size_format (head.size, tt) fits.1)
head_length scaled head fits =
    let first = format_line (first_format scaled head.kind.name) tt in
    let scale = format_line scale_format (head.scale, tt) in
    let size = format_line size_format (spelled_size, tt) in
    omega (arith, length-append first (scale ++ size), length-append scale size, line_length (first_format scaled head.kind.name) tt none_fit, line_length scale_format (head.scale, tt) fits.0, line_length size_format (spelled_size, tt) fits.1)
  where
    spelled_size : Fraction
    spelled_size = whole_size head

-- no text of the kind is longer
pub text_length : (format : Format) (head : Head) (body : Body head.kind.body) → HeadFits format head → BodyFits head.kind.body [] body → length (text_bytes format head body) ≤ text_bound head.kind body
text_length format head body head-fits body-fits =
    let middle = body_bytes head.kind.body [] body in
    let last = format_line last_format tt in
    omega (
      arith,
      length-append (head_bytes format head) (middle ++ last),
      length-append middle last,
      head_length format head head-fits,
      body_length head.kind.body [] body body-fits,
      line_length last_format tt none_fit,
    )

-- ---- the laws of a kind, and of an answer

-- what is said of a kind
abbrev pub said_at : (kind : Kind) → Fraction → Body kind.body → Said
said_at kind size body = record { kind = kind; size = size; body = body }

-- the lines of a text that begins with this line
abbrev pub begun : List ℕ → List (List ℕ) → Unread
begun line lines = record { number = 1; lines = line ∷ lines }

-- a kind whose format is sound, whose first lines are found, whose answers say what the format does, have its power, and keep their ranges
pub record KindLaw (kind : Kind) : Type 0 where
  pub sound : IsKind kind
  pub named : (lines : List (List ℕ)) → kind_of plain kinds (begun (format_line (first_format plain kind.name) tt) lines) ≡ Some kind
  pub named_scaled : (lines : List (List ℕ)) → kind_of scaled kinds (begun (format_line (first_format scaled kind.name) tt) lines) ≡ Some kind
  pub not_plain : (lines : List (List ℕ)) → kind_of plain kinds (begun (format_line (first_format scaled kind.name) tt) lines) ≡ None
  pub said : (size : Fraction) (body : Body kind.body) → said_of (kind.answer size body) ≡ said_at kind size body
  pub power : (size : Fraction) (body : Body kind.body) → power (kind.answer size body) ≡ kind.power
  pub size : (size : Fraction) (body : Body kind.body) → size_of (kind.answer size body) ≡ size
  pub ranges : (size : Fraction) (body : Body kind.body) → Fits (fraction ∷ []) (size, tt) → BodyFits kind.body [] body → KeepsRanges (kind.answer size body)
  pub short : (body : Body kind.body) → BodyFits kind.body [] body → text_bound kind body < 2 ^ 23

-- an answer as a size and a body of its kind
pub record Written (answer : Answer) : Type 0 where
  pub kind : Kind
  pub law : KindLaw kind
  pub size : Fraction
  pub body : Body kind.body
  pub is : kind.answer size body ≡ answer
  pub size_fits : Fits (fraction ∷ []) (size, tt)
  pub body_fits : BodyFits kind.body [] body

-- the spelling of an answer of a kind is the text of its size and body
pub spelled_is : (kind : Kind) (size : Fraction) (body : Body kind.body) → KindLaw kind → spelling (kind.answer size body) ≡ kind_bytes kind size body
spelled_is kind size body law = ap (λ (s : Said). kind_bytes s.kind s.size s.body) (law.said size body)

-- and that of a report likewise
pub report_is : (kind : Kind) (scale : ℕ) (size : Fraction) (body : Body kind.body) → KindLaw kind
    → report_bytes (record { scale = scale; answer = kind.answer size body }) ≡ text_bytes (spelled.format_of scale) (record { kind = kind; scale = scale; size = size }) body
report_is kind scale size body law = ap (λ (s : Said). text_bytes (spelled.format_of scale) (spelled.head_of scale s) s.body) (law.said size body)

-- both formats are known
pub named_both : (format : Format) (kind : Kind) (lines : List (List ℕ)) → KindLaw kind → named_by (plain ∷ scaled ∷ []) kinds (begun (format_line (first_format format kind.name) tt) lines) ≡ Some (record { format = format; kind = kind })
named_both plain kind lines law =
    ap (λ (found : Option Kind). named_or plain found (named_by (scaled ∷ []) kinds (begun (format_line (first_format plain kind.name) tt) lines))) (law.named lines)
named_both scaled kind lines law =
    let from = begun (format_line (first_format scaled kind.name) tt) lines in
    ap (λ (found : Option Kind). named_or plain found (named_by (scaled ∷ []) kinds from)) (law.not_plain lines) ∙ ap (λ (found : Option Kind). named_or scaled found (named_by [] kinds from)) (law.named_scaled lines)

-- texts in whole units are known
pub named_plain : (kind : Kind) (lines : List (List ℕ)) → KindLaw kind → named_by (plain ∷ []) kinds (begun (format_line (first_format plain kind.name) tt) lines) ≡ Some (record { format = plain; kind = kind })
named_plain kind lines law = ap (λ (found : Option Kind). named_or plain found (named_by [] kinds (begun (format_line (first_format plain kind.name) tt) lines))) (law.named lines)
