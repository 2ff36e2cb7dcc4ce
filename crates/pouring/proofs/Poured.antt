-- What a reader took of an open file.
use Rattle.std.proofs.Common.{◌≡◌, ◌∙◌, sym, ap, subst, ℕ, ◌+◌, ◌<◌, List, [], ◌++◌, length, length-append, append_assoc, append-nil, Option, Some, None, IfSome, arith}
use Rattle.bounds_model.specs.Asks.{Shape}
use Rattle.bnd_io.specs.Files.{Folder, bytes_of}
use Rattle.point_text.specs.declared.reader.Reader.{Reader}
use Rattle.point_text.specs.Keeping.{KeepsPoint}
use Rattle.point_text.specs.Reading.{StandsFor, bytes_taken}

-- of all bytes, where they are told, the reader took those before the rest
abbrev pub TookBefore : Reader → Reader → Option Folder → List ℕ → List ℕ → Type 0
TookBefore first now told all rest = (shape : Shape) → StandsFor first shape [] → (bytes : List ℕ) × StandsFor now shape bytes × IfSome told (λ _. all ≡ bytes ++ rest)

-- a piece more
pub took_piece : (first now next : Reader) (told : Option Folder) (all rest piece after : List ℕ) → TookBefore first now told all rest
    → ((shape : Shape) (bytes : List ℕ) → StandsFor now shape bytes → StandsFor next shape (bytes ++ piece)) → IfSome told (λ _. rest ≡ piece ++ after) → TookBefore first next told all after
took_piece first now next told all rest piece after took stands parts shape empty =
    let before = took shape empty in
    (before.0 ++ piece, stands shape before.0 before.1, joined told before.0 before.2 parts)
  where
    joined : (told : Option Folder) (bytes : List ℕ) → IfSome told (λ _. all ≡ bytes ++ rest) → IfSome told (λ _. rest ≡ piece ++ after) → IfSome told (λ _. all ≡ (bytes ++ piece) ++ after)
    joined None bytes is parts = tt
    joined (Some folder) bytes is parts = is ∙ (ap (λ ys. bytes ++ ys) parts ∙ sym (append_assoc bytes piece after))

-- all of them
pub took_all : (first now : Reader) (told : Option Folder) (all rest : List ℕ) → TookBefore first now told all rest → IfSome told (λ _. rest ≡ [])
    → (shape : Shape) → StandsFor first shape [] → (bytes : List ℕ) × StandsFor now shape bytes × IfSome told (λ _. bytes ≡ all)
took_all first now told all rest took none shape empty =
    let before = took shape empty in
    (before.0, before.1, whole told before.0 before.2 none)
  where
    whole : (told : Option Folder) (bytes : List ℕ) → IfSome told (λ _. all ≡ bytes ++ rest) → IfSome told (λ _. rest ≡ []) → IfSome told (λ _. bytes ≡ all)
    whole None bytes is none = tt
    whole (Some folder) bytes is none = sym (is ∙ (ap (λ ys. bytes ++ ys) none ∙ append-nil bytes))

-- a piece that goes past the limit
pub took_too_many : (limit : ℕ) (first now : Reader) (told : Option Folder) (all rest piece after : List ℕ) → TookBefore first now told all rest
    → (shape : Shape) → StandsFor first shape [] → IfSome told (λ _. rest ≡ piece ++ after) → limit < bytes_taken now + length piece → IfSome told (λ _. limit < length all)
took_too_many limit first now told all rest piece after took shape empty parts past =
    let before = took shape empty in
    longer told before.0 before.1.taken before.2 parts
  where
    longer : (told : Option Folder) (bytes : List ℕ) → bytes_taken now ≡ length bytes → IfSome told (λ _. all ≡ bytes ++ rest) → IfSome told (λ _. rest ≡ piece ++ after) → IfSome told (λ _. limit < length all)
    longer None bytes taken is parts = tt
    longer (Some folder) bytes taken is parts =
        let whole = ap length is in
        let size = length-append bytes rest in
        let more = ap length parts in
        let parted = length-append piece after in
        omega (arith, whole, size, more, parted, taken, past)

-- a piece at which memory was wanting: a point is kept of all bytes
pub took_wanting : (first now : Reader) (told : Option Folder) (all rest piece after : List ℕ) → TookBefore first now told all rest
    → ((shape : Shape) (bytes more : List ℕ) → StandsFor now shape bytes → KeepsPoint shape ((bytes ++ piece) ++ more)) → IfSome told (λ _. rest ≡ piece ++ after)
    → (shape : Shape) → StandsFor first shape [] → IfSome told (λ _. KeepsPoint shape all)
took_wanting first now told all rest piece after took keeps parts shape empty =
    let before = took shape empty in
    kept told before.0 before.1 before.2 parts
  where
    kept : (told : Option Folder) (bytes : List ℕ) → StandsFor now shape bytes → IfSome told (λ _. all ≡ bytes ++ rest) → IfSome told (λ _. rest ≡ piece ++ after) → IfSome told (λ _. KeepsPoint shape all)
    kept None bytes stands is parts = tt
    kept (Some folder) bytes stands is parts =
        let same : all ≡ (bytes ++ piece) ++ after = is ∙ (ap (λ ys. bytes ++ ys) parts ∙ sym (append_assoc bytes piece after)) in
        subst (λ ys. KeepsPoint shape ys) (sym same) (keeps shape bytes after stands)

-- the same of a file that is named by its bytes
pub kept_file : (first : Reader) (old middle : Option Folder) (name left : List ℕ) → middle ≡ old → IfSome middle (λ folder. left ≡ bytes_of folder name)
    → ((shape : Shape) → StandsFor first shape [] → IfSome middle (λ _. KeepsPoint shape left)) → (shape : Shape) → StandsFor first shape [] → IfSome old (λ folder. KeepsPoint shape (bytes_of folder name))
kept_file first old middle name left same starts keeps shape empty = subst (λ told. IfSome told (λ folder. KeepsPoint shape (bytes_of folder name))) same (named middle starts (keeps shape empty))
  where
    named : (told : Option Folder) → IfSome told (λ folder. left ≡ bytes_of folder name) → IfSome told (λ _. KeepsPoint shape left) → IfSome told (λ folder. KeepsPoint shape (bytes_of folder name))
    named None starts kept = tt
    named (Some folder) starts kept = subst (KeepsPoint shape) starts kept

-- a file that is named by its bytes
pub took_file : (first now : Reader) (old middle : Option Folder) (name left : List ℕ) → middle ≡ old → IfSome middle (λ folder. left ≡ bytes_of folder name)
    → ((shape : Shape) → StandsFor first shape [] → (bytes : List ℕ) × StandsFor now shape bytes × IfSome middle (λ _. bytes ≡ left))
    → (shape : Shape) → StandsFor first shape [] → (bytes : List ℕ) × StandsFor now shape bytes × IfSome old (λ folder. bytes_of folder name ≡ bytes)
took_file first now old middle name left same starts took shape empty =
    let all = took shape empty in
    (all.0, all.1, subst (λ told. IfSome told (λ folder. bytes_of folder name ≡ all.0)) same (whole middle all.0 starts all.2))
  where
    whole : (told : Option Folder) (bytes : List ℕ) → IfSome told (λ folder. left ≡ bytes_of folder name) → IfSome told (λ _. bytes ≡ left) → IfSome told (λ folder. bytes_of folder name ≡ bytes)
    whole None bytes starts is = tt
    whole (Some folder) bytes starts is = sym (is ∙ starts)
