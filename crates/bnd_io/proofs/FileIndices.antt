-- Where a file stands among the files in memory.
use Rattle.std.proofs.Common.{◌≡◌, ℕ, suc, ap, ◌∙◌, ◌<◌, List, ◌∷◌, true, get_or, length, drop, Bool, false, ◌||◌, [], string_bytes, refl, sym}
use Rattle.std.proofs.lemmas.Option.{slice_get_read}
use Rattle.std.proofs.Math.Seq.{drop-cons}
use Rattle.std.specs.Str.{bytes_eq}
use Rattle.std.specs.Prelude.{IsTrue, if◌then◌else◌}
use Rattle.bnd_io.specs.Files.{Folder, bytes_of, has_name}
use Rattle.bnd_io.specs.FolderFields.{folder_of, bytes_at}
use Rattle.bnd_io.specs.declared.folder.NamedFile.{NamedFile}

-- the first file of a list that has the name gives the bytes
first_has : (f : NamedFile) (rest : List NamedFile) (name : List ℕ) → bytes_eq (string_bytes f.name) name ≡ true → bytes_of (folder_of (f ∷ rest)) name ≡ f.bytes.items
first_has f rest name h = rw h refl

-- the first file from index i on that has the name
pub bytes_at-found : (files : List NamedFile) (i : ℕ) (f : NamedFile) (name : List ℕ) → i < length files → f ≡ get_or files i f
    → bytes_eq (string_bytes f.name) name ≡ true → bytes_of (folder_of (drop i files)) name ≡ bytes_of (folder_of files) name
    → bytes_at files i ≡ bytes_of (folder_of files) name
bytes_at-found files i f name lt is same rest =
    let split : drop i files ≡ f ∷ drop (suc i) files = drop-cons files i f lt ∙ ap (λ x. x ∷ drop (suc i) files) (sym is) in
    rw (slice_get_read files _ i f refl lt is) (sym (first_has f (drop (suc i) files) name same) ∙ ap (λ fs. bytes_of (folder_of fs) name) (sym split) ∙ rest)

-- a name that is not there has no bytes
pub no_bytes : (folder : Folder) (name : List ℕ) → (IsTrue (has_name folder name) → ⊥) → bytes_of folder name ≡ []
no_bytes [] name none = refl
no_bytes (file ∷ rest) name none = by_name (bytes_eq file.0 name) none (no_bytes rest name)
  where
    by_name : (same : Bool) → (IsTrue (same || has_name rest name) → ⊥) → ((IsTrue (has_name rest name) → ⊥) → bytes_of rest name ≡ []) → (if same then file.1 else bytes_of rest name) ≡ []
    by_name true none others = absurd (none refl)
    by_name false none others = others none
