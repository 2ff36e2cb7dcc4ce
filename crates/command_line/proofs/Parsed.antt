-- What a parse says of the words.
use Rattle.std.proofs.Common.{◌≡◌, ◌∙◌, refl, sym, ap, subst, inl, inr, true, Bool, ℕ, List, [], ◌∷◌, Option, Some, None, Err}
use Rattle.std.specs.Prelude.{codes, option_map, unwrap_or}
use Rattle.std.specs.Borrow.{Bor}
use Rattle.clap.specs.Words.{App, Row, HasMatchesOf, rows_of, found_of, fault_of, first_of, first_value, raw_values, matched_of, is_simple, is_simple_and_free, HasKind, IsAmong, Kinds, kind_of}
use Rattle.clap.specs.declared.parser.matches.Found.{Found}
use Rattle.clap.proofs.WalkLemmas.{first_value-rows, raw_values-rows}
use Rattle.clap.specs.declared.error.Error.{Error}
use Rattle.clap.specs.declared.error.kind.ErrorKind.{ErrorKind}
use Rattle.clap.specs.declared.error.kind.ErrorKind.TheVariants as kind
use Rattle.clap.specs.declared.parser.matches.ArgMatches.{ArgMatches}
use Rattle.command_line.specs.Faults.{Finds, fault_by_kind}
use Rattle.command_line.specs.Parsing.{bounds_command, faults_in, matches_in, found_with, found_rows, Given, given_in, says_true}

-- the command is one of those of which `clap` tells all
pub is_told : is_simple_and_free bounds_command ≡ true
is_told = refl

abbrev rows : ArgMatches → List Row
rows m = rows_of (found_of m)

refused : (k : ErrorKind) → Finds {T = ArgMatches} rows (Err (fault_by_kind k)) None
refused kind.OutOfMemory = tt
refused other = refl

wanting : (k : ErrorKind) (there : Option (List Row)) → k ≡ kind.OutOfMemory → Finds {T = ArgMatches} rows (Err (fault_by_kind k)) there
wanting k there e = subst (λ (k : ErrorKind). Finds {T = ArgMatches} rows (Err (fault_by_kind k)) there) (sym e) tt

found : (kinds : Kinds) (rows : List Row) → kinds ≡ [] → found_with kinds rows ≡ Some rows
found [] rows e = refl
found (k ∷ ks) rows e = absurd cc

not_found : (k : ErrorKind) (kinds : Kinds) (rows : List Row) → IsAmong k kinds → found_with kinds rows ≡ None
not_found k [] rows among = absurd among
not_found k (l ∷ ls) rows among = refl

is_simple_told : is_simple bounds_command ≡ true
is_simple_told = refl

-- what a parse gives is what is found in the words
pub parsed : (words : List (List ℕ)) (a : App) (m : ArgMatches) → a ≡ bounds_command → HasMatchesOf a words m
    → (is_simple_and_free a ≡ true → fault_of a words ≡ []) → found_rows words ≡ Some (rows m)
unfolding found_rows faults_in matches_in
parsed words a m e has none =
    let no_fault : faults_in words ≡ [] = subst (λ (a : App). is_simple_and_free a ≡ true → fault_of a words ≡ []) e none is_told in
    let same : rows m ≡ matches_in words = (subst (λ (a : App). HasMatchesOf a words m) e has is_simple_told).0 in
    found (faults_in words) (matches_in words) no_fault ∙ ap Some (sym same)

-- where a parse refuses them, nothing is found in the words
pub not_parsed : (words : List (List ℕ)) (a : App) (e : Error) → a ≡ bounds_command → (is_simple_and_free a ≡ true → HasKind (fault_of a words) e)
    → Finds {T = ArgMatches} rows (Err (fault_by_kind (kind_of e))) (found_rows words)
unfolding found_rows faults_in
not_parsed words a e is fails = failed (subst (λ (a : App). is_simple_and_free a ≡ true → HasKind (fault_of a words) e) is fails is_told)
  where
    failed : HasKind (faults_in words) e → Finds {T = ArgMatches} rows (Err (fault_by_kind (kind_of e))) (found_rows words)
    failed (inl memory) = wanting (kind_of e) (found_rows words) memory
    failed (inr among) = rw (not_found (kind_of e) (faults_in words) (matches_in words) among) (refused (kind_of e))

-- ---- what is found, as what the words give

now_or : (text : Option (Bor (List ℕ))) (other : Bor (List ℕ)) → other.now ≡ [] → (unwrap_or text other).now ≡ unwrap_or (option_map (λ t. t.now) text) []
now_or None other e = e
now_or (Some text) other e = refl

-- the word of the command
pub word_found : (f : Found) (text : Option (Bor (List ℕ))) (word other : Bor (List ℕ)) → option_map (λ t. t.now) text ≡ first_value f (codes "command")
    → word ≡ unwrap_or text other → other.now ≡ [] → word.now ≡ unwrap_or (first_of (codes "command") (rows_of f)) []
word_found f text word other is e none =
    ap (λ (w : Bor (List ℕ)). w.now) e ∙ now_or text other none ∙ ap (λ o. unwrap_or o []) (is ∙ first_value-rows f (codes "command"))

abbrev given_by : (command : List ℕ) (files : List (List ℕ)) (kind form p k box seed count : Option (List ℕ)) (brief : Bool) → Given
given_by command files kind form p k box seed count brief = record {
  command = command;
  files = files;
  kind = kind;
  form = form;
  p = p;
  k = k;
  box = box;
  seed = seed;
  count = count;
  brief = brief;
}

same_given : (command command' : List ℕ) (files files' : List (List ℕ)) (kind kind' form form' p p' k k' box box' seed seed' count count' : Option (List ℕ)) (brief brief' : Bool)
    → command ≡ command' → files ≡ files' → kind ≡ kind' → form ≡ form' → p ≡ p' → k ≡ k' → box ≡ box' → seed ≡ seed' → count ≡ count' → brief ≡ brief'
    → given_by command files kind form p k box seed count brief ≡ given_by command' files' kind' form' p' k' box' seed' count' brief'
same_given _ _ _ _ _ _ _ _ _ _ _ _ _ _ _ _ _ _ _ _ e1 e2 e3 e4 e5 e6 e7 e8 e9 e10 = rw (e1, e2, e3, e4, e5, e6, e7, e8, e9, e10) refl

-- what the getters give
pub given_found : (f : Found) (command : List ℕ) (files : Option (List (List ℕ))) (kind form p k box seed count flag : Option (List ℕ)) (brief : Bool)
    → command ≡ unwrap_or (first_of (codes "command") (rows_of f)) [] → files ≡ option_map raw_values (matched_of f (codes "files"))
    → kind ≡ first_value f (codes "kind") → form ≡ first_value f (codes "form") → p ≡ first_value f (codes "p") → k ≡ first_value f (codes "k")
    → box ≡ first_value f (codes "box") → seed ≡ first_value f (codes "seed") → count ≡ first_value f (codes "count")
    → flag ≡ first_value f (codes "brief") → brief ≡ says_true flag
    → given_by command (unwrap_or files []) kind form p k box seed count brief ≡ given_in (rows_of f)
unfolding given_in
given_found f command files kind form p k box seed count flag brief ecommand efiles ekind eform ep ek ebox eseed ecount eflag ebrief = same_given
    _ _ _ _ _ _ _ _ _ _ _ _ _ _ _ _ _ _ _ _ ecommand (ap (λ o. unwrap_or o []) (efiles ∙ raw_values-rows f (codes "files"))) (ekind ∙ first_value-rows f (codes "kind"))
    (eform ∙ first_value-rows f (codes "form")) (ep ∙ first_value-rows f (codes "p")) (ek ∙ first_value-rows f (codes "k")) (ebox ∙ first_value-rows f (codes "box"))
    (eseed ∙ first_value-rows f (codes "seed")) (ecount ∙ first_value-rows f (codes "count")) (ebrief ∙ ap says_true (eflag ∙ first_value-rows f (codes "brief")))
