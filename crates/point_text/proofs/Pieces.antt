-- What a reader has read of a piece.
use Rattle.std.proofs.Common.{◌≡◌, ◌∙◌, refl, sym, ap, ℕ, ◌+◌, List, [], ◌∷◌, ◌++◌, codes, length, length-append, append_assoc, append-nil, arith}
use Rattle.bounds_model.specs.Asks.{Shape}
use Rattle.point_text.specs.declared.reader.Reader.{Reader}
use Rattle.point_text.specs.Reading.{StandsFor, HasFailed, Reads}

pub reads_none : (reader : Reader) (piece : List ℕ) → Reads reader reader piece piece
reads_none reader piece = record {
  done = [];
  all = refl;
  taken = omega arith;
  stands = λ shape bytes is. rw (append-nil bytes) is;
  stays = λ failed. failed;
}

-- a line that was ended
pub reads_line : (old now next : Reader) (piece rest part after : List ℕ) → Reads old now piece rest → rest ≡ part ++ 10 ∷ after → next.taken ≡ now.taken + length part + 1
    → ((shape : Shape) (bytes : List ℕ) → StandsFor now shape bytes → StandsFor next shape (bytes ++ part ++ codes "\n")) → (HasFailed now → HasFailed next) → Reads old next piece after
reads_line old now next piece rest part after read parts taken stands stays =
    let size = length-append read.done part in
    let more = length-append (read.done ++ part) (codes "\n") in
    record {
      done = (read.done ++ part) ++ codes "\n";
      all = read.all ∙ (ap (λ ys. read.done ++ ys) parts ∙ (sym (append_assoc read.done part (10 ∷ after)) ∙ sym (append_assoc (read.done ++ part) (codes "\n") after)));
      taken = omega (arith, read.taken, taken, size, more);
      stands = λ shape bytes is.
          let joined = stands shape (bytes ++ read.done) (read.stands shape bytes is) in
          let same = ap (λ ys. ys ++ codes "\n") (append_assoc bytes read.done part) ∙ append_assoc bytes (read.done ++ part) (codes "\n") in
          rw same at joined;
      stays = λ failed. stays (read.stays failed);
    }

-- the rest was read too
pub reads_rest : (old now next : Reader) (piece rest : List ℕ) (read : Reads old now piece rest) → ((shape : Shape) (bytes : List ℕ) → StandsFor now shape bytes → StandsFor next shape (bytes ++ rest))
    → (shape : Shape) (bytes : List ℕ) → StandsFor old shape bytes → StandsFor next shape (bytes ++ piece)
reads_rest old now next piece rest read stands shape bytes is =
    let joined = stands shape (bytes ++ read.done) (read.stands shape bytes is) in
    let same = append_assoc bytes read.done rest ∙ ap (λ ys. bytes ++ ys) (sym read.all) in
    rw same at joined
