-- Beginnings of a text that a writer took.
use Rattle.std.proofs.Common.{◌≡◌, ℕ, List, ◌++◌, length, take, drop, Option, sym, ap, ◌∙◌, append_assoc, take-append-drop}
use Rattle.std.specs.Io.{StartsWith}
use Rattle.std.specs.Io.KnownBytes.{Appends}
use Rattle.std.proofs.KnownBytes.{Appends-trans, starts_with_rest}
use Rattle.std.proofs.Math.Seq.{take-append_seam}
use Rattle.edit_lines.specs.Writing.{AppendsFront}

-- ---- of a text

begins : (front rest text : List ℕ) → text ≡ front ++ rest → StartsWith text front
begins front rest text e = ap (take (length front)) e ∙ take-append_seam front rest

pub begins_left : (s t front : List ℕ) → StartsWith s front → StartsWith (s ++ t) front
begins_left s t front h =
    begins front (drop (length front) s ++ t) (s ++ t)
    (ap (λ (l : List ℕ). l ++ t) (starts_with_rest s front h) ∙ append_assoc front (drop (length front) s) t)

begins_behind : (s t front : List ℕ) → StartsWith t front → StartsWith (s ++ t) (s ++ front)
begins_behind s t front h =
    begins (s ++ front) (drop (length front) t) (s ++ t)
    (ap (λ (l : List ℕ). s ++ l) (starts_with_rest t front h) ∙ sym (append_assoc s front (drop (length front) t)))

-- ---- of what a writer took

pub front_left : (a b : Option (List ℕ)) (s t : List ℕ) → AppendsFront a b s → AppendsFront a b (s ++ t)
front_left a b s t part = (part.0, part.1, begins_left s t part.0 part.2)

pub front_behind : (a b c : Option (List ℕ)) (s t : List ℕ) → Appends a b s → AppendsFront b c t → AppendsFront a c (s ++ t)
front_behind a b c s t first part = (s ++ part.0, Appends-trans a b c s part.0 first part.1, begins_behind s t part.0 part.2)

-- some more of the rest was taken
pub moves_front : (text done rest left : List ℕ) (n : ℕ) → text ≡ done ++ rest → left ≡ drop n rest → text ≡ (done ++ take n rest) ++ left
moves_front text done rest left n is after =
    is ∙ ap (λ (l : List ℕ). done ++ l) (sym (take-append-drop n rest) ∙ ap (λ (l : List ℕ). take n rest ++ l) (sym after))
    ∙ sym (append_assoc done (take n rest) left)
