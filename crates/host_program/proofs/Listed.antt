-- The namespaces of a list, one a line.
use Rattle.std.proofs.Common.{◌≡◌, ℕ, List, [], ◌∷◌, ◌++◌, Option, refl, sym, ap, ◌∙◌, subst, append_assoc, append-nil}
use Rattle.std.specs.Io.KnownBytes.{Appends}
use Rattle.std.proofs.KnownBytes.{Appends-trans}
use Rattle.host_program.specs.Lines.{nsid_line}
use Rattle.host_program.specs.Listing.{list_text}

text-append : (xs ys : List ℕ) → list_text (xs ++ ys) ≡ list_text xs ++ list_text ys
text-append [] ys = refl
text-append (x ∷ xs) ys = ap (λ (l : List ℕ). nsid_line x ++ l) (text-append xs ys) ∙ sym (append_assoc (nsid_line x) (list_text xs) (list_text ys))

pub split : (done : List ℕ) (n : ℕ) (rest nsids : List ℕ) → nsids ≡ done ++ n ∷ rest → list_text nsids ≡ list_text done ++ (nsid_line n ++ list_text rest)
split done n rest nsids is = ap (λ (l : List ℕ). list_text l) is ∙ text-append done (n ∷ rest)

pub printed_more : (done : List ℕ) (n : ℕ) (a b c : Option (List ℕ)) → Appends a b (list_text done) → Appends b c (nsid_line n) → Appends a c (list_text (done ++ n ∷ []))
printed_more done n a b c first next =
    subst (λ (l : List ℕ). Appends a c l)
    (sym (text-append done (n ∷ []) ∙ ap (λ (l : List ℕ). list_text done ++ l) (append-nil (nsid_line n))))
    (Appends-trans a b c (list_text done) (nsid_line n) first next)
