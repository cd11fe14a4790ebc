-- What is appended part by part.
use Rattle.std.proofs.Common.{◌≡◌, ℕ, List, ◌++◌, ap, ◌∙◌, append_assoc}

pub joined : (old a b c d e f g : List ℕ)
    → old ++ a ++ b ++ c ++ d ++ e ++ f ++ g ≡ old ++ (a ++ b ++ c ++ d ++ e ++ f ++ g)
joined old a b c d e f g =
    let two = append_assoc old a b in
    let three = ap (λ l. l ++ c) two ∙ append_assoc old (a ++ b) c in
    let four = ap (λ l. l ++ d) three ∙ append_assoc old (a ++ b ++ c) d in
    let five = ap (λ l. l ++ e) four ∙ append_assoc old (a ++ b ++ c ++ d) e in
    let six = ap (λ l. l ++ f) five ∙ append_assoc old (a ++ b ++ c ++ d ++ e) f in
    ap (λ l. l ++ g) six ∙ append_assoc old (a ++ b ++ c ++ d ++ e ++ f) g
