-- What is printed part by part.
use Rattle.std.proofs.Common.{◌≡◌, ℕ, List, [], ◌∷◌, ◌++◌, length, take, drop, Result, Ok, Err, refl, sym, ap, ◌∙◌, subst, inl, append_assoc, append-nil, take-append-drop, arith}
use Rattle.std.specs.Prelude.{IfErr, OnErr, OnOk, Option, is_ok}
use Rattle.std.specs.Io.{StartsWith}
use Rattle.std.specs.Io.KnownBytes.{Appends, Keeps}
use Rattle.std.proofs.KnownBytes.{Appends-kept, Appends-nil, Appends-trans, starts_with_rest}
use Rattle.std.proofs.Math.Seq.{take-append_seam}
use Rattle.host_link.specs.declared.fault.SessionFault.{SessionFault}
use Rattle.host_link.specs.declared.fault.SessionFault.TheVariants.{Memory}
use Rattle.host_program.specs.Printed.{AppendsFront, IsOfWriting, Prints}

-- ---- beginnings

begins : (front rest text : List ℕ) → text ≡ front ++ rest → StartsWith text front
begins front rest text e = ap (take (length front)) e ∙ take-append_seam front rest

begins_left : (s t front : List ℕ) → StartsWith s front → StartsWith (s ++ t) front
begins_left s t front h =
    begins front (drop (length front) s ++ t) (s ++ t)
    (ap (λ (l : List ℕ). l ++ t) (starts_with_rest s front h) ∙ append_assoc front (drop (length front) s) t)

begins_behind : (s t front : List ℕ) → StartsWith t front → StartsWith (s ++ t) (s ++ front)
begins_behind s t front h =
    begins (s ++ front) (drop (length front) t) (s ++ t)
    (ap (λ (l : List ℕ). s ++ l) (starts_with_rest t front h) ∙ sym (append_assoc s front (drop (length front) t)))

-- ---- one text

pub moves_front : (text done rest left : List ℕ) (n : ℕ) → text ≡ done ++ rest → left ≡ drop n rest → text ≡ (done ++ take n rest) ++ left
moves_front text done rest left n is after =
    is ∙ ap (λ (l : List ℕ). done ++ l) (sym (take-append-drop n rest) ∙ ap (λ (l : List ℕ). take n rest ++ l) (sym after))
    ∙ sym (append_assoc done (take n rest) left)

-- a beginning was written, and then nothing
pub begun : (text done rest : List ℕ) (a b c : Option (List ℕ)) → text ≡ done ++ rest → Appends a b done → Keeps b c → AppendsFront a c text
begun text done rest a b c is first kept = (done, Appends-kept a b c done first kept, begins done rest text is)

pub is_written : (text done rest : List ℕ) (a b : Option (List ℕ)) → text ≡ done ++ rest → length rest ≡ 0 → Appends a b done → Appends a b text
is_written text done [] a b is none first = subst (λ (l : List ℕ). Appends a b l) (sym (is ∙ append-nil done)) first
is_written text done (x ∷ xs) a b is none first = absurd (omega arith)

module _ {E : Type 0} where
  pub prints : (o : Result (Unit {0}) E) (r : Result (Unit {0}) SessionFault) (text : List ℕ) (a b : Option (List ℕ)) → OnOk o (Appends a b text)
      → OnErr o (AppendsFront a b text) → IfErr r IsOfWriting → is_ok r ≡ is_ok o → Prints text r a b
  prints (Ok d) (Ok e) text a b ok err fault same = ok
  prints (Ok d) (Err f) text a b ok err fault same = cc
  prints (Err x) (Ok e) text a b ok err fault same = cc
  prints (Err x) (Err f) text a b ok err fault same = (fault, err)

pub prints_nothing : (text : List ℕ) (f : SessionFault) (a : Option (List ℕ)) → IsOfWriting f → Prints text (Err f) a a
prints_nothing text f a why = (why, ([], Appends-nil a, refl))

-- there is no memory for it
pub is_starved : (text : List ℕ) (f : SessionFault) (a : Option (List ℕ)) → f ≡ Memory → Prints text (Err f) a a
is_starved text f a is = prints_nothing text f a (inl is)

-- ---- texts, one behind the other

-- .. this of which is printed, and then more
pub prints_behind : (s t : List ℕ) (r : Result (Unit {0}) SessionFault) (a b c : Option (List ℕ)) → Appends a b s → Prints t r b c → Prints (s ++ t) r a c
prints_behind s t (Ok d) a b c first p = Appends-trans a b c s t first p
prints_behind s t (Err f) a b c first p = (p.0, (s ++ p.1.0, Appends-trans a b c s p.1.0 first p.1.1, begins_behind s t p.1.0 p.1.2))

-- .. the first of which is not
pub prints_part : (s t : List ℕ) (f : SessionFault) (a b : Option (List ℕ)) → Prints s (Err f) a b → Prints (s ++ t) (Err f) a b
prints_part s t f a b p = (p.0, (p.1.0, p.1.1, begins_left s t p.1.0 p.1.2))

-- the next of the rest is printed
pub more : (all done next rest : List ℕ) (a b c : Option (List ℕ)) → all ≡ done ++ (next ++ rest) → Appends a b done → Appends b c next
    → (all ≡ (done ++ next) ++ rest) × Appends a c (done ++ next)
more all done next rest a b c is first n = (is ∙ sym (append_assoc done next rest), Appends-trans a b c done next first n)

-- .. or is not
pub fails : (all done next rest : List ℕ) (f : SessionFault) (a b c : Option (List ℕ)) → all ≡ done ++ (next ++ rest) → Appends a b done → Prints next (Err f) b c
    → Prints all (Err f) a c
fails all done next rest f a b c is first p =
    subst (λ (l : List ℕ). Prints l (Err f) a c) (sym is) (prints_behind done (next ++ rest) (Err f) a b c first (prints_part next rest f b c p))

-- nothing is left
pub all_printed : (all done rest : List ℕ) (a b : Option (List ℕ)) → all ≡ done ++ rest → rest ≡ [] → Appends a b done → Prints all (Ok tt) a b
all_printed all done rest a b is none first =
    subst (λ (l : List ℕ). Appends a b l) (sym (is ∙ ap (λ (l : List ℕ). done ++ l) none ∙ append-nil done)) first

-- a line that was made is printed
pub prints_line : (line before text : List ℕ) (r : Result (Unit {0}) SessionFault) (a b : Option (List ℕ)) → line ≡ before ++ text → before ≡ [] → Prints line r a b
    → Prints text r a b
prints_line line before text r a b is none p = subst (λ (l : List ℕ). Prints l r a b) (is ∙ ap (λ (l : List ℕ). l ++ text) none) p
