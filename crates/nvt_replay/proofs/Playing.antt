-- The lines of a script, and what they print.
use Rattle.std.proofs.Common.{◌≡◌, ℕ, ◌+◌, ◌-◌, arith, List, [], ◌∷◌, ◌++◌, take, drop, Option, refl, sym, ap, ◌∙◌, subst, append_assoc, append-nil}
use Rattle.std.proofs.KnownBytes.{Appends-trans}
use Rattle.target_core.specs.Target.{TargetState}
use Rattle.edit_lines.specs.declared.stream_line.StreamLine.{StreamLine}
use Rattle.nvt_replay.specs.Played.{Plays, PlaysAll, Prints}
use Rattle.edit_lines.specs.StreamLine.{Says}
use Rattle.edit_lines.proofs.Taking.{next_line}

-- ---- lines

PlaysAll-push : (lines : List (List ℕ)) (old mid new : TargetState) (line : List ℕ) (says : StreamLine) (first rest : List ℕ)
    → PlaysAll lines old first mid → Says line says → Plays says mid rest new → PlaysAll (lines ++ line ∷ []) old (first ++ rest) new
PlaysAll-push [] old mid new line says first rest before is plays = (
  says,
  is,
  new,
  rest,
  [],
  subst (λ (t : TargetState). Plays says t rest new) before.1 plays,
  (refl, refl),
  ap (λ (text : List ℕ). text ++ rest) before.0 ∙ sym (append-nil rest),
)
PlaysAll-push (l ∷ lines) old mid new line says first rest before is plays = (
  before.0,
  before.1,
  before.2,
  before.3,
  before.4 ++ rest,
  before.5,
  PlaysAll-push lines before.2 mid new line says before.4 rest before.6 is plays,
  ap (λ (text : List ℕ). text ++ rest) before.7 ∙ append_assoc before.3 before.4 rest,
)

-- one more line is played
pub played_more : (all : List (List ℕ)) (n : ℕ) (line : List ℕ) (left : List (List ℕ)) (says : StreamLine) (old mid new : TargetState) (a b c : Option (List ℕ))
    → drop n all ≡ line ∷ left → Says line says
    → Prints a b (λ text. PlaysAll (take n all) old text mid) → Prints b c (λ text. Plays says mid text new)
    → Prints a c (λ text. PlaysAll (take (n + 1) all) old text new)
played_more all n line left says old mid new a b c e is before here = (
  before.0 ++ here.0,
  Appends-trans a b c before.0 here.0 before.1 here.1,
  subst (λ (lines : List (List ℕ)). PlaysAll lines old (before.0 ++ here.0) new) (sym (next_line all n line left e).more)
      (PlaysAll-push (take n all) old mid new line says before.0 here.0 before.2 is here.2),
)

-- where the next line is malformed, those before it were played
pub played_before : (all : List (List ℕ)) (n : ℕ) (old last : TargetState) (a b : Option (List ℕ))
    → Prints a b (λ text. PlaysAll (take n all) old text last)
    → Prints a b (λ text. (end : TargetState) × PlaysAll (take (n + 1 - 1) all) old text end)
played_before all n old last a b before =
    let front : n + 1 - 1 ≡ n = omega arith in
    (before.0, before.1, (last, subst (λ m. PlaysAll (take m all) old before.0 last) (sym front) before.2))
