-- The beginning of a line that is too long.
use Rattle.std.proofs.Common.{◌≡◌, ℕ, ◌==◌, ◌++◌, Bool, true, List, [], Some, length, take, refl, ap, subst, ◌∙◌}
use Rattle.std.proofs.lemmas.Bool.{eq-eqb}
use Rattle.std.proofs.Math.Seq.{take-append_seam}
use Rattle.nvt_ports.specs.Splitting.{HandsBeginningOut}

pub handed_out_beginning : (held : List ℕ) (skips : Bool) (front rest left : List ℕ) → length held ≡ 1025 → front ≡ held → left ≡ []
    → HandsBeginningOut (length held == 1025) (record { held = held; skips = skips }) (front ++ rest) (Some 1025) (record { held = left; skips = true })
handed_out_beginning held skips front rest left long same none =
    let all : length front ≡ 1025 = ap length same ∙ long in
    let taken : take 1025 (front ++ rest) ≡ held = subst (λ n. take n (front ++ rest) ≡ held) all (take-append_seam front rest ∙ same) in
    rw (eq-eqb (length held) 1025 long) (refl, taken, ap (λ items. record { held = items; skips = true }) none)
