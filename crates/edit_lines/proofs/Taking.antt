-- The lines of a file of edits, taken in turn.
use Rattle.std.proofs.Common.{◌≡◌, ℕ, ◌+◌, ◌-◌, ◌<◌, List, [], ◌∷◌, ◌++◌, length, suc, map, get_or, get_or-drop, take, drop, length-drop, refl, sym, ap, subst, ◌∙◌, arith, true, Ok}
use Rattle.std.proofs.lemmas.List.{drop-drop, length-replicate, take_all, take_more}
use Rattle.block_store.specs.Unit.{zero_unit}
use Rattle.config_lists.specs.declared.edit.Edit.{Edit}
use Rattle.nvt_config.specs.Accept.{accept}
use Rattle.nvt_config.specs.Configuration.{Configuration, are_disks, disks_alone}
use Rattle.config_text.specs.EditLine.{IsLineOf}
use Rattle.edit_lines.specs.Configured.{Configures, RefusesDisks, RefusesEdits, RefusesLine, RefusesLines, TransitionByLine, TransitionsByLines, sizes_of, zeroed}
use Rattle.edit_lines.specs.Line.{Refuses}
use Rattle.config_text.specs.Lines.{lines_of}
use Rattle.edit_lines.specs.declared.fault.ReplayFault.{ReplayFault}
use Rattle.edit_lines.specs.declared.fault.ReplayFault.TheVariants as fault
use Rattle.target_core.specs.Target.{TargetState}
use Rattle.target_history.specs.History.{Opening}

-- where a line is left, it is the next
pub record IsNext (all : List (List ℕ)) (n : ℕ) (line : List ℕ) (rest : List (List ℕ)) : Type 0 where
  pub below : n < length all
  pub is : get_or all n [] ≡ line
  pub after : drop (n + 1) all ≡ rest
  pub more : take (n + 1) all ≡ take n all ++ line ∷ []

pub next_line : (all : List (List ℕ)) (n : ℕ) (line : List ℕ) (rest : List (List ℕ)) → drop n all ≡ line ∷ rest → IsNext all n line rest
next_line all n line rest e =
    let len : length all - n ≡ suc (length rest) = sym (length-drop n all) ∙ ap length e in
    let lt : n < length all = omega arith in
    let plus : n ≡ n + 0 = omega arith in
    let here : get_or all n [] ≡ line = ap (λ k. get_or all k []) plus ∙ sym (get_or-drop n all 0 []) ∙ ap (λ xs. get_or xs 0 []) e in
    record {
      below = lt;
      is = here;
      after = sym (drop-drop 1 n all) ∙ ap (drop 1) e;
      more = take_more all n [] lt ∙ ap (λ x. take n all ++ x ∷ []) here;
    }

-- where none is left, all were taken
pub all_taken : (all : List (List ℕ)) (n : ℕ) → drop n all ≡ [] → take n all ≡ all
all_taken all n e =
    let len : length all - n ≡ 0 = sym (length-drop n all) ∙ ap length e in
    take_all n all (omega arith)

pub Configures-push : (lines : List (List ℕ)) (old mid new : Configuration) (line : List ℕ) (edit : Edit) → Configures lines old mid → IsLineOf line edit → accept mid edit ≡ Ok new → Configures (lines ++ line ∷ []) old new
Configures-push [] old mid new line edit before e accepted = (edit, e, new, ap (λ c. accept c edit) (sym before) ∙ accepted, refl)
Configures-push (first ∷ lines) old mid new line edit before e accepted =
    (before.0, before.1, before.2, before.3, Configures-push lines before.2 mid new line edit before.4 e accepted)

pub before_more : (all : List (List ℕ)) (n : ℕ) (line : List ℕ) (rest : List (List ℕ)) (old mid new : Configuration) → drop n all ≡ line ∷ rest → Configures (take n all) old mid
    → (edit : Edit) × IsLineOf line edit × (accept mid edit ≡ Ok new) → Configures (take (n + 1) all) old new
before_more all n line rest old mid new e before taken =
    subst (λ lines. Configures lines old new) (sym (next_line all n line rest e).more)
    (Configures-push (take n all) old mid new line taken.0 before taken.1 taken.2)

-- a line that is refused is the first
pub refused_at : (f : ReplayFault) (edits : List ℕ) (n : ℕ) (line : List ℕ) (rest : List (List ℕ)) (old c : Configuration) → drop n (lines_of edits) ≡ line ∷ rest
    → Configures (take n (lines_of edits)) old c → RefusesLine f c line (n + 1) → RefusesLines f (lines_of edits) old
refused_at (fault.EditLine m reply) edits n line rest old c e before refuses =
    let next = next_line (lines_of edits) n line rest e in
    let number : m ≡ n + 1 = refuses.0 in
    let front : m - 1 ≡ n = omega arith in
    let below : n < length (lines_of edits) = next.below in
    record {
      counted = (omega arith, omega arith);
      found = (
        c,
        subst (λ k. Configures (take k (lines_of edits)) old c) (sym front) before,
        subst (λ l. Refuses c l reply) (sym (ap (λ k. get_or (lines_of edits) k []) front ∙ next.is)) refuses.1,
      );
    }
refused_at (fault.StreamLine m) edits n line rest old c e before refuses = refuses
refused_at fault.Memory edits n line rest old c e before refuses = tt
refused_at fault.Io edits n line rest old c e before refuses = refuses
refused_at fault.Disks edits n line rest old c e before refuses = refuses

-- what a fault of the disks says before the edits
pub refused_disks : (f : ReplayFault) (edits units : List ℕ) → RefusesDisks f units → RefusesEdits f edits units
refused_disks (fault.EditLine m reply) edits units refuses = absurd refuses
refused_disks (fault.StreamLine m) edits units refuses = absurd refuses
refused_disks fault.Memory edits units refuses = tt
refused_disks fault.Io edits units refuses = absurd refuses
refused_disks fault.Disks edits units refuses = refuses

-- what a fault says of lines of edits it says of the edits of a target with these disks
pub lines_refused : (fault : ReplayFault) (edits units : List ℕ) (c : Configuration) → c ≡ disks_alone units → are_disks units ≡ true
    → RefusesLines fault (lines_of edits) c → RefusesEdits fault edits units
lines_refused (fault.EditLine n reply) edits units c new disks h = (disks, rw new at h)
lines_refused (fault.StreamLine n) edits units c new disks h = absurd h
lines_refused fault.Memory edits units c new disks h = tt
lines_refused fault.Io edits units c new disks h = absurd h
lines_refused fault.Disks edits units c new disks h = absurd h

lengths : (units : List ℕ) → sizes_of (zeroed units) ≡ units
lengths [] = refl
lengths (n ∷ units) = rw (length-replicate n zero_unit) (ap (λ (ns : List ℕ). n ∷ ns) (lengths units))

-- the sizes of disks that open with zeros
pub sizes_zeroed : (units : List ℕ) (disks : Opening) → disks ≡ zeroed units → sizes_of disks ≡ units
sizes_zeroed units disks zeros = ap sizes_of zeros ∙ lengths units

TransitionsByLines-push : (lines : List (List ℕ)) (old mid new : TargetState) (line : List ℕ) → TransitionsByLines lines old mid → TransitionByLine line mid new
    → TransitionsByLines (lines ++ line ∷ []) old new
TransitionsByLines-push [] old mid new line before here = (new, subst (λ (t : TargetState). TransitionByLine line t new) before here, refl)
TransitionsByLines-push (first ∷ lines) old mid new line before here = (before.0, before.1, TransitionsByLines-push lines before.0 mid new line before.2 here)

-- one more line is made
pub moved_more : (all : List (List ℕ)) (n : ℕ) (line : List ℕ) (left : List (List ℕ)) (old mid new : TargetState) → drop n all ≡ line ∷ left
    → TransitionsByLines (take n all) old mid → TransitionByLine line mid new → TransitionsByLines (take (n + 1) all) old new
moved_more all n line left old mid new e before here =
    subst (λ (lines : List (List ℕ)). TransitionsByLines lines old new) (sym (next_line all n line left e).more)
    (TransitionsByLines-push (take n all) old mid new line before here)
