-- Why a line that is not read, or an edit that is not made, is refused.
use Rattle.std.proofs.Common.{◌≡◌, ℕ, List, MatchOption, IfErr, IsOk, IsOkUnless, OnOk, Option, Some, None, Result, Ok, Err, refl, sym, ap, ◌∙◌, subst}
use Rattle.config_lists.specs.declared.edit.Edit.{Edit}
use Rattle.config_lists.specs.declared.fault.EditFault.{EditFault}
use Rattle.config_lists.specs.declared.fault.EditFault.TheVariants as why
use Rattle.nvt_config.specs.Accept.{accept}
use Rattle.nvt_config.specs.Configuration.{Configuration}
use Rattle.config_text.specs.declared.fault.LineFault.{LineFault}
use Rattle.config_text.specs.declared.fault.LineFaultKind.{LineFaultKind}
use Rattle.config_text.specs.declared.fault.LineFaultKind.TheVariants.{TooLong, Empty, UnknownWord, Missing, BadNumber, BadNqn, BadUuid, BadWord, Extra, Memory}
use Rattle.config_text.specs.Fault.{memory_fault}
use Rattle.config_text.specs.Words.{line_fault}
use Rattle.edit_lines.proofs.MemoryLast.{no_line_wants_memory, no_rule_wants_memory}
use Rattle.edit_lines.specs.Line.{IsEditRefused, IsRefused, not_made, not_read, not_read_by}

-- a line that is not read
abbrev failed : LineFault → Result Edit LineFault
failed fault = Err fault

by_kind : (c : Configuration) (line : List ℕ) (fault : LineFault) (kind : LineFaultKind) → fault.kind ≡ kind → line_fault line ≡ Some fault
    → IsRefused c line (not_read_by fault kind)
by_kind c line fault TooLong same is = is
by_kind c line fault Empty same is = is
by_kind c line fault UnknownWord same is = is
by_kind c line fault Missing same is = is
by_kind c line fault BadNumber same is = is
by_kind c line fault BadNqn same is = is
by_kind c line fault BadUuid same is = is
by_kind c line fault BadWord same is = is
by_kind c line fault Extra same is = is
by_kind c line fault Memory same is = absurd (no_line_wants_memory line fault is same)

by_fault : (c : Configuration) (line : List ℕ) (fault : LineFault) (o : Option LineFault) → line_fault line ≡ o
    → MatchOption o (IsOkUnless (failed fault) memory_fault) (λ f. failed fault ≡ Err f) → IsRefused c line (not_read fault)
by_fault c line fault None none wants = subst (λ (f : LineFault). IsRefused c line (not_read f)) (sym wants) none
by_fault c line fault (Some f) some is =
    let same : f ≡ fault = cc in
    by_kind c line fault fault.kind refl (some ∙ ap (λ (x : LineFault). Some x) same)

pub refused_by : (c : Configuration) (line : List ℕ) (fault : LineFault)
    → MatchOption (line_fault line) (IsOkUnless (failed fault) memory_fault) (λ f. failed fault ≡ Err f) → IsRefused c line (not_read fault)
refused_by c line fault told = by_fault c line fault (line_fault line) refl told

-- ---- edits

-- an edit that is not made
abbrev undone : EditFault → Result (Unit {0}) EditFault
undone fault = Err fault

by_rule : (c : Configuration) (edit : Edit) (fault : EditFault) → accept c edit ≡ Err fault → IsEditRefused c edit (not_made fault)
by_rule c edit (why.BadValue value) is = is
by_rule c edit (why.NoSuch item) is = is
by_rule c edit (why.Exists item) is = is
by_rule c edit why.DiskInUse is = is
by_rule c edit (why.InUse item) is = is
by_rule c edit (why.Full item) is = is
by_rule c edit why.Memory is = absurd (no_rule_wants_memory c edit is)

by_verdict : (c : Configuration) (edit : Edit) (fault : EditFault) (r : Result Configuration EditFault) → accept c edit ≡ r
    → OnOk r (IsOkUnless (undone fault) why.Memory) → IfErr r (λ f. undone fault ≡ Err f) → IsEditRefused c edit (not_made fault)
by_verdict c edit fault (Ok d) is wants told =
    let accepted : IsOk (accept c edit) = rw is refl in
    subst (λ (f : EditFault). IsEditRefused c edit (not_made f)) (sym wants) accepted
by_verdict c edit fault (Err f) is wants told =
    let same : f ≡ fault = cc in
    by_rule c edit fault (is ∙ ap (λ (x : EditFault). Err x) same)

pub not_made_by_rule : (c : Configuration) (edit : Edit) (fault : EditFault) → OnOk (accept c edit) (IsOkUnless (undone fault) why.Memory)
    → IfErr (accept c edit) (λ f. undone fault ≡ Err f) → IsEditRefused c edit (not_made fault)
not_made_by_rule c edit fault wants told = by_verdict c edit fault (accept c edit) refl wants told
