-- A row has the identifier that it was begun with, whatever else becomes of it.
use Rattle.std.proofs.Common.{◌≡◌, ℕ, Bool, true, false, List, [], ◌∷◌, Option, Some, None, refl, sym, ap, ◌∙◌}
use Rattle.std.specs.Prelude.{if◌then◌else◌, ◌==◌}
use Rattle.std.specs.Option.{option_map}
use Rattle.fabrics_connect.specs.declared.row.Row.{Row}
use Rattle.property_regs.specs.declared.regs.Regs.{Regs}
use Rattle.target_decision.specs.declared.consequence.Consequence.{Consequence}
use Rattle.target_decision.specs.declared.consequence.Consequence.TheVariants as consequence
use Rattle.target_history.specs.Occurrence.{Occurrence, Start, begins, begins_by, consequence_of, ends_live, started}
use Rattle.target_history.specs.History.{has_queue, registers_of, row_with, start_of, start_or}
use Rattle.target_history.specs.Identifiers.{RowsHaveTheirIdentifiers}
use Rattle.target_history.proofs.Tests.{same_number}

-- what an event begins
begun : (x : Occurrence) (ch : Consequence) (c : ℕ) (s : Start) → begins_by x ch c ≡ Some s → s.row.cntlid ≡ c
begun x (consequence.Begin b) c s h = by (c == b.controller.cntlid) refl h where
  by : (same : Bool) → (c == b.controller.cntlid) ≡ same → (if same then Some (started x b) else None) ≡ Some s → s.row.cntlid ≡ c
  by true same is =
      let here : started x b ≡ s = cc in
      ap (λ (t : Start). t.row.cntlid) (sym here) ∙ sym (same_number c b.controller.cntlid same)
  by false same is = cc
begun x _ c s h = cc

-- .. or what began before
begun_or : (first before : Option Start) (over : Bool) (c : ℕ) (s : Start) → ((t : Start) → first ≡ Some t → t.row.cntlid ≡ c)
    → ((t : Start) → before ≡ Some t → t.row.cntlid ≡ c) → start_or first (if over then None else before) ≡ Some s → s.row.cntlid ≡ c
begun_or (Some t) before over c s one other h = one s h
begun_or None before true c s one other h = cc
begun_or None before false c s one other h = other s h

start_own : (happened : List Occurrence) (c : ℕ) (s : Start) → start_of happened c ≡ Some s → s.row.cntlid ≡ c
start_own [] c s h = cc
start_own (x ∷ before) c s h = begun_or (begins x c) (start_of before c) (ends_live x c) c s (begun x (consequence_of x) c) (start_own before c) h

row_own : (registers : Regs) (queue : ℕ → Bool) (o : Option Start) (c : ℕ) (row : Row) → ((s : Start) → o ≡ Some s → s.row.cntlid ≡ c)
    → option_map (row_with registers queue) o ≡ Some row → row.cntlid ≡ c
row_own registers queue None c row start h = cc
row_own registers queue (Some s) c row start h =
    let here : row_with registers queue s ≡ row = cc in
    ap (λ (r : Row). r.cntlid) (sym here) ∙ start s refl

pub rows_have_their_identifiers : RowsHaveTheirIdentifiers
rows_have_their_identifiers = record {
  own = λ happened c row h. row_own (registers_of happened c) (has_queue happened c) (start_of happened c) c row (start_own happened c) h;
}
