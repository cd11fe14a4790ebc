-- What a reply makes of the tables of controllers.
use Rattle.std.proofs.Common.{◌≡◌, ℕ, Bool, true, false, List, length, replicate, Option, Some, None, refl, sym, ap, ◌∙◌}
use Rattle.std.specs.Prelude.{if◌then◌else◌, ◌==◌, is_none}
use Rattle.std.specs.Option.{option_map}
use Rattle.std.proofs.lemmas.Bool.{eqb-true}
use Rattle.fabrics_connect.specs.declared.row.Row.{Row}
use Rattle.fabrics_connect.specs.Controllers.{ChangedAt, no_controllers}
use Rattle.fabrics_connect.specs.Row.{with_ready}
use Rattle.tables.specs.NumberTable.{place}
use Rattle.tables.proofs.NumberTables.{place_within, place-replicate, place-with_value}
use Rattle.pdu_cut.specs.Front.{Front}
use Rattle.target_state.specs.Controllers.{AreTables, CanFollow, TablesState, controller_places}
use Rattle.target_decision.specs.declared.controller.Controller.{Controller}
use Rattle.target_decision.specs.declared.consequence.Consequence.{Consequence}
use Rattle.target_decision.specs.declared.consequence.Consequence.TheVariants as consequence
use Rattle.target_decision.specs.declared.consequence.Update.{Update}
use Rattle.target_decision.specs.declared.decision.Decision.{Decision}
use Rattle.target_decision.specs.declared.decision.Decision.TheVariants as decision
use Rattle.target_decision.specs.Begin.{BeginsFree, FreeBy, row_by, row_decided}
use Rattle.target_decision.specs.Controller.{updated}
use Rattle.target_history.specs.declared.end_cause.EndCause.{EndCause}
use Rattle.target_history.specs.Occurrence.{consequence_decided, controller_changed, ready_after, row_changed, row_kept}

-- what stands at each place after the change of one
changed_place : (c : ℕ) (f : Row → Row) (o : Option Row) (old new : List (Option Row)) → place old c ≡ o → ChangedAt c f o old new → (n : ℕ)
    → place new n ≡ (if n == c then option_map f (place old n) else place old n)
changed_place c f None old new there changes n = ap (λ (l : List (Option Row)). place l n) changes ∙ by (n == c) refl where
  by : (same : Bool) → (n == c) ≡ same → place old n ≡ (if same then option_map f (place old n) else place old n)
  by true is = let none : place old n ≡ None = ap (place old) (eqb-true n c is) ∙ there in rw none refl
  by false is = refl
changed_place c f (Some row) old new there changes n =
    ap (λ (l : List (Option Row)). place l n) changes ∙ place-with_value old c (f row) n (place_within old c row there) ∙ by (n == c) refl
  where
    by : (same : Bool) → (n == c) ≡ same → (if same then Some (f row) else place old n) ≡ (if same then option_map f (place old n) else place old n)
    by true is = let some : place old n ≡ Some row = ap (place old) (eqb-true n c is) ∙ there in rw some refl
    by false is = refl

changed_none : {A : Type 0} (same : Bool) (f : A → A) (o : Option A) → is_none (if same then option_map f o else o) ≡ is_none o
changed_none true f None = refl
changed_none true f (Some a) = refl
changed_none false f o = refl

-- ---- a command of its own

pub updated_tables : (t : TablesState) (d : ℕ) (u : Update) (now : ℕ) (ready : Bool) (rows : List (Option Row)) (own : List (Option Controller)) → AreTables t
    → ((n : ℕ) → place own n ≡ controller_changed (consequence.Update d u) now n (place t.own n)) → length own ≡ length t.own
    → ChangedAt d (with_ready ready) (place t.rows d) t.rows rows → AreTables (record { rows = rows; own = own })
updated_tables t d u now ready rows own are each places changes = record {
  places = places ∙ are.places;
  alike = λ n. ap is_none (changed_place d (with_ready ready) (place t.rows d) t.rows rows refl changes n)
      ∙ changed_none (n == d) (with_ready ready) (place t.rows n) ∙ are.alike n
      ∙ sym (ap is_none (each n) ∙ changed_none (n == d) (updated u now) (place t.own n));
}

pub updated_rows : (t : TablesState) (d : ℕ) (u : Update) (ch : Consequence) (begun : Option Row) (rows : List (Option Row)) → ch ≡ consequence.Update d u
    → ChangedAt d (with_ready (ready_after u (place t.own d))) (place t.rows d) t.rows rows
    → (n : ℕ) → place rows n ≡ row_changed ch begun (place t.own n) n (place t.rows n)
updated_rows t d u ch begun rows is changes n =
    changed_place d (with_ready (ready_after u (place t.own d))) (place t.rows d) t.rows rows refl changes n
    ∙ by (n == d) refl ∙ ap (λ (b : Consequence). row_changed b begun (place t.own n) n (place t.rows n)) (sym is)
  where
    by : (same : Bool) → (n == d) ≡ same
        → (if same then option_map (with_ready (ready_after u (place t.own d))) (place t.rows n) else place t.rows n)
        ≡ (if same then option_map (with_ready (ready_after u (place t.own n))) (place t.rows n) else place t.rows n)
    by true is = ap (λ (m : ℕ). option_map (with_ready (ready_after u (place t.own m))) (place t.rows n)) (sym (eqb-true n d is))
    by false is = refl

-- ---- a Connect

left_none : {A : Type 0} (gone : Bool) (f : A → A) (o : Option A) → o ≡ None → (if gone then None else option_map f o) ≡ None
left_none true f o none = refl
left_none false f None none = refl
left_none false f (Some a) none = cc

-- what ended does not hinder what begins
can_follow_by : (ch : Consequence) (port : ℕ) (found : Front) (old : List (Option Row)) (t : TablesState) (gone : ℕ → Bool) (e : EndCause) → FreeBy (λ c. place old c) ch
    → ((n : ℕ) → place t.rows n ≡ (if gone n then None else option_map (row_kept e n) (place old n))) → CanFollow ch (row_by ch port found) t
can_follow_by (consequence.Begin b) port found old t gone e free rows = record {
  row = refl;
  begins = record {
    least = free.least;
    most = free.most;
    free = rows b.controller.cntlid ∙ left_none (gone b.controller.cntlid) (row_kept e b.controller.cntlid) (place old b.controller.cntlid) free.free;
  };
}
can_follow_by _ port found old t gone e free rows = tt

can_follow_so : (d : Decision) (port : ℕ) (found : Front) (old : List (Option Row)) (t : TablesState) (gone : ℕ → Bool) (e : EndCause) → BeginsFree (λ c. place old c) d
    → ((n : ℕ) → place t.rows n ≡ (if gone n then None else option_map (row_kept e n) (place old n)))
    → CanFollow (consequence_decided (Some d)) (row_decided d port found) t
can_follow_so (decision.Reply r) port found old t gone e free rows = can_follow_by r.consequence port found old t gone e free rows
can_follow_so _ port found old t gone e free rows = tt

pub can_follow : (d : Decision) (ch : Consequence) (begun : Option Row) (port : ℕ) (found : Front) (old : List (Option Row)) (t : TablesState) (gone : ℕ → Bool) (e : EndCause)
    → ch ≡ consequence_decided (Some d) → begun ≡ row_decided d port found → BeginsFree (λ c. place old c) d
    → ((n : ℕ) → place t.rows n ≡ (if gone n then None else option_map (row_kept e n) (place old n))) → CanFollow ch begun t
can_follow d ch begun port found old t gone e is made free rows = rw (is, made) (can_follow_so d port found old t gone e free rows)

-- ---- a controller that is gone

abbrev no_row : Option Row
no_row = None

-- a command of a controller that is gone makes nothing of its row
pub changed_alike : (ch : Consequence) (begun : Option Row) (gone : Bool) (c : ℕ) (own : Option Controller) (o : Option Row)
    → row_changed ch begun (if gone then None else own) c (if gone then None else o) ≡ row_changed ch begun own c (if gone then None else o)
changed_alike ch begun false c own o = refl
changed_alike (consequence.Update d u) begun true c own o = by (c == d) where
  by : (same : Bool)
      → (if same then option_map (with_ready (ready_after u None)) no_row else no_row)
      ≡ (if same then option_map (with_ready (ready_after u own)) no_row else no_row)
  by true = refl
  by false = refl
changed_alike _ begun true c own o = refl

-- ---- no controller

pub new_tables : (rows : List (Option Row)) (own : List (Option Controller)) → rows ≡ no_controllers → own ≡ replicate controller_places None
    → AreTables (record { rows = rows; own = own })
new_tables rows own no_row no_own = record {
  places = rw no_own refl;
  alike = λ n. ap (λ (l : List (Option Row)). is_none (place l n)) no_row ∙ ap is_none (place-replicate controller_places n)
      ∙ sym (ap (λ (l : List (Option Controller)). is_none (place l n)) no_own ∙ ap is_none (place-replicate controller_places n));
}
