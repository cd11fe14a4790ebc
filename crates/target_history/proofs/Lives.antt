-- What one more event makes of what the history says of a controller.
use Rattle.std.proofs.Common.{◌≡◌, ℕ, Bool, true, false, not, ◌&&◌, ◌||◌, List, ◌∷◌, Option, Some, None, refl, sym, ap, ◌∙◌}
use Rattle.std.specs.Prelude.{if◌then◌else◌, ◌==◌, is_some}
use Rattle.std.specs.Option.{option_map}
use Rattle.fabrics_connect.specs.declared.row.Row.{Row}
use Rattle.fabrics_connect.specs.Row.{joined, left, left_all, with_ready}
use Rattle.fabrics_connect.proofs.Queues.{set-map_true, set-map_false}
use Rattle.property_regs.specs.declared.regs.Regs.{Regs}
use Rattle.property_regs.specs.Regs.{regs_at_connect}
use Rattle.target_decision.specs.declared.consequence.Consequence.{Consequence}
use Rattle.target_decision.specs.declared.consequence.Consequence.TheVariants as consequence
use Rattle.target_decision.specs.declared.consequence.Update.{Update}
use Rattle.target_decision.specs.declared.controller.Controller.{Controller}
use Rattle.target_decision.specs.Begin.{row_by}
use Rattle.target_decision.specs.Consequence.{update_by}
use Rattle.target_decision.specs.Controller.{kato_by, new_controller, registers_by, restarts, updated}
use Rattle.target_history.specs.declared.end_cause.EndCause.{EndCause}
use Rattle.target_history.specs.declared.end_cause.EndCause.TheVariants as cause
use Rattle.target_history.specs.Event.{front_in}
use Rattle.target_history.specs.Occurrence.{Occurrence, Start, begins_by, consequence_of, controller_after, controller_changed, cause_of, ends_live, port_met, ready_after, row_after, row_changed, row_kept, row_left, started}
use Rattle.target_history.specs.History.{controller_of, controller_with, drops_by, has_queue, joins_by, kato_of, mark_of, part_after, registers_of, row_of, row_with, start_of, start_or}

-- ---- the queues of a controller

-- what an event that ends queues leaves of them
abbrev kept : EndCause → ℕ → (ℕ → Bool) → ℕ → Bool
kept e c queue q = not (drops_by e c q) && queue q

kept_row : (e : EndCause) (c : ℕ) (registers : Regs) (queue : ℕ → Bool) (s : Start)
    → row_kept e c (row_with registers queue s) ≡ row_with registers (kept e c queue) s
kept_row (cause.Queue d q) c registers queue s = by (c == d) where
  by : (same : Bool) → (if same then left q (row_with registers queue s) else row_with registers queue s)
      ≡ row_with registers (λ p. not (same && (p == q)) && queue p) s
  by true = ap (λ (l : List Bool). let r : Row = record (row_with registers queue s) { qids = l } in r) (set-map_false queue q)
  by false = refl
kept_row (cause.Reset d) c registers queue s = by (c == d) where
  by : (same : Bool) → (if same then left_all (row_with registers queue s) else row_with registers queue s)
      ≡ row_with registers (λ p. not same && queue p) s
  by true = refl
  by false = refl
kept_row _ c registers queue s = refl

-- .. where it may have ended
left_row : (e : EndCause) (c : ℕ) (gone : Bool) (registers : Regs) (queue : ℕ → Bool) (o : Option Start)
    → option_map (row_with registers (kept e c queue)) (if gone then None else o)
    ≡ (if gone then None else option_map (row_kept e c) (option_map (row_with registers queue) o))
left_row e c true registers queue o = refl
left_row e c false registers queue None = refl
left_row e c false registers queue (Some s) = ap Some (sym (kept_row e c registers queue s))

joined_row : (qid : ℕ) (registers : Regs) (queue : ℕ → Bool) (o : Option Start)
    → option_map (row_with registers (λ q. (q == qid) || queue q)) o ≡ option_map (joined qid) (option_map (row_with registers queue) o)
joined_row qid registers queue None = refl
joined_row qid registers queue (Some s) =
    ap (λ (l : List Bool). let r : Row = record (row_with registers queue s) { qids = l } in Some r) (sym (set-map_true queue qid))

-- ---- one more event

module _ (x : Occurrence) (c : ℕ) (gone : Bool) (registers : Regs) (queue : ℕ → Bool) (kato mark : ℕ) (o : Option Start) where
  abbrev e : EndCause
  e = cause_of x

  -- what is left of it
  abbrev rest : Option Row
  rest = if gone then None else option_map (row_kept e c) (option_map (row_with registers queue) o)

  abbrev own : Option Controller
  own = option_map (controller_with registers kato mark) o

  abbrev registers_after : Option Start → Option Update → Regs
  registers_after b u = part_after (λ (s : Start). regs_at_connect s.beginning.controller.kind) registers_by b u registers

  abbrev controller_by : Option Start → Option Update → Option Controller
  controller_by b u =
      option_map (controller_with (registers_after b u) (part_after (λ (s : Start). s.beginning.kato) kato_by b u kato)
      (part_after (λ (s : Start). s.clock) (λ (u : Update) (m : ℕ). if restarts u then x.clock else m) b u mark)) (start_or b (if gone then None else o))

  -- its own command leaves it its queues, and it is ready as its properties then say
  updated_row : (u : Update)
      → option_map (row_with (registers_by u registers) (kept e c queue)) (if gone then None else o)
      ≡ option_map (with_ready (ready_after u own)) (option_map (row_with registers (kept e c queue)) (if gone then None else o))
  updated_row u = by gone o where
    by : (gone : Bool) (o : Option Start)
        → option_map (row_with (registers_by u registers) (kept e c queue)) (if gone then None else o)
        ≡ option_map (with_ready (ready_after u (option_map (controller_with registers kato mark) o))) (option_map (row_with registers (kept e c queue)) (if gone then None else o))
    by true o = refl
    by false None = refl
    by false (Some start) = refl

  -- .. and what a reply makes of that
  row_by_reply : (ch : Consequence)
      → option_map (row_with (registers_after (begins_by x ch c) (update_by ch c)) (λ q. joins_by ch c q || (not (is_some (begins_by x ch c) || drops_by e c q) && queue q)))
      (start_or (begins_by x ch c) (if gone then None else o))
      ≡ row_changed ch (row_by ch (port_met x) (front_in x.event)) own c rest
  row_by_reply consequence.Nothing = left_row e c gone registers queue o
  row_by_reply (consequence.Begin b) = by (c == b.controller.cntlid) where
    by : (same : Bool)
        → option_map (row_with (registers_after (if same then Some (started x b) else None) None)
        (λ q. not (is_some (if same then Some (started x b) else None) || drops_by e c q) && queue q))
        (start_or (if same then Some (started x b) else None) (if gone then None else o))
        ≡ (if same then Some (started x b).row else rest)
    by true = refl
    by false = left_row e c gone registers queue o
  row_by_reply (consequence.Join j) = by (c == j.cntlid) where
    by : (same : Bool)
        → option_map (row_with registers (λ q. (same && (q == j.qid)) || (not (drops_by e c q) && queue q))) (if gone then None else o)
        ≡ (if same then option_map (joined j.qid) rest else rest)
    by true = joined_row j.qid registers (kept e c queue) (if gone then None else o) ∙ ap (option_map (joined j.qid)) (left_row e c gone registers queue o)
    by false = left_row e c gone registers queue o
  row_by_reply (consequence.Update d u) = by (c == d) where
    by : (same : Bool)
        → option_map (row_with (registers_after None (if same then Some u else None)) (kept e c queue)) (if gone then None else o)
        ≡ (if same then option_map (with_ready (ready_after u own)) rest else rest)
    by true = updated_row u ∙ ap (option_map (with_ready (ready_after u own))) (left_row e c gone registers queue o)
    by false = left_row e c gone registers queue o

  stays : controller_by None None ≡ (if gone then None else own)
  stays = by gone o where
    by : (gone : Bool) (o : Option Start)
        → option_map (controller_with registers kato mark) (if gone then None else o) ≡ (if gone then None else option_map (controller_with registers kato mark) o)
    by true o = refl
    by false o = refl

  updated_own : (u : Update) → controller_by None (Some u) ≡ option_map (updated u x.clock) (if gone then None else own)
  updated_own u = by gone o where
    by : (gone : Bool) (o : Option Start)
        → option_map (controller_with (registers_by u registers) (kato_by u kato) (if restarts u then x.clock else mark)) (if gone then None else o)
        ≡ option_map (updated u x.clock) (if gone then None else option_map (controller_with registers kato mark) o)
    by true o = refl
    by false None = refl
    by false (Some start) = refl

  controller_by_reply : (ch : Consequence)
      → controller_by (begins_by x ch c) (update_by ch c) ≡ controller_changed ch x.clock c (if gone then None else own)
  controller_by_reply (consequence.Begin b) = by (c == b.controller.cntlid) where
    by : (same : Bool) → controller_by (if same then Some (started x b) else None) None
        ≡ (if same then Some (new_controller b.controller.kind b.kato x.clock) else if gone then None else own)
    by true = refl
    by false = stays
  controller_by_reply (consequence.Update d u) = by (c == d) where
    by : (same : Bool) → controller_by None (if same then Some u else None)
        ≡ (if same then option_map (updated u x.clock) (if gone then None else own) else if gone then None else own)
    by true = updated_own u
    by false = stays
  controller_by_reply _ = stays

-- What one more event makes of a controller.
pub row_step : (x : Occurrence) (before : List Occurrence) (c : ℕ) → x.world.controller c ≡ controller_of before c
    → row_of (x ∷ before) c ≡ row_after x c (row_of before c)
row_step x before c met =
    row_by_reply x c (ends_live x c) (registers_of before c) (has_queue before c) (kato_of before c) (mark_of before c) (start_of before c) (consequence_of x)
    ∙ ap (λ (o : Option Controller). row_changed (consequence_of x) (row_by (consequence_of x) (port_met x) (front_in x.event)) o c (row_left x c (row_of before c)))
    (sym met)

pub controller_step : (x : Occurrence) (before : List Occurrence) (c : ℕ)
    → controller_of (x ∷ before) c ≡ controller_after x c (controller_of before c)
controller_step x before c =
    controller_by_reply x c (ends_live x c) (registers_of before c) (has_queue before c) (kato_of before c) (mark_of before c) (start_of before c) (consequence_of x)
