-- Whose admin queue a connection is, and what happened to that controller, by looking back over all that happened, the
-- newest first.
use Rattle.std.specs.Prelude.{ℕ, List, [], ◌∷◌, Option, Some, None, if◌then◌else◌}
use Rattle.admin_queue.specs.declared.outcome.Effect.TheVariants as effect
use Rattle.admin_queue.specs.declared.update.NoticeUpdate.TheVariants.{Requested}
use Rattle.admin_queue.specs.Told.{Occurrence as NoticeOccurrence, edited, update, was_enabled, was_reset}
use Rattle.property_regs.specs.declared.regs.Change.{Change}
use Rattle.property_regs.specs.declared.regs.Change.TheVariants as change
use Rattle.target_decision.specs.declared.consequence.Consequence.{Consequence}
use Rattle.target_decision.specs.declared.consequence.Consequence.TheVariants as consequence
use Rattle.target_decision.specs.declared.consequence.Update.{Update}
use Rattle.target_decision.specs.declared.consequence.Update.TheVariants as of_controller
use Rattle.target_decision.specs.declared.decision.Decision.{Decision}
use Rattle.target_decision.specs.declared.decision.Decision.TheVariants as decision
use Rattle.target_decision.specs.declared.session.ConnectionState.{ConnectionState}
use Rattle.target_history.specs.Event.{opens}
use Rattle.target_history.specs.Occurrence.{Occurrence, Start, Telling, decided, own_consequence, started, telling}

-- ---- the controller

abbrev pub owner_by : Occurrence → Consequence → Option Start → Option Start
owner_by x (consequence.Begin b) earlier = Some (started x b)
owner_by x _ earlier = earlier

-- what the controller began with whose admin queue connection k is, or was until it ended: with the latest Connect since
-- the connection's open that began one
abbrev pub owner_of : List Occurrence → ℕ → Option Start
owner_of [] k = None
owner_of (x ∷ before) k = if opens x.event k then None else owner_by x (own_consequence x k) (owner_of before k)

-- ---- what one event is to it

-- an edit that it is told of
abbrev pub edit_told : Option Telling → Option NoticeOccurrence
edit_told None = None
edit_told (Some t) = Some (edited t.old t.new)

abbrev pub edit_at : Occurrence → Option ConnectionState → Option NoticeOccurrence
edit_at x None = None
edit_at x (Some v) = edit_told (telling x v)

-- a Property Set that resets or enables its controller
abbrev pub done_by_change : Change → Option NoticeOccurrence
done_by_change change.Reset = Some was_reset
done_by_change change.Enable = Some was_enabled
done_by_change _ = None

-- .. or another command of its own: a read of a log page, a Set Features of its events
abbrev pub done_by_update : Update → Option NoticeOccurrence
done_by_update (of_controller.Configuration set) = done_by_change set.change
done_by_update (of_controller.Command (effect.Notices u)) = Some (update u)
done_by_update _ = None

abbrev pub done_by_consequence : Consequence → Option NoticeOccurrence
done_by_consequence (consequence.Update cntlid u) = done_by_update u
done_by_consequence _ = None

-- .. or a request of it that waits
abbrev pub done_by : Decision → Option NoticeOccurrence
done_by (decision.Wait cid) = Some (update (Requested cid))
done_by (decision.Reply r) = done_by_consequence r.consequence
done_by _ = None

abbrev pub done_at : Option Decision → Option NoticeOccurrence
done_at None = None
done_at (Some d) = done_by d

-- ---- all that happened to it

abbrev pub with_occurrence : Option NoticeOccurrence → List NoticeOccurrence → List NoticeOccurrence
with_occurrence None earlier = earlier
with_occurrence (Some x) earlier = x ∷ earlier

-- the edits that the host at connection k was told of since it was opened, its own commands, resets and enablings, the
-- newest first
abbrev pub told_of : List Occurrence → ℕ → List NoticeOccurrence
told_of [] k = []
told_of (x ∷ before) k =
    if opens x.event k then [] else with_occurrence (edit_at x (x.connection k)) (with_occurrence (done_at (decided x k)) (told_of before k))
