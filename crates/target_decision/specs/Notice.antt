-- What a controller's own commands make of what its host is to be told.
use Rattle.admin_queue.specs.declared.outcome.Effect.TheVariants as effect
use Rattle.admin_queue.specs.declared.update.NoticeUpdate.TheVariants as notice
use Rattle.admin_queue.specs.Notices.{NoticeState, enabled, reset}
use Rattle.admin_queue.specs.Update.{updated}
use Rattle.property_regs.specs.declared.regs.Change.{Change}
use Rattle.property_regs.specs.declared.regs.Change.TheVariants as change
use Rattle.target_decision.specs.declared.consequence.Consequence.{Consequence}
use Rattle.target_decision.specs.declared.consequence.Consequence.TheVariants as consequence
use Rattle.target_decision.specs.declared.consequence.Update.{Update}
use Rattle.target_decision.specs.declared.consequence.Update.TheVariants as update
use Rattle.target_decision.specs.declared.decision.Decision.{Decision}
use Rattle.target_decision.specs.declared.decision.Decision.TheVariants as decision

-- a reset drops what waits and is to be told, and enabling sets counts and changed namespaces to their beginning
abbrev pub notices_changed : Change → NoticeState → NoticeState
notices_changed change.Reset s = reset s
notices_changed change.Enable s = enabled s
notices_changed change.Shutdown s = s
notices_changed change.Stay s = s

abbrev pub notices_by : Update → NoticeState → NoticeState
notices_by (update.Configuration set) s = notices_changed set.change s
notices_by (update.Command (effect.Notices u)) s = updated s u
notices_by _ s = s

abbrev pub notices_followed : NoticeState → Consequence → NoticeState
notices_followed s (consequence.Update cntlid u) = notices_by u s
notices_followed s _ = s

-- after a decision: a request may wait, and something may follow from a reply
abbrev pub notices_after : NoticeState → Decision → NoticeState
notices_after s (decision.Wait cid) = updated s (notice.Requested cid)
notices_after s (decision.Reply r) = notices_followed s r.consequence
notices_after s _ = s
