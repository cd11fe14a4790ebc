-- What an event ends beside the connection that it is a step of: each cause that lies elsewhere. Each definition names the
-- causes that it is about; every other one ends none of it.
use Rattle.std.specs.Prelude.{ℕ, ◌+◌, ◌-◌, ◌*◌, ◌/◌, nat_lt, Bool, false, not, ◌==◌, ◌||◌, ◌&&◌, List, Option, Some, None}
use Rattle.config_lists.specs.declared.edit.Edit.{Edit}
use Rattle.config_lists.specs.declared.edit.Edit.TheVariants.{PortDel}
use Rattle.nvt_config.specs.Configuration.{Configuration}
use Rattle.nvt_config.specs.Permission.{may_use}
use Rattle.fabrics_connect.specs.declared.row.Row.{Row}
use Rattle.property_regs.specs.declared.regs.Change.TheVariants as change
use Rattle.property_regs.specs.declared.regs.Change.{Change}
use Rattle.target_decision.specs.declared.consequence.Consequence.{Consequence}
use Rattle.target_decision.specs.declared.consequence.Consequence.TheVariants as consequence
use Rattle.target_decision.specs.declared.consequence.Update.{Update}
use Rattle.target_decision.specs.declared.consequence.Update.TheVariants as update
use Rattle.target_decision.specs.declared.controller.Controller.{Controller}
use Rattle.target_decision.specs.declared.decision.Decision.{Decision}
use Rattle.target_decision.specs.declared.decision.Decision.TheVariants as decision
use Rattle.target_decision.specs.declared.session.ConnectionState.{ConnectionState}
use Rattle.target_decision.specs.declared.session.Role.{Role}
use Rattle.target_decision.specs.declared.session.Role.TheVariants.{Admin, Io}
use Rattle.target_decision.specs.declared.session.Session.{Session}
use Rattle.target_decision.specs.declared.session.Session.TheVariants.{Connected}
use Rattle.target_history.specs.declared.end_cause.EndCause.{EndCause}
use Rattle.target_history.specs.declared.end_cause.EndCause.TheVariants as cause

-- ---- the causes

-- an edit that deletes a port, and any other; each may take permissions away
abbrev pub cause_edited : Edit → EndCause
cause_edited (PortDel id) = cause.Port id
cause_edited _ = cause.Permission

-- a connection is ended or given up: with its admin queue a controller ends, and an I/O queue leaves its own
abbrev pub cause_lost : Session → EndCause
cause_lost (Connected (Admin cntlid) queue) = cause.Controller cntlid
cause_lost (Connected (Io cntlid qid) queue) = cause.Queue cntlid qid
cause_lost _ = cause.Nothing

abbrev pub cause_set : Change → ℕ → EndCause
cause_set change.Reset cntlid = cause.Reset cntlid
cause_set _ cntlid = cause.Nothing

-- a command on its admin queue changes a controller: a Property Set that resets it ends its I/O queues
abbrev pub cause_updated : Update → ℕ → EndCause
cause_updated (update.Configuration s) cntlid = cause_set s.change cntlid
cause_updated _ cntlid = cause.Nothing

-- what follows from a reply
abbrev pub cause_replied : Consequence → EndCause
cause_replied (consequence.Update cntlid update) = cause_updated update cntlid
cause_replied _ = cause.Nothing

-- what was decided in this session
abbrev pub cause_decided : Session → Decision → EndCause
cause_decided session (decision.Reply r) = cause_replied r.consequence
cause_decided session (decision.Terminate t) = cause_lost session
cause_decided session decision.Close = cause_lost session
cause_decided session _ = cause.Nothing

-- ---- the controllers that it ends

-- KATO in whole seconds, rounded up, in ms
abbrev pub rounded : ℕ → ℕ
rounded kato = (kato + 999) / 1000 * 1000

-- whether the Keep Alive Timer has run out when the clock shows this (Base 2.0, section 3.9)
abbrev pub runs_out : ℕ → Controller → Bool
runs_out now c = nat_lt 0 c.kato && nat_lt (rounded c.kato) (now - c.mark)

-- whether a host may not use a subsystem through this port; every host may use a discovery controller
abbrev pub is_barred : Configuration → List ℕ → Option (List ℕ) → ℕ → Bool
is_barred config host None port = false
is_barred config host (Some nqn) port = not (may_use config host nqn port)

-- a controller ends with its port, with its host's permission (`edits_end_controllers`) or with its admin queue
abbrev pub ends_row : EndCause → Configuration → ℕ → Row → Bool
ends_row (cause.Port id) config cntlid row = (id == row.port) || is_barred config row.host row.subsystem row.port
ends_row cause.Permission config cntlid row = is_barred config row.host row.subsystem row.port
ends_row (cause.Controller ended) config cntlid row = cntlid == ended
ends_row _ config cntlid row = false

-- where the identifier is free there is no controller to end
abbrev pub ends_row_at : EndCause → Configuration → ℕ → Option Row → Bool
ends_row_at e config cntlid None = false
ends_row_at e config cntlid (Some row) = ends_row e config cntlid row

-- time passes by ticks alone: no other event finds a Keep Alive Timer run out (`nothing_expires_without_ticks`)
abbrev pub ends_timer : EndCause → Option Controller → Bool
ends_timer (cause.Clock now) (Some c) = runs_out now c
ends_timer _ o = false

-- whether it ends the controller of this identifier, where the configuration has become this
abbrev pub ends_controller : EndCause → Configuration → ℕ → Option Row → Option Controller → Bool
ends_controller e config cntlid row controller = ends_row_at e config cntlid row || ends_timer e controller

-- ---- the connections that it ends, where it ends these controllers

-- a reset ends the I/O queues of its controller, and nothing else (`resets_end_their_queues_alone`)
abbrev pub resets : EndCause → ℕ → Bool
resets (cause.Reset c) cntlid = c == cntlid
resets _ cntlid = false

abbrev pub ends_role : EndCause → (ℕ → Bool) → Role → Bool
ends_role e ended (Admin cntlid) = ended cntlid
ends_role e ended (Io cntlid qid) = ended cntlid || resets e cntlid

abbrev pub ends_session : EndCause → (ℕ → Bool) → Session → Bool
ends_session e ended (Connected role queue) = ends_role e ended role
ends_session e ended _ = false

-- with a port each connection on it ends, whatever it is (`deleted_ports_end`)
abbrev pub is_on_port : EndCause → ℕ → Bool
is_on_port (cause.Port id) port = id == port
is_on_port _ port = false

abbrev pub ends_by : EndCause → (ℕ → Bool) → ConnectionState → Bool
ends_by e ended v = is_on_port e v.port || ends_session e ended v.session
