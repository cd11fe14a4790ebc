-- What its own admin queue alone uses of a controller (Base 2.0, sections 3.1.3 and 3.9).
use Rattle.std.specs.Prelude.{ℕ, Bool, true, false, Option, Some, None, if◌then◌else◌}
use Rattle.admin_queue.specs.declared.outcome.Effect.TheVariants as effect
use Rattle.property_regs.specs.declared.kind.ControllerKind.{ControllerKind}
use Rattle.property_regs.specs.declared.kind.ControllerKind.TheVariants.{Discovery}
use Rattle.property_regs.specs.declared.regs.Regs.{Regs}
use Rattle.property_regs.specs.Regs.{configured, regs_at_connect}
use Rattle.target_decision.specs.declared.consequence.Update.{Update}
use Rattle.target_decision.specs.declared.consequence.Update.TheVariants as update
use Rattle.target_decision.specs.declared.controller.Controller.{Controller}

-- the controller that a Connect makes when the clock shows this
abbrev pub new_controller : ControllerKind → ℕ → ℕ → Controller
new_controller kind kato now = record { registers = regs_at_connect kind; kato = kato; mark = now }

-- its properties; where none lives they are a new one's
abbrev pub registers_at : Option Controller → Regs
registers_at None = regs_at_connect Discovery
registers_at (Some c) = c.registers

-- ---- what commands on its admin queue change of it: each part by the commands that are named, and by no other

abbrev pub registers_by : Update → Regs → Regs
registers_by (update.Configuration s) registers = configured registers s.cc
registers_by _ registers = registers

-- its keep alive timeout, in ms
abbrev pub kato_by : Update → ℕ → ℕ
kato_by (update.Command (effect.KeepAliveTimeout kato)) before = kato
kato_by _ before = before

-- whether its Keep Alive Timer starts again
abbrev pub restarts : Update → Bool
restarts (update.Command (effect.KeepAliveTimeout kato)) = true
restarts (update.Command effect.KeepAlive) = true
restarts _ = false

-- the controller after that, when the clock shows this
abbrev pub updated : Update → ℕ → Controller → Controller
updated u now c = record {
  registers = registers_by u c.registers;
  kato = kato_by u c.kato;
  mark = if restarts u then now else c.mark;
}
