use Rattle.std.proofs.Common.{◌≡◌, take}
use Rattle.ana_view.specs.Bodies.{AreListed, HasPorts}
use Rattle.ana_view.proofs.subsystem.SubsystemGroups.add_ports.Given as goal

-- each port for which a state so far was set has its groups
abbrev pub invariant-loop-state : goal.invariant-loop-state
invariant-loop-state l = record {
  plain : l.self.plain ≡ l.fn.self.plain;
  listed : AreListed l.seen l.subsystem l.self.ports;
  has : HasPorts l.subsystem (take l.state-index l.state-items) l.self.ports;
}
