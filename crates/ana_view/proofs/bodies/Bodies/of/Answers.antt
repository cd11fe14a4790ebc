use Rattle.std.proofs.Common.{◌≡◌, List, take, ◌∙◌}
use Rattle.std.proofs.lemmas.List.{map-append, take_all}
use Rattle.config_lists.specs.declared.subsystem.Subsystem.{Subsystem}
use Rattle.ana_view.proofs.Pages.{take_next}
use Rattle.ana_view.proofs.Shows.{names_of, none_ready, one_more_ready, shows_ana}
use Rattle.ana_view.proofs.bodies.Bodies.of.Goals as goal

pub loop-subsystem-init : goal.loop-subsystem-init
loop-subsystem-init c = none_ready c.args.config.now (record { subsystems = c.new.result.values }) c.new.ensures

pub loop-subsystem-preserved : goal.loop-subsystem-preserved
loop-subsystem-preserved c =
    let config = c.args.config.now in
    let subsystems : List Subsystem = c.subsystems-subsystem-items.result.now in
    let i = c.loop-subsystem.subsystem-index in
    let s : Subsystem = c.subsystem-item.result in
    let more = take_next subsystems i s c.loop-subsystem-test.true c.subsystem-item.is in
    let adds = rw c.as_bytes.ensures at c.in_ok-add.ensures in
    rw (more, map-append) (one_more_ready config (names_of (take i subsystems)) c.loop-subsystem.bodies.shown c.add.new.self.shown s.nqn adds c.loop-subsystem.invariant)

pub returns : goal.returns
returns c =
    let subsystems : List Subsystem = c.subsystems-subsystem-items.result.now in
    let all : take c.loop-subsystem.subsystem-index subsystems ≡ c.args.config.now.subsystems =
    take_all c.loop-subsystem.subsystem-index subsystems c.loop-subsystem-test.false ∙ c.subsystems-subsystem-items.ensures.lent in
    shows_ana c.args.config.now c.loop-subsystem.bodies.shown c.subsystems-subsystem-items.ensures.valid (rw all at c.loop-subsystem.invariant)
