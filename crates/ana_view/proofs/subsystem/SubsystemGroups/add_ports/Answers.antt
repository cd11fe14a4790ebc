use Rattle.std.proofs.Common.{◌≡◌, List, take, bytes_eq, refl, ◌∙◌}
use Rattle.config_lists.specs.declared.group_state.GroupState.{GroupState}
use Rattle.ana_view.proofs.Pages.{take_next}
use Rattle.ana_view.proofs.Ready.{more_ports, same_ports}
use Rattle.ana_view.proofs.subsystem.SubsystemGroups.add_ports.Goals as goal
use Rattle.ana_view.proofs.subsystem.SubsystemGroups.add_ports.Goals.{then-eq+in_ok-add, else-eq}

pub loop-state-init : goal.loop-state-init
loop-state-init c = rw (c.requires.none) (record { plain = refl; listed = λ port. tt; has = λ port. refl })

pub loop-state-preserved : goal.loop-state-preserved
loop-state-preserved c =
    let subsystem = c.args.subsystem.now in
    let states : List GroupState = c.states-state-items.result.now in
    let i = c.loop-state.state-index in
    let s : GroupState = c.state-item.result in
    let more = take_next states i s c.loop-state-test.true c.state-item.is in
    let tested : bytes_eq s.subsystem subsystem ≡ c.eq.result = rw (c.eq.ensures, c.as_bytes.ensures) refl in
    elim c.if-eq.branch [
      | then-eq+in_ok-add w ↦
          rw (w.self-is) (record {
            plain = w.add.ensures.plain ∙ c.loop-state.invariant.plain;
            listed = w.in_ok-add.ensures.listed;
            has = rw more (more_ports subsystem (take i states) s c.loop-state.self.ports w.add.new.self.ports (tested ∙ w.if-eq.true) w.in_ok-add.ensures.more c.loop-state.invariant.has);
          })
      | else-eq w ↦
          rw (w.self-is) (record {
            plain = c.loop-state.invariant.plain;
            listed = c.loop-state.invariant.listed;
            has = rw more (same_ports subsystem (take i states) s c.loop-state.self.ports (tested ∙ w.if-eq.false) c.loop-state.invariant.has);
          })
    ]
