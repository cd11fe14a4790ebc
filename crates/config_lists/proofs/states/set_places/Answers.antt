use Rattle.std.proofs.Common.{◌≡◌, ◌+◌, ◌<◌, ◌==◌, ◌++◌, ◌∷◌, ◌&&◌, [], suc, length, take, ap, sym, ◌∙◌, arith}
use Rattle.std.proofs.Math.Seq.{take-suc}
use Rattle.config_lists.specs.declared.group_state.GroupState.{GroupState}
use Rattle.config_lists.specs.GroupState.{is_state_for}
use Rattle.config_lists.proofs.Tables.{table_passed, table_put}
use Rattle.config_lists.proofs.states.set_places.Goals as goal
use Rattle.config_lists.proofs.states.set_places.Goals.{else-is_on, then-is_on}

pub loop-state-preserved : goal.loop-state-preserved
loop-state-preserved c =
    let all = c.args.states.now in
    let s = c.state-item.result in
    let i = c.loop-state.state-index in
    let below : i < length all = c.loop-state-test.true in
    let next : i + 1 ≡ suc i = omega arith in
    let done : take (i + 1) all ≡ take i all ++ s ∷ [] = ap (λ k. take k all) next ∙ take-suc all i s below ∙ ap (λ (m : GroupState). take i all ++ m ∷ []) (sym c.state-item.is) in
    elim c.if-is_on.branch [
      | then-is_on w ↦
          let there = sym c.is_on.ensures ∙ w.if-is_on.true in
          let put = table_put (is_state_for c.args.port c.args.subsystem.now) (take i all) _ c.loop-state.places s.group (λ k. ap (λ b. b && (s.group == k)) there) c.loop-state.invariant in
          rw (done, w.places-is, w.put_first.ensures) put
      | else-is_on w ↦
          let elsewhere = sym c.is_on.ensures ∙ w.if-is_on.false in
          let passed = table_passed (is_state_for c.args.port c.args.subsystem.now) (take i all) s c.loop-state.places (λ k. ap (λ b. b && (s.group == k)) elsewhere) c.loop-state.invariant in
          rw (done, w.places-is) passed
    ]
