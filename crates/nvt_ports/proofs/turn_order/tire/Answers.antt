use Rattle.std.proofs.Common.{◌≡◌, ◌+◌, ◌<◌, length, vec_capacity, vec_len, ◌-◌, arith, ap, ◌∙◌}
use Rattle.std.proofs.lemmas.List.{length-set}
use Rattle.std.specs.Prelude.{remove}
use Rattle.nvt_ports.specs.Lately.{tired}
use Rattle.nvt_ports.proofs.Tiring.{next_left, next_over, none_left}
use Rattle.nvt_ports.proofs.turn_order.tire.Goals as goal
use Rattle.nvt_ports.proofs.turn_order.tire.Goals.{then-patience-lt2, else-patience-lt2}

pub loop-preserved : goal.loop-preserved
loop-preserved c =
    elim c.if-patience-lt2.branch [
      | then-patience-lt2 w ↦
          let there : c.loop.place < length c.loop.list.items = omega arith in
          let items : c.if-patience-lt2.list.items ≡ remove c.loop.list.items c.loop.place =
          ap (λ list. list.items) w.list-is ∙ w.remove.ensures.items
          in
          record {
            rest = rw (w.place-is, items) (next_over (tired c.args.count c.args.list.now.items) c.loop.list.items c.loop.place (c.args.count - (c.loop.counter + 1)) (c.args.count - c.loop.counter) c.index.result.now c.loop.invariant.rest (omega arith) there c.index.ensures w.if-patience-lt2.true);
            within = omega (arith, ap length items, w.remove.ensures.len, c.loop.list.ok.0, c.if-patience-lt2.list.ok.0, ap (λ list. vec_len list) w.list-is);
            capacity = ap (λ list. vec_capacity list) w.list-is ∙ w.remove.ensures.capacity ∙ c.loop.invariant.capacity;
          }
      | else-patience-lt2 w ↦
          let there : c.loop.place < length c.loop.list.items = omega arith in
          record {
            rest = rw (w.place-is, w.list-is) (next_left (tired c.args.count c.args.list.now.items) c.loop.list.items c.loop.place (c.args.count - (c.loop.counter + 1)) (c.args.count - c.loop.counter) c.index.result.now w.index_mut.result.now c.loop.invariant.rest (omega arith) there c.index.ensures w.index_mut.ensures.value w.if-patience-lt2.false);
            within = omega (arith, ap (λ list. length list.items) w.list-is, length-set c.loop.list.items c.loop.place (record { number = w.index_mut.result.now.number; patience = c.index.result.now.patience - 1 }));
            capacity = ap (λ list. vec_capacity list) w.list-is ∙ c.loop.invariant.capacity;
          }
    ]

pub returns-clause-items : goal.returns-clause-items
returns-clause-items c =
    none_left (tired c.args.count c.args.list.now.items) c.loop.list.items c.loop.place (c.args.count - c.loop.counter)
    c.loop.invariant.rest (omega arith)
