use Rattle.std.proofs.Common.{◌≡◌, ◌+◌, ◌-◌, ◌≤◌, length, vec_capacity}
use Rattle.nvt_ports.specs.Lately.{tired}
use Rattle.nvt_ports.proofs.Tiring.{with_rest}
use Rattle.nvt_ports.proofs.turn_order.tire.Given as goal

abbrev pub invariant-loop : goal.invariant-loop
invariant-loop l = record {
  rest : tired l.fn.count l.fn.list.items ≡ with_rest l.place (l.count - l.counter) l.list.items;
  within : l.place + (l.count - l.counter) ≤ length l.list.items;
  capacity : vec_capacity l.list ≡ vec_capacity l.fn.list;
}
