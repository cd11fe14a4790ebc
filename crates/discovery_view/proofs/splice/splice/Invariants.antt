use Rattle.std.proofs.Common.{◌≡◌, ◌+◌, ◌-◌, ◌≤◌, ◌++◌, drop, length, take, vec_capacity, vec_len}
use Rattle.std.specs.Vec.Iter.{into_iter_items}
use Rattle.discovery_view.proofs.splice.splice.Given as goal

-- those that stay, and the others so far behind them
abbrev pub invariant-loop-item : goal.invariant-loop-item
invariant-loop-item g l =
    record {
      next : (goal.iterator-loop-item g).can_next l.item-iterator;
      finite : (goal.iterator-loop-item g).is_finite l.item-iterator;
      room : vec_len l.items + length (into_iter_items l.item-iterator) ≤ vec_capacity l.items;
      stay : l.items.items ++ into_iter_items l.item-iterator ≡ (take l.first l.fn.items.items ++ drop (length l.fn.items.items - l.last) l.fn.items.items) ++ l.fn.fresh.items;
    }
