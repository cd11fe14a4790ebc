use Rattle.std.proofs.Common.{arith}
use Rattle.block_store.proofs.Shown.{new_are, new_long, new_shown}
use Rattle.block_store.proofs.memory.MemoryDisk.new.Goals as goal

pub invariant_of-result : goal.invariant_of-result
invariant_of-result c =
    let tables = c.loop.tables.items in
    record {
      whole = new_are tables c.loop.counter c.args.units c.loop.invariant;
      room = omega (arith, new_long tables c.loop.counter c.args.units c.loop.invariant);
    }

pub returns : goal.returns
returns c = new_shown c.loop.tables.items c.loop.counter c.args.units c.loop.invariant (omega arith)
