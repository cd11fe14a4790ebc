use Rattle.std.proofs.Common.{◌≡◌, ◌<◌, ◌++◌, if◌then◌else◌, subst, sym}
use Rattle.std.specs.Result.{is_ok}
use Rattle.nvt_ports.proofs.Took.{took_ok, took_err}
use Rattle.nvt_ports.proofs.memory.MemoryPorts.take.Goals as goal

pub returns-clause-took : goal.returns-clause-took
returns-clause-took c =
    took_ok (λ v. v.items) c.extend_from_slice.result c.args.self.now.took.items c.args.slot c.extend_from_slice.new.self c.index_mut.result.now c.args.bytes.now
    (subst (λ n. c.args.slot < n) (sym c.args.self.now.whole) c.requires)
    (subst (λ v. c.extend_from_slice.new.self.items ≡ (if is_ok c.extend_from_slice.result then v.items ++ c.args.bytes.now else v.items)) c.index_mut.ensures.value c.extend_from_slice.ensures.items)

pub returns-clause-err : goal.returns-clause-err
returns-clause-err c =
    took_err (λ v. v.items) c.extend_from_slice.result c.args.self.now.took.items c.args.slot c.extend_from_slice.new.self c.index_mut.result.now c.args.bytes.now
    (subst (λ v. c.extend_from_slice.new.self.items ≡ (if is_ok c.extend_from_slice.result then v.items ++ c.args.bytes.now else v.items)) c.index_mut.ensures.value c.extend_from_slice.ensures.items)
