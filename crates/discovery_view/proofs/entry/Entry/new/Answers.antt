use Rattle.std.proofs.Common.{◌≤◌, length, arith}
use Rattle.discovery_view.specs.Records.{parts_of}
use Rattle.discovery_view.proofs.Bytes.{address_fits, length-record_of, service_fits}
use Rattle.discovery_view.proofs.entry.Entry.new.Goals as goal

pub returns-clause-len : goal.returns-clause-len
returns-clause-len c =
    let port = c.args.port.now in
    let name : length c.args.subsystem.now.nqn ≤ 256 = omega (arith, c.len.ensures.value, c.len.ensures.bound) in
    length-record_of (parts_of port c.args.subsystem.now) (service_fits port c.requires) name (address_fits port c.requires)
