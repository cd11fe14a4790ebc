use Rattle.std.proofs.Common.{◌≤◌, length, arith}
use Rattle.nvt_fields.specs.Name.{discovery_nqn}
use Rattle.discovery_view.specs.Records.{referral_of}
use Rattle.discovery_view.proofs.Bytes.{address_fits, length-record_of, service_fits}
use Rattle.discovery_view.proofs.entry.Entry.referral.Goals as goal

pub returns-clause-len : goal.returns-clause-len
returns-clause-len c =
    let port = c.args.port.now in
    let name : length discovery_nqn ≤ 256 = omega arith in
    length-record_of (referral_of port) (service_fits port c.requires) name (address_fits port c.requires)
