use Rattle.std.proofs.Common.{rules, ◌≡◌}
use Rattle.host_driver.specs.Decision.{decide}
use Rattle.host_driver.proofs.Deciding.{in_time, names, within}
use Rattle.host_driver.proofs.pdu.decide.Goals as goal

pub returns-in-Initialized : goal.returns-in-Initialized
returns-in-Initialized c =
    let is : c.next.result ≡ decide c.args.phase c.args.command c.args.pdu.now = search rules in
    record { owed = is; within = within c.args.phase c.args.command c.args.pdu.now _ is; names = names c.args.phase c.args.command c.args.pdu.now _ is; in_time = in_time c.args.phase c.args.command c.args.pdu.now _ is }
