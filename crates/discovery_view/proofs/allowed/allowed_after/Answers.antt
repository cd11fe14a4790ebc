use Rattle.discovery_view.proofs.Allowances.{given_named}
use Rattle.discovery_view.proofs.allowed.allowed_after.Goals as goal

pub returns-in_ok-push-in-Given : goal.returns-in_ok-push-in-Given
returns-in_ok-push-in-Given c = λ nqn.
    let names = c.in_ok-names-in-Given.names.items in
    let host = c.in-Given.host.now in
    rw (c.in-Given.is, c.in_ok-push-in-Given.ensures.items)
    (given_named names c.as_bytes-in-Given.result c.in-Given.subsystem.now c.args.config.now.allows nqn host c.as_bytes-in-Given.ensures (rw c.as_bytes.ensures at (c.in_ok-names-in-Given.ensures nqn)))
