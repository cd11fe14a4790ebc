use Rattle.std.proofs.Common.{refl}
use Rattle.discovery_view.proofs.record.family_code.Goals as goal

pub returns-in-Ipv6 : goal.returns-in-Ipv6
returns-in-Ipv6 c = rw c.in-Ipv6.is refl
