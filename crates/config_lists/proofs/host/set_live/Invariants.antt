use Rattle.std.proofs.Common.{◌≡◌, ◌++◌, take, drop}
use Rattle.std.specs.Str.{bytes_eq}
use Rattle.config_lists.specs.declared.host.Host.{Host}
use Rattle.config_lists.specs.Lists.{changed_where}
use Rattle.config_lists.proofs.host.set_live.Given as goal

-- the hosts before the index are set, and the others as they were
abbrev pub invariant-loop-host : goal.invariant-loop-host
invariant-loop-host l =
    let set : Host → Host = λ host. record host { live = l.live } in
    l.hosts ≡ changed_where (λ host. bytes_eq host.nqn l.nqn) set (take l.host-index l.fn.hosts) ++ drop l.host-index l.fn.hosts
