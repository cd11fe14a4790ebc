use Rattle.std.proofs.Common.{◌≡◌, ◌++◌, take, drop}
use Rattle.config_lists.specs.Lists.{changed_where}
use Rattle.config_lists.specs.Namespace.{is_named, with_setting}
use Rattle.config_lists.proofs.namespace.set_namespace.Given as goal

-- the namespaces before the index are set, and the others as they were
abbrev pub invariant-loop-namespace : goal.invariant-loop-namespace
invariant-loop-namespace l =
    l.namespaces ≡ changed_where (is_named l.subsystem l.nsid) (with_setting l.value) (take l.namespace-index l.fn.namespaces) ++ drop l.namespace-index l.fn.namespaces
