use Rattle.std.proofs.Common.{◌≡◌, ◌-◌}
use Rattle.host_pages.specs.Groups.{holds_groups}
use Rattle.host_pages.proofs.ana_log.holds_groups.Given as goal

abbrev pub invariant-loop-group : goal.invariant-loop-group
invariant-loop-group l = holds_groups l.fn.count l.fn.bytes ≡ holds_groups (l.fn.count - l._group) l.rest
