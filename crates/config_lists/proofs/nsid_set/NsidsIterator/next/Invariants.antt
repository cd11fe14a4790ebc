use Rattle.std.proofs.Common.{◌≡◌, ◌≤◌, ◌+◌, ◌-◌}
use Rattle.config_lists.specs.Namespace.{nsid_max}
use Rattle.config_lists.specs.NsidSet.{is_marked}
use Rattle.config_lists.specs.Numbered.{nsids_from}
use Rattle.config_lists.proofs.nsid_set.NsidsIterator.next.Given as goal

-- the same identifiers are left
abbrev pub invariant-loop-self : goal.invariant-loop-self
invariant-loop-self l = (l.fn.self ≡ nsids_from l.self-inside.next (is_marked l.self-inside.words.now)) × (l.self-inside.next ≤ nsid_max + 1) × (1 ≤ l.self-inside.next)

abbrev pub decreases-loop-self : goal.decreases-loop-self
decreases-loop-self l = nsid_max + 1 - l.self-inside.next
