use Rattle.std.proofs.Common.{arith}
use Rattle.host_pages.proofs.GroupLists.{holds_groups-room}
use Rattle.host_pages.proofs.ana_log.GroupsIterator.next.Goals as goal

pub group_len-requires : goal.group_len-requires
group_len-requires c =
    let groups = c.self.inside in
    let room = holds_groups-room groups.left groups.rest.now (omega (arith, c.if-self-eq0.false)) c.self.invariant in
    omega (arith, room)
