use Rattle.std.proofs.Common.{◌≡◌, ◌+◌, ◌-◌, ◌<◌, ◌≤◌, ap, sym, ◌∙◌, arith, drop, length}
use Rattle.host_pages.specs.Group.{group_len}
use Rattle.host_pages.specs.Groups.{holds_groups}
use Rattle.host_pages.proofs.GroupLists.{holds_groups-more, holds_groups-none, holds_groups-short}
use Rattle.host_pages.proofs.ana_log.holds_groups.Goals as goal

pub returns-then-rest-lt-GROUP_MIN : goal.returns-then-rest-lt-GROUP_MIN
returns-then-rest-lt-GROUP_MIN c =
    let rest = c.loop-group.rest.now in
    let some = c.loop-group-test.true in
    let few = c.if-rest-lt-GROUP_MIN.true in
    let short : length rest < group_len rest = omega (arith, few) in
    sym (c.loop-group.invariant ∙ holds_groups-short (c.args.count - c.loop-group._group) rest (omega (arith, some)) short)

pub returns-then-rest-len : goal.returns-then-rest-len
returns-then-rest-len c =
    let rest = c.loop-group.rest.now in
    let some = c.loop-group-test.true in
    let few = c.if-rest-len.true in
    let len = c.group_len-len.ensures in
    let short : length rest < group_len rest = omega (arith, few, len) in
    sym (c.loop-group.invariant ∙ holds_groups-short (c.args.count - c.loop-group._group) rest (omega (arith, some)) short)

pub loop-group-preserved : goal.loop-group-preserved
loop-group-preserved c =
    let rest = c.loop-group.rest.now in
    let left = c.args.count - c.loop-group._group in
    let some = c.loop-group-test.true in
    let enough = c.if-rest-len.false in
    let len = c.group_len-len.ensures in
    let room : group_len rest ≤ length rest = omega (arith, enough, len) in
    let fewer : left - 1 ≡ c.args.count - (c.loop-group._group + 1) = omega (arith, some) in
    let behind : drop (group_len rest) rest ≡ c.split_at.result.1.now = ap (λ n. drop n rest) (sym len) ∙ sym c.split_at.ensures.back in
    c.loop-group.invariant ∙ holds_groups-more left rest (omega (arith, some)) room
    ∙ ap (λ n. holds_groups n (drop (group_len rest) rest)) fewer ∙ ap (holds_groups (c.args.count - (c.loop-group._group + 1))) behind

pub returns : goal.returns
returns c =
    let all = c.loop-group-test.false in
    let none : c.args.count - c.loop-group._group ≡ 0 = omega (arith, all) in
    sym (c.loop-group.invariant ∙ ap (λ n. holds_groups n c.loop-group.rest.now) none ∙ holds_groups-none c.loop-group.rest.now)
