use Rattle.std.proofs.Common.{◌≡◌, [], ◌++◌, ◌-◌, arith, flat_map, length, min, sym, ap, ◌∙◌, append_assoc, append-nil, rules}
use Rattle.std.proofs.Output.{has_written_append, has_written_of_eq}
use Rattle.pdu_words.specs.Pages.{group_words, groups_in, more_words}
use Rattle.pdu_words.proofs.Numbers.{groups_in_split, groups_in_none, groups_in_zero}
use Rattle.pdu_words.proofs.pages.write_groups.Goals as goal
use Rattle.pdu_words.proofs.pages.write_groups.Goals.{then-groups-test+else-shows_group, else-groups-test}

pub groups-preserved : goal.groups-preserved
groups-preserved g c =
    let inv = c.groups.invariant in
    let group = c.split_at.result.0.now in
    let more = groups_in_split c.groups.most c.groups.rest.now group c.split_at.result.1.now c.group_len.result
    c.groups-test.true (sym c.shows_group.ensures ∙ c.if-shows_group.true) c.group_len.ensures c.split_at.ensures.front c.split_at.ensures.back in
    let one = ap length more in
    record {
      written = λ plain.
          let now = inv.written plain in (
            now.0 ++ group_words group,
            has_written_append _ _ _ _ _ _ now.1 (search rules),
            append_assoc now.0 (group_words group) _ ∙ ap (λ l. now.0 ++ flat_map group_words l) (sym more) ∙ now.2,
          );
      left = omega (arith, inv.left, one, inv.most, c.groups-test.true);
      most = omega (arith, inv.most, c.groups-test.true);
    }

pub returns : goal.returns
returns g c =
    λ plain ok.
    let inv = c.groups.invariant in
    let now = inv.written plain in
    let rest = c.groups.rest.now in
    let shown = groups_in (min c.args.count 8) c.args.bytes.now in
    let none : groups_in c.groups.most rest ≡ [] = elim c.groups-test.branch [
      | then-groups-test+else-shows_group w ↦ groups_in_none c.groups.most rest (sym w.shows_group.ensures ∙ w.if-shows_group.false)
      | else-groups-test w ↦ groups_in_zero c.groups.most rest w.groups-test.false
    ] in
    let zero = ap length none in
    let left : c.groups.left ≡ c.args.count - length shown = omega (arith, inv.left, zero) in
    let text = sym (append-nil now.0) ∙ ap (λ l. now.0 ++ flat_map group_words l) (sym none) ∙ now.2 in
    has_written_of_eq _ _ _ _ _
    (ap (λ t. t ++ more_words c.groups.left) text ∙ ap (λ n. flat_map group_words shown ++ more_words n) left)
    (has_written_append _ _ _ _ _ _ now.1 (c.write_more.ensures now.1.plain ok))
