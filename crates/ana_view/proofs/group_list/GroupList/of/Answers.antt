use Rattle.std.proofs.Common.{◌≡◌, ◌<◌, ◌≤◌, List, [], ◌∷◌, ◌++◌, length, ap, sym, ◌∙◌, arith}
use Rattle.std.proofs.lemmas.Bool.{eqb-true}
use Rattle.std.proofs.lemmas.Bool.Decides.{nat_tests}
use Rattle.std.proofs.lemmas.List.{get_or-map}
use Rattle.ana_view.specs.Group.{Descriptor}
use Rattle.ana_view.specs.Tables.{nsids_of, shown_of}
use Rattle.ana_view.proofs.Members.{listing_is_few}
use Rattle.ana_view.proofs.Pages.{all_shown, passed_next, shown_next}
use Rattle.ana_view.proofs.group_list.GroupList.of.Goals as goal
use Rattle.ana_view.proofs.group_list.GroupList.of.Goals.{then-not-is_empty+in_ok-from_slice+in_ok-push, else-not-is_empty}

pub loop-group-preserved : goal.loop-group-preserved
loop-group-preserved c =
    let t = c.args.groups.now in
    let group = c.loop-group.group in
    let above : 1 ≤ group = omega arith in
    let below : group < 33 = omega arith in
    let within : group < length c.in_ok-members.members.items = omega (arith, below, c.in_ok-members.ensures.len) in
    let lent : c.as_slice-nsids.result.now ≡ nsids_of t group =
    c.as_slice-nsids.ensures.value ∙ ap (λ v. v.items) c.index.ensures
    ∙ sym (get_or-map (λ v. v.items) c.in_ok-members.members.items group c.index.result.now [] within) ∙ c.in_ok-members.ensures.members group below in
    elim c.if-not-is_empty.branch [
      | then-not-is_empty+in_ok-from_slice+in_ok-push w ↦
          let some : 0 < length (nsids_of t group) = grind (arith, nat_tests, w.if-not-is_empty.ensures, ap length lent) in
          let made = rw (w.state.ensures, w.in_ok-from_slice.ensures.items, lent) at w.in_ok-push.ensures.items in
          rw (w.list-is) (made ∙ ap (λ (gs : List Descriptor). gs ++ shown_of t group ∷ []) c.loop-group.invariant ∙ sym (shown_next t group above some))
      | else-not-is_empty w ↦
          let none : length (nsids_of t group) ≡ 0 = ap length (sym lent) ∙ eqb-true (length c.as_slice-nsids.result.now) 0 (sym w.if-not-is_empty.ensures) in
          rw (w.list-is) (c.loop-group.invariant ∙ sym (passed_next t group above none))
    ]

pub invariant_of-result : goal.invariant_of-result
invariant_of-result c =
    rw (c.loop-group.invariant, all_shown c.args.groups.now c.loop-group.group (omega arith)) (listing_is_few c.args.groups.now)

pub returns : goal.returns
returns c =
    c.loop-group.invariant ∙ all_shown c.args.groups.now c.loop-group.group (omega arith)
