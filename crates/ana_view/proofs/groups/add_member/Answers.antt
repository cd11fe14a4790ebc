use Rattle.std.proofs.Common.{◌∷◌, ◌++◌, ◌<◌, [], length, slice_set, ap, sym, ◌∙◌, arith}
use Rattle.std.proofs.lemmas.List.{get_or-map, map-set}
use Rattle.ana_view.specs.Tables.{each_of}
use Rattle.ana_view.proofs.groups.add_member.Goals as goal

pub returns-in_ok-push : goal.returns-in_ok-push
returns-in_ok-push c =
    let members = c.args.members.now.items in
    let group = c.args.group in
    let within : group < length members = omega (arith, c.if-at-len.true, c.len.ensures) in
    map-set (λ v. v.items) members group c.push.new.self
    ∙ ap (λ nsids. slice_set (each_of c.args.members.now) group nsids)
    (c.in_ok-push.ensures.items ∙ ap (λ v. v.items ++ c.args.nsid ∷ []) c.index_mut.ensures.value
    ∙ ap (λ nsids. nsids ++ c.args.nsid ∷ []) (sym (get_or-map (λ v. v.items) members group c.index_mut.result.now [] within)))
