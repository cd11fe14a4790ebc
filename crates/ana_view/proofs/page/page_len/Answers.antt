use Rattle.std.proofs.Common.{◌≡◌, ◌+◌, ◌≤◌, ◌++◌, length, take, ap, ◌∙◌, arith, length-append}
use Rattle.std.proofs.lemmas.List.{take_all}
use Rattle.std.proofs.lemmas.List.Elements.{All-get_or}
use Rattle.std.specs.List.{flat_map}
use Rattle.config_lists.specs.Namespace.{nsid_max}
use Rattle.ana_view.specs.Group.{Descriptor}
use Rattle.ana_view.specs.Page.{descriptor_bytes}
use Rattle.ana_view.proofs.Pages.{header_of, len_bound, length_next, length_of_header, page_parts, take_next}
use Rattle.ana_view.proofs.page.page_len.Goals as goal

pub descriptor_len-len-requires : goal.descriptor_len-len-requires
descriptor_len-len-requires c =
    rw (c.group-item.is) (All-get_or (λ (g : Descriptor). length g.nsids ≤ nsid_max) c.args.groups.now c.loop-group.group-index c.group-item.result c.loop-group-test.true c.requires.nsids)

pub loop-group-preserved : goal.loop-group-preserved
loop-group-preserved c =
    let groups = c.args.groups.now in
    let i = c.loop-group.group-index in
    let g : Descriptor = c.group-item.result in
    let few : length g.nsids ≤ nsid_max = rw (← c.group-item.is) at (All-get_or (λ (d : Descriptor). length d.nsids ≤ nsid_max) groups i g c.loop-group-test.true c.requires.nsids) in
    let more = take_next groups i g c.loop-group-test.true c.group-item.is in
    record {
      len = λ counts. rw more (omega (arith, c.descriptor_len-len.ensures, length_next c.args.groups_only counts (take i groups) g, c.loop-group.invariant.len counts));
      bound = omega (arith, few, c.descriptor_len-len.ensures, len_bound c.args.groups_only (length g.nsids), c.loop-group.invariant.bound);
    }

pub returns : goal.returns
returns c = λ counts.
    let groups = c.args.groups.now in
    let header = header_of counts.changes (length groups) in
    let body = flat_map (descriptor_bytes c.args.groups_only counts) groups in
    let all = ap (λ gs. 16 + length (flat_map (descriptor_bytes c.args.groups_only counts) gs)) (take_all c.loop-group.group-index groups c.loop-group-test.false) in
    let whole : 16 + length body ≡ length (header ++ body) = omega (arith, length-append header body, length_of_header counts.changes (length groups)) in
    c.loop-group.invariant.len counts ∙ all ∙ whole ∙ ap length (page_parts c.args.groups_only counts groups)
