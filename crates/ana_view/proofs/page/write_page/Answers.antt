use Rattle.std.proofs.Common.{◌≡◌, ◌≤◌, ◌++◌, [], length, replicate, take, refl, ap, ◌∙◌, arith, length-append, rules}
use Rattle.std.proofs.lemmas.List.{append-nil, take_all}
use Rattle.std.proofs.lemmas.List.Elements.{All-get_or}
use Rattle.std.specs.Int.{w64, to_le_bytes}
use Rattle.std.specs.List.{flat_map}
use Rattle.nvt_fields.proofs.Windows.{window_of_nothing}
use Rattle.config_lists.specs.Namespace.{nsid_max}
use Rattle.ana_view.specs.Group.{Descriptor}
use Rattle.ana_view.specs.Page.{descriptor_bytes}
use Rattle.ana_view.proofs.Pages.{header_of, header_shown, len_bound, length_of_descriptor, length_of_header, own_length, page_next, page_parts, take_next}
use Rattle.ana_view.proofs.page.write_page.Goals as goal

pub loop-group-init : goal.loop-group-init
loop-group-init c =
    let n = length c.args.out.now in
    let changes = c.args.counts.now.changes in
    let count = length c.args.groups.now in
    let header = header_of changes count in
    let zeros : c.fill.new.self ≡ replicate n 0 = search rules in
    let nothing = own_length c.fill.new.self [] c.args.offset n (zeros ∙ window_of_nothing c.args.offset n) in
    let first = rw (c.to_le_bytes.ensures, c.changes.ensures) at (c.write_part.ensures [] refl nothing) in
    let bytes = to_le_bytes w64 changes in
    let second = rw (c.to_le_bytes-2.ensures) at (c.write_part-2.ensures bytes refl (own_length c.write_part.new.out bytes c.args.offset _ first)) in
    let len : length c.write_part.new.out ≡ n = omega arith in
    record {
      at = rw (append-nil header) (length_of_header changes count);
      bound = omega arith;
      shown = rw (append-nil header) (header_shown c.write_part-2.new.out c.args.offset changes count n (rw len at second));
    }

pub loop-group-preserved : goal.loop-group-preserved
loop-group-preserved c =
    let groups = c.args.groups.now in
    let counts = c.args.counts.now in
    let only = c.args.groups_only in
    let i = c.loop-group.group-index in
    let g : Descriptor = c.group-item.result in
    let few : length g.nsids ≤ nsid_max = rw (← c.group-item.is) at (All-get_or (λ (d : Descriptor). length d.nsids ≤ nsid_max) groups i g c.loop-group-test.true c.requires.nsids) in
    let header = header_of counts.changes (length groups) in
    let page = header ++ flat_map (descriptor_bytes only counts) (take i groups) in
    let len : length c.loop-group.out ≡ length c.args.out.now = omega arith in
    let more = ap (λ gs. header ++ flat_map (descriptor_bytes only counts) gs) (take_next groups i g c.loop-group-test.true c.group-item.is) ∙ page_next header only counts (take i groups) g in
    let before = rw (← len) at c.loop-group.invariant.shown in
    record {
      at = rw more (omega (arith, length-append page (descriptor_bytes only counts g), length_of_descriptor only counts g, c.descriptor_len-at.ensures, c.loop-group.invariant.at));
      bound = omega (arith, few, c.descriptor_len-at.ensures, len_bound only (length g.nsids), c.loop-group.invariant.bound);
      shown = rw more (rw len at (c.write_group.ensures page c.loop-group.invariant.at before));
    }

pub returns : goal.returns
returns c =
    let all = take_all c.loop-group.group-index c.args.groups.now c.loop-group-test.false in
    rw (← page_parts c.args.groups_only c.args.counts.now c.args.groups.now) (rw all at c.loop-group.invariant.shown)
