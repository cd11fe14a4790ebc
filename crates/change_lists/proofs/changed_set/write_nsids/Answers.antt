use Rattle.std.proofs.Common.{◌≡◌, [], ◌∷◌, ◌++◌, ℕ, List, length, length-append, replicate, refl, ap, sym, ◌∙◌, append_assoc, arith, rules}
use Rattle.std.proofs.lemmas.List.{append-nil}
use Rattle.std.proofs.lemmas.List.Concat.{flat_map-append}
use Rattle.std.specs.Int.{w32, to_le_bytes}
use Rattle.nvt_fields.specs.Window.{window}
use Rattle.nvt_fields.proofs.Windows.{window_of_nothing}
use Rattle.change_lists.specs.ActiveList.{list_page}
use Rattle.change_lists.proofs.Pages.{length-page}
use Rattle.change_lists.proofs.changed_set.write_nsids.Goals as goal

-- one identifier more
page_next : (done : List ℕ) (nsid : ℕ) → list_page (done ++ nsid ∷ []) ≡ list_page done ++ to_le_bytes w32 nsid
page_next done nsid = rw (flat_map-append, append-nil) refl

pub loop-nsid-init : goal.loop-nsid-init
loop-nsid-init c =
    let n = length c.args.out.now in
    let zeros : c.fill.new.self ≡ replicate n 0 = search rules in
    record { next = tt; finite = tt; shown = ([], sym c.into_iter-nsid-iterator.ensures.into_iter_gives, refl, zeros ∙ window_of_nothing c.args.offset n) }

pub overflow_add-at : goal.overflow_add-at
overflow_add-at c =
    let i = c.loop-nsid.invariant.shown in
    omega (arith, ap length i.1, length-append i.0 c.loop-nsid.nsid-iterator, length-page i.0, i.2, c.requires)

pub loop-nsid-preserved : goal.loop-nsid-preserved
loop-nsid-preserved c =
    let i = c.loop-nsid.invariant.shown in
    let nsid = c.in-Some.nsid in
    let bytes = to_le_bytes w32 nsid in
    let len : length c.loop-nsid.out ≡ length c.args.out.now = omega arith in
    let before : c.loop-nsid.out ≡ window (list_page i.0) c.args.offset (length c.loop-nsid.out) = rw len i.3 in
    let shown : c.write_part.new.out ≡ window (list_page i.0 ++ bytes) c.args.offset (length c.args.out.now) = rw (c.to_le_bytes.ensures, len) at (c.write_part.ensures (list_page i.0) i.2 before) in
    record {
      next = tt;
      finite = tt;
      shown = (
        i.0 ++ nsid ∷ [],
        i.1 ∙ ap (λ (l : List ℕ). i.0 ++ l) c.in-Some.ensures.steps ∙ sym (append_assoc i.0 (nsid ∷ []) c.next.new.self),
        rw (page_next i.0 nsid) (omega (arith, length-append (list_page i.0) bytes, i.2)),
        rw (page_next i.0 nsid) shown,
      );
    }

pub returns : goal.returns
returns c =
    let i = c.loop-nsid.invariant.shown in
    let all : i.0 ≡ c.args.nsids = sym (i.1 ∙ ap (λ (l : List ℕ). i.0 ++ l) c.in-None.ensures.steps.0 ∙ append-nil i.0) in
    rw all at i.3
