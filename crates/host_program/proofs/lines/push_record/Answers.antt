use Rattle.std.proofs.Common.{◌++◌, ◌∷◌, [], ap, ◌∙◌, slice_range}
use Rattle.nvt_fields.specs.Name.{up_to_zero}
use Rattle.host_program.specs.Lines.{record_head, text_of}
use Rattle.host_program.proofs.Joined.{joined}
use Rattle.host_program.proofs.lines.push_record.Goals as goal

pub returns : goal.returns
returns c =
    let old = c.args.line.now.items in
    let found = c.args.found.now in
    let address = text_of (slice_range found 512 768) in
    let service = text_of (slice_range found 32 64) in
    let name = text_of (up_to_zero (slice_range found 256 512)) in
    let space = 32 ∷ [] in
    let named = c.up_to_zero.ensures ∙ ap up_to_zero c.subnqn.ensures in
    let l1 = c.in_ok-push_record_head.ensures in
    let l2 = c.in_ok-push_text.ensures ∙ ap (λ l. l ++ text_of c.address.result.now) l1 ∙ ap (λ f. old ++ record_head found ++ text_of f) c.address.ensures in
    let l3 = c.in_ok-push_byte.ensures ∙ ap (λ l. l ++ space) l2 in
    let l4 = c.«in_ok-push_text-2».ensures ∙ ap (λ l. l ++ text_of c.service.result.now) l3
    ∙ ap (λ f. old ++ record_head found ++ address ++ space ++ text_of f) c.service.ensures in
    let l5 = c.«in_ok-push_byte-2».ensures ∙ ap (λ l. l ++ space) l4 in
    let l6 = c.«in_ok-push_text-3».ensures ∙ ap (λ l. l ++ text_of c.up_to_zero.result.now) l5
    ∙ ap (λ f. old ++ record_head found ++ address ++ space ++ service ++ space ++ text_of f) named in
    c.«in_ok-push_byte-3».ensures ∙ ap (λ l. l ++ 10 ∷ []) l6 ∙ joined old (record_head found) address space service space name (10 ∷ [])
