use Rattle.std.proofs.Common.{◌≡◌, ◌+◌, ◌-◌, ℕ, List, ◌++◌, length, take, replicate, sym, ap, ◌∙◌, refl, Result, Ok, Err, OnOk, length-append, append_assoc, rules}
use Rattle.std.proofs.lemmas.List.{length-replicate}
use Rattle.std.proofs.Math.Seq.{take-append_seam}
use Rattle.bytes.specs.Filled.{Filled}
use Rattle.pdu_codec.specs.Output.{AppendsOrFull}
use Rattle.pdu_codec.specs.C2hData.{c2h_data, piece_with, with_end, data_offset, data_fields, flags_of}
use Rattle.pdu_codec.specs.CommonHeader.{common_header}
use Rattle.pdu_codec.specs.declared.data_pdu.C2hHead.{C2hHead}
use Rattle.pdu_codec.specs.declared.append.Full.{Full}
use Rattle.nvt_fields.specs.declared.pdu_type.PduType.TheVariants as types
use Rattle.pdu_codec.proofs.data_pdu.C2hHead.write.Goals as goal

-- what stands before data of n bytes
unfoldable before_data : C2hHead → ℕ → List ℕ
before_data h n =
    common_header types.C2hData (flags_of h.last) 24 (data_offset h.hpda) (data_offset h.hpda + n)
    ++ data_fields h.cid h.offset n ++ replicate (data_offset h.hpda - 24) 0

pdu_of : (h : C2hHead) (n : ℕ) (payload : List ℕ) → length payload ≡ n → c2h_data (piece_with h payload) ≡ before_data h n ++ payload
unfolding before_data
pdu_of h n payload e = rw e refl

with_end_lem : (front room payload : List ℕ) → length payload ≡ length room → with_end (front ++ room) payload ≡ front ++ payload
with_end_lem front room payload e =
    ap (λ k. take k (front ++ room) ++ payload) (ap (λ k. k - length payload) (length-append front room) ∙ rw e (search rules))
    ∙ ap (λ xs. xs ++ payload) (take-append_seam front room)

written : (old new : Filled) (h : C2hHead) (r : Result (Unit {0}) Full)
    → AppendsOrFull old new (c2h_data (piece_with h (replicate h.len 0))) r
    → OnOk r ((payload : List ℕ) → length payload ≡ h.len → with_end new.items payload ≡ old.items ++ c2h_data (piece_with h payload))
written old new h (Ok done) (fits, items, spare) = λ payload e.
    let zeros = length-replicate {A = ℕ} h.len 0 in
    let split = items ∙ ap (λ xs. old.items ++ xs) (pdu_of h h.len (replicate h.len 0) zeros) ∙ sym (append_assoc old.items (before_data h h.len) (replicate h.len 0)) in
    ap (λ xs. with_end xs payload) split
    ∙ with_end_lem (old.items ++ before_data h h.len) (replicate h.len 0) payload (e ∙ sym zeros)
    ∙ append_assoc old.items (before_data h h.len) payload
    ∙ ap (λ xs. old.items ++ xs) (sym (pdu_of h h.len payload e))
written old new h (Err full) a = tt

pub returns-clause-room : goal.returns-clause-room
returns-clause-room c =
    rw length-replicate (rw (c.common_header-zeros.ensures.header, c.common_header-zeros.ensures.zeros, c.fields.ensures) at c.append_room.ensures)

pub returns-clause-written_over : goal.returns-clause-written_over
returns-clause-written_over c =
    written c.args.out.now c.append_room.new.out c.args.self.now c.append_room.result (returns-clause-room c)
