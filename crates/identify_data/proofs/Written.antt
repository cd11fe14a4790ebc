-- What is written to a part of a structure, as a field of it.
use Rattle.std.proofs.Common.{◌≡◌, ℕ, ◌+◌, ◌-◌, ◌≤◌, List, ◌++◌, length, take, drop, replicate, ap, ◌∙◌, arith, length-append, length-take, length-drop}
use Rattle.std.proofs.lemmas.List.{drop-drop, length-replicate}
use borrow.Rule.Slice.PartMut.{put_mid}
use Rattle.nvt_fields.specs.Field.{padded}
use Rattle.identify_data.specs.Fields.{with_bytes}

pub length-padded : (len padding : ℕ) (text : List ℕ) → length text ≤ len → length (padded len padding text) ≡ len
length-padded len padding text fits =
    omega (arith, length-append text (replicate (len - length text) padding), length-replicate {A = ℕ} (len - length text) padding)

pub put_mid-with_bytes : (offset len : ℕ) (structure bytes : List ℕ) → length bytes ≡ len → put_mid offset (offset + len - offset) structure bytes ≡ with_bytes offset bytes structure
unfolding with_bytes
put_mid-with_bytes offset len structure bytes whole =
    let rest : drop (offset + len - offset) (drop offset structure) ≡ drop (offset + length bytes) structure =
    drop-drop (offset + len - offset) offset structure ∙ ap (λ n. drop n structure) (omega arith) in
    ap (λ (r : List ℕ). take offset structure ++ (bytes ++ r)) rest

-- a text that was written to its field, padded
pub padded_with_bytes : (offset len padding : ℕ) (structure text field : List ℕ) → length text ≤ len → offset + len ≤ length structure → field ≡ padded (length (take (offset + len - offset) (drop offset structure))) padding text → put_mid offset (offset + len - offset) structure field ≡ with_bytes offset (padded len padding text) structure
padded_with_bytes offset len padding structure text field fits room written =
    let k = offset + len - offset in
    let long : length (take k (drop offset structure)) ≡ len = omega (arith, length-take k (drop offset structure), length-drop offset structure) in
    let is : field ≡ padded len padding text = written ∙ ap (λ n. padded n padding text) long in
    put_mid-with_bytes offset len structure field (ap length is ∙ length-padded len padding text fits)
    ∙ ap (λ (b : List ℕ). with_bytes offset b structure) is
