-- What is written is read back, field by field.
use Rattle.std.proofs.Common.{◌≡◌, ℕ, ◌+◌, ◌-◌, ◌*◌, ◌/◌, ◌%◌, ◌==◌, ◌^◌, ◌<◌, ◌≤◌, Bool, true, false, List, [], ◌∷◌, ◌++◌, length, drop, replicate, refl, sym, ap, ◌∙◌, slice_index, length-append, subst, if◌then◌else◌, arith, rules}
use Rattle.std.proofs.lemmas.List.{drop_at, length-replicate}
use Rattle.std.specs.Int.{w16, w32, to_le_bytes}
use Rattle.byteorder.specs.Numbers.{little_number-reads_back}
use Rattle.nvt_fields.specs.declared.pdu_type.PduType.TheVariants as types
use Rattle.nvt_fields.specs.Field.{field_at}
use Rattle.pdu_codec.specs.declared.command.Connect.{Connect}
use Rattle.pdu_codec.specs.declared.data_head.DataHead.{DataHead}
use Rattle.pdu_codec.specs.declared.sqe_fields.SqeFields.{SqeFields}
use Rattle.pdu_codec.specs.declared.sqe_fields.DataSgl.{DataSgl}
use Rattle.pdu_codec.specs.declared.sqe_fields.DataSgl.TheVariants.{NoData, InCapsule, Transport}
use Rattle.pdu_codec.specs.C2hData.{data_offset, flags_of}
use Rattle.pdu_codec.specs.CapsuleCmd.{capsule_with_data, capsule_without_data, capsule_data_offset}
use Rattle.pdu_codec.specs.CommonHeader.{common_header}
use Rattle.pdu_codec.specs.H2cData.{h2c_data, sent_fields}
use Rattle.pdu_codec.specs.Initialize.{ic_req}
use Rattle.pdu_codec.specs.Laws.{RequestsAreReadBack, TerminationsAreReadBack, EntriesAreReadBack, ConnectsAreReadBack, IsCapsuleOf, CapsulesAreReadBack, DataAreReadBack}
use Rattle.pdu_codec.specs.Sgl.{sgl_of}
use Rattle.pdu_codec.specs.Sqe.{connect_of}
use Rattle.pdu_codec.specs.SqeFields.{connect_dwords, sqe_entry, data_descriptor, sgl_len, sgl_named}
use Rattle.pdu_codec.specs.TermReq.{h2c_term_req}
use Rattle.pdu_codec.proofs.NextMultiple.{next-is_multiple, next-near}

two_back : (x : ℕ) (rest : List ℕ) → x < 2 ^ 16 → field_at 2 0 (to_le_bytes w16 x ++ rest) ≡ x
unfolding field_at
two_back x rest fits = little_number-reads_back 2 x rest fits

four_back : (x : ℕ) (rest : List ℕ) → x < 2 ^ 32 → field_at 4 0 (to_le_bytes w32 x ++ rest) ≡ x
unfolding field_at
four_back x rest fits = little_number-reads_back 4 x rest fits

pub requests_back : RequestsAreReadBack
unfolding field_at
requests_back r pfv maxr2t = record {
  request = rw (two_back r.pfv (drop 10 (ic_req r)) pfv, four_back r.maxr2t (drop 16 (ic_req r)) maxr2t) refl;
  len = refl;
  plen = refl;
}

pub terminations_back : TerminationsAreReadBack
unfolding field_at
terminations_back fes fei head f i short =
    let bytes = h2c_term_req fes fei head in
    let whole : length bytes ≡ 24 + length head = omega arith in
    record {
      status = two_back fes (drop 10 bytes) f;
      information = four_back fei (drop 14 bytes) i;
      plen = four_back (24 + length head) (drop 8 bytes) short ∙ sym whole;
      behind = refl;
    }

-- ---- commands

sgl_back : (sgl : DataSgl) → sgl_len sgl < 2 ^ 32 → sgl_of (data_descriptor sgl) ≡ sgl_named sgl
unfolding field_at
sgl_back NoData fits = refl
sgl_back (InCapsule len) fits =
    ap (λ (n : ℕ). sgl_named (InCapsule n)) (four_back len (0 ∷ 0 ∷ 0 ∷ 1 ∷ []) fits)
sgl_back (Transport len) fits =
    ap (λ (n : ℕ). sgl_named (Transport n)) (four_back len (0 ∷ 0 ∷ 0 ∷ 90 ∷ []) fits)

pub entries_back : EntriesAreReadBack
unfolding field_at
entries_back s f =
    let entry = sqe_entry s in
    record {
      len = refl;
      opcode = refl;
      fuse = refl;
      cid = two_back s.cid (drop 4 entry) f.cid;
      nsid = four_back s.nsid (drop 8 entry) f.nsid;
      fctype = refl;
      sgl1 = sgl_back s.sgl1 f.sgl1;
      cdw10 = four_back (slice_index s.cdw 0) (drop 44 entry) (f.cdw 0);
      cdw11 = four_back (slice_index s.cdw 1) (drop 48 entry) (f.cdw 1);
      cdw12 = four_back (slice_index s.cdw 2) (drop 52 entry) (f.cdw 2);
      cdw13 = four_back (slice_index s.cdw 3) (drop 56 entry) (f.cdw 3);
      cdw14 = four_back (slice_index s.cdw 4) (drop 60 entry) (f.cdw 4);
      cdw15 = four_back (slice_index s.cdw 5) (drop 64 entry) (f.cdw 5);
    }

low_half : (a b : ℕ) (rest : List ℕ) → a < 2 ^ 16 → b < 2 ^ 16 → field_at 2 0 (to_le_bytes w32 (a + 2 ^ 16 * b) ++ rest) ≡ a
unfolding field_at
low_half a b rest low high = omega arith

high_half : (a b : ℕ) (rest : List ℕ) → a < 2 ^ 16 → b < 2 ^ 16 → field_at 2 2 (to_le_bytes w32 (a + 2 ^ 16 * b) ++ rest) ≡ b
unfolding field_at
high_half a b rest low high = omega arith

third_byte : (a b : ℕ) (rest : List ℕ) → a < 2 ^ 16 → b < 2 ^ 8 → slice_index (to_le_bytes w32 (a + 2 ^ 16 * b) ++ rest) 2 ≡ b
third_byte a b rest low high = omega arith

connect_made : {a b c d e f g h i j : ℕ} → a ≡ f → b ≡ g → c ≡ h → d ≡ i → e ≡ j
    → ◌≡◌ {A = Connect} (record { recfmt = a; qid = b; sqsize = c; cattr = d; kato = e }) (record { recfmt = f; qid = g; sqsize = h; cattr = i; kato = j })
connect_made v w x y z = cc

pub connects_back : ConnectsAreReadBack
unfolding field_at
connects_back c s f dwords =
    let entry = sqe_entry (record s { cdw = connect_dwords c }) in
    let size : c.cattr < 2 ^ 16 = omega (arith, f.cattr) in
    ap (λ (xs : List ℕ). connect_of (sqe_entry (record s { cdw = xs }))) dwords
    ∙ connect_made (low_half c.recfmt c.qid (drop 44 entry) f.recfmt f.qid) (high_half c.recfmt c.qid (drop 44 entry) f.recfmt f.qid) (low_half c.sqsize c.cattr (drop 48 entry) f.sqsize size) (third_byte c.sqsize c.cattr (drop 48 entry) f.sqsize f.cattr) (four_back c.kato (drop 52 entry) f.kato)

-- a part of a PDU that begins at its data
behind_front : (front payload : List ℕ) (at : ℕ) → length front ≡ at → drop at (front ++ payload) ≡ payload
behind_front front payload at e = drop_at front payload at e

-- a header of that length, zeros up to PDO, and what follows
front_len : (head : List ℕ) (n pdo : ℕ) → length head ≡ n → n ≤ pdo → length (head ++ replicate (pdo - n) 0) ≡ pdo
front_len head n pdo e after =
    length-append head (replicate (pdo - n) 0) ∙ ap (λ (k : ℕ). length head + k) (length-replicate {A = ℕ} (pdo - n) 0) ∙ omega arith

with_data_back : (sqe : SqeFields) (cpda byte : ℕ) (payload : List ℕ) → cpda ≤ 31 → length (byte ∷ payload) + 200 < 2 ^ 32
    → IsCapsuleOf sqe cpda (byte ∷ payload) (capsule_with_data sqe cpda (byte ∷ payload))
unfolding field_at
with_data_back sqe cpda byte payload small short =
    let all = byte ∷ payload in
    let pdo = capsule_data_offset cpda in
    let bytes = capsule_with_data sqe cpda all in
    let head = common_header types.CapsuleCmd 0 72 pdo (pdo + length all) ++ sqe_entry sqe in
    let some : 0 < (cpda + 1) * 4 = omega arith in
    let near : pdo < 72 + (cpda + 1) * 4 = next-near 72 ((cpda + 1) * 4) some in
    let after : 72 ≤ pdo = omega arith in
    let front : length (head ++ replicate (pdo - 72) 0) ≡ pdo = front_len head 72 pdo refl after in
    let whole : length bytes ≡ pdo + length all =
    length-append (head ++ replicate (pdo - 72) 0) all ∙ ap (λ (k : ℕ). k + length all) front in
    let fits : pdo + length all < 2 ^ 32 = omega arith in
    record {
      entry = refl;
      plen = four_back (pdo + length all) (drop 8 bytes) fits ∙ sym whole;
      bare = λ none. absurd (omega (arith, none));
      placed = λ some_data. behind_front (head ++ replicate (pdo - 72) 0) all pdo front;
      aligned = λ some_data. next-is_multiple 72 ((cpda + 1) * 4) some;
      behind = λ some_data. after;
      nearest = λ some_data. near;
    }

pub capsules_back : CapsulesAreReadBack
unfolding field_at
capsules_back sqe cpda [] small short = record {
  entry = refl;
  plen = refl;
  bare = λ none. refl;
  placed = λ (some : 0 < 0). absurd (omega (arith, some));
  aligned = λ (some : 0 < 0). absurd (omega (arith, some));
  behind = λ (some : 0 < 0). absurd (omega (arith, some));
  nearest = λ (some : 0 < 0). absurd (omega (arith, some));
}
capsules_back sqe cpda (byte ∷ payload) small short =
    let some : (length (byte ∷ payload) == 0) ≡ false = search rules in
    let P : Bool → Type 0 = λ empty. IsCapsuleOf sqe cpda (byte ∷ payload) (if empty then capsule_without_data sqe else capsule_with_data sqe cpda (byte ∷ payload)) in
    subst P (sym some) (with_data_back sqe cpda byte payload small short)

-- ---- data

last_back : (last : Bool) → flags_of last / 2 ^ 2 % 2 == 1 ≡ last
last_back true = refl
last_back false = refl

success_back : (last : Bool) → flags_of last / 2 ^ 3 % 2 == 1 ≡ false
success_back true = refl
success_back false = refl

head_made : {a b c d e f g h : ℕ} {p q r s : Bool} → a ≡ e → b ≡ f → c ≡ g → d ≡ h → p ≡ r → q ≡ s
    → ◌≡◌ {A = DataHead} (record { cccid = a; ttag = b; datao = c; datal = d; last_pdu = p; success = q }) (record { cccid = e; ttag = f; datao = g; datal = h; last_pdu = r; success = s })
head_made w x y z last success = cc

pub data_back : DataAreReadBack
unfolding field_at
data_back s f =
    let pdo = data_offset s.cpda in
    let bytes = h2c_data s in
    let head = common_header types.H2cData (flags_of s.last) 24 pdo (pdo + length s.payload) ++ sent_fields s in
    let len = f.len in
    let cpda = f.cpda in
    let some : 0 < (s.cpda + 1) * 4 = omega arith in
    let near : pdo < 24 + (s.cpda + 1) * 4 = next-near 24 ((s.cpda + 1) * 4) some in
    let after : 24 ≤ pdo = omega arith in
    let front : length (head ++ replicate (pdo - 24) 0) ≡ pdo = front_len head 24 pdo refl after in
    let whole : length bytes ≡ pdo + length s.payload =
    length-append (head ++ replicate (pdo - 24) 0) s.payload ∙ ap (λ (k : ℕ). k + length s.payload) front in
    let fits : pdo + length s.payload < 2 ^ 32 = omega arith in
    let fits_alone : length s.payload < 2 ^ 32 = omega arith in
    record {
      head = head_made (two_back s.cccid (drop 10 head) f.cccid) (two_back s.ttag (drop 12 head) f.ttag) (four_back s.offset (drop 16 head) f.offset) (four_back (length s.payload) (drop 20 head) fits_alone) (last_back s.last) (success_back s.last);
      plen = four_back (pdo + length s.payload) (drop 8 bytes) fits ∙ sym whole;
      datal = whole;
      placed = behind_front (head ++ replicate (pdo - 24) 0) s.payload pdo front;
      aligned = next-is_multiple 24 ((s.cpda + 1) * 4) some;
      behind = after;
      nearest = near;
    }
