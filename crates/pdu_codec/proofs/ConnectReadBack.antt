-- The data of a Connect, as it is written and read.
use Rattle.std.proofs.Common.{◌≡◌, ℕ, ◌+◌, ◌^◌, ◌<◌, List, ◌++◌, length, take, drop, replicate, ap, ◌∙◌, append_assoc, length-append, arith}
use Rattle.std.proofs.lemmas.List.{drop_at, take_at, length-replicate}
use Rattle.std.specs.Int.{w16, to_le_bytes}
use Rattle.byteorder.specs.Endian.{little_number}
use Rattle.byteorder.specs.Numbers.{little_number-reads_back}
use Rattle.nvt_fields.specs.Field.{field_at, padded}
use Rattle.pdu_codec.specs.Laws.{ConnectDataAreReadBack}
use Rattle.pdu_codec.proofs.ConnectWritten.{length-padded}

-- a part between two others
part_between : (front part back : List ℕ) (a n : ℕ) → length front ≡ a → length part ≡ n → take n (drop a (front ++ (part ++ back))) ≡ part
part_between front part back a n before len =
    ap (take n) (drop_at front (part ++ back) a before) ∙ take_at part back n len

-- the parts, and where each begins
parts_back : (hostid zeros sub host back : List ℕ) (cntlid : ℕ) → length hostid ≡ 16 → cntlid < 2 ^ 16 → length zeros ≡ 238 → length sub ≡ 256 → length host ≡ 256 → length back ≡ 256
    → let bytes = hostid ++ to_le_bytes w16 cntlid ++ zeros ++ sub ++ host ++ back in
    (length bytes ≡ 1024) × (take 16 bytes ≡ hostid) × (little_number 2 (drop 16 bytes) ≡ cntlid) × (take 256 (drop 256 bytes) ≡ sub) × (take 256 (drop 512 bytes) ≡ host)
parts_back hostid zeros sub host back cntlid l_hostid fits l_zeros l_sub l_host l_back =
    let number = to_le_bytes w16 cntlid in
    let ids = hostid ++ number ++ zeros in
    let l_ids : length ids ≡ 256 =
    length-append (hostid ++ number) zeros ∙ ap (λ (n : ℕ). n + length zeros) (length-append hostid number) ∙ omega arith in
    let l_names : length (ids ++ sub) ≡ 512 = length-append ids sub ∙ omega arith in
    let l_both : length (ids ++ sub ++ host) ≡ 768 = length-append (ids ++ sub) host ∙ omega arith in
    let l_all : length (ids ++ sub ++ host ++ back) ≡ 1024 = length-append (ids ++ sub ++ host) back ∙ omega arith in
    let at_names : ids ++ sub ++ host ++ back ≡ ids ++ (sub ++ (host ++ back)) = append_assoc (ids ++ sub) host back ∙ append_assoc ids sub (host ++ back) in
    let at_host : ids ++ sub ++ host ++ back ≡ (ids ++ sub) ++ (host ++ back) = append_assoc (ids ++ sub) host back in
    let at_number : ids ++ sub ++ host ++ back ≡ hostid ++ (number ++ (zeros ++ (sub ++ (host ++ back)))) =
    at_names ∙ append_assoc (hostid ++ number) zeros (sub ++ (host ++ back)) ∙ append_assoc hostid number (zeros ++ (sub ++ (host ++ back))) in (
      l_all,
      ap (take 16) at_number ∙ take_at hostid (number ++ (zeros ++ (sub ++ (host ++ back)))) 16 l_hostid,
      ap (λ (xs : List ℕ). little_number 2 (drop 16 xs)) at_number
          ∙ ap (little_number 2) (drop_at hostid (number ++ (zeros ++ (sub ++ (host ++ back)))) 16 l_hostid)
          ∙ little_number-reads_back 2 cntlid (zeros ++ (sub ++ (host ++ back))) fits,
      ap (λ (xs : List ℕ). take 256 (drop 256 xs)) at_names ∙ part_between ids sub (host ++ back) 256 256 l_ids l_sub,
      ap (λ (xs : List ℕ). take 256 (drop 512 xs)) at_host ∙ part_between (ids ++ sub) host back 512 256 l_names l_host,
    )

pub connect_data_back : ConnectDataAreReadBack
unfolding field_at
connect_data_back hostid cntlid subnqn hostnqn l_hostid fits short_sub short_host =
    let parts = parts_back hostid (replicate 238 0) (padded 256 0 subnqn) (padded 256 0 hostnqn) (replicate 256 0) cntlid l_hostid fits (length-replicate {A = ℕ} 238 0) (length-padded 256 subnqn short_sub) (length-padded 256 hostnqn short_host) (length-replicate {A = ℕ} 256 0) in
    record { len = parts.0; host = parts.1; controller = parts.2; subsystem_name = parts.3; host_name = parts.4 }
