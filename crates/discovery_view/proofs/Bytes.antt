-- The bytes of a record: its pieces, and their number.
use Rattle.std.proofs.Common.{◌≡◌, ℕ, ◌-◌, ◌<◌, ◌≤◌, ◌^◌, IsTrue, List, ◌∷◌, ◌++◌, length, replicate, refl, ap, sym, ◌∙◌, arith, append_assoc, length-append, rules}
use Rattle.std.proofs.lemmas.Fmt.{length-decimal-le}
use Rattle.std.proofs.lemmas.List.{length-replicate}
use Rattle.std.specs.Fmt.{decimal}
use Rattle.std.specs.Int.{w16, to_le_bytes}
use Rattle.config_lists.specs.declared.port.Port.{Port}
use Rattle.config_lists.specs.Port.{is_port}
use Rattle.nvt_fields.specs.Field.{padded}
use Rattle.discovery_view.specs.Record.{Parts, family_code, record_of, subtype_code}

-- nine lists in a row, the first four joined before
regroup : (a b c d e f g h i : List ℕ) → (a ++ b ++ c ++ d) ++ (e ++ (f ++ (g ++ (h ++ i)))) ≡ a ++ b ++ c ++ d ++ e ++ f ++ g ++ h ++ i
regroup a b c d e f g h i = simp append_assoc

-- the first 32 bytes
abbrev pub head_of : Parts → List ℕ
head_of p =
    3 ∷ family_code p.family ∷ subtype_code p.subtype ∷ 0 ∷ to_le_bytes w16 p.port ++ to_le_bytes w16 0xFFFF ++ to_le_bytes w16 32 ++ replicate 22 0

pub record_pieces : (p : Parts) → head_of p ++ (padded 32 0x20 (decimal p.service) ++ (replicate 192 0 ++ (padded 256 0 p.nqn ++ (padded 256 0x20 p.address ++ replicate 256 0)))) ≡ record_of p
unfolding record_of
record_pieces p =
    regroup (3 ∷ family_code p.family ∷ subtype_code p.subtype ∷ 0 ∷ to_le_bytes w16 p.port) (to_le_bytes w16 0xFFFF) (to_le_bytes w16 32) (replicate 22 0) (padded 32 0x20 (decimal p.service)) (replicate 192 0) (padded 256 0 p.nqn) (padded 256 0x20 p.address) (replicate 256 0)

pub length-padded : (len padding : ℕ) (text : List ℕ) → length text ≤ len → length (padded len padding text) ≡ len
length-padded len padding text fits =
    omega (arith, length-append text (replicate (len - length text) padding), length-replicate {A = ℕ} (len - length text) padding)

-- six lists in a row, of the lengths of a record's pieces
length_of_pieces : (a b c d e f : List ℕ) → length a ≡ 32 → length b ≡ 32 → length c ≡ 192 → length d ≡ 256 → length e ≡ 256 → length f ≡ 256 → length (a ++ (b ++ (c ++ (d ++ (e ++ f))))) ≡ 1024
length_of_pieces a b c d e f la lb lc ld le lf = simp length-append (omega arith)

pub length-record_of : (p : Parts) → p.service < 2 ^ 16 → length p.nqn ≤ 256 → length p.address ≤ 256 → length (record_of p) ≡ 1024
length-record_of p listens name address =
    let most : p.service < 10 ^ 5 = omega arith in
    let wide : p.service < 2 ^ 64 = omega arith in
    let digits : length (decimal p.service) ≤ 5 = length-decimal-le 5 p.service (omega arith) most wide in
    ap length (sym (record_pieces p))
    ∙ length_of_pieces (head_of p) (padded 32 0x20 (decimal p.service)) (replicate 192 0) (padded 256 0 p.nqn) (padded 256 0x20 p.address) (replicate 256 0) refl (length-padded 32 0x20 (decimal p.service) (omega arith)) (length-replicate {A = ℕ} 192 0) (length-padded 256 0 p.nqn name) (length-padded 256 0x20 p.address address) (length-replicate {A = ℕ} 256 0)

pub address_fits : (p : Port) → IsTrue (is_port p) → length p.address ≤ 256
address_fits p sound = search rules

pub service_fits : (p : Port) → IsTrue (is_port p) → p.service < 2 ^ 16
service_fits p sound = search rules

pub number_fits : (p : Port) → IsTrue (is_port p) → p.id < 2 ^ 16
number_fits p sound = search rules
