-- Records tell the same exactly where their bytes are the same: texts that are padded, numbers in decimal and numbers in
-- bytes can be told apart.
use lib.Pointwise.{bytes_decides, pointwise_decides}
use Rattle.std.proofs.Common.{◌≡◌, ◌≢◌, ℕ, zero, suc, ◌-◌, ◌<◌, ◌≤◌, ◌^◌, ◌==◌, ◌&&◌, Bool, true, false, nat_le, if◌then◌else◌, IsTrue, List, [], ◌∷◌, ◌++◌, All, length, map, replicate, get_or, take, drop, bytes_eq, refl, ap, sym, ◌∙◌, subst, inl, inr, arith, rules, length-append}
use Rattle.std.proofs.lemmas.Bool.{and_parts, both_ways, eq-eqb, eqb-true, false_from_ne_true, leb-true}
use Rattle.std.proofs.lemmas.Fmt.{decimal_injective, decimal_is_IsNumeral, length-decimal-le}
use Rattle.std.proofs.lemmas.Grind.{common_steps}
use Rattle.std.proofs.lemmas.List.{append_cancel_left}
use Rattle.std.proofs.lemmas.List.Elements.{All-contains, All-head, All-tail, All-weaker}
use Rattle.std.proofs.lemmas.Nat.{from_le_bytes-to_le_bytes_2}
use Rattle.std.proofs.lemmas.Str.Parse.{tells_digits}
use Rattle.std.specs.Char.{is_ascii_graphic}
use Rattle.std.specs.Fmt.{decimal}
use Rattle.std.specs.Int.{from_le_bytes, to_le_bytes, w16}
use Rattle.std.specs.List.{AllByRecursion, flat_map, list_all}
use Rattle.std.specs.Str.Parse.{AllDigits}
use Rattle.config_lists.specs.declared.port.Family.{Family}
use Rattle.config_lists.specs.declared.port.Family.TheVariants.{Ipv4, Ipv6}
use Rattle.config_lists.specs.declared.port.Port.{Port}
use Rattle.config_lists.specs.declared.subsystem.Subsystem.{Subsystem}
use Rattle.config_lists.specs.Port.{is_port}
use Rattle.nvt_config.specs.Configuration.{Configuration}
use Rattle.nvt_fields.specs.Field.{padded}
use Rattle.nvt_fields.specs.Name.{IsName, discovery_nqn}
use Rattle.discovery_view.specs.declared.record.Subtype.{Subtype}
use Rattle.discovery_view.specs.declared.record.Subtype.TheVariants.{Referral, NvmSubsystem}
use Rattle.discovery_view.specs.Listing.{IsShown}
use Rattle.discovery_view.specs.Record.{Parts, family_code, record_of, same_parts, same_records, subtype_code}
use Rattle.discovery_view.specs.Records.{parts_on, records_of}
use Rattle.discovery_view.specs.Told.{CountsBytes, IsSound, RecordsDifferWithTheirParts, TellByTheirBytes}
use Rattle.discovery_view.proofs.Bytes.{address_fits, head_of, length-padded, length-record_of, number_fits, record_pieces, service_fits}
use Rattle.discovery_view.proofs.Listings.{all_shown}

-- ---- lists that are joined

-- two lists are the same where their fronts, of one length, are, and their rests
both_same : {X : Type 0} (a b c d : List X) → length a ≡ length b → a ++ c ≡ b ++ d → (a ≡ b) × (c ≡ d)
both_same [] [] c d long same = (refl, same)
both_same [] (y ∷ b) c d long same = absurd (omega arith)
both_same (x ∷ a) [] c d long same = absurd (omega arith)
both_same (x ∷ a) (y ∷ b) c d long same =
    let first : x ≡ y = cc in
    let behind : a ++ c ≡ b ++ d = cc in
    let rest = both_same a b c d (omega arith) behind in
    (λ i. first i ∷ rest.0 i, rest.1)

-- six pieces in a row, of which the third and the last are the same
pieces_same : (a b gap c d end s t u v : List ℕ) → length a ≡ length s → length b ≡ length t → length c ≡ length u → length d ≡ length v → a ++ (b ++ (gap ++ (c ++ (d ++ end)))) ≡ s ++ (t ++ (gap ++ (u ++ (v ++ end)))) → (a ≡ s) × (b ≡ t) × (c ≡ u) × (d ≡ v)
pieces_same a b gap c d end s t u v la lb lc ld same =
    let one = both_same a s (b ++ (gap ++ (c ++ (d ++ end)))) (t ++ (gap ++ (u ++ (v ++ end)))) la same in
    let two = both_same b t (gap ++ (c ++ (d ++ end))) (gap ++ (u ++ (v ++ end))) lb one.1 in
    let rest = append_cancel_left gap (c ++ (d ++ end)) (u ++ (v ++ end)) two.1 in
    let three = both_same c u (d ++ end) (v ++ end) lc rest in
    let four = both_same d v end end ld three.1 in
    (one.0, two.0, three.0, four.0)

-- ---- texts that are padded

-- no byte of the text is the padding
abbrev pub IsFree : ℕ → List ℕ → Type 0
IsFree padding text = AllByRecursion (λ b. b ≢ padding) text

first_padding : (padding n b : ℕ) (rest : List ℕ) → replicate n padding ≡ b ∷ rest → b ≡ padding
first_padding padding zero b rest same = absurd (cc)
first_padding padding (suc n) b rest same = cc

unpadded : (padding n m : ℕ) (xs ys : List ℕ) → IsFree padding xs → IsFree padding ys → xs ++ replicate n padding ≡ ys ++ replicate m padding → xs ≡ ys
unpadded padding n m [] [] one other same = refl
unpadded padding n m [] (y ∷ ys) one other same = absurd (other.0 (first_padding padding n y (ys ++ replicate m padding) same))
unpadded padding n m (x ∷ xs) [] one other same = absurd (one.0 (first_padding padding m x (xs ++ replicate n padding) (sym same)))
unpadded padding n m (x ∷ xs) (y ∷ ys) one other same =
    let first : x ≡ y = cc in
    let behind : xs ++ replicate n padding ≡ ys ++ replicate m padding = cc in
    let rest = unpadded padding n m xs ys one.1 other.1 behind in
    λ i. first i ∷ rest i

padded_same : (len padding : ℕ) (xs ys : List ℕ) → IsFree padding xs → IsFree padding ys → padded len padding xs ≡ padded len padding ys → xs ≡ ys
padded_same len padding xs ys one other same = unpadded padding (len - length xs) (len - length ys) xs ys one other same

-- a printable byte is neither a zero nor a space
graphic_apart : (padding b : ℕ) → padding < 33 → is_ascii_graphic b ≡ true → b ≢ padding
graphic_apart padding b small graphic =
    let least : 33 ≤ b = leb-true 33 b (and_parts (nat_le 33 b) (nat_le b 126) graphic).0 in
    λ same. omega arith

graphic_free : (padding : ℕ) (text : List ℕ) → padding < 33 → list_all is_ascii_graphic text ≡ true → IsFree padding text
graphic_free padding [] small graphic = tt
graphic_free padding (b ∷ text) small graphic =
    let parts = and_parts (is_ascii_graphic b) (list_all is_ascii_graphic text) graphic in
    (graphic_apart padding b small parts.0, graphic_free padding text small parts.1)

-- nor is a digit
digits_free : (text : List ℕ) → AllDigits 10 text → IsFree 0x20 text
digits_free [] digits = tt
digits_free (b ∷ text) digits =
    let parts = tells_digits.parts b text digits in
    (λ same. omega (arith, parts.0.0), digits_free text parts.1)

decimal_free : (n : ℕ) → n < 2 ^ 16 → IsFree 0x20 (decimal n)
decimal_free n fits =
    let wide : n < 2 ^ 64 = omega arith in
    digits_free (decimal n) (decimal_is_IsNumeral n wide).0.1

decimal_same : (m n : ℕ) → m < 2 ^ 16 → n < 2 ^ 16 → decimal m ≡ decimal n → m ≡ n
decimal_same m n one other same = decimal_injective m n (omega arith) (omega arith) same

length-service : (n : ℕ) → n < 2 ^ 16 → length (padded 32 0x20 (decimal n)) ≡ 32
length-service n fits =
    let most : n < 10 ^ 5 = omega arith in
    let wide : n < 2 ^ 64 = omega arith in
    let digits : length (decimal n) ≤ 5 = length-decimal-le 5 n (omega arith) most wide in
    length-padded 32 0x20 (decimal n) (omega arith)

-- ---- the bytes of a record

-- what is so of the parts that a configuration shows
pub record IsTold (p : Parts) : Type 0 where
  pub port : p.port < 2 ^ 16
  pub service : p.service < 2 ^ 16
  pub name : IsFree 0 p.nqn
  pub name_fits : length p.nqn ≤ 256
  pub address : IsFree 0x20 p.address
  pub address_fits : length p.address ≤ 256

family_same : (f g : Family) → family_code f ≡ family_code g → f ≡ g
family_same Ipv4 Ipv4 same = refl
family_same Ipv4 Ipv6 same = absurd (omega arith)
family_same Ipv6 Ipv4 same = absurd (omega arith)
family_same Ipv6 Ipv6 same = refl

subtype_same : (s t : Subtype) → subtype_code s ≡ subtype_code t → s ≡ t
subtype_same Referral Referral same = refl
subtype_same Referral NvmSubsystem same = absurd (omega arith)
subtype_same NvmSubsystem Referral same = absurd (omega arith)
subtype_same NvmSubsystem NvmSubsystem same = refl

word_same : (m n : ℕ) → m < 2 ^ 16 → n < 2 ^ 16 → to_le_bytes w16 m ≡ to_le_bytes w16 n → m ≡ n
word_same m n one other same =
    sym (from_le_bytes-to_le_bytes_2 m one) ∙ ap (λ (b : List ℕ). from_le_bytes w16 b) same ∙ from_le_bytes-to_le_bytes_2 n other

head_same : (p q : Parts) → p.port < 2 ^ 16 → q.port < 2 ^ 16 → head_of p ≡ head_of q → (p.subtype ≡ q.subtype) × (p.family ≡ q.family) × (p.port ≡ q.port)
head_same p q one other same = (
  subtype_same p.subtype q.subtype (ap (λ (l : List ℕ). get_or l 2 0) same),
  family_same p.family q.family (ap (λ (l : List ℕ). get_or l 1 0) same),
  word_same p.port q.port one other (ap (λ (l : List ℕ). take 2 (drop 4 l)) same),
)

parts_same : (p q : Parts) → p.subtype ≡ q.subtype → p.family ≡ q.family → p.port ≡ q.port → p.service ≡ q.service → p.nqn ≡ q.nqn → p.address ≡ q.address → p ≡ q
parts_same p q subtype family port service nqn address =
    λ i. record { subtype = subtype i; family = family i; port = port i; service = service i; nqn = nqn i; address = address i }

pub bytes_tell : (p q : Parts) → IsTold p → IsTold q → record_of p ≡ record_of q → p ≡ q
bytes_tell p q one other same =
    let pieces = pieces_same (head_of p) (padded 32 0x20 (decimal p.service)) (replicate 192 0) (padded 256 0 p.nqn) (padded 256 0x20 p.address) (replicate 256 0)
    (head_of q) (padded 32 0x20 (decimal q.service)) (padded 256 0 q.nqn) (padded 256 0x20 q.address)
    refl
    (length-service p.service one.service ∙ sym (length-service q.service other.service))
    (length-padded 256 0 p.nqn one.name_fits ∙ sym (length-padded 256 0 q.nqn other.name_fits))
    (length-padded 256 0x20 p.address one.address_fits ∙ sym (length-padded 256 0x20 q.address other.address_fits))
    (record_pieces p ∙ same ∙ sym (record_pieces q)) in
    let head = head_same p q one.port other.port pieces.0 in
    let service = padded_same 32 0x20 (decimal p.service) (decimal q.service) (decimal_free p.service one.service) (decimal_free q.service other.service) pieces.1 in
    parts_same p q head.0 head.1 head.2
    (decimal_same p.service q.service one.service other.service service)
    (padded_same 256 0 p.nqn q.nqn one.name other.name pieces.2)
    (padded_same 256 0x20 p.address q.address one.address other.address pieces.3)

pub length-told : (p : Parts) → IsTold p → length (record_of p) ≡ 1024
length-told p told = length-record_of p told.service told.name_fits told.address_fits

-- ---- what is compared

six_parts : (a b c d e f : Bool) → (a && (b && (c && (d && (e && f))))) ≡ true → (a ≡ true) × (b ≡ true) × (c ≡ true) × (d ≡ true) × (e ≡ true) × (f ≡ true)
six_parts a b c d e f all =
    let one = and_parts a (b && (c && (d && (e && f)))) all in
    let two = and_parts b (c && (d && (e && f))) one.1 in
    let three = and_parts c (d && (e && f)) two.1 in
    let four = and_parts d (e && f) three.1 in
    let five = and_parts e f four.1 in
    (one.0, two.0, three.0, four.0, five.0, five.1)

pub told_apart : (p q : Parts) → same_parts p q ≡ true → p ≡ q
told_apart p q same =
    let tests = six_parts (subtype_code p.subtype == subtype_code q.subtype) (family_code p.family == family_code q.family) (p.port == q.port) (p.service == q.service) (bytes_eq p.nqn q.nqn) (bytes_eq p.address q.address) same in
    parts_same p q
    (subtype_same p.subtype q.subtype (eqb-true (subtype_code p.subtype) (subtype_code q.subtype) tests.0))
    (family_same p.family q.family (eqb-true (family_code p.family) (family_code q.family) tests.1))
    (eqb-true p.port q.port tests.2) (eqb-true p.service q.service tests.3)
    ((bytes_decides p.nqn q.nqn).0 tests.4) ((bytes_decides p.address q.address).0 tests.5)

pub own : (p : Parts) → same_parts p p ≡ true
own p =
    let subtype = eq-eqb (subtype_code p.subtype) (subtype_code p.subtype) refl in
    let family = eq-eqb (family_code p.family) (family_code p.family) refl in
    let port = eq-eqb p.port p.port refl in
    let service = eq-eqb p.service p.service refl in
    let nqn = (bytes_decides p.nqn p.nqn).1 refl in
    let address = (bytes_decides p.address p.address).1 refl in
    λ i. subtype i && (family i && (port i && (service i && (nqn i && address i))))

pub parts_decide : (p q : Parts) → (same_parts p q ≡ true → p ≡ q) × (p ≡ q → same_parts p q ≡ true)
parts_decide p q = (told_apart p q, λ same. subst (λ (r : Parts). same_parts p r ≡ true) same (own p))

-- ---- lists of records

records_tell : (ps qs : List Parts) → All IsTold ps → All IsTold qs → map record_of ps ≡ map record_of qs → ps ≡ qs
records_tell [] [] one other same = refl
records_tell [] (q ∷ qs) one other same = absurd (cc)
records_tell (p ∷ ps) [] one other same = absurd (cc)
records_tell (p ∷ ps) (q ∷ qs) one other same =
    let first : record_of p ≡ record_of q = cc in
    let behind : map record_of ps ≡ map record_of qs = cc in
    let here = bytes_tell p q (All-head IsTold p ps one) (All-head IsTold q qs other) first in
    let rest = records_tell ps qs (All-tail IsTold p ps one) (All-tail IsTold q qs other) behind in
    λ i. here i ∷ rest i

-- a record more is no empty row
not_empty : (q : Parts) (rest : List ℕ) → IsTold q → [] ≡ record_of q ++ rest → ⊥
not_empty q rest told same =
    let longer : 0 ≡ length (record_of q ++ rest) = ap (λ (l : List ℕ). length l) same in
    omega (arith, length-append (record_of q) rest, length-told q told)

row_tells : (ps qs : List Parts) → All IsTold ps → All IsTold qs → flat_map record_of ps ≡ flat_map record_of qs → ps ≡ qs
row_tells [] [] one other same = refl
row_tells [] (q ∷ qs) one other same = absurd (not_empty q (flat_map record_of qs) (All-head IsTold q qs other) same)
row_tells (p ∷ ps) [] one other same = absurd (not_empty p (flat_map record_of ps) (All-head IsTold p ps one) (sym same))
row_tells (p ∷ ps) (q ∷ qs) one other same =
    let told = All-head IsTold p ps one in
    let told_q = All-head IsTold q qs other in
    let both = both_same (record_of p) (record_of q) (flat_map record_of ps) (flat_map record_of qs) (length-told p told ∙ sym (length-told q told_q)) same in
    let here = bytes_tell p q told told_q both.0 in
    let rest = row_tells ps qs (All-tail IsTold p ps one) (All-tail IsTold q qs other) both.1 in
    λ i. here i ∷ rest i

tell : (ps qs : List Parts) → All IsTold ps → All IsTold qs → TellByTheirBytes ps qs
tell ps qs one other =
    let same = pointwise_decides parts_decide ps qs in
    record {
      parts = same;
      records = (λ h. ap (λ (l : List Parts). map record_of l) (same.0 h), λ h. same.1 (records_tell ps qs one other h));
      row = (λ h. ap (λ (l : List Parts). flat_map record_of l) (same.0 h), λ h. same.1 (row_tells ps qs one other h));
    }

-- ---- what a configuration shows

address_graphic : (p : Port) → IsTrue (is_port p) → list_all is_ascii_graphic p.address ≡ true
address_graphic p sound = search rules

name_graphic : (text : List ℕ) → IsName text → list_all is_ascii_graphic text ≡ true
name_graphic text named = grind (arith, common_steps)

name_short : (text : List ℕ) → IsName text → length text ≤ 223
name_short text named = grind (arith, common_steps)

told_on : (subtype : Subtype) (port : Port) (nqn : List ℕ) → IsTrue (is_port port) → IsName nqn → IsTold (parts_on subtype port nqn)
told_on subtype port nqn sound named =
    let short = name_short nqn named in
    record {
      port = number_fits port sound;
      service = service_fits port sound;
      name = graphic_free 0 nqn (omega arith) (name_graphic nqn named);
      name_fits = omega arith;
      address = graphic_free 0x20 port.address (omega arith) (address_graphic port sound);
      address_fits = address_fits port sound;
    }

shown_told : (c : Configuration) (host : List ℕ) → IsSound c → (p : Parts) → IsShown c host p → IsTold p
shown_told c host sound p (inl (port, s, there, inside, passes, is)) =
    subst IsTold (sym is) (told_on NvmSubsystem port s.nqn
    (All-contains (λ (r : Port). IsTrue (is_port r)) c.ports port sound.valid.ports.sound there)
    (All-contains (λ (t : Subsystem). IsName t.nqn) c.subsystems s sound.names inside))
shown_told c host sound p (inr (referral, there, is)) =
    subst IsTold (sym is) (told_on Referral referral discovery_nqn
    (All-contains (λ (r : Port). IsTrue (is_port r)) c.referrals referral sound.valid.referrals.sound there)
    refl)

pub all_told : (c : Configuration) (host : List ℕ) → IsSound c → All IsTold (records_of c host)
all_told c host sound =
    All-weaker (IsShown c host) IsTold (λ p shown. shown_told c host sound p shown) (records_of c host) (all_shown c host)

-- ---- the law

-- 0 where two are the same, and else 1
abbrev pub change_of : Bool → ℕ
change_of same = if same then 0 else 1

none_same : (b : Bool) → change_of b ≡ 0 → b ≡ true
none_same true none = refl
none_same false none = absurd (omega arith)

one_differs : (b : Bool) → change_of b ≡ 1 → b ≡ false
one_differs true one = absurd (omega arith)
one_differs false one = refl

same_none : (b : Bool) → b ≡ true → change_of b ≡ 0
same_none b same = ap change_of same

differs_one : (b : Bool) → b ≡ false → change_of b ≡ 1
differs_one b differ = ap change_of differ

counts_bytes : (old new : Configuration) (host : List ℕ) → IsSound old → IsSound new → CountsBytes old new host
counts_bytes old new host one other =
    let ps = records_of old host in
    let qs = records_of new host in
    let same : Bool = same_records ps qs in
    let row = (tell ps qs (all_told old host one) (all_told new host other)).row in
    record {
      counted = (
        λ h. λ bytes. both_ways same (one_differs same h) (row.1 bytes),
        λ differ. differs_one same (false_from_ne_true same (λ h. differ (row.0 h))),
      );
      passed = (λ h. row.0 (none_same same h), λ bytes. same_none same (row.1 bytes));
    }

pub records_differ_with_their_parts : RecordsDifferWithTheirParts
records_differ_with_their_parts = record {
  sizes = λ c host sound. All-weaker IsTold (λ p. length (record_of p) ≡ 1024) (λ p told. length-told p told) (records_of c host) (all_told c host sound);
  told = λ c d host other one two. tell (records_of c host) (records_of d other) (all_told c host one) (all_told d other two);
  counts = counts_bytes;
}
