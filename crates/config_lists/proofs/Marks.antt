-- The bits of identifiers, in words of 64.
use Rattle.std.proofs.Common.{◌≡◌, ◌≢◌, ℕ, ◌+◌, ◌-◌, ◌*◌, ◌/◌, ◌%◌, ◌^◌, ◌<◌, ◌≤◌, ◌==◌, ◌||◌, Bool, true, false, List, [], ◌∷◌, get_or, length, pow-add, replicate, set, ap, sym, ◌∙◌, arith, inl, inr}
use Rattle.std.proofs.Math.Nat.{div-div-eq-div-mul, div-lt_iff_lt-mul}
use Rattle.std.proofs.lemmas.Bool.{cases_eq, cases_lt}
use Rattle.std.proofs.lemmas.Bool.Decides.{nat_tests}
use Rattle.std.proofs.lemmas.List.{get_or-replicate, get_or-set_other, get_or-set_same, get_or_past, length-replicate}
use Rattle.std.proofs.lemmas.Nat.{pow_pos}
use Rattle.std.proofs.lemmas.Nat.Bits.{bit_at-trailing_zeros, bit_at-zero, bit_at_above, bit_at_set_other, bit_at_set_same}
use Rattle.std.specs.Int.{bit_at, trailing_zeros, w64}
use Rattle.std.specs.Int.RustNames.{bit_or}
use Rattle.config_lists.specs.Namespace.{nsid_max}
use Rattle.config_lists.specs.NsidSet.{is_marked, with_nsid}
use Rattle.config_lists.specs.Numbered.{nsids_from, nsids_where}
use Rattle.config_lists.proofs.Sets.{first_from, no_nsids, none_more, nsids_alike, one_more, passed_from}

-- words of zeros
pub none_marked : (n : ℕ) → nsids_where (is_marked (replicate {A = ℕ} n 0)) ≡ []
none_marked n = no_nsids (is_marked (replicate n 0)) (λ k above below. clear ((k - 1) / 64) ((k - 1) % 64)) where
  zero_at : (i : ℕ) → ◌≡◌ {A = ℕ} (get_or (replicate n 0) i 0) 0
  zero_at i = elim (cases_lt i n) [
    | inl within ↦ get_or-replicate n i 0 0 within
    | inr past ↦ get_or_past (replicate n 0) i 0 (omega (arith, past, length-replicate {A = ℕ} n 0))
  ]

  clear : (i j : ℕ) → ◌≡◌ {A = Bool} (bit_at (get_or (replicate n 0) i 0) j == 1) false
  clear i j = ap (λ w. bit_at w j == 1) (zero_at i) ∙ ap (λ b. b == 1) (bit_at-zero j)

-- the word with the bit of an identifier
abbrev pub with_bit : List ℕ → ℕ → ℕ
with_bit words bit = bit_or (get_or words (bit / 64) 0) (1 * 2 ^ (bit % 64) % 2 ^ 64)

-- the bit of an identifier is set
marked_put : (words : List ℕ) (nsid k : ℕ) → 1 ≤ nsid → 1 ≤ k → (nsid - 1) / 64 < length words
    → is_marked (set words ((nsid - 1) / 64) (with_bit words (nsid - 1))) k ≡ ((k == nsid) || is_marked words k)
marked_put words nsid k above first within = elim (cases_eq ((k - 1) / 64) ((nsid - 1) / 64)) [
  | inl same ↦
      let word : get_or (set words ((nsid - 1) / 64) (with_bit words (nsid - 1))) ((k - 1) / 64) 0 ≡ with_bit words (nsid - 1) =
      ap (λ i. get_or (set words ((nsid - 1) / 64) (with_bit words (nsid - 1))) i 0) same ∙ get_or-set_same words ((nsid - 1) / 64) (with_bit words (nsid - 1)) 0 within in
      let narrow : (nsid - 1) % 64 < 64 = omega arith in
      elim (cases_eq k nsid) [
        | inl is ↦
            let here : (k == nsid) ≡ true = grind (arith, nat_tests, is) in
            let bit : bit_at (with_bit words (nsid - 1)) ((k - 1) % 64) ≡ 1 =
            ap (λ n. bit_at (with_bit words (nsid - 1)) ((n - 1) % 64)) is ∙ bit_at_set_same w64 (get_or words ((nsid - 1) / 64) 0) ((nsid - 1) % 64) narrow in
            ap (λ w. bit_at w ((k - 1) % 64) == 1) word ∙ ap (λ b. b == 1) bit ∙ sym (ap (λ b. b || is_marked words k) here)
        | inr apart ↦
            let there : (k == nsid) ≡ false = grind (arith, nat_tests, apart) in
            let other : (k - 1) % 64 ≢ (nsid - 1) % 64 = λ equal. apart (omega (arith, equal, same, above, first)) in
            let bit : bit_at (with_bit words (nsid - 1)) ((k - 1) % 64) ≡ bit_at (get_or words ((k - 1) / 64) 0) ((k - 1) % 64) =
            bit_at_set_other w64 (get_or words ((nsid - 1) / 64) 0) ((nsid - 1) % 64) narrow ((k - 1) % 64) other ∙ ap (λ i. bit_at (get_or words i 0) ((k - 1) % 64)) (sym same) in
            ap (λ w. bit_at w ((k - 1) % 64) == 1) word ∙ ap (λ b. b == 1) bit ∙ sym (ap (λ b. b || is_marked words k) there)
      ]
  | inr other ↦
      let apart : (k == nsid) ≡ false = grind (arith, nat_tests, not_same k nsid other) in
      ap (λ w. bit_at w ((k - 1) % 64) == 1) (get_or-set_other words ((nsid - 1) / 64) ((k - 1) / 64) (with_bit words (nsid - 1)) 0 other)
      ∙ sym (ap (λ b. b || is_marked words k) apart)
] where
  not_same : (k nsid : ℕ) → (k - 1) / 64 ≢ (nsid - 1) / 64 → k ≢ nsid
  not_same k nsid other is = other (ap (λ n. (n - 1) / 64) is)

pub set_put : (words : List ℕ) (nsid : ℕ) → 1 ≤ nsid → (nsid - 1) / 64 < length words
    → nsids_where (is_marked (set words ((nsid - 1) / 64) (with_bit words (nsid - 1)))) ≡ with_nsid nsid (nsids_where (is_marked words))
set_put words nsid above within =
    nsids_alike (is_marked (set words ((nsid - 1) / 64) (with_bit words (nsid - 1)))) (λ n. (n == nsid) || is_marked words n) (λ k first last. marked_put words nsid k above first within)
    ∙ sym (one_more (is_marked words) nsid)

-- an identifier that has no bit
pub set_stays : (words : List ℕ) (nsid : ℕ) → ((k : ℕ) → 1 ≤ k → k ≤ nsid_max → k ≢ nsid) → with_nsid nsid (nsids_where (is_marked words)) ≡ nsids_where (is_marked words)
set_stays words nsid outside =
    none_more (is_marked words) nsid (λ k first last. let apart = outside k first last in grind (arith, nat_tests, apart))

-- ---- the bits of a word from one on

-- a bit of what is left of a word
left_bit : (w a j : ℕ) → bit_at (w / 2 ^ a) j ≡ bit_at w (a + j)
left_bit w a j = ap (λ n. n % 2) (div-div-eq-div-mul w (2 ^ a) (2 ^ j) ∙ ap (λ k. w / k) (sym (pow-add 2 a j)))

-- of an identifier from one on, whose bit is in the same word
marked_left : (words : List ℕ) (next k : ℕ) → 1 ≤ next → next ≤ k → (k - 1) / 64 ≡ (next - 1) / 64
    → is_marked words k ≡ (bit_at (get_or words ((next - 1) / 64) 0 / 2 ^ ((next - 1) % 64)) (k - next) == 1)
marked_left words next k above behind same =
    let place : (next - 1) % 64 + (k - next) ≡ (k - 1) % 64 = omega (arith, above, behind, same) in
    ap (λ i. bit_at (get_or words i 0) ((k - 1) % 64) == 1) same
    ∙ sym (ap (λ b. b == 1) (left_bit (get_or words ((next - 1) / 64) 0) ((next - 1) % 64) (k - next) ∙ ap (bit_at (get_or words ((next - 1) / 64) 0)) place))

-- none is left
pub nothing_left : (words : List ℕ) (next : ℕ) → 1 ≤ next → next ≤ nsid_max → get_or words ((next - 1) / 64) 0 / 2 ^ ((next - 1) % 64) ≡ 0
    → nsids_from next (is_marked words) ≡ nsids_from (((next - 1) / 64 + 1) * 64 + 1) (is_marked words)
nothing_left words next above below none =
    passed_from (is_marked words) next (((next - 1) / 64 + 1) * 64 + 1) (omega (arith, above)) (omega (arith, below)) (λ k behind ahead.
    marked_left words next k above behind (omega (arith, behind, ahead, above))
    ∙ ap (λ w. bit_at w (k - next) == 1) none ∙ ap (λ b. b == 1) (bit_at-zero (k - next)))

-- what is left of a word is short
pub left_is_short : (w a : ℕ) → w < 2 ^ 64 → a ≤ 64 → w / 2 ^ a < 2 ^ (64 - a)
left_is_short w a small within =
    let whole : 64 - a + a ≡ 64 = omega (arith, within) in
    let parts : 2 ^ (64 - a) * 2 ^ a ≡ 2 ^ 64 = sym (pow-add 2 (64 - a) a) ∙ ap (λ k. 2 ^ k) whole in
    let all : w < 2 ^ (64 - a) * 2 ^ a = rw parts small in
    (div-lt_iff_lt-mul {k = 2 ^ a} {x = w} {y = 2 ^ (64 - a)} (pow_pos a)).1 all

-- the lowest bit is that of the next identifier
pub record IsNext (words : List ℕ) (next nsid : ℕ) : Type 0 where
  pub most : nsid ≤ nsid_max
  pub steps : nsids_from next (is_marked words) ≡ nsid ∷ nsids_from (nsid + 1) (is_marked words)

is_within : (left most zeros : ℕ) → left < 2 ^ most → bit_at left zeros ≡ 1 → zeros < most
is_within left most zeros short found = elim (cases_lt zeros most) [
  | inl below ↦ below
  | inr past ↦ absurd (omega (arith, found, bit_at_above left most zeros short past))
]

pub lowest_left : (words : List ℕ) (next left : ℕ) → 1 ≤ next → next ≤ nsid_max → left ≡ get_or words ((next - 1) / 64) 0 / 2 ^ ((next - 1) % 64)
    → left < 2 ^ (64 - (next - 1) % 64) → left < 2 ^ 64 → 0 < left → IsNext words next (next + trailing_zeros w64 left)
lowest_left words next left above below is short fits some =
    let bits = bit_at-trailing_zeros w64 left some fits in
    by_zeros (trailing_zeros w64 left) bits.1 bits.2 where
      bit_of : (k : ℕ) → next ≤ k → (k - 1) / 64 ≡ (next - 1) / 64 → is_marked words k ≡ (bit_at left (k - next) == 1)
      bit_of k behind same = marked_left words next k above behind same ∙ ap (λ v. bit_at v (k - next) == 1) (sym is)

      by_zeros : (zeros : ℕ) → bit_at left zeros ≡ 1 → ((i : ℕ) → i < zeros → bit_at left i ≡ 0) → IsNext words next (next + zeros)
      by_zeros zeros found none =
          let within : zeros < 64 - (next - 1) % 64 = is_within left (64 - (next - 1) % 64) zeros short found in
          let most : next + zeros ≤ nsid_max = omega (arith, within, above, below) in
          let own : next + zeros - next ≡ zeros = omega arith in
          record {
            most = most;
            steps = first_from (is_marked words) next (next + zeros) (omega arith) most
                (bit_of (next + zeros) (omega arith) (omega (arith, within, above)) ∙ ap (λ k. bit_at left k == 1) own ∙ ap (λ b. b == 1) found)
                (λ k behind ahead. bit_of k behind (omega (arith, within, above, behind, ahead)) ∙ ap (λ b. b == 1) (none (k - next) (omega (arith, ahead, behind))));
          }
