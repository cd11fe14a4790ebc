-- A part of a page, byte by byte, and what it becomes as the page goes on.
use Rattle.std.proofs.Common.{◌≡◌, ℕ, zero, suc, ◌+◌, ◌-◌, ◌<◌, ◌≤◌, List, [], ◌++◌, length, get_or, take, drop, replicate, refl, ap, sym, ◌∙◌, arith, inl, inr, length-append, length-take, length-drop}
use Rattle.std.proofs.lemmas.Bool.{cases_lt}
use Rattle.std.proofs.lemmas.List.{append-nil, drop_all, ext_get_or, get_or-append_right, get_or-drop, get_or-replicate, get_or-take, get_or_append_left, get_or_past, length-replicate}
use borrow.Rule.Slice.PartMut.{put_mid}
use Rattle.nvt_fields.specs.Window.{window}

pub length-window : (page : List ℕ) (offset n : ℕ) → length (window page offset n) ≡ n
length-window page offset zero = refl
length-window page offset (suc n) = ap suc (length-window page (suc offset) n)

pub get_or-window : (page : List ℕ) (offset n k : ℕ) → k < n → get_or (window page offset n) k 0 ≡ get_or page (offset + k) 0
get_or-window page offset zero k below = absurd (omega arith)
get_or-window page offset (suc n) zero below = ap (λ i. get_or page i 0) (omega arith)
get_or-window page offset (suc n) (suc k) below =
    get_or-window page (suc offset) n k (omega arith) ∙ ap (λ i. get_or page i 0) (omega arith)

-- bytes that are those of the page, each in its place
pub window_of : (out page : List ℕ) (offset n : ℕ) → length out ≡ n → ((k : ℕ) → k < n → get_or out k 0 ≡ get_or page (offset + k) 0) → out ≡ window page offset n
window_of out page offset n len each =
    ext_get_or 0 out (window page offset n) (len ∙ sym (length-window page offset n)) (λ k below.
    let within : k < n = omega arith in
    each k within ∙ sym (get_or-window page offset n k within))

-- behind a page are zeros
get_or-zeros : (n k : ℕ) → ◌≡◌ {A = ℕ} (get_or (replicate n 0) k 0) 0
get_or-zeros n k =
    elim (cases_lt k n) [
      | inl within ↦ get_or-replicate {A = ℕ} n k 0 0 within
      | inr past ↦ get_or_past {X = ℕ} (replicate n 0) k 0 (omega (arith, length-replicate {A = ℕ} n 0))
    ]

pub window_of_nothing : (offset n : ℕ) → replicate n 0 ≡ window [] offset n
window_of_nothing offset n = window_of (replicate n 0) [] offset n (length-replicate n 0) (λ k below. get_or-replicate n k 0 0 below)

-- zeros at the end of a page show nothing new
pub window-zeros : (page : List ℕ) (m offset n : ℕ) → window page offset n ≡ window (page ++ replicate m 0) offset n
window-zeros page m offset n =
    window_of (window page offset n) (page ++ replicate m 0) offset n (length-window page offset n) (λ k below.
    get_or-window page offset n k below ∙ elim (cases_lt (offset + k) (length page)) [
      | inl within ↦ sym (get_or_append_left page (replicate m 0) 0 (offset + k) within)
      | inr past ↦ get_or_past page (offset + k) 0 past ∙ sym (get_or-append_right page (replicate m 0) (length page) (offset + k) 0 refl past ∙ get_or-zeros m (offset + k - length page))
    ])

-- a byte of a page that goes on
get_or-before : (page bytes : List ℕ) (i : ℕ) → i < length page → get_or (page ++ bytes) i 0 ≡ get_or page i 0
get_or-before page bytes i within = get_or_append_left page bytes 0 i within

get_or-behind : (page bytes : List ℕ) (i j : ℕ) → length page ≤ i → i ≡ length page + j → get_or (page ++ bytes) i 0 ≡ get_or bytes j 0
get_or-behind page bytes i j past at =
    get_or-append_right page bytes (length page) i 0 refl past ∙ ap (λ k. get_or bytes k 0) (omega arith)

-- a byte behind a page that shows zero, where those that the page goes on with end before it
both_past : (page bytes : List ℕ) (i : ℕ) → length page + length bytes ≤ i → get_or page i 0 ≡ get_or (page ++ bytes) i 0
both_past page bytes i past =
    get_or_past page i 0 (omega arith) ∙ sym (get_or_past (page ++ bytes) i 0 (omega (arith, length-append page bytes)))

-- what is left of a list after a write of as many of the bytes as there is room for
get_or-written : (out bytes : List ℕ) (k : ℕ) → k < length out → k < length bytes → get_or (take (length out) bytes ++ drop (length bytes) out) k 0 ≡ get_or bytes k 0
get_or-written out bytes k room within =
    get_or_append_left (take (length out) bytes) (drop (length bytes) out) 0 k (omega (arith, length-take (length out) bytes))
    ∙ get_or-take (length out) bytes k 0 room

get_or-left : (out bytes : List ℕ) (k : ℕ) → k < length out → length bytes ≤ k → get_or (take (length out) bytes ++ drop (length bytes) out) k 0 ≡ get_or out k 0
get_or-left out bytes k room past =
    let len : length (take (length out) bytes) ≡ length bytes = omega (arith, length-take (length out) bytes) in
    get_or-append_right (take (length out) bytes) (drop (length bytes) out) (length bytes) k 0 len past
    ∙ get_or-drop (length bytes) out (k - length bytes) 0
    ∙ ap (λ i. get_or out i 0) (omega arith)

length-written : (out bytes : List ℕ) → length (take (length out) bytes ++ drop (length bytes) out) ≡ length out
length-written out bytes =
    omega (arith, length-append (take (length out) bytes) (drop (length bytes) out), length-take (length out) bytes, length-drop (length bytes) out)

-- the bytes end before the window begins
pub window_behind : (out page bytes : List ℕ) (offset n : ℕ) → length page + length bytes ≤ offset → out ≡ window page offset n → out ≡ window (page ++ bytes) offset n
window_behind out page bytes offset n past shown =
    shown ∙ window_of (window page offset n) (page ++ bytes) offset n (length-window page offset n) (λ k below.
    get_or-window page offset n k below ∙ both_past page bytes (offset + k) (omega arith))

-- they begin where it ends, or after it
pub window_in_front : (out page bytes : List ℕ) (offset n : ℕ) → offset + n ≤ length page → out ≡ window page offset n → out ≡ window (page ++ bytes) offset n
window_in_front out page bytes offset n before shown =
    shown ∙ window_of (window page offset n) (page ++ bytes) offset n (length-window page offset n) (λ k below.
    get_or-window page offset n k below ∙ sym (get_or-before page bytes (offset + k) (omega arith)))

-- they begin before it
pub window_over_rest : (out page bytes : List ℕ) (offset passed : ℕ) → offset ≡ length page + passed → passed < length bytes → out ≡ window page offset (length out) → take (length out) (drop passed bytes) ++ drop (length (drop passed bytes)) out ≡ window (page ++ bytes) offset (length out)
window_over_rest out page bytes offset passed at some shown =
    let rest : List ℕ = drop passed bytes in
    let len : length rest ≡ length bytes - passed = length-drop passed bytes in
    window_of (take (length out) rest ++ drop (length rest) out) (page ++ bytes) offset (length out) (length-written out rest) (λ k below.
    elim (cases_lt k (length rest)) [
      | inl within ↦
          get_or-written out rest k below within
          ∙ get_or-drop passed bytes k 0
          ∙ sym (get_or-behind page bytes (offset + k) (passed + k) (omega arith) (omega arith))
      | inr past ↦
          get_or-left out rest k below past
          ∙ ap (λ (x : List ℕ). get_or x k 0) shown
          ∙ get_or-window page offset (length out) k below
          ∙ both_past page bytes (offset + k) (omega arith)
    ])

-- they begin in it
pub window_from_start : (out page bytes : List ℕ) (offset start : ℕ) → length page ≡ offset + start → start < length out → out ≡ window page offset (length out) → take start out ++ (take (length (drop start out)) bytes ++ drop (length bytes) (drop start out)) ≡ window (page ++ bytes) offset (length out)
window_from_start out page bytes offset start at some shown =
    let rest : List ℕ = drop start out in
    let len : length rest ≡ length out - start = length-drop start out in
    let written : List ℕ = take (length rest) bytes ++ drop (length bytes) rest in
    let fore : length (take start out) ≡ start = omega (arith, length-take start out) in
    let whole : length (take start out ++ written) ≡ length out = omega (arith, length-append (take start out) written, length-written rest bytes) in
    let shows : (k : ℕ) → k < length out → get_or out k 0 ≡ get_or page (offset + k) 0 =
    λ k below. ap (λ (x : List ℕ). get_or x k 0) shown ∙ get_or-window page offset (length out) k below in
    window_of (take start out ++ written) (page ++ bytes) offset (length out) whole (λ k below.
    elim (cases_lt k start) [
      | inl before ↦
          get_or_append_left (take start out) written 0 k (omega arith)
          ∙ get_or-take start out k 0 before
          ∙ shows k below
          ∙ sym (get_or-before page bytes (offset + k) (omega arith))
      | inr behind ↦
          get_or-append_right (take start out) written start k 0 fore behind
          ∙ elim (cases_lt (k - start) (length bytes)) [
            | inl within ↦
                get_or-written rest bytes (k - start) (omega arith) within
                ∙ sym (get_or-behind page bytes (offset + k) (k - start) (omega arith) (omega arith))
            | inr past ↦
                get_or-left rest bytes (k - start) (omega arith) past
                ∙ get_or-drop start out (k - start) 0
                ∙ ap (λ i. get_or out i 0) (omega arith)
                ∙ shows k below
                ∙ both_past page bytes (offset + k) (omega arith)
          ]
    ])

-- what a slice holds after its end was written
pub put_at_end : (xs ys : List ℕ) (a : ℕ) → put_mid a (length xs - a) xs ys ≡ take a xs ++ ys
put_at_end xs ys a =
    ap (λ (rest : List ℕ). take a xs ++ (ys ++ rest)) (drop_all (length xs - a) (drop a xs) (omega (arith, length-drop a xs)))
    ∙ ap (λ (rest : List ℕ). take a xs ++ rest) (append-nil ys)
