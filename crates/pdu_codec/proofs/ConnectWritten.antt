-- The data of a Connect, written field by field over zeros.
use Rattle.std.proofs.Common.{◌≡◌, ℕ, ◌+◌, ◌-◌, ◌≤◌, List, [], ◌++◌, length, replicate, ap, ◌∙◌, sym, refl, append_assoc, length-append, arith}
use Rattle.std.proofs.lemmas.List.{take_at, drop_at, replicate-append-replicate, length-replicate}
use Rattle.nvt_fields.specs.Field.{padded}
use borrow.Rule.Slice.PartMut.{put_mid}

-- a part is written over
put_part : (front mid back ys : List ℕ) (a k : ℕ) → length front ≡ a → length mid ≡ k → put_mid a k (front ++ (mid ++ back)) ys ≡ front ++ (ys ++ back)
put_part front mid back ys a k before of_part =
    rw (take_at front (mid ++ back) a before, drop_at front (mid ++ back) a before, drop_at mid back k of_part) refl

fields_written : (z₁ z₂ z₃ z₄ z₅ z₆ hostid cntlid sub host : List ℕ)
    → length z₁ ≡ 16 → length z₂ ≡ 2 → length z₃ ≡ 238 → length z₄ ≡ 256 → length z₅ ≡ 256
    → length hostid ≡ 16 → length cntlid ≡ 2 → length sub ≡ 256
    → put_mid 512 256 (put_mid 256 256 (put_mid 16 2 (put_mid 0 16 (z₁ ++ (z₂ ++ (z₃ ++ (z₄ ++ (z₅ ++ z₆))))) hostid) cntlid) sub) host
    ≡ hostid ++ cntlid ++ z₃ ++ sub ++ host ++ z₆
fields_written z₁ z₂ z₃ z₄ z₅ z₆ hostid cntlid sub host l₁ l₂ l₃ l₄ l₅ l_hostid l_cntlid l_sub =
    let ids = hostid ++ cntlid ++ z₃ in
    let l_ids : length ids ≡ 256 =
    length-append (hostid ++ cntlid) z₃ ∙ ap (λ (n : ℕ). n + length z₃) (length-append hostid cntlid) ∙ omega arith in
    let l_names : length (ids ++ sub) ≡ 512 = length-append ids sub ∙ omega arith in
    let e₁ = put_part [] z₁ (z₂ ++ (z₃ ++ (z₄ ++ (z₅ ++ z₆)))) hostid 0 16 refl l₁ in
    let e₂ = put_part hostid z₂ (z₃ ++ (z₄ ++ (z₅ ++ z₆))) cntlid 16 2 l_hostid l₂ in
    let a₂ = sym (append_assoc hostid cntlid (z₃ ++ (z₄ ++ (z₅ ++ z₆)))) ∙ sym (append_assoc (hostid ++ cntlid) z₃ (z₄ ++ (z₅ ++ z₆))) in
    let e₃ = put_part ids z₄ (z₅ ++ z₆) sub 256 256 l_ids l₄ in
    let a₃ = sym (append_assoc ids sub (z₅ ++ z₆)) in
    let e₄ = put_part (ids ++ sub) z₅ z₆ host 512 256 l_names l₅ in
    let a₄ = sym (append_assoc (ids ++ sub) host z₆) in
    ap (λ (xs : List ℕ). put_mid 512 256 (put_mid 256 256 (put_mid 16 2 xs cntlid) sub) host) e₁
    ∙ ap (λ (xs : List ℕ). put_mid 512 256 (put_mid 256 256 xs sub) host) (e₂ ∙ a₂)
    ∙ ap (λ (xs : List ℕ). put_mid 512 256 xs host) (e₃ ∙ a₃) ∙ e₄ ∙ a₄

-- so many zeros, in two parts
zeros_split : (m n : ℕ) → ◌≡◌ {A = List ℕ} (replicate (m + n) 0) (replicate m 0 ++ replicate n 0)
zeros_split m n = sym (replicate-append-replicate m n 0)

pub length-padded : (n : ℕ) (text : List ℕ) → length text ≤ n → length (padded n 0 text) ≡ n
length-padded n text short =
    length-append text (replicate (n - length text) 0) ∙ ap (λ (k : ℕ). length text + k) (length-replicate (n - length text) 0) ∙ omega arith

connect_written : (n : ℕ) (bytes hostid cntlid sub host : List ℕ) → bytes ≡ replicate n 0 → n ≡ 1024 → length hostid ≡ 16 → length cntlid ≡ 2 → length sub ≡ 256
    → put_mid 512 256 (put_mid 256 256 (put_mid 16 2 (put_mid 0 16 bytes hostid) cntlid) sub) host
    ≡ hostid ++ cntlid ++ replicate 238 0 ++ sub ++ host ++ replicate 256 0
connect_written n bytes hostid cntlid sub host zeros whole l_hostid l_cntlid l_sub =
    let split : bytes ≡ replicate 16 0 ++ (replicate 2 0 ++ (replicate 238 0 ++ (replicate 256 0 ++ (replicate 256 0 ++ replicate 256 0)))) =
    zeros ∙ ap (λ (k : ℕ). replicate k 0) whole ∙ zeros_split 16 1008
    ∙ ap (λ (xs : List ℕ). replicate 16 0 ++ xs) (zeros_split 2 1006
    ∙ ap (λ (xs : List ℕ). replicate 2 0 ++ xs) (zeros_split 238 768
    ∙ ap (λ (xs : List ℕ). replicate 238 0 ++ xs) (zeros_split 256 512
    ∙ ap (λ (xs : List ℕ). replicate 256 0 ++ xs) (zeros_split 256 256)))) in
    ap (λ (xs : List ℕ). put_mid 512 256 (put_mid 256 256 (put_mid 16 2 (put_mid 0 16 xs hostid) cntlid) sub) host) split
    ∙ fields_written (replicate 16 0) (replicate 2 0) (replicate 238 0) (replicate 256 0) (replicate 256 0) (replicate 256 0) hostid cntlid sub host
    (length-replicate {A = ℕ} 16 0) (length-replicate {A = ℕ} 2 0) (length-replicate {A = ℕ} 238 0) (length-replicate {A = ℕ} 256 0) (length-replicate {A = ℕ} 256 0) l_hostid l_cntlid l_sub

-- a field of 256 bytes that holds a text with zeros after it
pub field_of_256 : (m : ℕ) (field text : List ℕ) → field ≡ padded m 0 text → length field ≡ 256 → field ≡ padded 256 0 text
field_of_256 m field text e whole =
    let len : length text + (m - length text) ≡ 256 =
    ap (λ (k : ℕ). length text + k) (sym (length-replicate {A = ℕ} (m - length text) 0)) ∙ sym (length-append text (replicate (m - length text) 0)) ∙ sym (ap length e) ∙ whole in
    let zeros : m - length text ≡ 256 - length text = omega arith in
    e ∙ ap (λ (k : ℕ). text ++ replicate k 0) zeros

-- what stands there once each field is written
pub written_fields : (n : ℕ) (bytes h i s t hostid cntlid sub host : List ℕ) → bytes ≡ replicate n 0 → n ≡ 1024
    → h ≡ hostid → i ≡ cntlid → s ≡ padded 256 0 sub → t ≡ padded 256 0 host
    → length hostid ≡ 16 → length cntlid ≡ 2 → length sub ≤ 256
    → put_mid 512 256 (put_mid 256 256 (put_mid 16 2 (put_mid 0 16 bytes h) i) s) t
    ≡ hostid ++ cntlid ++ replicate 238 0 ++ padded 256 0 sub ++ padded 256 0 host ++ replicate 256 0
written_fields n bytes h i s t hostid cntlid sub host zeros whole e_h e_i e_s e_t l_hostid l_cntlid short =
    ap (λ (xs : List ℕ). put_mid 512 256 (put_mid 256 256 (put_mid 16 2 (put_mid 0 16 bytes xs) i) s) t) e_h
    ∙ ap (λ (xs : List ℕ). put_mid 512 256 (put_mid 256 256 (put_mid 16 2 (put_mid 0 16 bytes hostid) xs) s) t) e_i
    ∙ ap (λ (xs : List ℕ). put_mid 512 256 (put_mid 256 256 (put_mid 16 2 (put_mid 0 16 bytes hostid) cntlid) xs) t) e_s
    ∙ ap (λ (xs : List ℕ). put_mid 512 256 (put_mid 256 256 (put_mid 16 2 (put_mid 0 16 bytes hostid) cntlid) (padded 256 0 sub)) xs) e_t
    ∙ connect_written n bytes hostid cntlid (padded 256 0 sub) (padded 256 0 host) zeros whole l_hostid l_cntlid (length-padded 256 sub short)
