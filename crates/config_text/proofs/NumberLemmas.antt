-- Numbers as lines spell them.
use Rattle.std.proofs.Common.{◌≡◌, ℕ, ◌+◌, ◌-◌, ◌*◌, ◌^◌, ◌<◌, ◌≤◌, ◌==◌, Bool, true, false, List, zero, suc, lit<, lit≤, length, get_or, take, refl, sym, ap, subst, ◌∙◌, arith, Option, Some, None, is_some, IfSome, IfNone}
use Rattle.std.specs.Char.{digit_value, is_ascii_digit}
use Rattle.std.specs.Fmt.{decimal}
use Rattle.std.specs.Int.{IsInRange}
use Rattle.std.specs.Str.{all_ascii_digits}
use Rattle.std.specs.Str.Parse.{AllDigits, digits_value}
use Rattle.std.proofs.lemmas.Grind.{common_steps}
use Rattle.std.proofs.lemmas.Int.Digits.{digits_more, digits_value_more}
use Rattle.std.proofs.lemmas.Str.{digit_value_digit}
use Rattle.std.proofs.lemmas.Str.Parse.{IsNumeralModel, digit_at, digits_value-take-le, numerals_by_value, tells_all_ascii_digits}
use Rattle.std.proofs.lemmas.Fmt.{decimal-digits_value, decimal_digit, decimal_injective, decimal_is_IsNumeral, decimal_nonempty, digits_decimal, digits_value-decimal, first_decimal}
use Rattle.config_text.specs.Number.{IsNumber, has_leading_zero, is_number}

pub own : IsNumeralModel (λ ds. all_ascii_digits ds ≡ true) (digits_value 10)
own = numerals_by_value _ tells_all_ascii_digits

-- a word without digits alone spells no number, and nor does one of 2^64 or more
pub not_number : (word : List ℕ) → (all_ascii_digits word ≡ true → 2 ^ 64 ≤ digits_value 10 word) → is_number word ≡ false
not_number word h = by_digits (all_ascii_digits word) refl where
  by_digits : (v : Bool) → all_ascii_digits word ≡ v → is_number word ≡ false
  by_digits true e = let large = h e in grind (arith, common_steps)
  by_digits false e = grind (arith, common_steps)

-- what passes the tests is spelled so
pub IsNumber-from_digits : (word : List ℕ) → 0 < length word → has_leading_zero word ≡ false → AllDigits 10 word → digits_value 10 word < 2 ^ 64 → IsNumber word (digits_value 10 word)
IsNumber-from_digits word nonempty leads digits small =
    let first : get_or word 0 0 ≡ 48 → length word ≡ 1 = λ e. grind (arith, common_steps) in
    (sym (decimal-digits_value own word (own.from word digits) nonempty first small), small)

no_leading_zero : (n : ℕ) → n < 2 ^ 64 → has_leading_zero (decimal n) ≡ false
no_leading_zero zero h = ap has_leading_zero (decimal_digit 0 (lit< tt))
no_leading_zero (suc n) h =
    let first : 48 < get_or (decimal (suc n)) 0 0 = first_decimal (suc n) (omega arith) h in
    grind (arith, common_steps)

-- a number as it is spelled passes the test
pub is_number-decimal : (n : ℕ) → n < 2 ^ 64 → is_number (decimal n) ≡ true
is_number-decimal n h =
    let value : digits_value 10 (decimal n) ≡ n = digits_value-decimal own n h in
    let digits : all_ascii_digits (decimal n) ≡ true = digits_decimal own n h in
    let nonempty : 0 < length (decimal n) = decimal_nonempty n h in
    let leads : has_leading_zero (decimal n) ≡ false = no_leading_zero n h in
    grind (arith, common_steps)

pub digit_range : (b : ℕ) → is_ascii_digit b ≡ true → IsInRange 48 57 b
digit_range b h = grind (arith, common_steps)

-- the number of the digits so far is at least what it has come to
pub too_large : (word : List ℕ) (i n : ℕ) → i < length word → AllDigits 10 word → n ≡ digits_value 10 (take i word) → 2 ^ 64 ≤ n * 10 + (get_or word i 0 - 48) → 2 ^ 64 ≤ digits_value 10 word
too_large word i n lt all e large =
    let range : IsInRange 48 57 (get_or word i 0) = digit_at word i all lt in
    let digit : digit_value (get_or word i 0) + 48 ≡ get_or word i 0 = digit_value_digit _ range in
    let step : digits_value 10 (take (i + 1) word) ≡ digits_value 10 (take i word) * 10 + digit_value (get_or word i 0) = digits_value_more 10 word i lt in
    let le : digits_value 10 (take (i + 1) word) ≤ digits_value 10 word = digits_value-take-le 10 word (i + 1) (lit≤ tt) in
    omega arith

pub one_more : (word : List ℕ) (i n m : ℕ) → i < length word → is_ascii_digit (get_or word i 0) ≡ true → AllDigits 10 (take i word) → n ≡ digits_value 10 (take i word) → m ≡ n * 10 + (get_or word i 0 - 48)
    → AllDigits 10 (take (i + 1) word) × (m ≡ digits_value 10 (take (i + 1) word))
one_more word i n m lt is all e f =
    let range : IsInRange 48 57 (get_or word i 0) = digit_range _ is in
    let digit : digit_value (get_or word i 0) + 48 ≡ get_or word i 0 = digit_value_digit _ range in
    let step : digits_value 10 (take (i + 1) word) ≡ digits_value 10 (take i word) * 10 + digit_value (get_or word i 0) = digits_value_more 10 word i lt in
    (digits_more 10 word i lt all (omega arith), omega arith)

pub variant_of : (word : List ℕ) (r : Option ℕ) → 0 < length word → has_leading_zero word ≡ false → IfSome r (λ n. AllDigits 10 word × (n ≡ digits_value 10 word))
    → IfSome r (λ n. n < 2 ^ 64) → IfNone r (AllDigits 10 word → 2 ^ 64 ≤ digits_value 10 word) → is_some r ≡ is_number word
variant_of word None nonempty leads some fits none = sym (not_number word (λ e. none (own.to word e)))
variant_of word (Some n) nonempty leads some fits none =
    let digits : all_ascii_digits word ≡ true = own.from word some.0 in
    let value : n ≡ digits_value 10 word = some.1 in
    let small : n < 2 ^ 64 = fits in
    grind (arith, common_steps)

pub some_of : (word : List ℕ) (r : Option ℕ) → 0 < length word → has_leading_zero word ≡ false → IfSome r (λ n. AllDigits 10 word × (n ≡ digits_value 10 word))
    → IfSome r (λ n. n < 2 ^ 64) → IfSome r (IsNumber word)
some_of word None nonempty leads some fits = tt
some_of word (Some n) nonempty leads some fits =
    let value : n ≡ digits_value 10 word = some.1 in
    let small : n < 2 ^ 64 = fits in
    let spelled = IsNumber-from_digits word nonempty leads some.0 (omega arith) in
    (spelled.0 ∙ ap decimal (sym value), small)

-- a word that fails the test spells no number
pub no_number : (word : List ℕ) (n : ℕ) → is_number word ≡ false → IsNumber word n → ⊥
no_number word n h spelled =
    let passes : is_number word ≡ true = ap is_number spelled.0 ∙ is_number-decimal n spelled.1 in
    cc

pub none_of : (word : List ℕ) (r : Option ℕ) → is_some r ≡ is_number word → IfNone r ((n : ℕ) → ¬ IsNumber word n)
none_of word None e = λ n h. no_number word n (sym e) h
none_of word (Some n) e = tt

pub one_number : (word : List ℕ) (m n : ℕ) → IsNumber word m → IsNumber word n → m ≡ n
one_number word m n h k = decimal_injective m n h.1 k.1 (sym h.0 ∙ k.0)

-- no digit is a space
pub no_space : (word : List ℕ) (n k : ℕ) → IsNumber word n → k < length word → (get_or word k 0 == 32) ≡ false
no_space word n k h lt =
    let all : AllDigits 10 word = subst (AllDigits 10) (sym h.0) ((decimal_is_IsNumeral n h.1).0.1) in
    let range : IsInRange 48 57 (get_or word k 0) = digit_at word k all lt in
    grind (arith, common_steps)
