-- Words: a byte at least, and no space.
use Rattle.std.proofs.Common.{◌≡◌, ℕ, ◌<◌, ◌==◌, Bool, true, false, not, nat_lt, nat_le, nat_eq, ◌&&◌, if◌then◌else◌, is_none, Some, None, List, length, get_or, All, codes, refl, arith}
use Rattle.std.specs.Char.{is_ascii_graphic}
use Rattle.std.specs.List.{list_all, starts_with}
use Rattle.std.proofs.lemmas.Bool.{both_ways}
use Rattle.std.proofs.lemmas.Grind.{common_steps}
use Rattle.std.proofs.lemmas.List.Folds.{list_all_at}
use Rattle.nvt_fields.specs.Name.{is_name}
use Rattle.nvt_fields.specs.declared.name.NqnFault.TheVariants.{TooLong, BadNqn}
use Rattle.config_text.specs.Word.{is_name_word, is_text_word}

pub record IsWord (word : List ℕ) : Type 0 where
  pub nonempty : 0 < length word
  pub no_space : All (λ b. (b == 32) ≡ false) word

abbrev pub is_plain : List ℕ → Bool
is_plain word = nat_lt 0 (length word) && list_all (λ b. not (b == 32)) word

both_true : (a b : Bool) → a && b ≡ true → (a ≡ true) × (b ≡ true)
both_true true b is = (refl, is)
both_true false b is = cc

-- what a test says of each byte
by_byte : (p : ℕ → Bool) (word : List ℕ) → list_all p word ≡ true → ((b : ℕ) → p b ≡ true → (b == 32) ≡ false) → All (λ b. (b == 32) ≡ false) word
by_byte p word all none k d lt = by_test (p (get_or word k d)) refl where
  by_test : (v : Bool) → p (get_or word k d) ≡ v → (get_or word k d == 32) ≡ false
  by_test true is = none (get_or word k d) is
  by_test false is = absurd (both_ways (list_all p word) (list_all_at p word k d lt is) all)

not_true : (b : Bool) → not b ≡ true → b ≡ false
not_true true is = cc
not_true false is = refl

pub plain_word : (word : List ℕ) → is_plain word ≡ true → IsWord word
plain_word word plain =
    let both = both_true (nat_lt 0 (length word)) (list_all (λ b. not (b == 32)) word) plain in
    let some : nat_lt 0 (length word) ≡ true = both.0 in
    record { nonempty = grind (arith, common_steps); no_space = by_byte (λ b. not (b == 32)) word both.1 (λ b. not_true (b == 32)) }

graphic : (b : ℕ) → is_ascii_graphic b ≡ true → (b == 32) ≡ false
graphic b is = grind (arith, common_steps)

pub text_is_word : (word : List ℕ) → is_text_word word ≡ true → IsWord word
text_is_word word is =
    let both = both_true (nat_lt 0 (length word)) (list_all is_ascii_graphic word) is in
    let some : nat_lt 0 (length word) ≡ true = both.0 in
    record { nonempty = grind (arith, common_steps); no_space = by_byte is_ascii_graphic word both.1 graphic }

name_tests : (long named : Bool) → is_none (if long then Some TooLong else if named then None else Some BadNqn) ≡ true → named ≡ true
name_tests true named is = cc
name_tests false true is = refl
name_tests false false is = cc

pub name_is_word : (word : List ℕ) → is_name_word word ≡ true → IsWord word
name_is_word word is =
    let named = name_tests (nat_lt 223 (length word)) (is_name word) is in
    let both = both_true (nat_le 5 (length word)) (starts_with nat_eq word (codes "nqn.") && list_all is_ascii_graphic word) named in
    let bytes = both_true (starts_with nat_eq word (codes "nqn.")) (list_all is_ascii_graphic word) both.1 in
    let some : nat_le 5 (length word) ≡ true = both.0 in
    record { nonempty = grind (arith, common_steps); no_space = by_byte is_ascii_graphic word bytes.1 graphic }
