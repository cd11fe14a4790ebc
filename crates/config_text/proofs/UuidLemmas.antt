-- The one text of a UUID.
use Rattle.std.proofs.Common.{◌≡◌, ℕ, ◌<◌, ◌==◌, Bool, true, false, if◌then◌else◌, List, [], length, All, Option, Some, None, unwrap_or, inl, refl, sym, ap, ◌∙◌, arith}
use Rattle.std.specs.Option.{option_map_or}
use Rattle.std.specs.Str.{bytes_eq}
use Rattle.std.proofs.lemmas.Bool.Decides.{nat_tests}
use Rattle.std.proofs.lemmas.Slice.Eq.{bytes_eq-Decides}
use Rattle.uuid.specs.Text.{digit_place, hex_digit, is_hyphen_place, lower, nibble, parsed}
use Rattle.uuid.proofs.RoundTrips.{parses_hyphenated}
use Rattle.uuid.proofs.TextLemmas.{by_index_at, by_index_length}
use Rattle.config_text.specs.Word.{is_uuid_word, uuid_word}
use Rattle.config_text.proofs.PlainWords.{IsWord}

-- what is not parsed is no such text
pub unparsed : (word : List ℕ) → ((x : List ℕ) × (parsed word ≡ Some x) → ⊥) → is_uuid_word word ≡ false
unparsed word none = by_parsed (parsed word) refl where
  by_parsed : (o : Option (List ℕ)) → parsed word ≡ o → is_uuid_word word ≡ false
  by_parsed None is = rw is refl
  by_parsed (Some x) is = absurd (none (x, is))

text_parses : (bytes : List ℕ) → (length bytes ≡ 16) × All (λ b. b < 256) bytes → parsed (uuid_word bytes) ≡ Some bytes
text_parses bytes said = sym (parses_hyphenated lower bytes (inl refl) said.0 said.1)

-- the text of a UUID says it
pub uuid_back : (bytes : List ℕ) → (length bytes ≡ 16) × All (λ b. b < 256) bytes → unwrap_or (parsed (uuid_word bytes)) [] ≡ bytes
uuid_back bytes said = ap (λ (o : Option (List ℕ)). unwrap_or o []) (text_parses bytes said)

pub is_uuid_word-uuid_word : (bytes : List ℕ) → (length bytes ≡ 16) × All (λ b. b < 256) bytes → is_uuid_word (uuid_word bytes) ≡ true
is_uuid_word-uuid_word bytes said =
    ap (λ (o : Option (List ℕ)). option_map_or (λ uuid. bytes_eq (uuid_word uuid) (uuid_word bytes)) o false) (text_parses bytes said)
    ∙ (bytes_eq-Decides (uuid_word bytes) (uuid_word bytes)).1 refl

digit_no_space : (d : ℕ) → (hex_digit 97 d == 32) ≡ false
digit_no_space d = grind (arith, nat_tests)

place_no_space : (v : Bool) (d : ℕ) → ((if v then 45 else hex_digit 97 d) == 32) ≡ false
place_no_space true d = refl
place_no_space false d = digit_no_space d

pub uuid_is_word : (bytes : List ℕ) → IsWord (uuid_word bytes)
uuid_is_word bytes =
    let text : ℕ → ℕ = λ k. if is_hyphen_place k then 45 else hex_digit 97 (nibble bytes (digit_place k)) in
    let len : length (uuid_word bytes) ≡ 36 = by_index_length 36 text in
    record {
      nonempty = omega arith;
      no_space = λ k d lt. let within : k < 36 = omega arith in
          ap (λ b. b == 32) (by_index_at 36 text k d within) ∙ place_no_space (is_hyphen_place k) (nibble bytes (digit_place k));
    }
