-- The lines of a script of connections.
use Rattle.std.specs.Prelude.{◌≡◌, ℕ, ◌^◌, ◌%◌, ◌<◌, ◌⊎◌, List, ◌∷◌, ◌++◌, length, codes}
use Rattle.std.specs.List.{AllPass}
use Rattle.hex.specs.Hex.{is_hex_digit}
use Rattle.edit_lines.specs.declared.stream_line.StreamLine.{StreamLine}
use Rattle.edit_lines.specs.declared.stream_line.StreamLine.TheVariants.{Open, Receive, End, Tick, Edit}
use Rattle.config_text.specs.Number.{IsNumber}

-- pairs of hex digits of either case, at least one
pub record IsHex (text : List ℕ) : Type 0 where
  pub nonempty : 0 < length text
  pub pairs : length text % 2 ≡ 0
  pub digits : AllPass is_hex_digit text

-- `open PORT`
abbrev pub Opens : List ℕ → ℕ → Type 0
Opens line port = (word : List ℕ) × (line ≡ codes "open " ++ word) × IsNumber word port × (port < 2 ^ 16)

-- `rx K HEX`
abbrev pub Receives : List ℕ → ℕ → List ℕ → Type 0
Receives line k hex = (word : List ℕ) × (line ≡ codes "rx " ++ (word ++ 32 ∷ hex)) × IsNumber word k × IsHex hex

-- `end K`
abbrev pub Ends : List ℕ → ℕ → Type 0
Ends line k = (word : List ℕ) × (line ≡ codes "end " ++ word) × IsNumber word k

-- `tick MS`
abbrev pub Ticks : List ℕ → ℕ → Type 0
Ticks line ms = (word : List ℕ) × (line ≡ codes "tick " ++ word) × IsNumber word ms

-- `edit LINE`
abbrev pub Edits : List ℕ → List ℕ → Type 0
Edits line text = line ≡ codes "edit " ++ text

abbrev pub Says : List ℕ → StreamLine → Type 0
Says line (Open port) = Opens line port
Says line (Receive k hex) = Receives line k hex.now
Says line (End k) = Ends line k
Says line (Tick ms) = Ticks line ms
Says line (Edit text) = Edits line text.now

-- a line of one of the five forms
abbrev pub IsStreamLine : List ℕ → Type 0
IsStreamLine line =
    ((port : ℕ) × Opens line port)
    ⊎ ((k : ℕ) × (hex : List ℕ) × Receives line k hex)
    ⊎ ((k : ℕ) × Ends line k)
    ⊎ ((ms : ℕ) × Ticks line ms)
    ⊎ ((text : List ℕ) × Edits line text)

-- what an `rx` line brings is pairs of hex digits
abbrev pub HasHex : StreamLine → Type 0
HasHex (Open port) = Unit {0}
HasHex (Receive k hex) = IsHex hex.now
HasHex (End k) = Unit {0}
HasHex (Tick ms) = Unit {0}
HasHex (Edit text) = Unit {0}
