-- What is printed.
use Rattle.std.specs.Prelude.{◌≡◌, ◌⊎◌, ℕ, List, [], ◌∷◌, length, take, drop, zero, suc, Option, Result, Ok, Err, codes, flat_map}
use Rattle.std.specs.Io.{StartsWith}
use Rattle.std.specs.Io.KnownBytes.{Appends}
use Rattle.host_link.specs.declared.fault.SessionFault.{SessionFault}
use Rattle.host_link.specs.declared.fault.SessionFault.TheVariants.{Io, Memory}
use Rattle.host_program.specs.Lines.{hex_line}

-- why a text is not printed: memory is wanted, or it cannot be written
abbrev pub IsOfWriting : SessionFault → Type 0
IsOfWriting fault = (fault ≡ Memory) ⊎ (fault ≡ Io)

-- a writer's known bytes grew by a beginning of this text
abbrev pub AppendsFront : Option (List ℕ) → Option (List ℕ) → List ℕ → Type 0
AppendsFront old new text = (front : List ℕ) × Appends old new front × StartsWith text front

-- this text is printed; after a fault, a beginning of it
abbrev pub Prints : List ℕ → Result (Unit {0}) SessionFault → Option (List ℕ) → Option (List ℕ) → Type 0
Prints text (Ok done) old new = Appends old new text
Prints text (Err fault) old new = IsOfWriting fault × AppendsFront old new text

-- what is done with a value that a command got; a fault in its place is that of the command, which prints nothing
abbrev pub Behind : {A E : Type 0} → Result A E → Result (Unit {0}) E → Option (List ℕ) → Option (List ℕ) → (A → Type 0) → Type 0
Behind (Ok a) result old new Next = Next a
Behind (Err fault) result old new Next = (result ≡ Err fault) × (new ≡ old)

-- ---- texts

-- the first blocks of these bytes, as many as these at most
abbrev pub first_blocks : ℕ → ℕ → List ℕ → List (List ℕ)
first_blocks zero len bytes = []
first_blocks (suc n) len [] = []
first_blocks (suc n) len (b ∷ bytes) = take len (b ∷ bytes) ∷ first_blocks n len (drop len (b ∷ bytes))

-- bytes in blocks of this length, of which the last may be shorter; each has a byte, so there are no more than bytes
unfoldable pub blocks_of : ℕ → List ℕ → List (List ℕ)
blocks_of len bytes = first_blocks (length bytes) len bytes

-- a line of hex for each block
abbrev pub blocks_text : ℕ → List ℕ → List ℕ
blocks_text len bytes = flat_map hex_line (blocks_of len bytes)

-- `ok`
abbrev pub ok_line : List ℕ
ok_line = codes "ok\n"

-- `held`
abbrev pub held_line : List ℕ
held_line = codes "held\n"
