-- Bytes cut into units, and units put together.
use Rattle.std.proofs.Common.{◌≡◌, ℕ, zero, suc, ◌*◌, ◌/◌, List, [], ◌∷◌, ◌++◌, refl, ◌∙◌, ap, arith, length, take, drop}
use Rattle.std.proofs.lemmas.List.{length-append, take-append-drop, take_at, drop_at, length-drop, length-take-le}
use Rattle.std.specs.List.{AllByRecursion}
use Rattle.std.specs.Simd.{first_chunks}
use Rattle.block_store.specs.Range.{bytes_of}
use Rattle.block_store.specs.Unit.{IsUnit}

-- what bytes are cut into has these bytes
pub bytes_of_chunks : (n : ℕ) (bytes : List ℕ) → length bytes ≡ n * 512 → bytes_of (first_chunks 512 n bytes) ≡ bytes
bytes_of_chunks zero [] long = refl
bytes_of_chunks zero (byte ∷ bytes) long = absurd (omega (arith, long))
bytes_of_chunks (suc n) bytes long =
    ap (λ rest. take 512 bytes ++ rest) (bytes_of_chunks n (drop 512 bytes) (omega (arith, length-drop 512 bytes)))
    ∙ take-append-drop 512 bytes

-- the bytes of units are cut into these units
pub chunks_of_units : (units : List (List ℕ)) → AllByRecursion IsUnit units
    → first_chunks 512 (length units) (bytes_of units) ≡ units
chunks_of_units [] all = refl
chunks_of_units (unit ∷ units) (is_unit, all) =
    let back = drop 512 (unit ++ bytes_of units) in
    ap (λ u. u ∷ first_chunks 512 (length units) back) (take_at unit (bytes_of units) 512 is_unit)
    ∙ ap (λ bytes. unit ∷ first_chunks 512 (length units) bytes) (drop_at unit (bytes_of units) 512 is_unit)
    ∙ ap (λ us. unit ∷ us) (chunks_of_units units all)

pub length-first_chunks : (n : ℕ) (bytes : List ℕ) → length (first_chunks 512 n bytes) ≡ n
length-first_chunks zero bytes = refl
length-first_chunks (suc n) bytes = ap suc (length-first_chunks n (drop 512 bytes))

pub chunks_are_units : (n : ℕ) (bytes : List ℕ) → length bytes ≡ n * 512 → AllByRecursion IsUnit (first_chunks 512 n bytes)
chunks_are_units zero bytes long = tt
chunks_are_units (suc n) bytes long =
    (length-take-le 512 bytes (omega (arith, long)), chunks_are_units n (drop 512 bytes) (omega (arith, length-drop 512 bytes)))

pub length-bytes_of : (units : List (List ℕ)) → AllByRecursion IsUnit units → length (bytes_of units) ≡ length units * 512
length-bytes_of [] all = refl
length-bytes_of (unit ∷ units) (is_unit, all) =
    omega (arith, length-append unit (bytes_of units), is_unit, length-bytes_of units all)

-- so many units
pub count_is : (bytes : List ℕ) (n : ℕ) → length bytes ≡ n * 512 → length bytes / 512 ≡ n
count_is bytes n long = omega (arith, long)
