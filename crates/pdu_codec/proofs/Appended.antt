-- What a writer's clauses say beside the exact one.
use Rattle.std.proofs.Common.{◌≡◌, ℕ, ◌+◌, ◌≤◌, List, ◌++◌, length, Result, Ok, Err, OnOk, OnErr, IsOk, refl, ap, arith}
use Rattle.bytes.specs.Filled.{Filled}
use Rattle.pdu_codec.specs.Output.{AppendsOrFull}
use Rattle.pdu_codec.specs.declared.append.Full.{Full}

pub bytes_appended : (old new : Filled) (bytes : List ℕ) (r : Result (Unit {0}) Full) → AppendsOrFull old new bytes r → OnOk r (new.items ≡ old.items ++ bytes)
bytes_appended old new bytes (Ok done) a = a.1
bytes_appended old new bytes (Err full) a = tt

pub full_unchanged : (old new : Filled) (bytes : List ℕ) (r : Result (Unit {0}) Full) → AppendsOrFull old new bytes r → OnErr r (new ≡ old)
full_unchanged old new bytes (Ok done) a = tt
full_unchanged old new bytes (Err full) a = a.1

-- of bytes that are no more than n
pub fits_in : (old new : Filled) (bytes : List ℕ) (n : ℕ) (r : Result (Unit {0}) Full) → length bytes ≤ n → AppendsOrFull old new bytes r → n ≤ old.spare → IsOk r
fits_in old new bytes n (Ok done) few a room = refl
fits_in old new bytes n (Err full) few a room = absurd (omega (arith, a.0))

pub leaves_spare : (old new : Filled) (bytes : List ℕ) (n : ℕ) (r : Result (Unit {0}) Full) → length bytes ≤ n → AppendsOrFull old new bytes r → old.spare ≤ new.spare + n
leaves_spare old new bytes n (Ok done) few a = omega (arith, a.2)
leaves_spare old new bytes n (Err full) few a = let same : new.spare ≡ old.spare = ap (λ (f : Filled). f.spare) a.1 in omega arith
