-- Ranges of units, and the ranges of bytes that they are.
use Rattle.std.proofs.Common.{◌≡◌, ℕ, ◌+◌, ◌-◌, ◌*◌, ◌≤◌, List, ◌++◌, sym, ◌∙◌, ap, arith, length, take, drop}
use Rattle.std.proofs.lemmas.List.{length-take-le, length-drop, take-append-drop, take-take, take_at, drop_at, drop-take, drop-drop}
use Rattle.std.proofs.lemmas.List.Elements.{All-take, All-drop, recursion_from_All}
use Rattle.std.specs.List.{All}
use Rattle.block_store.specs.Range.{bytes_of, units_at}
use Rattle.block_store.specs.Unit.{IsUnit}
use Rattle.block_store.proofs.Cuts.{length-bytes_of}
use Rattle.block_store.proofs.Shown.{bytes_in_two}

pub length-bytes : (units : List (List ℕ)) → All IsUnit units → length (bytes_of units) ≡ length units * 512
length-bytes units all = length-bytes_of units (recursion_from_All IsUnit units all)

module _ (units : List (List ℕ)) (all : All IsUnit units) where
  in_two : (n : ℕ) → bytes_of units ≡ bytes_of (take n units) ++ bytes_of (drop n units)
  in_two n = ap bytes_of (sym (take-append-drop n units)) ∙ bytes_in_two (take n units) (drop n units)

  front_long : (n : ℕ) → n ≤ length units → length (bytes_of (take n units)) ≡ n * 512
  front_long n within = length-bytes (take n units) (All-take IsUnit n units all) ∙ ap (λ m. m * 512) (length-take-le n units within)

  -- the bytes of a front
  pub front_bytes : (n : ℕ) → n ≤ length units → take (n * 512) (bytes_of units) ≡ bytes_of (take n units)
  front_bytes n within = ap (λ bytes. take (n * 512) bytes) (in_two n) ∙ take_at (bytes_of (take n units)) (bytes_of (drop n units)) (n * 512) (front_long n within)

  -- the bytes of the rest
  pub rest_bytes : (n : ℕ) → n ≤ length units → drop (n * 512) (bytes_of units) ≡ bytes_of (drop n units)
  rest_bytes n within = ap (λ bytes. drop (n * 512) bytes) (in_two n) ∙ drop_at (bytes_of (take n units)) (bytes_of (drop n units)) (n * 512) (front_long n within)

-- the bytes of a range
pub range_bytes : (units : List (List ℕ)) → All IsUnit units → (first count : ℕ) → first + count ≤ length units
    → take (count * 512) (drop (first * 512) (bytes_of units)) ≡ bytes_of (units_at units first count)
range_bytes units all first count within =
    ap (λ bytes. take (count * 512) bytes) (rest_bytes units all first (omega arith))
    ∙ front_bytes (drop first units) (All-drop IsUnit first units all) count (omega (arith, length-drop first units))

-- a part of a range
pub part_of_range : (bytes : List ℕ) (long start done count : ℕ) → done + count ≤ long
    → take count (drop done (take long (drop start bytes))) ≡ take count (drop (start + done) bytes)
part_of_range bytes long start done count within =
    let rest : long ≡ done + (long - done) = omega arith in
    ap (λ n. take count (drop done (take n (drop start bytes)))) rest
    ∙ ap (λ s. take count s) (drop-take done (long - done) (drop start bytes))
    ∙ take-take count (long - done) (drop done (drop start bytes)) (omega arith)
    ∙ ap (λ s. take count s) (drop-drop done start bytes)
