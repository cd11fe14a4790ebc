-- What is taken in a slot, over a list of what each slot took.
use Rattle.std.proofs.Common.{◌≡◌, ℕ, ◌<◌, ◌++◌, List, [], length, map, slice_index_or, slice_set, Result, Ok, Err, OnOk, OnErr, sym, ap, ◌∙◌, if◌then◌else◌}
use Rattle.std.specs.Result.{is_ok}
use Rattle.std.proofs.lemmas.List.{get_or-map, map-set}
use Rattle.std.proofs.Math.Seq.{map-set_same}
use Rattle.nvt_ports.specs.Told.{with_taken}

module _ {V E : Type 0} (f : V → List ℕ) where
  -- one that is longer by what was given, or as it was
  pub took_ok : (r : Result (Unit {0}) E) (vs : List V) (slot : ℕ) (v d : V) (given : List ℕ) → slot < length vs
      → f v ≡ (if is_ok r then f (slice_index_or vs slot d) ++ given else f (slice_index_or vs slot d))
      → OnOk r (map f (slice_set vs slot v) ≡ with_taken slot given (map f vs))
  took_ok (Ok done) vs slot v d given within longer =
      map-set f vs slot v ∙ ap (λ bytes. slice_set (map f vs) slot bytes) (longer ∙ ap (λ bytes. bytes ++ given) (sym (get_or-map f vs slot d [] within)))
  took_ok (Err fault) vs slot v d given within longer = tt

  pub took_err : (r : Result (Unit {0}) E) (vs : List V) (slot : ℕ) (v d : V) (given : List ℕ)
      → f v ≡ (if is_ok r then f (slice_index_or vs slot d) ++ given else f (slice_index_or vs slot d))
      → OnErr r (map f (slice_set vs slot v) ≡ map f vs)
  took_err (Ok done) vs slot v d given same = tt
  took_err (Err fault) vs slot v d given same = map-set_same f vs slot v d same
