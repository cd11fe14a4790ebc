-- How far the walks over the controllers have come.
use Rattle.std.proofs.Common.{◌≡◌, ◌⊎◌, ℕ, ◌<◌, ◌≤◌, Bool, false, List, replicate, Option, None, inl, inr, arith}
use Rattle.std.specs.Prelude.{if◌then◌else◌, nat_lt}
use Rattle.std.proofs.lemmas.Bool.{cases_lt}
use Rattle.std.proofs.lemmas.Bool.Decides.{nat_tests}
use Rattle.std.proofs.lemmas.List.{get_or_past, get_or-replicate, length-replicate}
use Rattle.nvt_config.specs.Configuration.{Configuration}
use Rattle.target_state.specs.Controllers.{TablesState, gone_by, is_gone}
use Rattle.target_history.specs.declared.end_cause.EndCause.{EndCause}

module _ {A : Type 0} where
  -- what is left under an identifier, where those below this were looked at
  abbrev pub removed_below : List Bool → ℕ → ℕ → Option A → Option A
  removed_below gone from c o = if nat_lt c from then (if is_gone gone c then None else o) else o

-- whether one was found to be gone, where those below this were looked at
abbrev pub found_below : EndCause → Configuration → TablesState → ℕ → ℕ → Bool
found_below cause config t from c = if nat_lt c from then gone_by cause config t c else false

-- at first none is
pub none_gone : (n c : ℕ) → is_gone (replicate n false) c ≡ false
none_gone n c = by (cases_lt c n) where
  by : (c < n) ⊎ (n ≤ c) → is_gone (replicate n false) c ≡ false
  by (inl within) = get_or-replicate n c false false within
  by (inr past) = get_or_past (replicate n false) c false (omega (arith, length-replicate n false))

-- .. and none is found
pub none_found : (cause : EndCause) (config : Configuration) (t : TablesState) (c : ℕ) → found_below cause config t 0 c ≡ false
none_found cause config t c = grind (arith, nat_tests)
