-- The commands that are outstanding are those that were submitted last.
use Rattle.std.proofs.Common.{◌≡◌, ℕ, ◌==◌, Bool, true, false, if◌then◌else◌, List, [], ◌∷◌, replicate, refl, inl, inr}
use Rattle.std.specs.Prelude.{Option, Some, None}
use Rattle.tables.specs.NumberTable.{place}
use Rattle.host_driver.specs.declared.decision.HostDecision.{HostDecision}
use Rattle.host_driver.specs.declared.decision.HostDecision.TheVariants as decision
use Rattle.host_driver.specs.declared.params.HostParams.{HostParams}
use Rattle.host_driver.specs.Command.{Command}
use Rattle.host_driver.specs.Event.{History, data_at, submitted, taken}
use Rattle.host_driver.specs.Latest.{CommandsAreTheLatest, into_of, latest, out_of}
use Rattle.host_driver.specs.Pending.{Pending, begun, connect_begun, with_data, with_request}
use Rattle.host_driver.specs.State.{HostState, after_decision, owed, state_after}
use Rattle.host_driver.proofs.Placing.{Each, each_changed, each_replicated, each_with, each_without, placed_with}

-- an outstanding command is this one
abbrev IsOf : ℕ → (ℕ → Option Command) → ℕ → Pending → Type 0
IsOf in_capsule f cid p = (p.out ≡ out_of in_capsule (f cid)) × (p.into ≡ into_of (f cid))

-- what a decision does to the commands changes neither their data nor what they want
kept_by : (in_capsule : ℕ) (f : ℕ → Option Command) (s : HostState) (bytes : List ℕ) (d : HostDecision) → Each (IsOf in_capsule f) s.commands
    → Each (IsOf in_capsule f) (after_decision s bytes d).commands
kept_by n f s bytes (decision.Initialize limits) each = each
kept_by n f s bytes (decision.Connect cntlid) each = each_without (IsOf n f) s.commands 0 each
kept_by n f s bytes (decision.Refuse status) each = each
kept_by n f s bytes (decision.Receive cid) each =
    each_changed (IsOf n f) s.commands cid (with_data bytes) (place s.commands cid) (λ p is. each cid p is) each
kept_by n f s bytes (decision.ReceiveLast cid) each = each_without (IsOf n f) s.commands cid each
kept_by n f s bytes (decision.Complete response) each = each_without (IsOf n f) s.commands response.cid each
kept_by n f s bytes (decision.Send request) each =
    each_changed (IsOf n f) s.commands request.cccid (with_request request.r2tl) (place s.commands request.cccid) (λ p is. each request.cccid p is) each
kept_by n f s bytes (decision.Close request) each = each
kept_by n f s bytes (decision.Terminate t) each = each

if_here : (b : Bool) (c : Command) (before : Option Command) → b ≡ true → (if b then Some c else before) ≡ Some c
if_here b c before is = rw is refl

if_elsewhere : (b : Bool) (c : Command) (before : Option Command) → b ≡ false → (if b then Some c else before) ≡ before
if_elsewhere b c before is = rw is refl

is_of : (in_capsule : ℕ) (p q : Pending) (found command : Option Command) → found ≡ command → p ≡ q
    → (q.out ≡ out_of in_capsule command) × (q.into ≡ into_of command) → (p.out ≡ out_of in_capsule found) × (p.into ≡ into_of found)
is_of in_capsule p q found command same is holds = rw (same, is) holds

all_latest : (params : HostParams) (h : History) → Each (IsOf params.in_capsule (latest h)) (state_after params h).commands
unfolding state_after latest
all_latest params [] =
    each_with (IsOf params.in_capsule (λ cid. None)) (replicate params.sqsize None) 0 connect_begun (refl, refl)
    (each_replicated (IsOf params.in_capsule (λ cid. None)) params.sqsize)
all_latest params (submitted cid c ∷ h) = λ other p placed.
    elim (placed_with (state_after params h).commands cid (begun params.in_capsule c) other p placed) [
      | inl put ↦ is_of params.in_capsule p (begun params.in_capsule c) _ (Some c) (if_here (other == cid) c (latest h other) put.0) put.1 (refl, refl)
      | inr stays ↦
          is_of params.in_capsule p p _ (latest h other) (if_elsewhere (other == cid) c (latest h other) stays.0) refl (all_latest params h other p stays.1)
    ]
all_latest params (taken f ∷ h) = kept_by params.in_capsule (latest h) (state_after params h) (data_at f) (owed (state_after params h) f) (all_latest params h)

pub commands_are_the_latest : CommandsAreTheLatest
commands_are_the_latest = record {
  out = λ params h cid p placed. (all_latest params h cid p placed).0;
  into = λ params h cid p placed. (all_latest params h cid p placed).1;
}
