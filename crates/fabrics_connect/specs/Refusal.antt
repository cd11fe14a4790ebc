-- Why a Connect is refused.
use Rattle.std.specs.Prelude.{ℕ, ◌+◌, Bool, Result, Ok, Err, if◌then◌else◌}
use Rattle.nvt_fields.specs.declared.status.Status.{Status}
use Rattle.nvt_fields.specs.Status.{connect_invalid_parameters}
use Rattle.fabrics_connect.specs.declared.decision.Refusal.{Refusal}

abbrev pub refusal_of : Status → Refusal
refusal_of status = record { status = status; result = 0 }

-- a parameter is invalid: the result is its offset in the entry
abbrev pub invalid_parameter : ℕ → Refusal
invalid_parameter result = record { status = connect_invalid_parameters; result = result }

-- .. or in the data, with bit 16 set
abbrev pub in_data : ℕ → ℕ
in_data at = 0x10000 + at

-- what a check comes to: it passes, or the Connect is refused
abbrev pub Verdict : Type 0
Verdict = Result (Unit {0}) Refusal

abbrev pub passed : Verdict
passed = Ok tt

-- the refusal if the test passes, and else what comes next
abbrev pub refuse : Bool → Refusal → Verdict → Verdict
refuse test refusal next = if test then Err refusal else next

-- what comes next, if the check passes
abbrev pub after : {T : Type 0} → Verdict → Result T Refusal → Result T Refusal
after (Ok done) next = next
after (Err refusal) next = Err refusal
