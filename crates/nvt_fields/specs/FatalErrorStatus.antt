-- The codes of fatal error statuses (TCP Transport 1.0, section 3.6).
use Rattle.std.specs.Prelude.{ℕ}
use Rattle.nvt_fields.specs.declared.termination.FatalErrorStatus.{FatalErrorStatus}
use Rattle.nvt_fields.specs.declared.termination.FatalErrorStatus.TheVariants.{InvalidHeaderField, SequenceError, HeaderDigestError, DataOutOfRange, LimitExceeded, UnsupportedParameter}

abbrev pub fatal_code_of : FatalErrorStatus → ℕ
fatal_code_of InvalidHeaderField = 1
fatal_code_of SequenceError = 2
fatal_code_of HeaderDigestError = 3
fatal_code_of DataOutOfRange = 4
fatal_code_of LimitExceeded = 5
fatal_code_of UnsupportedParameter = 6
