-- Why an H2CData is refused, and what the connection is then ended with (TCP Transport 1.0, section 3.6).
use Rattle.std.specs.Prelude.{ℕ}
use Rattle.data_transfer.specs.declared.fault.DataFault.{DataFault}
use Rattle.data_transfer.specs.declared.fault.DataFault.TheVariants.{UnknownTag, OtherCommand, LengthMismatch, TooLong, OutOfRange}
use Rattle.nvt_fields.specs.declared.termination.FatalErrorStatus.{FatalErrorStatus}
use Rattle.nvt_fields.specs.declared.termination.FatalErrorStatus.TheVariants.{InvalidHeaderField, DataOutOfRange, LimitExceeded}

-- the fatal error status
abbrev pub fes_of : DataFault → FatalErrorStatus
fes_of UnknownTag = InvalidHeaderField
fes_of OtherCommand = InvalidHeaderField
fes_of LengthMismatch = InvalidHeaderField
fes_of TooLong = LimitExceeded
fes_of OutOfRange = DataOutOfRange

-- the fatal error information: where an invalid header field stands, TTAG, CCCID and DATAL
abbrev pub fei_of : DataFault → ℕ
fei_of UnknownTag = 10
fei_of OtherCommand = 8
fei_of LengthMismatch = 16
fei_of TooLong = 0
fei_of OutOfRange = 0
