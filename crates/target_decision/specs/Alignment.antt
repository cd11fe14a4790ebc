-- Where the data that go to a host begin (HPDA; TCP Transport 1.0, section 3.6.2.2).
use Rattle.std.specs.Prelude.{ℕ, Option, Some, None, nat_lt, if◌then◌else◌}

-- the alignment that an ICReq asks for, which is at most 31
abbrev pub aligned : ℕ → Option ℕ
aligned hpda = if nat_lt 31 hpda then None else Some hpda
