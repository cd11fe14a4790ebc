-- Why a command ends before its end.
use Rattle.std.specs.Prelude.{Result, Ok, Err}
use Rattle.host_pages.specs.declared.fault.DiscoverFault.{DiscoverFault}
use Rattle.host_pages.specs.declared.fault.DiscoverFault.TheVariants as discover
use Rattle.host_link.specs.declared.fault.SessionFault.{SessionFault}
use Rattle.host_link.specs.declared.fault.SessionFault.TheVariants as session
use Rattle.host_program.specs.declared.fault.CommandFault.{CommandFault}
use Rattle.host_program.specs.declared.fault.CommandFault.TheVariants.{Session, Unsettled}

-- why no discovery log page is had
abbrev pub of_discovery : DiscoverFault → CommandFault
of_discovery (discover.Refused status) = Session (session.Status status)
of_discovery (discover.BadPage why) = Session session.BadPage
of_discovery discover.Unsettled = Unsettled
of_discovery discover.Memory = Session session.Memory

-- what a session answers, and what a page in the reading does, as a command has them
abbrev pub of_session : {A : Type 0} → Result A SessionFault → Result A CommandFault
of_session (Ok a) = Ok a
of_session (Err f) = Err (Session f)

abbrev pub of_reading : {A : Type 0} → Result A DiscoverFault → Result A CommandFault
of_reading (Ok a) = Ok a
of_reading (Err f) = Err (of_discovery f)
