-- The controller that a command was submitted to.
use Rattle.std.specs.Prelude.{ℕ, List, Option}
use Rattle.admin_queue.specs.Notices.{NoticeState}
use Rattle.admin_queue.specs.declared.controller.AdminController.{AdminController as ControllerLent}

-- its identifier, the names of its host and of its subsystem, which a discovery controller has not, its port, its keep
-- alive timeout, in ms, and what its host is to be told
pub record AdminController : Type 0 where
  pub cntlid : ℕ
  pub host : List ℕ
  pub subsystem : Option (List ℕ)
  pub port : ℕ
  pub kato : ℕ
  pub notices : NoticeState

-- the controller that is lent
abbrev pub controller_in : ControllerLent → AdminController
controller_in c = record {
  cntlid = c.cntlid;
  host = c.host.now;
  subsystem = c.subsystem.now;
  port = c.port;
  kato = c.kato;
  notices = c.notices.now;
}
