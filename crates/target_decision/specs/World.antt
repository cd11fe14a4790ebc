-- What a decision may look at beside its own connection.
use Rattle.std.specs.Prelude.{ℕ, Option, Some, None}
use Rattle.admin_queue.specs.Controller.{AdminController}
use Rattle.admin_queue.specs.Pages.{Pages, pages_in}
use Rattle.nvt_config.specs.Configuration.{Configuration}
use Rattle.fabrics_connect.specs.declared.row.Row.{Row}
use Rattle.admin_queue.specs.Notices.{NoticeState}
use Rattle.tables.specs.NumberTable.{place}
use Rattle.target_decision.specs.declared.controller.Controller.{Controller}
use Rattle.target_decision.specs.declared.session.ConnectionState.{ConnectionState}
use Rattle.target_decision.specs.declared.session.Role.TheVariants.{Admin}
use Rattle.target_decision.specs.declared.session.Session.{Session}
use Rattle.target_decision.specs.declared.session.Session.TheVariants.{Connected}
use Rattle.target_decision.specs.declared.world.World.{World as WorldLent}

-- the most connections at a time
abbrev pub connections_max : ℕ
connections_max = 64

-- The pages, the configuration, and each controller that lives, under its identifier: its row, which all
-- connections may see, and what its own admin queue alone uses.
pub record World : Type 0 where
  pub pages : Pages
  pub config : Configuration
  pub row : ℕ → Option Row
  pub controller : ℕ → Option Controller

-- the world that is lent
abbrev pub world_in : WorldLent → World
world_in w = record {
  pages = pages_in w.pages.now;
  config = w.config.now;
  row = λ c. place w.rows.now c;
  controller = λ c. place w.controllers.now c;
}

-- ---- a controller as its admin commands see it

abbrev pub admin_controller_by : NoticeState → ℕ → Option Row → Option Controller → Option AdminController
admin_controller_by notices cntlid None own = None
admin_controller_by notices cntlid (Some row) None = None
admin_controller_by notices cntlid (Some row) (Some own) = Some (record {
  cntlid = cntlid;
  host = row.host;
  subsystem = row.subsystem;
  port = row.port;
  kato = own.kato;
  notices = notices;
})

-- the controller of this identifier, with what its host is to be told
abbrev pub admin_controller : World → NoticeState → ℕ → Option AdminController
admin_controller w notices cntlid = admin_controller_by notices cntlid (w.row cntlid) (w.controller cntlid)

abbrev pub admin_controller_of : World → NoticeState → Session → Option AdminController
admin_controller_of w notices (Connected (Admin cntlid) queue) = admin_controller w notices cntlid
admin_controller_of w notices _ = None

-- the controller whose admin queue a connection is
abbrev pub admin_controller_in : World → ConnectionState → Option AdminController
admin_controller_in w v = admin_controller_of w v.notices v.session
