-- A controller that lives, as a Connect looks at it.
use Rattle.std.specs.Prelude.{ℕ, Bool, true, false, List, Option, Some, None, slice_index_or, slice_set}
use Rattle.property_regs.specs.declared.kind.ControllerKind.{ControllerKind}
use Rattle.property_regs.specs.declared.kind.ControllerKind.TheVariants.{Discovery, Io}
use Rattle.fabrics_connect.specs.declared.decision.NewController.{NewController}
use Rattle.fabrics_connect.specs.declared.row.Row.{Row}
use Rattle.fabrics_connect.specs.Command.{parameters_of}
use Rattle.fabrics_connect.specs.QueueIds.{no_queues}

-- a discovery controller is of no subsystem of the configuration
abbrev pub subsystem_named : ControllerKind → List ℕ → Option (List ℕ)
subsystem_named Discovery nqn = None
subsystem_named Io nqn = Some nqn

-- the row of a controller that begins, through this port, by this entry and the data in its capsule
abbrev pub row_begun : NewController → ℕ → List ℕ → List ℕ → Row
row_begun controller port entry payload = record {
  cntlid = controller.cntlid;
  subsystem = subsystem_named controller.kind (parameters_of entry payload).subsystem;
  port = port;
  host = (parameters_of entry payload).host;
  hostid = (parameters_of entry payload).hostid;
  ready = false;
  qids = no_queues;
}

-- whether the controller has the I/O queue of this identifier
abbrev pub has_queue : ℕ → Row → Bool
has_queue qid row = slice_index_or row.qids qid false

abbrev pub with_ready : Bool → Row → Row
with_ready ready row = record row { ready = ready }

-- .. with this queue, without it, and without any
abbrev pub joined : ℕ → Row → Row
joined qid row = record row { qids = slice_set row.qids qid true }

abbrev pub left : ℕ → Row → Row
left qid row = record row { qids = slice_set row.qids qid false }

abbrev pub left_all : Row → Row
left_all row = record row { qids = no_queues }
