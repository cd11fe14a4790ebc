-- What the queues of the program are opened with.
use Rattle.std.specs.Prelude.{ℕ, replicate}
use Rattle.host_driver.specs.declared.params.HostParams.{HostParams}
use Rattle.host_program.specs.declared.peers.Peers.{Peers}

-- a queue of these peers, without a keep alive timeout
abbrev pub queue : Peers → ℕ → ℕ → ℕ → HostParams
queue peers qid cntlid in_capsule = record {
  qid = qid;
  sqsize = 31;
  cntlid = cntlid;
  kato = 0;
  hostid = replicate 16 1;
  subnqn = peers.subsystem;
  hostnqn = peers.host;
  in_capsule = in_capsule;
}

-- the admin queue of any controller
abbrev pub admin_queue : Peers → HostParams
admin_queue peers = queue peers 0 65535 8192

abbrev pub io_queue : Peers → ℕ → ℕ → HostParams
io_queue peers cntlid in_capsule = queue peers 1 cntlid in_capsule
