-- Why a conversation ends.
use Rattle.host_driver.specs.declared.fault.HostFault.{HostFault}
use Rattle.host_driver.specs.declared.fault.HostFault.TheVariants as queue
use Rattle.host_link.specs.declared.fault.SessionFault.{SessionFault}
use Rattle.host_link.specs.declared.fault.SessionFault.TheVariants.{Queue, Memory}

-- a queue's fault; that memory ran out is one fault, whoever meets it
abbrev pub of_queue : HostFault → SessionFault
of_queue queue.Memory = Memory
of_queue fault = Queue fault
