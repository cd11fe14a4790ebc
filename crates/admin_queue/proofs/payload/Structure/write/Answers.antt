use Rattle.std.proofs.Common.{◌≡◌, ◌∙◌, None, length, sym, ap}
use Rattle.std.specs.Option.{option_copied}
use Rattle.admin_queue.specs.Controller.{controller_in}
use Rattle.admin_queue.specs.Payload.{namespace_in}
use Rattle.admin_queue.proofs.Parts.{zeros_of}
use Rattle.admin_queue.proofs.payload.Structure.write.Goals as goal

pub returns-in-None : goal.returns-in-None
returns-in-None c =
    let none : namespace_in (controller_in c.args.controller.now) c.args.config.now c.in-Descriptors.nsid ≡ None =
    sym c.namespace_of-in-Descriptors.ensures ∙ ap option_copied c.in-None.is in
    rw (c.in-Descriptors.is, none) (zeros_of c.write_zeros.new.out (length c.args.out.now) 4096 c.write_zeros.ensures c.requires)
