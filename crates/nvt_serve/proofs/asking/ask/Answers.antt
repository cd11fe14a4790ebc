use Rattle.std.proofs.Common.{arith}
use Rattle.nvt_serve.proofs.Asked.{bytes_come, host_comes, host_goes, line_comes, nothing_comes, room_of_bytes, tick_comes}
use Rattle.nvt_serve.proofs.asking.ask.Goals as goal

pub returns-in-Open-clause-ties : goal.returns-in-Open-clause-ties
returns-in-Open-clause-ties g c =
    (host_comes (g.P.Ports.state c.args.ports.now) (g.P.Ports.state c.next.new.self) (g.P.Ports.state c.open.new.ports) c.next.new.buf c.in-Open.slot c.in-Open.port c.open.result
    c.args.target.now c.open.new.target c.args.ties.now c.open.new.ties
    (record { told = c.in-Open.ensures.told; in_use = c.in-Open.ensures.in_use; faults = c.in-Open.ensures.faults }) c.in-Open.ensures.fits.1 c.open.ensures c.requires.ties).ties

pub returns-in-Open-clause-goes : goal.returns-in-Open-clause-goes
returns-in-Open-clause-goes g c =
    (host_comes (g.P.Ports.state c.args.ports.now) (g.P.Ports.state c.next.new.self) (g.P.Ports.state c.open.new.ports) c.next.new.buf c.in-Open.slot c.in-Open.port c.open.result
    c.args.target.now c.open.new.target c.args.ties.now c.open.new.ties
    (record { told = c.in-Open.ensures.told; in_use = c.in-Open.ensures.in_use; faults = c.in-Open.ensures.faults }) c.in-Open.ensures.fits.1 c.open.ensures c.requires.ties).goes

pub returns-in-Bytes-clause-ties : goal.returns-in-Bytes-clause-ties
returns-in-Bytes-clause-ties g c =
    (bytes_come (g.P.Ports.state c.args.ports.now) (g.P.Ports.state c.next.new.self) c.next.new.buf c.in-Bytes.slot c.in-Bytes.n c.args.target.now c.receive.new.target c.args.ties.now
    c.receive.new.ties
    (record { told = c.in-Bytes.ensures.told; in_use = c.in-Bytes.ensures.in_use; faults = c.in-Bytes.ensures.faults })
    (omega (arith, c.in-Bytes.ensures.fits.2, c.in-Bytes.ensures.len))
    (room_of_bytes c.in-Bytes.n c.in-Bytes.slot c.rooms.result.now c.args.target.now c.args.ties.now c.rooms.ensures c.requires.rooms c.in-Bytes.ensures.fits.1)
    c.receive.ensures c.requires.ties).ties

pub returns-in-Bytes-clause-goes : goal.returns-in-Bytes-clause-goes
returns-in-Bytes-clause-goes g c =
    (bytes_come (g.P.Ports.state c.args.ports.now) (g.P.Ports.state c.next.new.self) c.next.new.buf c.in-Bytes.slot c.in-Bytes.n c.args.target.now c.receive.new.target c.args.ties.now
    c.receive.new.ties
    (record { told = c.in-Bytes.ensures.told; in_use = c.in-Bytes.ensures.in_use; faults = c.in-Bytes.ensures.faults })
    (omega (arith, c.in-Bytes.ensures.fits.2, c.in-Bytes.ensures.len))
    (room_of_bytes c.in-Bytes.n c.in-Bytes.slot c.rooms.result.now c.args.target.now c.args.ties.now c.rooms.ensures c.requires.rooms c.in-Bytes.ensures.fits.1)
    c.receive.ensures c.requires.ties).goes

pub returns-in-End-clause-ties : goal.returns-in-End-clause-ties
returns-in-End-clause-ties g c =
    (host_goes (g.P.Ports.state c.args.ports.now) (g.P.Ports.state c.next.new.self) (g.P.Ports.state c.end.new.ports) c.next.new.buf c.in-End.slot c.args.target.now c.end.new.target
    c.args.ties.now c.end.new.ties (record { told = c.in-End.ensures.told; in_use = c.in-End.ensures.in_use; faults = c.in-End.ensures.faults }) c.end.ensures c.requires.ties).ties

pub returns-in-End-clause-goes : goal.returns-in-End-clause-goes
returns-in-End-clause-goes g c =
    (host_goes (g.P.Ports.state c.args.ports.now) (g.P.Ports.state c.next.new.self) (g.P.Ports.state c.end.new.ports) c.next.new.buf c.in-End.slot c.args.target.now c.end.new.target
    c.args.ties.now c.end.new.ties (record { told = c.in-End.ensures.told; in_use = c.in-End.ensures.in_use; faults = c.in-End.ensures.faults }) c.end.ensures c.requires.ties).goes

pub returns-in-Line-clause-ties : goal.returns-in-Line-clause-ties
returns-in-Line-clause-ties g c =
    (line_comes (g.P.Ports.state c.args.ports.now) (g.P.Ports.state c.next.new.self) (g.P.Ports.state c.edit.new.ports) c.next.new.buf c.in-Line.n c.edit.result c.args.target.now c.edit.new.target
    c.args.ties.now c.edited.new.self (record { told = c.in-Line.ensures.told; in_use = c.in-Line.ensures.in_use; faults = c.in-Line.ensures.faults }) c.edit.ensures
    c.edited.ensures c.requires.ties).ties

pub returns-in-Line-clause-goes : goal.returns-in-Line-clause-goes
returns-in-Line-clause-goes g c =
    (line_comes (g.P.Ports.state c.args.ports.now) (g.P.Ports.state c.next.new.self) (g.P.Ports.state c.edit.new.ports) c.next.new.buf c.in-Line.n c.edit.result c.args.target.now c.edit.new.target
    c.args.ties.now c.edited.new.self (record { told = c.in-Line.ensures.told; in_use = c.in-Line.ensures.in_use; faults = c.in-Line.ensures.faults }) c.edit.ensures
    c.edited.ensures c.requires.ties).goes

pub returns-in-Tick-clause-ties : goal.returns-in-Tick-clause-ties
returns-in-Tick-clause-ties g c =
    (tick_comes (g.P.Ports.state c.args.ports.now) (g.P.Ports.state c.next.new.self) c.next.new.buf c.in-Tick.ms c.args.target.now c.tick.new.self c.args.ties.now
    c.ticked.new.self
    (record { told = c.in-Tick.ensures.told; in_use = c.in-Tick.ensures.in_use; faults = c.in-Tick.ensures.faults }) c.tick.ensures.transition c.ticked.ensures c.requires.ties).ties

pub returns-in-Tick-clause-goes : goal.returns-in-Tick-clause-goes
returns-in-Tick-clause-goes g c =
    (tick_comes (g.P.Ports.state c.args.ports.now) (g.P.Ports.state c.next.new.self) c.next.new.buf c.in-Tick.ms c.args.target.now c.tick.new.self c.args.ties.now
    c.ticked.new.self
    (record { told = c.in-Tick.ensures.told; in_use = c.in-Tick.ensures.in_use; faults = c.in-Tick.ensures.faults }) c.tick.ensures.transition c.ticked.ensures c.requires.ties).goes

pub returns-in-Nothing-clause-goes : goal.returns-in-Nothing-clause-goes
returns-in-Nothing-clause-goes g c =
    (nothing_comes (g.P.Ports.state c.args.ports.now) (g.P.Ports.state c.next.new.self) c.next.new.buf c.args.target.now c.args.ties.now
    (record { told = c.in-Nothing.ensures.told; in_use = c.in-Nothing.ensures.in_use; faults = c.in-Nothing.ensures.faults }) c.requires.ties).goes
