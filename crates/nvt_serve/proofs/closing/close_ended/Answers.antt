use Rattle.nvt_serve.specs.Served.{serving}
use Rattle.nvt_serve.proofs.Doing.{follows_looks}
use Rattle.nvt_serve.proofs.Looking.{has_given, looks_alive, looks_given, rooms_exact}
use Rattle.nvt_serve.proofs.Runs.{goes_on}
use Rattle.nvt_serve.proofs.closing.close_ended.Goals as goal

pub returns-then-some_ended-clause-ties : goal.returns-then-some_ended-clause-ties
returns-then-some_ended-clause-ties g c =
    (follows_looks (g.P.Ports.state c.close_all.new.ports) c.close_all.new.target c.close_all.new.ties c.set_rooms.new.self
    c.set_rooms.ensures.connections
    (looks_given c.close_all.new.target c.rooms_of.result c.close_all.new.ties c.set_rooms.new.self c.set_rooms.ensures c.rooms_of.ensures
    c.close_all.ensures.ties.looks)
    c.close_all.ensures.ties).ties

pub returns-then-some_ended-clause-goes : goal.returns-then-some_ended-clause-goes
returns-then-some_ended-clause-goes g c =
    goes_on (serving (g.P.Ports.state c.args.ports.now) c.args.target.now c.args.ties.now)
    (serving (g.P.Ports.state c.close_all.new.ports) c.close_all.new.target c.close_all.new.ties)
    (serving (g.P.Ports.state c.close_all.new.ports) c.close_all.new.target c.set_rooms.new.self) c.close_all.ensures.goes
    (follows_looks (g.P.Ports.state c.close_all.new.ports) c.close_all.new.target c.close_all.new.ties c.set_rooms.new.self
    c.set_rooms.ensures.connections
    (looks_given c.close_all.new.target c.rooms_of.result c.close_all.new.ties c.set_rooms.new.self c.set_rooms.ensures c.rooms_of.ensures
    c.close_all.ensures.ties.looks)
    c.close_all.ensures.ties).goes

pub returns-then-some_ended-clause-rooms : goal.returns-then-some_ended-clause-rooms
returns-then-some_ended-clause-rooms g c =
    has_given c.close_all.new.target c.rooms_of.result c.close_all.new.ties c.set_rooms.new.self c.set_rooms.ensures c.rooms_of.ensures

pub returns-else-some_ended-clause-ties : goal.returns-else-some_ended-clause-ties
returns-else-some_ended-clause-ties g c =
    (follows_looks (g.P.Ports.state c.args.ports.now) c.args.target.now c.args.ties.now c.none_ended.new.self c.none_ended.ensures.connections
    (looks_alive c.args.target.now c.args.ties.now c.none_ended.new.self c.none_ended.ensures (c.some_ended.ensures c.if-some_ended.false)
    c.requires.looks)
    c.requires).ties

pub returns-else-some_ended-clause-goes : goal.returns-else-some_ended-clause-goes
returns-else-some_ended-clause-goes g c =
    (follows_looks (g.P.Ports.state c.args.ports.now) c.args.target.now c.args.ties.now c.none_ended.new.self c.none_ended.ensures.connections
    (looks_alive c.args.target.now c.args.ties.now c.none_ended.new.self c.none_ended.ensures (c.some_ended.ensures c.if-some_ended.false)
    c.requires.looks)
    c.requires).goes

pub returns-else-some_ended-clause-rooms : goal.returns-else-some_ended-clause-rooms
returns-else-some_ended-clause-rooms g c =
    rooms_exact c.args.target.now c.args.ties.now c.none_ended.new.self (c.some_ended.ensures c.if-some_ended.false) c.none_ended.ensures
    c.requires.looks
