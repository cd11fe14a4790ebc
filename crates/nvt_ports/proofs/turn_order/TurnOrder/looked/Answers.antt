use Rattle.std.proofs.Common.{◌≡◌, ◌<◌, ℕ, sym, subst}
use Rattle.nvt_ports.specs.declared.turn_order.LookOutcome.{LookOutcome}
use Rattle.nvt_ports.specs.declared.turn_order.LookOutcome.TheVariants.{Found, Vain, Rests}
use Rattle.nvt_ports.specs.Lately.{CanBeTried, Order, after_look}
use Rattle.nvt_ports.specs.Waiting.{IsInOrder, IsTriedOrNearer}
use Rattle.nvt_ports.proofs.Waits.{after_in_order, tried_or_nearer}
use Rattle.nvt_ports.proofs.turn_order.TurnOrder.looked.Goals as goal

can_be : (tried : ℕ) (outcome this : LookOutcome) (o : Order) → outcome ≡ this → CanBeTried tried outcome o → CanBeTried tried this o
can_be tried outcome this o is can = subst (λ (other : LookOutcome). CanBeTried tried other o) is can

nearer : (tried : ℕ) (outcome : LookOutcome) (o after : Order) → after ≡ after_look tried outcome o → IsInOrder o → CanBeTried tried outcome o
    → (s : ℕ) → s < 97 → IsTriedOrNearer tried o after s
nearer tried outcome o after is kept can s small =
    subst (λ (p : Order). IsTriedOrNearer tried o p s) (sym is) (tried_or_nearer tried outcome o s kept can small)

pub returns-in-Found-clause-nearer : goal.returns-in-Found-clause-nearer
returns-in-Found-clause-nearer c =
    nearer c.args.tried Found c.args.self.now c.found.new.self c.found.ensures.after c.found.ensures.in_order
    (can_be c.args.tried c.args.outcome Found c.args.self.now c.in-Found.is c.requires)

pub returns-in-Found-clause-in_order : goal.returns-in-Found-clause-in_order
returns-in-Found-clause-in_order c =
    subst IsInOrder (sym c.found.ensures.after)
    (after_in_order c.args.tried Found c.args.self.now c.found.ensures.in_order (can_be c.args.tried c.args.outcome Found c.args.self.now c.in-Found.is c.requires))

pub returns-in-Vain-clause-nearer : goal.returns-in-Vain-clause-nearer
returns-in-Vain-clause-nearer c =
    nearer c.args.tried Vain c.args.self.now c.in_vain.new.self c.in_vain.ensures.after c.in_vain.ensures.in_order
    (can_be c.args.tried c.args.outcome Vain c.args.self.now c.in-Vain.is c.requires)

pub returns-in-Vain-clause-in_order : goal.returns-in-Vain-clause-in_order
returns-in-Vain-clause-in_order c =
    subst IsInOrder (sym c.in_vain.ensures.after)
    (after_in_order c.args.tried Vain c.args.self.now c.in_vain.ensures.in_order (can_be c.args.tried c.args.outcome Vain c.args.self.now c.in-Vain.is c.requires))

pub returns-in-Rests-clause-nearer : goal.returns-in-Rests-clause-nearer
returns-in-Rests-clause-nearer c =
    nearer c.args.tried Rests c.args.self.now c.rests.new.self c.rests.ensures.after c.rests.ensures.in_order
    (can_be c.args.tried c.args.outcome Rests c.args.self.now c.in-Rests.is c.requires)

pub returns-in-Rests-clause-in_order : goal.returns-in-Rests-clause-in_order
returns-in-Rests-clause-in_order c =
    subst IsInOrder (sym c.rests.ensures.after)
    (after_in_order c.args.tried Rests c.args.self.now c.rests.ensures.in_order (can_be c.args.tried c.args.outcome Rests c.args.self.now c.in-Rests.is c.requires))
