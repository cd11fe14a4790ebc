use Rattle.std.proofs.Common.{◌∙◌, length, sym, ap, arith}
use Rattle.config_lists.specs.NsidSet.{is_marked}
use Rattle.config_lists.proofs.Marks.{lowest_left, nothing_left}
use Rattle.config_lists.proofs.Sets.{none_from_end}
use Rattle.config_lists.proofs.nsid_set.NsidsIterator.next.Goals as goal

pub returns-then-left-ne0-clause-steps : goal.returns-then-left-ne0-clause-steps
returns-then-left-ne0-clause-steps c =
    let n = c.loop-self.self-inside in
    let first = lowest_left n.words.now n.next c.bits_from-left.result c.loop-self.invariant.2 c.loop-self-test.true c.bits_from-left.ensures.left c.bits_from-left.ensures.few c.bits_from-left.type_inv (omega (arith, c.if-left-ne0.true)) in
    c.loop-self.invariant.0 ∙ first.steps

pub returns-then-left-ne0-clause-goes : goal.returns-then-left-ne0-clause-goes
returns-then-left-ne0-clause-goes c =
    let n = c.loop-self.self-inside in
    let first = lowest_left n.words.now n.next c.bits_from-left.result c.loop-self.invariant.2 c.loop-self-test.true c.bits_from-left.ensures.left c.bits_from-left.ensures.few c.bits_from-left.type_inv (omega (arith, c.if-left-ne0.true)) in
    omega (arith, ap length (c.loop-self.invariant.0 ∙ first.steps))

pub invariant_of-self-then-left-ne0 : goal.invariant_of-self-then-left-ne0
invariant_of-self-then-left-ne0 c =
    let n = c.loop-self.self-inside in
    let first = lowest_left n.words.now n.next c.bits_from-left.result c.loop-self.invariant.2 c.loop-self-test.true c.bits_from-left.ensures.left c.bits_from-left.ensures.few c.bits_from-left.type_inv (omega (arith, c.if-left-ne0.true)) in
    (omega arith, omega (arith, first.most))

pub loop-self-preserved : goal.loop-self-preserved
loop-self-preserved c =
    let n = c.loop-self.self-inside in
    (c.loop-self.invariant.0 ∙ nothing_left n.words.now n.next c.loop-self.invariant.2 (omega (arith, c.loop-self-test.true)) (sym c.bits_from-left.ensures.left ∙ c.if-left-ne0.false), omega arith, omega arith)

pub returns-clause-steps : goal.returns-clause-steps
returns-clause-steps c =
    let n = c.loop-self.self-inside in
    let none = none_from_end (is_marked n.words.now) n.next (omega (arith, c.loop-self-test.false)) in
    (c.loop-self.invariant.0 ∙ none, none)
