use Rattle.std.proofs.Common.{◌≡◌, Bool, true, false, not, ℕ, ap, sym, ◌∙◌}
use Rattle.change_lists.specs.Tables.{differs, noted}
use Rattle.change_lists.proofs.Changed.{noted_next, passed_next}
use Rattle.change_lists.proofs.differences.add_differing.Goals as goal

pub loop-nsid-preserved : goal.loop-nsid-preserved
loop-nsid-preserved c =
    let p : ℕ → Bool = differs c.args.before.now c.args.after.now in
    let told = rw (c.get.ensures, c.get-in-loop-nsid.ensures) at c.is_same.ensures in
    let fails : p c.in-Some.nsid ≡ false = ap not (sym told ∙ c.if-not-is_same.false) in
    let so_far = rw c.in-Some.ensures.steps at c.loop-nsid.invariant.noted in
    record { next = tt; finite = tt; noted = sym (passed_next p c.in-Some.nsid c.next.new.self c.loop-nsid.changed fails) ∙ so_far }

pub loop-nsid-preserved-then-not-is_same : goal.loop-nsid-preserved-then-not-is_same
loop-nsid-preserved-then-not-is_same c =
    let p : ℕ → Bool = differs c.args.before.now c.args.after.now in
    let told = rw (c.get.ensures, c.get-in-loop-nsid.ensures) at c.is_same.ensures in
    let passes : p c.in-Some.nsid ≡ true = ap not (sym told ∙ c.if-not-is_same.true) in
    let so_far = rw c.in-Some.ensures.steps at c.loop-nsid.invariant.noted in
    record {
      next = tt;
      finite = tt;
      noted = ap (noted p c.next.new.self) c.insert.ensures ∙ sym (noted_next p c.in-Some.nsid c.next.new.self c.loop-nsid.changed passes) ∙ so_far;
    }
