use Rattle.std.proofs.Common.{◌≡◌, ◌≢◌, ◌≤◌, false, true, ℕ, ap, sym, ◌∙◌, arith}
use Rattle.std.proofs.lemmas.Bool.Decides.{nat_tests}
use Rattle.config_lists.specs.Namespace.{is_nsid, nsid_max}
use Rattle.config_lists.proofs.Marks.{set_put, set_stays}
use Rattle.config_lists.proofs.nsid_set.mark.Goals as goal

-- an identifier that a namespace may have
within : (nsid : ℕ) → is_nsid nsid ≡ true → (1 ≤ nsid) × (nsid ≤ nsid_max)
within nsid is = (grind (arith, nat_tests, is), grind (arith, nat_tests, is))

-- or may not
outside : (nsid k : ℕ) → is_nsid nsid ≡ false → 1 ≤ k → k ≤ nsid_max → k ≢ nsid
outside nsid k is above below same = grind (arith, nat_tests, is, above, below, same)

pub returns-then-is_nsid : goal.returns-then-is_nsid
returns-then-is_nsid c =
    let may = within c.args.nsid (ap is_nsid (sym c.from.ensures) ∙ sym c.is_nsid.ensures ∙ c.if-is_nsid.true) in
    set_put c.args.words.now c.args.nsid may.0 (omega (arith, may.1, may.0, c.told-words))

pub returns-else-is_nsid : goal.returns-else-is_nsid
returns-else-is_nsid c =
    sym (set_stays c.args.words.now c.args.nsid (λ k above below. outside c.args.nsid k (ap is_nsid (sym c.from.ensures) ∙ sym c.is_nsid.ensures ∙ c.if-is_nsid.false) above below))
