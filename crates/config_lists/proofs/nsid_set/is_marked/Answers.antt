use Rattle.std.proofs.Common.{◌≡◌, ◌≤◌, ◌%◌, ◌==◌, true, ap, sym, ◌∙◌, arith}
use Rattle.std.proofs.lemmas.Bool.Decides.{nat_tests}
use Rattle.config_lists.specs.Namespace.{is_nsid, nsid_max}
use Rattle.config_lists.specs.NsidSet.{is_marked}
use Rattle.config_lists.proofs.Sets.{is_nowhere, is_where}
use Rattle.config_lists.proofs.nsid_set.is_marked.Goals as goal

pub returns-then-not-is_nsid : goal.returns-then-not-is_nsid
returns-then-not-is_nsid c =
    sym (is_nowhere (is_marked c.args.words.now) c.args.nsid (ap is_nsid (sym c.from.ensures) ∙ sym c.is_nsid.ensures ∙ c.if-not-is_nsid.true))

pub returns : goal.returns
returns c =
    let may : is_nsid c.args.nsid ≡ true = ap is_nsid (sym c.from.ensures) ∙ sym c.is_nsid.ensures ∙ c.if-not-is_nsid.false in
    let above : 1 ≤ c.args.nsid = grind (arith, nat_tests, may) in
    let below : c.args.nsid ≤ nsid_max = grind (arith, nat_tests, may) in
    ap (λ w. w % 2 == 1) c.bits_from.ensures.left ∙ sym (is_where (is_marked c.args.words.now) c.args.nsid above below)
