use Rattle.std.proofs.Common.{ℕ, List, [], ◌∷◌, ◌++◌, length-append, sym, ap, ◌∙◌, append_assoc, arith}
use Rattle.std.specs.List.{last_or}
use Rattle.std.proofs.lemmas.Result.{err_from_is_err_and}
use Rattle.host_program.specs.Lines.{nsid_line}
use Rattle.host_program.specs.Listing.{list_text}
use Rattle.host_program.proofs.Listed.{printed_more, split}
use Rattle.host_program.proofs.Printing.{fails}
use Rattle.host_program.proofs.namespaces.print_nsids.Goals as goal

pub returns-in_err-print_nsid : goal.returns-in_err-print_nsid
returns-in_err-print_nsid g c =
    let i = c.loop-nsid.invariant.printed in
    let all = i.1 ∙ ap (λ (l : List ℕ). i.0 ++ l) c.in-Some.ensures.steps in
    let r = c.from_residual in
    let p = err_from_is_err_and r.result r.ensures.1 in
    rw (p.1, p.2) (fails (list_text c.args.nsids) (list_text i.0) (nsid_line c.in-Some.nsid) (list_text c.next.new.self) _ (g.W.Write.contents c.args.out.now)
    (g.W.Write.contents c.loop-nsid.out) (g.W.Write.contents c.print_nsid.new.out) (split i.0 c.in-Some.nsid c.next.new.self c.args.nsids all) i.4 c.in_err-print_nsid.ensures)

pub loop-nsid-preserved : goal.loop-nsid-preserved
loop-nsid-preserved g c =
    let i = c.loop-nsid.invariant.printed in
    let n = c.in-Some.nsid in
    let left = c.in-Some.ensures.steps in
    record {
      next = tt;
      finite = tt;
      printed = (
        i.0 ++ n ∷ [],
        i.1 ∙ ap (λ (l : List ℕ). i.0 ++ l) left ∙ sym (append_assoc i.0 (n ∷ []) c.next.new.self),
        omega (arith, c.saturating_add-count.ensures, i.2, length-append i.0 (n ∷ [])),
        sym (ap (λ (l : List ℕ). last_or c.loop-nsid.last l) left) ∙ i.3,
        printed_more i.0 n (g.W.Write.contents c.args.out.now) (g.W.Write.contents c.loop-nsid.out) (g.W.Write.contents c.print_nsid.new.out) i.4 c.in_ok-print_nsid.ensures,
      );
    }
