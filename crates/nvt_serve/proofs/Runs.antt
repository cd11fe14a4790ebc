-- Deeds, one after the other, and their counts.
use Rattle.std.proofs.Common.{◌≡◌, ℕ, ◌+◌, Bool, List, [], ◌∷◌, ◌++◌, refl, sym, subst, arith}
use Rattle.tables.specs.NumberTable.{place}
use Rattle.nvt_serve.specs.Deed.{Deed, Does, Runs, Serving, is_asking, is_edit, is_opening, is_refusal, stepped_on}
use Rattle.nvt_serve.specs.declared.served.Served.{Served}
use Rattle.nvt_serve.specs.Served.{Goes, GoesOn, Numbers, count_of, no_numbers, numbers_of, sum_of}
use Rattle.nvt_serve.specs.Stepping.{GoesBySteps}
use Rattle.target_core.specs.Agreement.{front_of}
use Rattle.target_core.specs.Target.{TargetState}
use Rattle.target_core.specs.Steps.{Steps}

pub runs-append : (a b : List Deed) (old mid new : Serving) → Runs a old mid → Runs b mid new → Runs (a ++ b) old new
runs-append [] b old mid new first more = subst (λ (s : Serving). Runs b s new) first more
runs-append (deed ∷ a) b old mid new first more = (first.0, first.1, runs-append a b first.0 mid new first.2 more)

pub count_of-append : (test : Deed → Bool) (a b : List Deed) → count_of test (a ++ b) ≡ count_of test a + count_of test b
count_of-append test [] b = omega arith
count_of-append test (deed ∷ a) b = omega (arith, count_of-append test a b)

-- ---- what is counted

pub goes_same : (old new : Serving) → new ≡ old → Goes no_numbers old new
goes_same old new same = record { deeds = []; runs = same; asked = refl; opened = refl; edits = refl; refused = refl }

abbrev pub numbers_of_one : Deed → Numbers
numbers_of_one deed = record {
  asked = count_of is_asking (deed ∷ []);
  opened = count_of is_opening (deed ∷ []);
  edits = count_of is_edit (deed ∷ []);
  refused = count_of is_refusal (deed ∷ []);
}

pub goes_once : (deed : Deed) (old new : Serving) → Does deed old new → Goes (numbers_of_one deed) old new
goes_once deed old new does = record { deeds = deed ∷ []; runs = (new, does, refl); asked = refl; opened = refl; edits = refl; refused = refl }

pub goes_then : (m n : Numbers) (old mid new : Serving) → Goes m old mid → Goes n mid new → Goes (sum_of m n) old new
goes_then m n old mid new first more = record {
  deeds = first.deeds ++ more.deeds;
  runs = runs-append first.deeds more.deeds old mid new first.runs more.runs;
  asked = omega (arith, count_of-append is_asking first.deeds more.deeds, first.asked, more.asked);
  opened = omega (arith, count_of-append is_opening first.deeds more.deeds, first.opened, more.opened);
  edits = omega (arith, count_of-append is_edit first.deeds more.deeds, first.edits, more.edits);
  refused = omega (arith, count_of-append is_refusal first.deeds more.deeds, first.refused, more.refused);
}

pub goes_on : (old mid new : Serving) → Goes no_numbers old mid → Goes no_numbers mid new → Goes no_numbers old new
goes_on old mid new first more = goes_then no_numbers no_numbers old mid new first more

pub goes_counted : (before after : Served) (old mid new : Serving) → Goes (numbers_of before) old mid → GoesOn before after mid new
    → Goes (numbers_of after) old new
goes_counted before after old mid new first on =
    subst (λ (n : Numbers). Goes n old new) (sym on.counted) (goes_then (numbers_of before) on.numbers old mid new first on.goes)

pub goes_around : (n : Numbers) (old mid next new : Serving) → Goes no_numbers old mid → Goes n mid next → Goes no_numbers next new → Goes n old new
goes_around n old mid next new before here after = record {
  deeds = before.deeds ++ (here.deeds ++ after.deeds);
  runs = runs-append before.deeds (here.deeds ++ after.deeds) old mid new before.runs (runs-append here.deeds after.deeds mid next new here.runs after.runs);
  asked = omega (arith, count_of-append is_asking before.deeds (here.deeds ++ after.deeds), count_of-append is_asking here.deeds after.deeds, before.asked, here.asked, after.asked);
  opened = omega (arith, count_of-append is_opening before.deeds (here.deeds ++ after.deeds), count_of-append is_opening here.deeds after.deeds, before.opened, here.opened, after.opened);
  edits = omega (arith, count_of-append is_edit before.deeds (here.deeds ++ after.deeds), count_of-append is_edit here.deeds after.deeds, before.edits, here.edits, after.edits);
  refused = omega (arith, count_of-append is_refusal before.deeds (here.deeds ++ after.deeds), count_of-append is_refusal here.deeds after.deeds, before.refused, here.refused, after.refused);
}

-- ---- steps

pub no_steps_go : (t : TargetState) → GoesBySteps t t
no_steps_go t = λ ports connections. goes_same _ _ refl

pub steps_go : (k : ℕ) (old new : TargetState) → Steps k old new → GoesBySteps old new
steps_go k old new step = λ ports connections. goes_once (stepped_on k (front_of (place old.streams k)) step.disk_outcome) _ _ (record {
  ports = refl;
  target = record { busy = step.busy; finds = refl; did = step.did; happens = record { transition = step.transition; connections = refl } };
})

pub steps_go_on : (old mid new : TargetState) → GoesBySteps old mid → GoesBySteps mid new → GoesBySteps old new
steps_go_on old mid new first more = λ ports connections. goes_on _ _ _ (first ports connections) (more ports connections)
