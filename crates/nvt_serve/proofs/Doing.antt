-- What is given, and who is given up: from the contracts of the calls that do it to a deed.
use Rattle.std.proofs.Common.{◌≡◌, ◌≢◌, ℕ, ◌≤◌, Bool, true, false, List, [], length, take, drop, set, Option, Some, None, MatchOption, refl, sym, ap, ◌∙◌, subst, take-append-drop, arith}
use Rattle.std.specs.Option.{option_map}
use Rattle.std.proofs.lemmas.List.{length-take}
use Rattle.tables.specs.NumberTable.{place}
use Rattle.nvt_ports.specs.Told.{PortsState, given_once}
use Rattle.nvt_serve.specs.declared.ties.Ties.{Ties}
use Rattle.nvt_serve.specs.Deed as deed
use Rattle.nvt_serve.specs.Deed.{Deed, Does, Serving}
use Rattle.nvt_serve.specs.Looks.{AreLooks, ForgetsAlone, Unties}
use Rattle.nvt_serve.specs.Served.{AreTies, Goes, no_numbers, serving}
use Rattle.nvt_serve.proofs.Runs.{goes_on, goes_once, goes_same, numbers_of_one}
use Rattle.nvt_serve.proofs.Asked.{known_is}
use Rattle.nvt_serve.proofs.Looking.{looks_forgotten, looks_taken, looks_untied}
use Rattle.nvt_serve.proofs.Tying.{does_keep, ties_step, within_kept}
use Rattle.target_core.specs.Connection.{KnownConnection}
use Rattle.target_core.specs.Transition.{Transition}
use Rattle.target_core.specs.Target.{TakenAt, TargetState, is_ended_at, output_at}
use Rattle.target_history.specs.Event.{given_up}

-- nothing was asked, and the ties stay true
pub record Follows (p q : PortsState) (old new : TargetState) (before after : Ties) : Type 0 where
  pub ties : AreTies q new after
  pub goes : Goes no_numbers (serving p old before) (serving q new after)

pub follows_none : (p : PortsState) (t : TargetState) (ties : Ties) → AreTies p t ties → Follows p p t t ties ties
follows_none p t ties are = record {
  ties = are;
  goes = record { deeds = []; runs = refl; asked = refl; opened = refl; edits = refl; refused = refl };
}

pub follows_on : (p q r : PortsState) (old mid new : TargetState) (before ties after : Ties) → Follows p q old mid before ties
    → Follows q r mid new ties after → Follows p r old new before after
follows_on p q r old mid new before ties after first more = record {
  ties = more.ties;
  goes = goes_on (serving p old before) (serving q mid ties) (serving r new after) first.goes more.goes;
}

follows : (d : Deed) (p q : PortsState) (old new : TargetState) (before after : Ties) → numbers_of_one d ≡ no_numbers
    → Does d (serving p old before) (serving q new after) → AreLooks new after → AreTies p old before → Follows p q old new before after
follows d p q old new before after numbers does looks are = record {
  ties = record {
    tied = does_keep d (serving p old before) (serving q new after) does are.tied;
    within = within_kept d (serving p old before) (serving q new after) does are.within;
    looks = looks;
  };
  goes = subst (λ n. Goes n (serving p old before) (serving q new after)) numbers (goes_once d (serving p old before) (serving q new after) does);
}

-- another room is kept, or another set
pub follows_looks : (p : PortsState) (t : TargetState) (before after : Ties) → after.connections ≡ before.connections → AreLooks t after
    → AreTies p t before → Follows p p t t before after
follows_looks p t before after same looks are = record {
  ties = ties_step p t t before after (λ k. refl) same looks are;
  goes = goes_same (serving p t before) (serving p t after)
      (ap (λ (l : List (Option ℕ)). let s : Serving = record { ports = p; target = t; connections = l } in s) same);
}

-- ---- output

pub sent_follows : (p q : PortsState) (old new : TargetState) (ties : Ties) (slot k n : ℕ) (output : List ℕ) → place ties.connections slot ≡ Some k
    → output ≡ output_at (place old.connections k) → n ≤ length output → q.told ≡ option_map (given_once slot (take n output)) p.told
    → q.in_use ≡ p.in_use → q.faults ≡ p.faults → TakenAt k (place old.connections k) old n new → AreTies p old ties
    → Follows p q old new ties ties
sent_follows p q old new ties slot k n output tied is within told used faults takes are =
    follows (deed.sent slot k (take n output)) p q old new ties ties refl
    (record {
      ports = record { told = told; in_use = used; faults = faults };
      target = record {
        tied = tied;
        rest = drop n output;
        output = sym is ∙ sym (take-append-drop n output);
        taken = subst (λ (m : ℕ). TakenAt k (place old.connections k) old m new)
            (let len : n ≡ length (take n output) = omega (arith, length-take n output, within) in len) takes;
        connections = refl;
      };
    })
    (looks_taken old new k n ties takes are.looks) are

-- ---- connections that are given up

pub failed_follows : (p q r : PortsState) (old new : TargetState) (before after : Ties) (slot k : ℕ) → place before.connections slot ≡ Some k
    → q.told ≡ p.told → q.in_use ≡ p.in_use → q.faults ≢ p.faults
    → r.told ≡ q.told → r.in_use ≡ set q.in_use slot false → r.faults ≡ q.faults
    → MatchOption (place old.connections k) (new ≡ old) (λ c. Transition (given_up k) old new)
    → Unties slot k before after → AreTies p old before
    → Follows p r old new before after
failed_follows p q r old new before after slot k tied told used counts told_then used_then stays ends unties are =
    let transition = known_is (place old.connections k) (new ≡ old) (Transition (given_up k) old new) (are.tied.known slot k tied) ends in
    follows (deed.failed slot k) p r old new before after refl
    (record {
      ports = record {
        told = told_then ∙ told;
        in_use = used_then ∙ ap (λ (l : List Bool). set l slot false) used;
        faults = λ same. counts (sym stays ∙ same);
      };
      target = record { tied = tied; transition = transition; untied = unties.connections };
    })
    (looks_untied old new slot k before after transition unties tied are.tied.alone are.looks) are

ended_is : (o : Option KnownConnection) (A B : Type 0) → is_ended_at o ≡ true → MatchOption o A (λ c. B) → B
ended_is None A B ended h = cc
ended_is (Some c) A B ended h = h

pub closed_follows : (p q : PortsState) (old new : TargetState) (before after : Ties) (slot k : ℕ) → place before.connections slot ≡ Some k
    → is_ended_at (place old.connections k) ≡ true → output_at (place old.connections k) ≡ []
    → q.told ≡ p.told → q.in_use ≡ set p.in_use slot false → q.faults ≡ p.faults
    → MatchOption (place old.connections k) (new ≡ old) (λ c. Transition (given_up k) old new)
    → Unties slot k before after → AreTies p old before
    → Follows p q old new before after
closed_follows p q old new before after slot k tied ended output told used faults ends unties are =
    let transition = ended_is (place old.connections k) (new ≡ old) (Transition (given_up k) old new) ended ends in
    follows (deed.closed (Some slot) k) p q old new before after refl
    (record {
      ports = record { told = told; in_use = used; faults = faults };
      target = record { tied = tied; ended = ended; output = output; transition = transition; untied = unties.connections };
    })
    (looks_untied old new slot k before after transition unties tied are.tied.alone are.looks) are

pub forgotten_follows : (p : PortsState) (old new : TargetState) (before after : Ties) (k : ℕ) → ((slot : ℕ) → place before.connections slot ≢ Some k)
    → is_ended_at (place old.connections k) ≡ true → output_at (place old.connections k) ≡ []
    → MatchOption (place old.connections k) (new ≡ old) (λ c. Transition (given_up k) old new)
    → ForgetsAlone k before after → AreTies p old before
    → Follows p p old new before after
forgotten_follows p old new before after k none ended output ends forgets are =
    let transition = ended_is (place old.connections k) (new ≡ old) (Transition (given_up k) old new) ended ends in
    follows (deed.closed None k) p p old new before after refl
    (record {
      ports = refl;
      target = record { tied = none; ended = ended; output = output; transition = transition; untied = forgets.connections };
    })
    (looks_forgotten old new k before after transition forgets none are.looks) are
