-- What ports that tell say of deeds, and how lines are answered.
use Rattle.std.proofs.Common.{◌≡◌, ◌⊎◌, ℕ, ◌+◌, Bool, true, false, ◌||◌, List, [], ◌∷◌, ◌++◌, IsOk, Option, Some, None, Result, refl, sym, ap, subst, ◌∙◌, append_assoc, append-nil, inl, inr, arith}
use Rattle.std.specs.Prelude.{if◌then◌else◌}
use Rattle.std.specs.List.{AllZip, list_any}
use Rattle.std.specs.Option.{option_map}
use Rattle.std.proofs.lemmas.Bool.{false≢true}
use Rattle.nvt_config.specs.Accept.{accept}
use Rattle.nvt_config.specs.Configuration.{Configuration}
use Rattle.nvt_ports.specs.Told as told
use Rattle.nvt_ports.specs.Told.{HandedOut, PortsState, Told, given_once, heard, more, with_handed_out}
use Rattle.nvt_serve.specs.Deed as deed
use Rattle.nvt_serve.specs.Deed.{Answered, Asked, Deed, DoesToPorts, DoesToTarget, Runs, Serving, is_asking, is_edit, made_to, refused_by}
use Rattle.nvt_serve.specs.History.{IsReplyTo, LinesAreAnswered, PortsTellDeeds, TellDeeds, handed_out_for, handed_out_in, lines_in, replies_for, replies_in, took_with}
use Rattle.nvt_serve.specs.Served.{count_of}
use Rattle.target_core.specs.declared.fault.NoConn.{NoConn}
use Rattle.target_core.specs.Connection.{KnownConnection}
use Rattle.target_core.specs.Target.{ReceivesAt, TakenAt, TargetState}

-- what is told after so many calls, with this handed out, taken and replied
abbrev told_with : ℕ → List HandedOut → List (List ℕ) → List (List ℕ) → Option Configuration → Told → Told
told_with calls handed_out took replies refreshed t = record {
  asked = more t.asked calls;
  handed_out = t.handed_out ++ handed_out;
  took = took;
  replies = t.replies ++ replies;
  refreshed = refreshed;
}

more_none : (n : ℕ) → more n 0 ≡ n
more_none n = omega arith

more_then : (n a b : ℕ) → more (more n a) b ≡ more n (a + b)
more_then n a b = omega arith

nothing_told : (t : Told) → told_with 0 [] t.took [] t.refreshed t ≡ t
nothing_told t = rw (more_none t.asked, append-nil t.handed_out, append-nil t.replies) refl

abbrev calls_of : Deed → ℕ
calls_of d = if is_asking d then 1 else 0

abbrev refreshed_with : Deed → Configuration → Option Configuration → Option Configuration
refreshed_with d config refreshed = if is_edit d then Some config else refreshed

abbrev told_after : Deed → Configuration → Told → Told
told_after d config t = told_with (calls_of d) (handed_out_for d) (took_with d t.took) (replies_for d) (refreshed_with d config t.refreshed) t

-- ---- a deed

-- it is told, or the ports tell nothing from then on
abbrev IsTold : Deed → Configuration → Told → PortsState → Type 0
IsTold d config t new = (new.told ≡ Some (told_after d config t)) ⊎ (new.told ≡ None)

asked_told : (handed_out : Option HandedOut) (used : List Bool) (old new : PortsState) (t : Told) (list : List HandedOut)
    → with_handed_out handed_out t.handed_out ≡ t.handed_out ++ list → Asked handed_out used old new → old.told ≡ Some t
    → new.told ≡ Some (told_with 1 list t.took [] t.refreshed t)
asked_told handed_out used old new t list lists asked told =
    asked.told ∙ ap (option_map (heard handed_out)) told ∙ ap Some (same lists (sym (append-nil t.replies)))
  where
    same : {a b : List HandedOut} {r s : List (List ℕ)} → a ≡ b → r ≡ s
        → (let x : Told = record { asked = more t.asked 1; handed_out = a; took = t.took; replies = r; refreshed = t.refreshed } in x)
        ≡ (let y : Told = record { asked = more t.asked 1; handed_out = b; took = t.took; replies = s; refreshed = t.refreshed } in y)
    same lists replies = rw (lists, replies) refl

answered_told : (line : List ℕ) (answer : Told → Told) (old new : PortsState) (t u : Told) → answer (heard (Some (told.line line)) t) ≡ u
    → Answered line answer old new → old.told ≡ Some t → (new.told ≡ Some u) ⊎ (new.told ≡ None)
answered_told line answer old new t u is h before =
    elim h.told [
      | inl grown ↦ inl (grown ∙ ap (λ (o : Option Told). option_map answer (option_map (heard (Some (told.line line))) o)) before ∙ ap Some is)
      | inr none ↦ inr none
    ]

deed_told : (d : Deed) (config : Configuration) (old new : PortsState) (t : Told) → DoesToPorts d config old new → old.told ≡ Some t → IsTold d config t new
deed_told (deed.clock_set ms) config old new t h told = inl (asked_told _ _ old new t _ refl h told)
deed_told (deed.connected slot port k) config old new t h told = inl (asked_told _ _ old new t _ refl h told)
deed_told (deed.refused slot port fault) config old new t h told = inl (asked_told _ _ old new t _ refl h told)
deed_told (deed.received slot k bytes) config old new t h told = inl (asked_told _ _ old new t _ refl h told)
deed_told (deed.received_by_none slot bytes) config old new t h told = inl (asked_told _ _ old new t _ refl h told)
deed_told (deed.gone slot k) config old new t h told = inl (asked_told _ _ old new t _ refl h told)
deed_told (deed.gone_from_none slot) config old new t h told = inl (asked_told _ _ old new t _ refl h told)
deed_told (deed.edit_made line edit) config old new t h told = answered_told line (made_to config) old new t _ refl h told
deed_told (deed.edit_refused line why) config old new t h told = answered_told line (refused_by why) old new t _ refl h told
deed_told deed.nothing_came config old new t h told = inl (asked_told None _ old new t [] (sym (append-nil t.handed_out)) h told)
deed_told (deed.stepped_on k found m) config old new t h told = inl (ap (λ (p : PortsState). p.told) h ∙ told ∙ ap Some (sym (nothing_told t)))
deed_told (deed.sent slot k bytes) config old new t h told =
    inl (h.told ∙ ap (option_map (given_once slot bytes)) told ∙ ap (λ (u : Told). Some (given_once slot bytes u)) (sym (nothing_told t)))
deed_told (deed.failed slot k) config old new t h told = inl (h.told ∙ told ∙ ap Some (sym (nothing_told t)))
deed_told (deed.closed None k) config old new t h told = inl (ap (λ (p : PortsState). p.told) h ∙ told ∙ ap Some (sym (nothing_told t)))
deed_told (deed.closed (Some slot) k) config old new t h told = inl (h.told ∙ told ∙ ap Some (sym (nothing_told t)))

-- ---- ports that tell nothing

asked_silent : (handed_out : Option HandedOut) (used : List Bool) (old new : PortsState) → Asked handed_out used old new → old.told ≡ None → new.told ≡ None
asked_silent handed_out used old new asked none = asked.told ∙ ap (option_map (heard handed_out)) none

answered_silent : (line : List ℕ) (answer : Told → Told) (old new : PortsState) → Answered line answer old new → old.told ≡ None → new.told ≡ None
answered_silent line answer old new h none =
    elim h.told [
      | inl grown ↦ grown ∙ ap (λ (o : Option Told). option_map answer (option_map (heard (Some (told.line line))) o)) none
      | inr gone ↦ gone
    ]

deed_silent : (d : Deed) (config : Configuration) (old new : PortsState) → DoesToPorts d config old new → old.told ≡ None → new.told ≡ None
deed_silent (deed.clock_set ms) config old new h none = asked_silent _ _ old new h none
deed_silent (deed.connected slot port k) config old new h none = asked_silent _ _ old new h none
deed_silent (deed.refused slot port fault) config old new h none = asked_silent _ _ old new h none
deed_silent (deed.received slot k bytes) config old new h none = asked_silent _ _ old new h none
deed_silent (deed.received_by_none slot bytes) config old new h none = asked_silent _ _ old new h none
deed_silent (deed.gone slot k) config old new h none = asked_silent _ _ old new h none
deed_silent (deed.gone_from_none slot) config old new h none = asked_silent _ _ old new h none
deed_silent (deed.edit_made line edit) config old new h none = answered_silent line (made_to config) old new h none
deed_silent (deed.edit_refused line why) config old new h none = answered_silent line (refused_by why) old new h none
deed_silent deed.nothing_came config old new h none = asked_silent _ _ old new h none
deed_silent (deed.stepped_on k found m) config old new h none = ap (λ (p : PortsState). p.told) h ∙ none
deed_silent (deed.sent slot k bytes) config old new h none = h.told ∙ ap (option_map (given_once slot bytes)) none
deed_silent (deed.failed slot k) config old new h none = h.told ∙ none
deed_silent (deed.closed None k) config old new h none = ap (λ (p : PortsState). p.told) h ∙ none
deed_silent (deed.closed (Some slot) k) config old new h none = h.told ∙ none

runs_silent : (deeds : List Deed) (old new : Serving) → Runs deeds old new → old.ports.told ≡ None → new.ports.told ≡ None
runs_silent [] old new same none = ap (λ (s : Serving). s.ports.told) same ∙ none
runs_silent (d ∷ deeds) old new h none =
    runs_silent deeds h.0 new h.2 (deed_silent d h.0.target.config old.ports h.0.ports h.1.ports none)

-- ---- the configuration

received_config : (k : ℕ) (s : Option (List ℕ)) (o : Option KnownConnection) (old new : TargetState) (bytes : List ℕ) (result : Result ℕ NoConn)
    → ReceivesAt k s o old bytes result new → new.config ≡ old.config
received_config k None o old new bytes result h = ap (λ (t : TargetState). t.config) h.1
received_config k (Some held) None old new bytes result h = ap (λ (t : TargetState). t.config) h.1
received_config k (Some held) (Some c) old new bytes result h = ap (λ (t : TargetState). t.config) h.1

taken_config : (k : ℕ) (o : Option KnownConnection) (old : TargetState) (n : ℕ) (new : TargetState) → TakenAt k o old n new → new.config ≡ old.config
taken_config k None old n new h = ap (λ (t : TargetState). t.config) h
taken_config k (Some c) old n new h = ap (λ (t : TargetState). t.config) h

deed_config : (d : Deed) (old new : Serving) → is_edit d ≡ false → DoesToTarget d old new → new.target.config ≡ old.target.config
deed_config (deed.clock_set ms) old new other h = h.transition.config
deed_config (deed.connected slot port k) old new other h = h.transition.config
deed_config (deed.refused slot port fault) old new other h = ap (λ (t : TargetState). t.config) h.stays.target
deed_config (deed.received slot k bytes) old new other h = received_config k _ _ old.target new.target bytes h.result h.receives
deed_config (deed.received_by_none slot bytes) old new other h = ap (λ (t : TargetState). t.config) h.1.target
deed_config (deed.gone slot k) old new other h = h.transition.config
deed_config (deed.gone_from_none slot) old new other h = ap (λ (t : TargetState). t.config) h.1.target
deed_config (deed.edit_made line edit) old new other h = absurd (false≢true (sym other))
deed_config (deed.edit_refused line why) old new other h = ap (λ (t : TargetState). t.config) h.1.target
deed_config deed.nothing_came old new other h = ap (λ (t : TargetState). t.config) h.target
deed_config (deed.stepped_on k found m) old new other h = h.happens.transition.config
deed_config (deed.sent slot k bytes) old new other h = taken_config k _ old.target _ new.target h.taken
deed_config (deed.failed slot k) old new other h = h.transition.config
deed_config (deed.closed slot k) old new other h = h.transition.config

neither : (a b : Bool) → (a || b) ≡ false → (a ≡ false) × (b ≡ false)
neither true b none = absurd (false≢true (sym none))
neither false b none = (refl, none)

runs_config : (deeds : List Deed) (old new : Serving) → list_any is_edit deeds ≡ false → Runs deeds old new → new.target.config ≡ old.target.config
runs_config [] old new none same = ap (λ (s : Serving). s.target.config) same
runs_config (d ∷ deeds) old new none h =
    let both = neither (is_edit d) (list_any is_edit deeds) none in
    runs_config deeds h.0 new both.1 h.2 ∙ deed_config d old h.0 both.0 h.1.target

-- the configuration that stood after the deed, or else before it, is the one that stands where no edit follows
refreshed_then : (here later : Bool) (mid new : Configuration) (o : Option Configuration) → (later ≡ false → new ≡ mid)
    → (if later then Some new else if here then Some mid else o) ≡ (if here || later then Some new else o)
refreshed_then true true mid new o same = refl
refreshed_then true false mid new o same = ap Some (sym (same refl))
refreshed_then false true mid new o same = refl
refreshed_then false false mid new o same = refl

-- ---- deeds

runs_told : (deeds : List Deed) (old new : Serving) (t u : Told) → Runs deeds old new → old.ports.told ≡ Some t → new.ports.told ≡ Some u
    → TellDeeds deeds new.target.config t u
runs_told [] old new t u same told after =
    let still : Some u ≡ Some t = sym after ∙ ap (λ (s : Serving). s.ports.told) same ∙ told in
    let is : u ≡ t = cc in
    subst (λ (v : Told). TellDeeds [] new.target.config t v) (sym is) (record {
      asked = sym (more_none t.asked);
      handed_out = sym (append-nil t.handed_out);
      took = refl;
      replies = sym (append-nil t.replies);
      refreshed = refl;
    })
runs_told (d ∷ deeds) old new t u h told after =
    elim (deed_told d h.0.target.config old.ports h.0.ports t h.1.ports told) [
      | inl here ↦
          let mid : Told = told_after d h.0.target.config t in
          let rest : TellDeeds deeds new.target.config mid u = runs_told deeds h.0 new mid u h.2 here after in
          record {
            asked = rest.asked ∙ more_then t.asked (calls_of d) (count_of is_asking deeds);
            handed_out = rest.handed_out ∙ append_assoc t.handed_out (handed_out_for d) (handed_out_in deeds);
            took = rest.took;
            replies = rest.replies ∙ append_assoc t.replies (replies_for d) (replies_in deeds);
            refreshed = rest.refreshed ∙ refreshed_then (is_edit d) (list_any is_edit deeds) h.0.target.config new.target.config t.refreshed
                (λ none. runs_config deeds h.0 new none h.2);
          }
      | inr none ↦ let silent : new.ports.told ≡ None = runs_silent deeds h.0 new h.2 none in cc
    ]

pub ports_tell_deeds : PortsTellDeeds
ports_tell_deeds = record { tells = runs_told }

-- ---- lines

runs_answered : (deeds : List Deed) (old new : Serving) → Runs deeds old new → AllZip IsReplyTo (lines_in (handed_out_in deeds)) (replies_in deeds)
runs_answered [] old new h = tt
runs_answered (deed.edit_made text edit ∷ deeds) old new h =
    let accepted : IsOk (accept old.target.config edit) = rw h.1.target.accepted refl in
    ((old.target.config, inl (edit, h.1.target.is_line, accepted, refl)), runs_answered deeds h.0 new h.2)
runs_answered (deed.edit_refused text why ∷ deeds) old new h =
    ((old.target.config, inr (why, h.1.target.0, refl)), runs_answered deeds h.0 new h.2)
runs_answered (deed.clock_set ms ∷ deeds) old new h = runs_answered deeds h.0 new h.2
runs_answered (deed.connected slot port k ∷ deeds) old new h = runs_answered deeds h.0 new h.2
runs_answered (deed.refused slot port fault ∷ deeds) old new h = runs_answered deeds h.0 new h.2
runs_answered (deed.received slot k bytes ∷ deeds) old new h = runs_answered deeds h.0 new h.2
runs_answered (deed.received_by_none slot bytes ∷ deeds) old new h = runs_answered deeds h.0 new h.2
runs_answered (deed.gone slot k ∷ deeds) old new h = runs_answered deeds h.0 new h.2
runs_answered (deed.gone_from_none slot ∷ deeds) old new h = runs_answered deeds h.0 new h.2
runs_answered (deed.nothing_came ∷ deeds) old new h = runs_answered deeds h.0 new h.2
runs_answered (deed.stepped_on k found m ∷ deeds) old new h = runs_answered deeds h.0 new h.2
runs_answered (deed.sent slot k bytes ∷ deeds) old new h = runs_answered deeds h.0 new h.2
runs_answered (deed.failed slot k ∷ deeds) old new h = runs_answered deeds h.0 new h.2
runs_answered (deed.closed slot k ∷ deeds) old new h = runs_answered deeds h.0 new h.2

pub lines_are_answered : LinesAreAnswered
lines_are_answered = record { answered = runs_answered }
