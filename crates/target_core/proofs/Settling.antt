-- What the walks that end connections leave.
use Rattle.std.proofs.Common.{◌≡◌, ℕ, ◌+◌, ◌≤◌, ◌==◌, Bool, true, false, ◌||◌, ◌&&◌, List, [], ◌∷◌, length, map, Option, Some, None, refl, sym, ap, ◌∙◌, inl, inr, arith}
use Rattle.std.proofs.lemmas.Bool.{cases_lt, eqb-true}
use Rattle.std.proofs.lemmas.Bool.Decides.{nat_tests}
use Rattle.data_transfer.specs.Part.{Part}
use Rattle.data_transfer.specs.Parts.{Stand, part_at, without_queue}
use Rattle.tables.specs.NumberTable.{place}
use Rattle.tables.proofs.NumberTables.{place_past}
use Rattle.pdu_cut.specs.Front.{Front}
use Rattle.target_decision.specs.declared.transfer.WaitingCommand.{WaitingCommand}
use Rattle.target_decision.specs.Carry.{tags_after}
use Rattle.target_decision.specs.Decision.{is_end}
use Rattle.target_decision.specs.Transfer.{Tags}
use Rattle.std.specs.Prelude.{if◌then◌else◌, nat_lt}
use Rattle.std.specs.Option.{option_map}
use Rattle.target_core.specs.Connection.{KnownConnection, ends_known, settled}
use Rattle.target_decision.specs.declared.consequence.Consequence.{Consequence}
use Rattle.target_decision.specs.declared.consequence.Consequence.TheVariants as consequence
use Rattle.target_decision.specs.declared.decision.Decision.{Decision}
use Rattle.target_decision.specs.declared.decision.Decision.TheVariants as decision
use Rattle.target_decision.specs.declared.session.Role.TheVariants.{Admin, Io}
use Rattle.target_decision.specs.declared.session.Session.{Session}
use Rattle.target_decision.specs.declared.session.Session.TheVariants.{Opened, Initialized, Connected, Ended}
use Rattle.target_decision.specs.Session.{replied, session_after}
use Rattle.target_history.specs.declared.end_cause.EndCause.{EndCause}
use Rattle.target_history.specs.declared.end_cause.EndCause.TheVariants as cause
use Rattle.target_history.specs.EndCause.{cause_decided, cause_replied, cause_updated, ends_session, is_on_port}

-- ---- where nothing ends

nothing_ends : (gone : ℕ → Bool) → ((c : ℕ) → gone c ≡ false) → (s : Session) → ends_session cause.Nothing gone s ≡ false
nothing_ends gone none Opened = refl
nothing_ends gone none Initialized = refl
nothing_ends gone none (Connected (Admin c) q) = none c
nothing_ends gone none (Connected (Io c qid) q) = ap (λ (b : Bool). b || false) (none c)
nothing_ends gone none Ended = refl

nothing_settled : (gone : ℕ → Bool) → ((c : ℕ) → gone c ≡ false) → (c : KnownConnection) → settled cause.Nothing gone c ≡ c
nothing_settled gone none c = rw (nothing_ends gone none c.state.session) refl

pub same_at : (gone : ℕ → Bool) → ((c : ℕ) → gone c ≡ false) → (o : Option KnownConnection) → option_map (settled cause.Nothing gone) o ≡ o
same_at gone none None = refl
same_at gone none (Some c) = ap Some (nothing_settled gone none c)

pub nothing_settles : (gone : ℕ → Bool) → ((c : ℕ) → gone c ≡ false) → (l : List (Option KnownConnection)) → map (option_map (settled cause.Nothing gone)) l ≡ l
nothing_settles gone none [] = refl
nothing_settles gone none (o ∷ l) = rw (same_at gone none o, nothing_settles gone none l) refl

-- ---- where a decision ends something

either_ended : (a b : Bool) → (if a then Ended else Ended) ≡ (if b then Ended else Ended)
either_ended true true = refl
either_ended true false = refl
either_ended false true = refl
either_ended false false = refl

-- a reply ends its own connection in no other way than it would have before it
abbrev ends_in : EndCause → (ℕ → Bool) → ℕ → Session → Bool
ends_in e gone port s = is_on_port e port || ends_session e gone s

responds : (e : EndCause) (gone : ℕ → Bool) (port : ℕ) (s : Session)
    → (if ends_in e gone port (replied consequence.Nothing s) then Ended else replied consequence.Nothing s)
    ≡ (if ends_in e gone port s then Ended else replied consequence.Nothing s)
responds e gone port Opened = refl
responds e gone port Initialized = refl
responds e gone port (Connected role q) = refl
responds e gone port Ended = refl

nothing_in : (gone : ℕ → Bool) (port : ℕ) → ((c : ℕ) → gone c ≡ false) → (s t : Session)
    → (if ends_in cause.Nothing gone port t then Ended else t) ≡ (if ends_in cause.Nothing gone port s then Ended else t)
nothing_in gone port none s t = rw (nothing_ends gone none s, nothing_ends gone none t) refl

abbrev pub QuietWhere : EndCause → (ℕ → Bool) → Type 0
QuietWhere e gone = e ≡ cause.Nothing → (c : ℕ) → gone c ≡ false

replies : (ch : Consequence) (gone : ℕ → Bool) (port : ℕ) (s : Session) → QuietWhere (cause_replied ch) gone
    → (if ends_in (cause_replied ch) gone port (replied ch s) then Ended else replied ch s)
    ≡ (if ends_in (cause_replied ch) gone port s then Ended else replied ch s)
replies consequence.Nothing gone port s quiet = responds cause.Nothing gone port s
replies (consequence.Update c u) gone port s quiet = responds (cause_updated u c) gone port s
replies (consequence.Begin b) gone port s quiet = nothing_in gone port (quiet refl) s (replied (consequence.Begin b) s)
replies (consequence.Join j) gone port s quiet = nothing_in gone port (quiet refl) s (replied (consequence.Join j) s)

-- whether what a decision ends is looked for before it is done or after, its own session is the same
pub decision_settles : (d : Decision) (gone : ℕ → Bool) (port : ℕ) (s : Session) → QuietWhere (cause_decided s d) gone
    → (if ends_in (cause_decided s d) gone port (session_after s d) then Ended else session_after s d)
    ≡ (if ends_in (cause_decided s d) gone port s then Ended else session_after s d)
decision_settles (decision.Initialize alignment) gone port s quiet = nothing_in gone port (quiet refl) s Initialized
decision_settles (decision.Reply r) gone port s quiet = replies r.consequence gone port s quiet
decision_settles (decision.Terminate t) gone port s quiet =
    either_ended (ends_in (cause_decided s (decision.Terminate t)) gone port Ended) (ends_in (cause_decided s (decision.Terminate t)) gone port s)
decision_settles (decision.Request q) gone port s quiet = refl
decision_settles (decision.Receive ttag) gone port s quiet = refl
decision_settles (decision.Wait cid) gone port s quiet = refl
decision_settles decision.Close gone port s quiet =
    either_ended (ends_in (cause_decided s decision.Close) gone port Ended) (ends_in (cause_decided s decision.Close) gone port s)

-- ---- transfers

-- whether what a decision ends is looked for before it is done or after, it ends its own connection or not
responds_ends : (e : EndCause) (gone : ℕ → Bool) (port : ℕ) (s : Session) → ends_in e gone port (replied consequence.Nothing s) ≡ ends_in e gone port s
responds_ends e gone port Opened = refl
responds_ends e gone port Initialized = refl
responds_ends e gone port (Connected role q) = refl
responds_ends e gone port Ended = refl

nothing_both : (gone : ℕ → Bool) (port : ℕ) → ((c : ℕ) → gone c ≡ false) → (s t : Session)
    → ends_in cause.Nothing gone port t ≡ ends_in cause.Nothing gone port s
nothing_both gone port none s t = rw (nothing_ends gone none s, nothing_ends gone none t) refl

reply_ends : (ch : Consequence) (gone : ℕ → Bool) (port : ℕ) (s : Session) → QuietWhere (cause_replied ch) gone
    → ends_in (cause_replied ch) gone port (replied ch s) ≡ ends_in (cause_replied ch) gone port s
reply_ends consequence.Nothing gone port s quiet = responds_ends cause.Nothing gone port s
reply_ends (consequence.Update c u) gone port s quiet = responds_ends (cause_updated u c) gone port s
reply_ends (consequence.Begin b) gone port s quiet = nothing_both gone port (quiet refl) s (replied (consequence.Begin b) s)
reply_ends (consequence.Join j) gone port s quiet = nothing_both gone port (quiet refl) s (replied (consequence.Join j) s)

always_none : {A : Type 0} (a b : Bool) (x y : Option A) → x ≡ None → y ≡ None → (if a then None else x) ≡ (if b then None else y)
always_none true true x y h k = refl
always_none true false x y h k = sym k
always_none false true x y h k = h
always_none false false x y h k = h ∙ sym k

same_tests : {A : Type 0} (a b : Bool) (x : Option A) → a ≡ b → (if a then None else x) ≡ (if false || b then None else x)
same_tests a b x same = rw same refl

-- .. so its transfers are dropped or stay alike
pub tags_settle : (d : Decision) (found : Front) (tags : Tags) (t : ℕ) (gone : ℕ → Bool) (port : ℕ) (s : Session) → QuietWhere (cause_decided s d) gone
    → (if ends_in (cause_decided s d) gone port (session_after s d) then None else tags_after d found tags t)
    ≡ (if is_end d || ends_in (cause_decided s d) gone port s then None else tags_after d found tags t)
tags_settle (decision.Initialize alignment) found tags t gone port s quiet = same_tests _ _ (tags t) (nothing_both gone port (quiet refl) s Initialized)
tags_settle (decision.Reply r) found tags t gone port s quiet =
    same_tests _ _ (tags_after (decision.Reply r) found tags t) (reply_ends r.consequence gone port s quiet)
tags_settle (decision.Request q) found tags t gone port s quiet = refl
tags_settle (decision.Receive ttag) found tags t gone port s quiet = refl
tags_settle (decision.Wait cid) found tags t gone port s quiet = refl
tags_settle (decision.Terminate u) found tags t gone port s quiet =
    always_none (ends_in (cause_decided s (decision.Terminate u)) gone port Ended) true None None refl refl
tags_settle decision.Close found tags t gone port s quiet =
    always_none (ends_in (cause_decided s decision.Close) gone port Ended) true None None refl refl

-- nothing that ends drops none
nothing_known : (gone : ℕ → Bool) → ((c : ℕ) → gone c ≡ false) → (o : Option KnownConnection) → ends_known cause.Nothing gone o ≡ false
nothing_known gone none None = refl
nothing_known gone none (Some c) = nothing_ends gone none c.state.session

pub nothing_drops : {A : Type 0} (gone : ℕ → Bool) → ((c : ℕ) → gone c ≡ false) → (o : Option KnownConnection) (slot : Option A)
    → slot ≡ (if ends_known cause.Nothing gone o then None else slot)
nothing_drops gone none o slot = rw (nothing_known gone none o) refl

-- how far the walk over the connections has come
pub record DroppedBelow (e : EndCause) (gone : ℕ → Bool) (connections : List (Option KnownConnection)) (from : ℕ) (old : ℕ → Tags)
    (transfers : List (List (Option (Part WaitingCommand)))) : Type 0 where
  pub at : (k t : ℕ) → part_at transfers k t ≡ (if nat_lt k from && ends_known e gone (place connections k) then None else old k t)

below_none : (e : EndCause) (gone : ℕ → Bool) (connections : List (Option KnownConnection)) (from k : ℕ) → length connections ≤ from
    → (nat_lt k from && ends_known e gone (place connections k)) ≡ ends_known e gone (place connections k)
below_none e gone connections from k all =
    elim (cases_lt k from) [
      | inl below ↦ let test : nat_lt k from ≡ true = grind (arith, nat_tests) in rw test refl
      | inr past ↦
          let none : place connections k ≡ None = place_past connections k (omega arith) in
          rw none (by (nat_lt k from))
    ]
  where
    by : (b : Bool) → (b && false) ≡ false
    by true = refl
    by false = refl

pub dropped_none : (e : EndCause) (gone : ℕ → Bool) (connections : List (Option KnownConnection)) (transfers : List (List (Option (Part WaitingCommand))))
    → DroppedBelow e gone connections 0 (part_at transfers) transfers
dropped_none e gone connections transfers = record { at = λ k t. by (nat_lt k 0) (ends_known e gone (place connections k)) (part_at transfers k t) (test k) }
  where
    test : (k : ℕ) → nat_lt k 0 ≡ false
    test k = grind (arith, nat_tests)

    by : (below ends : Bool) (slot : Option (Part WaitingCommand)) → below ≡ false → slot ≡ (if below && ends then None else slot)
    by true ends slot h = cc
    by false ends slot h = refl

pub dropped_all : (e : EndCause) (gone : ℕ → Bool) (connections : List (Option KnownConnection)) (from : ℕ) (old : ℕ → Tags)
    (transfers : List (List (Option (Part WaitingCommand)))) → length connections ≤ from → DroppedBelow e gone connections from old transfers
    → (k t : ℕ) → part_at transfers k t ≡ (if ends_known e gone (place connections k) then None else old k t)
dropped_all e gone connections from old transfers all dropped k t =
    dropped.at k t ∙ ap (λ (b : Bool). if b then None else old k t) (below_none e gone connections from k all)

-- one more connection
step_test : (k from : ℕ) → (k == from) ≡ false → nat_lt k (from + 1) ≡ nat_lt k from
step_test k from other = grind (arith, nat_tests)

pub dropped_more : (e : EndCause) (gone : ℕ → Bool) (connections : List (Option KnownConnection)) (from : ℕ) (old : ℕ → Tags)
    (before after : List (List (Option (Part WaitingCommand)))) → DroppedBelow e gone connections from old before
    → ends_known e gone (place connections from) ≡ true → Stand after (without_queue (part_at before) from)
    → DroppedBelow e gone connections (from + 1) old after
dropped_more e gone connections from old before after dropped ends stands = record { at = λ k t. stands.at k t ∙ by k t (k == from) refl } where
  by : (k t : ℕ) (same : Bool) → (k == from) ≡ same
      → (if same then None else part_at before k t) ≡ (if nat_lt k (from + 1) && ends_known e gone (place connections k) then None else old k t)
  by k t true same =
      let one : k ≡ from = eqb-true k from same in
      let test : nat_lt k (from + 1) ≡ true = grind (arith, nat_tests) in
      let here : ends_known e gone (place connections k) ≡ true = ap (λ n. ends_known e gone (place connections n)) one ∙ ends in
      rw (test, here) refl
  by k t false same = rw (step_test k from same) (dropped.at k t)

pub dropped_on : (e : EndCause) (gone : ℕ → Bool) (connections : List (Option KnownConnection)) (from : ℕ) (old : ℕ → Tags)
    (transfers : List (List (Option (Part WaitingCommand)))) → DroppedBelow e gone connections from old transfers
    → ends_known e gone (place connections from) ≡ false → DroppedBelow e gone connections (from + 1) old transfers
dropped_on e gone connections from old transfers dropped lasts = record { at = λ k t. dropped.at k t ∙ by k t (k == from) refl } where
  by : (k t : ℕ) (same : Bool) → (k == from) ≡ same
      → (if nat_lt k from && ends_known e gone (place connections k) then None else old k t)
      ≡ (if nat_lt k (from + 1) && ends_known e gone (place connections k) then None else old k t)
  by k t true same =
      let one : k ≡ from = eqb-true k from same in
      let here : ends_known e gone (place connections k) ≡ false = ap (λ n. ends_known e gone (place connections n)) one ∙ lasts in
      rw here (both (nat_lt k from) (nat_lt k (from + 1)))
    where
      both : (a b : Bool) → (if a && false then None else old k t) ≡ (if b && false then None else old k t)
      both true true = refl
      both true false = refl
      both false true = refl
      both false false = refl
  by k t false same = rw (step_test k from same) refl

pub ruleset dropping = (dropped_none, dropped_all, dropped_more, dropped_on)
