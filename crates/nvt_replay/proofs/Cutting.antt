-- Lines of a script that were cut off.
use Rattle.std.proofs.Common.{◌≡◌, ℕ, zero, suc, ◌<◌, ◌≤◌, arith, Bool, true, false, List, [], ◌∷◌, ◌++◌, take, drop, take-append-drop, Option, Some, None, is_some, Result, Ok, Err, refl, sym, ap, ◌∙◌, subst, inl, inr}
use Rattle.std.specs.Prelude.{◌+◌, MatchOption, OnErr, codes, nat_lt, if◌then◌else◌}
use Rattle.std.proofs.lemmas.Bool.{cases_lt}
use Rattle.std.specs.Io.{StartsWith}
use Rattle.std.specs.Io.KnownBytes.{Appends}
use Rattle.std.proofs.KnownBytes.{Appends-nil, Appends-trans}
use Rattle.hex.specs.Hex.{decode_of}
use Rattle.tables.specs.NumberTable.{place}
use Rattle.target_core.specs.declared.fault.OpenFault.{OpenFault}
use Rattle.target_core.specs.Connection.{KnownConnection}
use Rattle.target_core.specs.Transition.{Transition}
use Rattle.target_core.specs.Target.{TargetState, free_number, is_ended_at, open_fault, output_at}
use Rattle.target_decision.specs.World.{connections_max}
use Rattle.target_history.specs.Event.{given_up, opened, ticked}
use Rattle.edit_lines.specs.declared.reply.Reply.{Reply}
use Rattle.edit_lines.specs.declared.stream_line.StreamLine.{StreamLine}
use Rattle.edit_lines.specs.Printed.{edit_made_line, event_line, output_lines, reply_line}
use Rattle.edit_lines.specs.StreamLine.{Says}
use Rattle.edit_lines.specs.Writing.{AppendsFront}
use Rattle.edit_lines.proofs.Fronts.{begins_left, front_behind, front_left}
use Rattle.nvt_replay.specs.CutOff.{EditsInPart, EndsInPart, HandsOutInPart, IsCutOff, OpensInPart, PlaysInPart, ReceivesInPart, DrainsInPart, TicksInPart}
use Rattle.nvt_replay.specs.Played.{ArePrinted, PlaysAll, PlaysOpen, Prints, Receives, Drains, StepBelow, connection_lines, lines_below, number_taken}
use Rattle.edit_lines.specs.Line.{MakesLine, Refuses}
use Rattle.nvt_replay.proofs.Prints.{lines_are, lines_below-more, not_yet}

-- ---- the lines of a connection

abbrev closing : ℕ → Bool → List ℕ
closing k is_ended = if is_ended then event_line k (codes "closed") else []

lines_with : (k : ℕ) (o : Option KnownConnection) (output : List ℕ) → output ≡ output_at o
    → connection_lines k o ≡ output_lines k output ++ closing k (is_ended_at o)
lines_with k o output is = lines_are k o ∙ ap (λ (bytes : List ℕ). output_lines k bytes ++ closing k (is_ended_at o)) (sym is)

-- of its output a beginning is printed
pub lines_begun : (k : ℕ) (o : Option KnownConnection) (a b : Option (List ℕ)) (output : List ℕ) → output ≡ output_at o
    → AppendsFront a b (output_lines k output) → AppendsFront a b (connection_lines k o)
lines_begun k o a b output is part =
    subst (AppendsFront a b) (sym (lines_with k o output is))
    (front_left a b (output_lines k output) (closing k (is_ended_at o)) part)

-- .. and of the line that it is closed
pub closing_begun : (k : ℕ) (o : Option KnownConnection) (a b c : Option (List ℕ)) (output : List ℕ) → output ≡ output_at o → is_ended_at o ≡ true
    → Appends a b (output_lines k output) → AppendsFront b c (event_line k (codes "closed")) → AppendsFront a c (connection_lines k o)
closing_begun k o a b c output is ended printed part =
    subst (AppendsFront a c) (sym (lines_with k o output is ∙ ap (λ e. output_lines k output ++ closing k e) ended))
    (front_behind a b c (output_lines k output) (event_line k (codes "closed")) printed part)

-- ---- a draining

one_more : (k : ℕ) (t : TargetState) → lines_below (suc k) t ≡ lines_below k t ++ connection_lines k (place t.connections k)
unfolding lines_below
one_more k t = refl

-- a beginning of the lines of some connections is one of the lines of more
lines_begin : (m n : ℕ) (t : TargetState) (front : List ℕ) → n ≤ m → StartsWith (lines_below n t) front → StartsWith (lines_below m t) front
lines_begin zero n t front few begins = subst (λ i. StartsWith (lines_below i t) front) (omega arith) begins
lines_begin (suc m) n t front few begins =
    elim (cases_lt n (suc m)) [
      | inl fewer ↦ rw (one_more m t) (begins_left (lines_below m t) (connection_lines m (place t.connections m)) front
          (lines_begin m n t front (omega arith) begins))
      | inr all ↦ subst (λ i. StartsWith (lines_below i t) front) (omega arith) begins
    ]

-- without memory for the steps nothing is printed
pub stepping_cut : (old : TargetState) (a : Option (List ℕ)) → Prints a a (λ text. DrainsInPart old text)
stepping_cut old a = ([], Appends-nil a, inl refl)

-- of the lines of connection k a beginning is printed, behind those below it
pub draining_cut : (k : ℕ) (old idle mid : TargetState) (a b c : Option (List ℕ)) → k < 64 → StepBelow connections_max old idle
    → ArePrinted (λ j. nat_lt j k) idle mid → Appends a b (lines_below k idle)
    → AppendsFront b c (connection_lines k (place mid.connections k)) → Prints a c (λ text. DrainsInPart old text)
draining_cut k old idle mid a b c known steps first before here =
    let own : AppendsFront b c (connection_lines k (place idle.connections k)) =
    subst (λ (o : Option KnownConnection). AppendsFront b c (connection_lines k o)) (not_yet k idle mid first) here in
    let part : AppendsFront a c (lines_below (k + 1) idle) =
    subst (AppendsFront a c) (sym (lines_below-more k idle))
    (front_behind a b c (lines_below k idle) (connection_lines k (place idle.connections k)) before own) in
    (part.0, part.1, inr (idle, steps, lines_begin 64 (k + 1) idle part.0 (omega arith) part.2))

-- ---- the bytes of an `rx`

-- the draining after a piece is cut off
pub piece_cut : (k len : ℕ) (bytes text : List ℕ) (old mid : TargetState) → len ≡ number_taken k bytes old → 0 < len
    → Receives k (take len bytes) old mid → DrainsInPart mid text → HandsOutInPart 0 k bytes old text
piece_cut k len bytes text old mid is some received drains =
    (mid, subst (λ m. 0 < m) is some, subst (λ m. Receives k (take m bytes) old mid) is received, drains)

-- a piece, what is printed of it, and what is printed of the rest
pub piece_before : (k n len : ℕ) (bytes rest : List ℕ) (old mid drained : TargetState) (first text : List ℕ) → len ≡ number_taken k bytes old → 0 < len
    → Receives k (take len bytes) old mid → Drains mid first drained → rest ≡ drop len bytes → HandsOutInPart n k rest drained text
    → HandsOutInPart (suc n) k bytes old (first ++ text)
piece_before k n len bytes rest old mid drained first text is some received drains after more = (
  mid,
  drained,
  first,
  text,
  subst (λ m. 0 < m) is some,
  subst (λ m. Receives k (take m bytes) old mid) is received,
  drains,
  subst (λ r. HandsOutInPart n k r drained text) (after ∙ ap (λ m. drop m bytes) is) more,
  refl,
)

-- ---- the lines of a script, each by the result of what plays it

pub opening_cut : {E : Type 0} (r : Result (Unit {0}) E) (port : ℕ) (old new : TargetState) (a b : Option (List ℕ)) (text : List ℕ) → PlaysOpen port old text new
    → OnErr r (AppendsFront a b text) → OnErr r (Prints a b (λ printed. OpensInPart port old printed new))
opening_cut (Ok done) port old new a b text plays part = tt
opening_cut (Err fault) port old new a b text plays part = (part.0, part.1, inr (text, plays, part.2))

abbrev is_number : ℕ → Result ℕ OpenFault
is_number k = Ok k

none_refused : (k : ℕ) (o : Option OpenFault) (P : Type 0) → MatchOption o P (λ fault. is_number k ≡ Err fault) → o ≡ None
none_refused k None P h = refl
none_refused k (Some fault) P h = cc

-- a connection that is opened
pub opened_plays : (port k : ℕ) (old new : TargetState) (P : Type 0) → MatchOption (open_fault old port) P (λ fault. is_number k ≡ Err fault)
    → free_number old ≡ Some k → Transition (opened port k) old new → PlaysOpen port old (event_line k (codes "open")) new
opened_plays port k old new P refused free transition = rw (none_refused k (open_fault old port) P refused) (k, free, transition, refl)

if_unknown : (o : Option KnownConnection) (P : Type 0) (Q : KnownConnection → Type 0) → is_some o ≡ false → P → MatchOption o P Q
if_unknown None P Q not h = h
if_unknown (Some c) P Q not h = cc

if_known : (o : Option KnownConnection) (P : Type 0) (Q : KnownConnection → Type 0) → is_some o ≡ true → ((c : KnownConnection) → o ≡ Some c → Q c)
    → MatchOption o P Q
if_known None P Q is h = cc
if_known (Some c) P Q is h = h c refl

-- a connection that is not open
pub receiving_none_cut : {E : Type 0} (r : Result (Unit {0}) E) (k : ℕ) (hex : List ℕ) (old new : TargetState) (a b : Option (List ℕ))
    → is_some (place old.connections k) ≡ false → new ≡ old → OnErr r (AppendsFront a b (event_line k (codes "none")))
    → OnErr r (Prints a b (λ text. ReceivesInPart k hex old text new))
receiving_none_cut (Ok done) k hex old new a b not same part = tt
receiving_none_cut (Err fault) k hex old new a b not same part =
    (part.0, part.1, if_unknown (place old.connections k) _ _ not (part.2, same))

pub ending_none_cut : {E : Type 0} (r : Result (Unit {0}) E) (k : ℕ) (old new : TargetState) (a b : Option (List ℕ))
    → is_some (place old.connections k) ≡ false → new ≡ old → OnErr r (AppendsFront a b (event_line k (codes "none")))
    → OnErr r (Prints a b (λ text. EndsInPart k old text new))
ending_none_cut (Ok done) k old new a b not same part = tt
ending_none_cut (Err fault) k old new a b not same part =
    (part.0, part.1, if_unknown (place old.connections k) _ _ not (part.2, same))

-- without memory for its bytes
pub decoding_cut : (k : ℕ) (hex : List ℕ) (old new : TargetState) (a : Option (List ℕ)) → is_some (place old.connections k) ≡ true → new ≡ old
    → Prints a a (λ text. ReceivesInPart k hex old text new)
decoding_cut k hex old new a is same = ([], Appends-nil a, if_known (place old.connections k) _ _ is (λ c e. inl (refl, same)))

pub handing_cut : {E : Type 0} (r : Result (Unit {0}) E) (k : ℕ) (hex bytes : List ℕ) (old new : TargetState) (a b : Option (List ℕ))
    → is_some (place old.connections k) ≡ true → decode_of hex ≡ Ok bytes
    → OnErr r (Prints a b (λ text. (n : ℕ) × HandsOutInPart n k bytes old text))
    → OnErr r (Prints a b (λ text. ReceivesInPart k hex old text new))
handing_cut (Ok done) k hex bytes old new a b is decoded part = tt
handing_cut (Err fault) k hex bytes old new a b is decoded part =
    (part.0, part.1, if_known (place old.connections k) _ _ is (λ c e. inr (bytes, decoded, part.2.0, part.2.1)))

pub ending_cut : {E : Type 0} (r : Result (Unit {0}) E) (k : ℕ) (old mid new : TargetState) (a b : Option (List ℕ))
    → is_some (place old.connections k) ≡ true
    → MatchOption (place old.connections k) (mid ≡ old) (λ c. Transition (given_up k) old mid)
    → OnErr r (Prints a b (λ text. DrainsInPart mid text)) → OnErr r (Prints a b (λ text. EndsInPart k old text new))
ending_cut (Ok done) k old mid new a b is ends part = tt
ending_cut (Err fault) k old mid new a b is ends part = (
  part.0,
  part.1,
  if_known (place old.connections k) _ _ is (λ c e.
      (mid, subst (λ (o : Option KnownConnection). MatchOption o (mid ≡ old) (λ d. Transition (given_up k) old mid)) e ends, part.2)),
)

pub ticking_cut : {E : Type 0} (r : Result (Unit {0}) E) (ms : ℕ) (old mid : TargetState) (a b : Option (List ℕ)) → Transition (ticked ms) old mid
    → OnErr r (Prints a b (λ text. DrainsInPart mid text)) → OnErr r (Prints a b (λ text. TicksInPart ms old text))
ticking_cut (Ok done) ms old mid a b transition part = tt
ticking_cut (Err fault) ms old mid a b transition part = (part.0, part.1, (mid, transition, part.2))

-- the reply to an edit that is made
pub replying_cut : (line : List ℕ) (old new : TargetState) (a b : Option (List ℕ)) → MakesLine line old new → AppendsFront a b edit_made_line
    → Prints a b (λ text. EditsInPart line old text new)
replying_cut line old new a b makes part = (part.0, part.1, inr (inl (new, makes, inl (part.2, refl))))

-- what an edit that is made makes the target send
pub editing_cut : {E : Type 0} (r : Result (Unit {0}) E) (line : List ℕ) (old mid new : TargetState) (a b c : Option (List ℕ)) → MakesLine line old mid
    → Appends a b edit_made_line → OnErr r (Prints b c (λ text. DrainsInPart mid text))
    → OnErr r (Prints a c (λ text. EditsInPart line old text new))
editing_cut (Ok done) line old mid new a b c makes made part = tt
editing_cut (Err fault) line old mid new a b c makes made part = (
  edit_made_line ++ part.0,
  Appends-trans a b c edit_made_line part.0 made part.1,
  inr (inl (mid, makes, inr (part.0, part.2, refl))),
)

pub refusing_cut : {E : Type 0} (r : Result (Unit {0}) E) (line : List ℕ) (old new : TargetState) (reply : Reply) (a b : Option (List ℕ))
    → Refuses old.config line reply → new ≡ old → OnErr r (AppendsFront a b (reply_line reply))
    → OnErr r (Prints a b (λ text. EditsInPart line old text new))
refusing_cut (Ok done) line old new reply a b refuses same part = tt
refusing_cut (Err fault) line old new reply a b refuses same part = (part.0, part.1, inr (inr (reply, refuses, part.2, same)))

-- ---- a script

-- the next line is cut off, behind those that were played
pub script_cut : (all : List (List ℕ)) (n : ℕ) (line : List ℕ) (left : List (List ℕ)) (says : StreamLine) (old mid new : TargetState) (a b c : Option (List ℕ))
    → drop n all ≡ line ∷ left → Says line says
    → Prints a b (λ text. PlaysAll (take n all) old text mid) → Prints b c (λ text. PlaysInPart says mid text new)
    → Prints a c (λ text. IsCutOff all old text)
script_cut all n line left says old mid new a b c e is before part = (
  before.0 ++ part.0,
  Appends-trans a b c before.0 part.0 before.1 part.1,
  record {
    before = take n all;
    text = line;
    after = left;
    split = sym (take-append-drop n all) ∙ ap (λ (rest : List (List ℕ)). take n all ++ rest) e;
    says = says;
    is = is;
    mid = mid;
    last = new;
    first = before.0;
    rest = part.0;
    played = before.2;
    part = part.2;
    joined = refl;
  },
)
