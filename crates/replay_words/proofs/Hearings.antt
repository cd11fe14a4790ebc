-- How what a host sends is cut, its commands learnt and its PDUs told, step by step.
use Rattle.std.proofs.Common.{◌≡◌, ℕ, ◌-◌, min, Bool, true, false, List, [], ◌∷◌, ◌++◌, length, take, drop, refl, sym, ap, subst, ◌∙◌, append_assoc, append-nil, arith}
use Rattle.std.proofs.lemmas.List.{take_all, take-append-drop}
use Rattle.pdu_cut.specs.declared.side.Side.TheVariants.{Target}
use Rattle.pdu_cut.specs.Pdu.{Pdu}
use Rattle.pdu_cut.specs.Front.{Front, incomplete, whole, faulty, front}
use Rattle.pdu_cut.specs.Stream.{BeginsWith, HasNoWhole, joined}
use Rattle.pdu_cut.proofs.Fronts.{front_faulty-append}
use Rattle.pdu_cut.proofs.Streams.{begins_with_none, begins_with-append, begins_with_more, begins_with_taken}
use Rattle.replay_words.specs.Outstanding.{Outstanding}
use Rattle.replay_words.proofs.Bounds.{incomplete_bound}
use Rattle.replay_words.proofs.Lasts.{last_is_end}
use Rattle.replay_words.specs.Hearing.{Hears, TakesPdus, after_pdu, after_pdus, host_line, host_lines, is_faulty}

after_pdus-append : (xs ys : List Pdu) (o : Outstanding) → after_pdus (xs ++ ys) o ≡ after_pdus ys (after_pdus xs o)
after_pdus-append [] ys o = refl
after_pdus-append (x ∷ xs) ys o = after_pdus-append xs ys (after_pdu x o)

-- the lines of more PDUs follow those of the first
host_lines-append : (number : ℕ) (xs ys : List Pdu) (o : Outstanding)
    → host_lines number (xs ++ ys) o ≡ host_lines number xs o ++ host_lines number ys (after_pdus xs o)
host_lines-append number [] ys o = refl
host_lines-append number (x ∷ xs) ys o =
    let line = host_line number (after_pdu x o) x in
    ap (λ (t : List ℕ). line ++ t) (host_lines-append number xs ys (after_pdu x o))
    ∙ sym (append_assoc line (host_lines number xs (after_pdu x o)) (host_lines number ys (after_pdus xs (after_pdu x o))))

-- the text of some PDUs, and then that of more
told_more : (number : ℕ) (xs ys : List Pdu) (old mid : Outstanding) (text mid_text new_text : List ℕ)
    → mid ≡ after_pdus xs old → mid_text ≡ text ++ host_lines number xs old → new_text ≡ mid_text ++ host_lines number ys mid
    → new_text ≡ text ++ host_lines number (xs ++ ys) old
told_more number xs ys old mid text mid_text new_text learnt told more =
    more ∙ ap (λ (t : List ℕ). t ++ host_lines number ys mid) told
    ∙ ap (λ (o : Outstanding). (text ++ host_lines number xs old) ++ host_lines number ys o) learnt
    ∙ append_assoc text (host_lines number xs old) (host_lines number ys (after_pdus xs old))
    ∙ ap (λ (t : List ℕ). text ++ t) (sym (host_lines-append number xs ys old))

-- some PDUs are taken off, their commands are learnt, and they are told
pub record SoFar (number : ℕ) (stream rest : List ℕ) (old new : Outstanding) (text new_text : List ℕ) : Type 0 where
  pub pdus : List Pdu
  pub begins : BeginsWith Target stream pdus rest
  pub learnt : new ≡ after_pdus pdus old
  pub told : new_text ≡ text ++ host_lines number pdus old

pub so_far_none : (number : ℕ) (stream : List ℕ) (o : Outstanding) (text : List ℕ) → SoFar number stream stream o o text text
so_far_none number stream o text =
    record { pdus = []; begins = begins_with_none Target stream; learnt = refl; told = sym (append-nil text) }

-- one more
pub so_far_taken : (number : ℕ) (stream rest : List ℕ) (old new : Outstanding) (text new_text : List ℕ) (pdu : Pdu)
    → SoFar number stream rest old new text new_text → front Target rest ≡ whole pdu
    → SoFar number stream (drop (length pdu.bytes) rest) old (after_pdu pdu new) text (new_text ++ host_line number (after_pdu pdu new) pdu)
so_far_taken number stream rest old new text new_text pdu s h =
    record {
      pdus = s.pdus ++ pdu ∷ [];
      begins = begins_with_taken Target stream s.pdus rest pdu s.begins h;
      learnt = ap (after_pdu pdu) s.learnt ∙ sym (after_pdus-append s.pdus (pdu ∷ []) old);
      told = told_more number s.pdus (pdu ∷ []) old new text new_text _ s.learnt s.told
          (ap (λ (t : List ℕ). new_text ++ t) (sym (append-nil (host_line number (after_pdu pdu new) pdu))));
    }

-- no more
pub takes_all : (number : ℕ) (stream rest : List ℕ) (old new : Outstanding) (text new_text : List ℕ) (fault : Bool)
    → SoFar number stream rest old new text new_text → HasNoWhole Target rest → fault ≡ is_faulty (front Target rest)
    → TakesPdus number stream rest old new text new_text fault
takes_all number stream rest old new text new_text fault s stops ends =
    record { pdus = s.pdus; cut = record { begins = s.begins; stops = stops }; learnt = s.learnt; told = s.told; ends = ends }

pub takes_to_incomplete : (number : ℕ) (stream rest : List ℕ) (old new : Outstanding) (text new_text : List ℕ)
    → SoFar number stream rest old new text new_text → incomplete ≡ front Target rest
    → TakesPdus number stream rest old new text new_text false
takes_to_incomplete number stream rest old new text new_text s h =
    takes_all number stream rest old new text new_text false s (λ pdu e. cc) (ap is_faulty h)

no_whole : (f : Front) (rest : List ℕ) → f ≡ front Target rest → is_faulty f ≡ true → HasNoWhole Target rest
no_whole incomplete rest e h = cc
no_whole (whole pdu) rest e h = cc
no_whole (faulty fault head) rest e h = λ pdu k. cc

pub takes_to_fault : (number : ℕ) (stream rest : List ℕ) (old new : Outstanding) (text new_text : List ℕ) (f : Front)
    → SoFar number stream rest old new text new_text → f ≡ front Target rest → is_faulty f ≡ true
    → TakesPdus number stream rest old new text new_text true
takes_to_fault number stream rest old new text new_text f s e h =
    takes_all number stream rest old new text new_text true s (no_whole f rest e h) (sym h ∙ ap is_faulty e)

-- neither a PDU nor a fault
less_than_pdu : (f : Front) (rest : List ℕ) → front Target rest ≡ f → ((pdu : Pdu) → front Target rest ≡ whole pdu → ⊥)
    → is_faulty f ≡ false → front Target rest ≡ incomplete
less_than_pdu incomplete rest e none calm = e
less_than_pdu (whole pdu) rest e none calm = absurd (none pdu e)
less_than_pdu (faulty fault head) rest e none calm = cc

pub takes_incomplete : (number : ℕ) (held rest : List ℕ) (old new : Outstanding) (text new_text : List ℕ)
    → TakesPdus number held rest old new text new_text false → front Target rest ≡ incomplete
takes_incomplete number held rest old new text new_text t = less_than_pdu (front Target rest) rest refl t.cut.stops (sym t.ends)

-- a piece of the bytes to come is taken in, and the PDUs that it completes
pub so_far_piece : (number : ℕ) (stream held bytes rest : List ℕ) (n : ℕ) (old mid new : Outstanding) (text mid_text new_text : List ℕ) (fault : Bool)
    → SoFar number stream (held ++ bytes) old mid text mid_text → TakesPdus number (held ++ take n bytes) rest mid new mid_text new_text fault
    → SoFar number stream (rest ++ drop n bytes) old new text new_text
so_far_piece number stream held bytes rest n old mid new text mid_text new_text fault s t =
    let joined : held ++ bytes ≡ (held ++ take n bytes) ++ drop n bytes =
    ap (λ (x : List ℕ). held ++ x) (sym (take-append-drop n bytes)) ∙ sym (append_assoc held (take n bytes) (drop n bytes)) in
    let more = begins_with-append Target (held ++ take n bytes) (drop n bytes) t.pdus rest t.cut.begins in
    record {
      pdus = s.pdus ++ t.pdus;
      begins = begins_with_more Target stream s.pdus t.pdus (held ++ bytes) (rest ++ drop n bytes) s.begins
          (subst (λ (x : List ℕ). BeginsWith Target x t.pdus (rest ++ drop n bytes)) (sym joined) more);
      learnt = t.learnt ∙ ap (after_pdus t.pdus) s.learnt ∙ sym (after_pdus-append s.pdus t.pdus old);
      told = told_more number s.pdus t.pdus old mid text mid_text new_text s.learnt s.told t.told;
    }

-- all was heard
pub hears_all : (number : ℕ) (held bytes rest : List ℕ) (old new : Outstanding) (text : List ℕ)
    → SoFar number (held ++ bytes) (rest ++ []) old new [] text → front Target rest ≡ incomplete
    → Hears number held rest old new bytes text false
hears_all number held bytes rest old new text s h =
    record {
      pdus = s.pdus;
      rest = rest;
      cut = record { begins = subst (λ (x : List ℕ). BeginsWith Target (held ++ bytes) s.pdus x) (append-nil rest) s.begins; stops = λ pdu e. cc };
      learnt = s.learnt;
      told = s.told;
      ends = sym (ap is_faulty h);
      kept = λ e. refl;
    }

still_faulty : (f : Front) (rest more : List ℕ) → front Target rest ≡ f → is_faulty f ≡ true
    → is_faulty (front Target (rest ++ more)) ≡ true
still_faulty incomplete rest more e h = cc
still_faulty (whole pdu) rest more e h = cc
still_faulty (faulty fault head) rest more e h = ap is_faulty (front_faulty-append Target rest more fault head e)

-- a fault came
pub hears_to_fault : (number : ℕ) (held bytes rest more : List ℕ) (mid_held : List ℕ) (old mid new : Outstanding) (mid_text text : List ℕ)
    → SoFar number (held ++ bytes) (rest ++ more) old new [] text → TakesPdus number mid_held rest mid new mid_text text true
    → Hears number held rest old new bytes text true
hears_to_fault number held bytes rest more mid_held old mid new mid_text text s t =
    let is = still_faulty (front Target rest) rest more refl (sym t.ends) in
    record {
      pdus = s.pdus;
      rest = rest ++ more;
      cut = record { begins = s.begins; stops = no_whole (front Target (rest ++ more)) (rest ++ more) refl is };
      learnt = s.learnt;
      told = s.told;
      ends = sym is;
      kept = λ e. cc;
    }

-- without a fault less than a PDU is held
pub hears_incomplete : (number : ℕ) (held new_held : List ℕ) (old new : Outstanding) (bytes text : List ℕ) (fault : Bool)
    → Hears number held new_held old new bytes text fault → fault ≡ false → front Target new_held ≡ incomplete
hears_incomplete number held new_held old new bytes text fault h calm =
    ap (front Target) (h.kept calm) ∙ less_than_pdu (front Target h.rest) h.rest refl h.cut.stops (sym h.ends ∙ calm)

-- what is held is the end of the stream, as long as what the buffer holds
pub hears_last : (number : ℕ) (held new_held last : List ℕ) (old new : Outstanding) (bytes text : List ℕ) (fault : Bool)
    → Hears number held new_held old new bytes text fault
    → last ≡ drop (length (held ++ bytes) - length new_held) (held ++ bytes) → Hears number held last old new bytes text fault
hears_last number held new_held last old new bytes text fault h is =
    record {
      pdus = h.pdus;
      rest = h.rest;
      cut = h.cut;
      learnt = h.learnt;
      told = h.told;
      ends = h.ends;
      kept = λ calm.
          is ∙ ap (λ (kept : List ℕ). drop (length (held ++ bytes) - length kept) (held ++ bytes)) (h.kept calm)
          ∙ ap (λ (stream : List ℕ). drop (length stream - length h.rest) stream) h.cut.begins.bytes
          ∙ last_is_end (joined h.pdus) h.rest;
    }

-- a buffer with nothing takes all that is less than a PDU
pub receives_all : (piece held : List ℕ) (n : ℕ) → front Target piece ≡ incomplete → n ≡ min 32768 (length piece)
    → held ≡ take n piece → held ≡ piece
receives_all piece held n h taken is =
    let less = incomplete_bound piece h in
    is ∙ take_all n piece (omega (arith, less, taken))
