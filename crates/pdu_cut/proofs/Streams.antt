-- How the cut of a stream grows as bytes are received and PDUs are taken, and that there is one cut.
use Rattle.std.proofs.Common.{◌≡◌, ℕ, zero, suc, ◌<◌, List, [], ◌∷◌, ◌++◌, length, drop, refl, sym, ap, subst, ◌∙◌, arith, append_assoc, append-nil, length-append}
use Rattle.std.specs.List.{AllByRecursion}
use Rattle.std.proofs.lemmas.List.{append_cancel_left}
use Rattle.std.proofs.lemmas.List.Concat.{flat_map-append}
use Rattle.pdu_cut.specs.declared.side.Side.{Side}
use Rattle.pdu_cut.specs.Pdu.{Pdu, IsPdu}
use Rattle.pdu_cut.specs.Front.{Front, incomplete, whole, faulty, front}
use Rattle.pdu_cut.specs.Stream.{joined, BeginsWith, HasNoWhole, IsCut}
use Rattle.pdu_cut.proofs.Headers.{eight_within}
use Rattle.pdu_cut.proofs.Fronts.{front_whole, front_then, front-append}

-- before any PDU is taken
pub begins_with_none : (side : Side) (stream : List ℕ) → BeginsWith side stream [] stream
begins_with_none side stream = record { bytes = refl; each = tt }

-- bytes that are received come to the rest
pub begins_with-append : (side : Side) (stream more : List ℕ) (pdus : List Pdu) (rest : List ℕ)
    → BeginsWith side stream pdus rest → BeginsWith side (stream ++ more) pdus (rest ++ more)
begins_with-append side stream more pdus rest h =
    record { bytes = ap (λ (x : List ℕ). x ++ more) h.bytes ∙ append_assoc (joined pdus) rest more; each = h.each }

all-append : (P : Pdu → Type 0) (xs ys : List Pdu) → AllByRecursion P xs → AllByRecursion P ys → AllByRecursion P (xs ++ ys)
all-append P [] ys h k = k
all-append P (x ∷ xs) ys h k = (h.0, all-append P xs ys h.1 k)

-- more PDUs at the rest's front are more PDUs of the stream
pub begins_with_more : (side : Side) (stream : List ℕ) (pdus more : List Pdu) (rest last : List ℕ)
    → BeginsWith side stream pdus rest → BeginsWith side rest more last → BeginsWith side stream (pdus ++ more) last
begins_with_more side stream pdus more rest last h k =
    record {
      bytes = h.bytes ∙ ap (λ (x : List ℕ). joined pdus ++ x) k.bytes
          ∙ sym (append_assoc (joined pdus) (joined more) last)
          ∙ ap (λ (x : List ℕ). x ++ last) (sym (flat_map-append (λ (pdu : Pdu). pdu.bytes) pdus more));
      each = all-append (IsPdu side) pdus more h.each k.each;
    }

-- a whole PDU at the front is the first
pub begins_with_front : (side : Side) (bytes : List ℕ) (pdu : Pdu)
    → front side bytes ≡ whole pdu → BeginsWith side bytes (pdu ∷ []) (drop (length pdu.bytes) bytes)
begins_with_front side bytes pdu h =
    let f = front_whole side bytes pdu h in
    record {
      bytes = front_then side bytes pdu f ∙ ap (λ (x : List ℕ). x ++ drop (length pdu.bytes) bytes) (sym (append-nil pdu.bytes));
      each = (f.is_pdu, tt);
    }

-- a PDU that is taken off the rest is the next of the stream
pub begins_with_taken : (side : Side) (stream : List ℕ) (pdus : List Pdu) (rest : List ℕ) (pdu : Pdu)
    → BeginsWith side stream pdus rest → front side rest ≡ whole pdu
    → BeginsWith side stream (pdus ++ pdu ∷ []) (drop (length pdu.bytes) rest)
begins_with_taken side stream pdus rest pdu h f =
    begins_with_more side stream pdus (pdu ∷ []) rest _ h (begins_with_front side rest pdu f)

-- the first of the PDUs is the front
pub front_first : (side : Side) (stream : List ℕ) (pdu : Pdu) (pdus : List Pdu) (rest : List ℕ)
    → BeginsWith side stream (pdu ∷ pdus) rest → front side stream ≡ whole pdu
front_first side stream pdu pdus rest h =
    ap (front side) (h.bytes ∙ append_assoc pdu.bytes (joined pdus) rest)
    ∙ front-append side pdu (joined pdus ++ rest) h.each.0

-- the cut of the rest goes on with the PDUs before it
pub cut_more : (side : Side) (stream : List ℕ) (pdus more : List Pdu) (rest last : List ℕ)
    → BeginsWith side stream pdus rest → IsCut side rest more last → IsCut side stream (pdus ++ more) last
cut_more side stream pdus more rest last h c =
    record { begins = begins_with_more side stream pdus more rest last h c.begins; stops = c.stops }

-- PDUs that a stream begins with are the first of its cut, and the rest has the cut's others
pub cut_begins : (side : Side) (stream : List ℕ) (pdus : List Pdu) (rest : List ℕ) (all : List Pdu) (last : List ℕ)
    → BeginsWith side stream pdus rest → IsCut side stream all last
    → (more : List Pdu) × (all ≡ pdus ++ more) × IsCut side rest more last
cut_begins side stream [] rest all last h c = (all, refl, subst (λ (x : List ℕ). IsCut side x all last) h.bytes c)
cut_begins side stream (p ∷ ps) rest [] last h c =
    absurd (c.stops p (ap (front side) (sym c.begins.bytes) ∙ front_first side stream p ps rest h))
cut_begins side stream (p ∷ ps) rest (q ∷ qs) last h c =
    let first = front_first side stream p ps rest h in
    let other = front_first side stream q qs last c.begins in
    let same : p ≡ q = cc in
    let tails : joined ps ++ rest ≡ joined qs ++ last =
    append_cancel_left p.bytes (joined ps ++ rest) (joined qs ++ last)
    (sym (append_assoc p.bytes (joined ps) rest) ∙ sym h.bytes ∙ c.begins.bytes
    ∙ append_assoc q.bytes (joined qs) last ∙ ap (λ (x : Pdu). x.bytes ++ (joined qs ++ last)) (sym same)) in
    let next = cut_begins side (joined ps ++ rest) ps rest qs last
    (record { bytes = refl; each = h.each.1 })
    (record { begins = record { bytes = tails; each = c.begins.each.1 }; stops = c.stops }) in
    (next.0, ap (λ (x : List Pdu). q ∷ x) next.1 ∙ ap (λ (x : Pdu). x ∷ (ps ++ next.0)) (sym same), next.2)

-- more bytes extend the cut by that of its rest with them
pub cut-append : (side : Side) (stream bytes : List ℕ) (pdus more : List Pdu) (rest last : List ℕ)
    → IsCut side stream pdus rest → IsCut side (rest ++ bytes) more last → IsCut side (stream ++ bytes) (pdus ++ more) last
cut-append side stream bytes pdus more rest last c d =
    cut_more side (stream ++ bytes) pdus more (rest ++ bytes) last (begins_with-append side stream bytes pdus rest c.begins) d

-- the PDU at the front is the first of the cut, and taking it off leaves the others
pub cut_taken : (side : Side) (stream : List ℕ) (pdus : List Pdu) (rest : List ℕ) (pdu : Pdu)
    → IsCut side stream pdus rest → front side stream ≡ whole pdu
    → (others : List Pdu) × (pdus ≡ pdu ∷ others) × IsCut side (drop (length pdu.bytes) stream) others rest
cut_taken side stream pdus rest pdu c f =
    cut_begins side stream (pdu ∷ []) _ pdus rest (begins_with_front side stream pdu f) c

-- bytes that begin with no whole PDU have no PDU
pub cut_none : (side : Side) (bytes : List ℕ) (pdus : List Pdu) (rest : List ℕ)
    → HasNoWhole side bytes → IsCut side bytes pdus rest → (pdus ≡ []) × (rest ≡ bytes)
cut_none side bytes [] rest h c = (refl, sym c.begins.bytes)
cut_none side bytes (p ∷ ps) rest h c = absurd (h p (front_first side bytes p ps rest c.begins))

-- no other PDUs and no other rest
pub no_other_cut : (side : Side) (stream : List ℕ) (pdus others : List Pdu) (rest other_rest : List ℕ)
    → IsCut side stream pdus rest → IsCut side stream others other_rest → (others ≡ pdus) × (other_rest ≡ rest)
no_other_cut side stream pdus others rest other_rest c d =
    let next = cut_begins side stream pdus rest others other_rest c.begins d in
    let none = cut_none side rest next.0 other_rest c.stops next.2 in
    (next.1 ∙ ap (λ (x : List Pdu). pdus ++ x) none.0 ∙ append-nil pdus, none.1)

-- a stream shorter than n has a cut if the rest behind its first PDU has one
cut_step : (n : ℕ) (side : Side) (stream : List ℕ) (f : Front) → front side stream ≡ f → length stream < suc n
    → ((rest : List ℕ) → length rest < n → (pdus : List Pdu) × (last : List ℕ) × IsCut side rest pdus last)
    → (pdus : List Pdu) × (last : List ℕ) × IsCut side stream pdus last
cut_step n side stream incomplete e short cut =
    ([], stream, record { begins = begins_with_none side stream; stops = λ pdu h. cc })
cut_step n side stream (faulty fault head) e short cut =
    ([], stream, record { begins = begins_with_none side stream; stops = λ pdu h. cc })
cut_step n side stream (whole pdu) e short cut =
    let f = front_whole side stream pdu e in
    let rest = drop (length pdu.bytes) stream in
    let eight = eight_within side pdu f.is_pdu in
    let len = ap length (front_then side stream pdu f) ∙ length-append pdu.bytes rest in
    let next = cut rest (omega arith) in
    (pdu ∷ next.0, next.1, cut_more side stream (pdu ∷ []) next.0 rest next.1 (begins_with_front side stream pdu e) next.2)

cut_within : (n : ℕ) (side : Side) (stream : List ℕ) → length stream < n
    → (pdus : List Pdu) × (rest : List ℕ) × IsCut side stream pdus rest
cut_within zero side stream h = absurd (omega arith)
cut_within (suc n) side stream h = cut_step n side stream (front side stream) refl h (cut_within n side)

-- each stream has a cut
pub cut_of : (side : Side) (stream : List ℕ) → (pdus : List Pdu) × (rest : List ℕ) × IsCut side stream pdus rest
cut_of side stream = cut_within (suc (length stream)) side stream (omega arith)
