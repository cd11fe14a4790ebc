-- What is known of a connection, after jumps as byte by byte.
use Rattle.std.proofs.Common.{◌≡◌, ℕ, zero, suc, ◌+◌, ◌-◌, ◌<◌, ◌≤◌, ◌==◌, inl, inr, true, false, List, [], ◌∷◌, ◌++◌, Option, Some, None, length, take, drop, refl, sym, ap, subst, ◌∙◌, append_assoc, arith, length-drop}
use Rattle.std.specs.Option.{option_or}
use Rattle.std.proofs.lemmas.Bool.{cases_Bool}
use Rattle.std.proofs.lemmas.List.{drop-drop}
use Rattle.std.proofs.Math.Seq.{take-add}
use Rattle.pdu_words.specs.declared.explanation.ResponseFields.{ResponseFields}
use Rattle.connection_log.specs.declared.stage.Stage.{Stage}
use Rattle.connection_log.specs.declared.stage.Stage.TheVariants.{Before, Waits, Over}
use Rattle.connection_log.specs.declared.watch.ConnectionWatch.{ConnectionWatch}
use Rattle.connection_log.specs.Reading.{HasRead, Reading, ReadsOn, is_whole, read_on}
use Rattle.connection_log.specs.Stages.{passed_over, told_by}
use Rattle.connection_log.specs.Watching.{HasReadSome, answered, heard, replied, requested, told, told_at, with_byte}
use Rattle.connection_log.proofs.Readings.{from_place}

abbrev pub watch_of : Reading → Reading → Stage → ConnectionWatch
watch_of requests replies stage = record { requests = requests; replies = replies; stage = stage }

pub same_watch : (r r' p p' : Reading) (s s' : Stage) → r ≡ r' → p ≡ p' → s ≡ s' → watch_of r p s ≡ watch_of r' p' s'
same_watch r r' p p' s s' requests replies stage = cc

-- up to the end of the PDU that they belong to, bytes of the host are heard at once
pub heard_up_to : (n : ℕ) (r p : Reading) (ahead : ℕ) (bytes : List ℕ) → 0 < n → n ≤ length bytes
    → ((k : ℕ) → 0 < k → k < n → is_whole (read_on r (take k bytes)) ≡ false)
    → heard (watch_of r p (Before ahead)) bytes ≡ heard (watch_of (read_on r (take n bytes)) p (requested (read_on r (take n bytes)) ahead)) (drop n bytes)
heard_up_to zero r p ahead bytes some few short = absurd (omega arith)
heard_up_to (suc n) r p ahead [] some few short = absurd (omega arith)
heard_up_to (suc zero) r p ahead (b ∷ bytes) some few short = refl
heard_up_to (suc (suc n)) r p ahead (b ∷ bytes) some few short =
    rw (short 1 (omega arith) (omega arith))
    (heard_up_to (suc n) (with_byte b r) p ahead bytes (omega arith) (omega arith) (λ k more less. short (suc k) (omega arith) (omega arith)))

pub replied_up_to : (n : ℕ) (r p : Reading) (stage : Stage) (bytes : List ℕ) → 0 < n → n ≤ length bytes
    → ((k : ℕ) → 0 < k → k < n → is_whole (read_on p (take k bytes)) ≡ false)
    → answered (watch_of r p stage) bytes ≡ answered (replied (read_on p (take n bytes)) (watch_of r p stage)) (drop n bytes)
replied_up_to zero r p stage bytes some few short = absurd (omega arith)
replied_up_to (suc n) r p stage [] some few short = absurd (omega arith)
replied_up_to (suc zero) r p stage (b ∷ bytes) some few short = refl
replied_up_to (suc (suc n)) r p stage (b ∷ bytes) some few short =
    rw (short 1 (omega arith) (omega arith))
    (replied_up_to (suc n) r (with_byte b p) stage bytes (omega arith) (omega arith) (λ k more less. short (suc k) (omega arith) (omega arith)))

pub none_told : (stage : Stage) → told_by None stage ≡ None
none_told (Before ahead) = refl
none_told (Waits ahead passed) =
    elim (cases_Bool (ahead == 0)) [
      | inl first ↦ rw first refl
      | inr later ↦ rw later refl
    ]
none_told Over = refl

pub told_up_to : (n : ℕ) (r p : Reading) (stage : Stage) (bytes : List ℕ) → 0 < n → n ≤ length bytes
    → ((k : ℕ) → 0 < k → k < n → is_whole (read_on p (take k bytes)) ≡ false)
    → told (watch_of r p stage) bytes ≡ option_or (told_at (read_on p (take n bytes)) (watch_of r p stage)) (told (replied (read_on p (take n bytes)) (watch_of r p stage)) (drop n bytes))
told_up_to zero r p stage bytes some few short = absurd (omega arith)
told_up_to (suc n) r p stage [] some few short = absurd (omega arith)
told_up_to (suc zero) r p stage (b ∷ bytes) some few short = refl
told_up_to (suc (suc n)) r p stage (b ∷ bytes) some few short =
    rw (short 1 (omega arith) (omega arith), none_told stage)
    (told_up_to (suc n) r (with_byte b p) stage bytes (omega arith) (omega arith) (λ k more less. short (suc k) (omega arith) (omega arith)))

pub or-assoc : (a b c : Option ResponseFields) → option_or (option_or a b) c ≡ option_or a (option_or b c)
or-assoc None b c = refl
or-assoc (Some x) b c = refl

-- One read of the bytes from a place on.
module _ (bytes : List ℕ) (at n : ℕ) where
  rest : List ℕ
  rest = drop at bytes

  pub stream_step : (before : List ℕ) (r : Reading)
      → HasRead r ((before ++ take at bytes) ++ take n (take (length bytes - at) (drop at bytes)))
      → HasRead r (before ++ take (at + n) bytes)
  stream_step before r read =
      subst (HasRead r)
      (append_assoc before (take at bytes) (take n (take (length bytes - at) (drop at bytes)))
      ∙ ap (λ (l : List ℕ). before ++ (take at bytes ++ take n l)) (from_place bytes at)
      ∙ ap (λ (l : List ℕ). before ++ l) (sym (take-add at n bytes)))
      read

  module _ (old new : Reading) (reads : ReadsOn old (take (length bytes - at) (drop at bytes)) n new) (more : at < length bytes) where
    of_rest : ReadsOn old (drop at bytes) n new
    of_rest = subst (λ (l : List ℕ). ReadsOn old l n new) (from_place bytes at) reads

    pub within_step : at + n ≤ length bytes
    within_step = omega (arith, of_rest.within, length-drop at bytes)

    pub some_step : 0 < n
    some_step = of_rest.some (omega (arith, length-drop at bytes))

    pub heard_step : (w : ConnectionWatch) (ahead : ℕ) → w.requests ≡ old → w.stage ≡ Before ahead
        → heard (record { requests = new; replies = w.replies; stage = requested new ahead }) (drop (at + n) bytes)
        ≡ heard w (drop at bytes)
    heard_step w ahead from is =
        let before : w ≡ watch_of old w.replies (Before ahead) =
        same_watch w.requests old w.replies w.replies w.stage (Before ahead) from refl is
        in
        ap (λ (r : Reading). heard (watch_of r w.replies (requested r ahead)) (drop (at + n) bytes)) of_rest.after
        ∙ ap (λ (l : List ℕ). heard (watch_of (read_on old (take n (drop at bytes))) w.replies (requested (read_on old (take n (drop at bytes))) ahead)) l) (sym (drop-drop n at bytes))
        ∙ sym (heard_up_to n old w.replies ahead (drop at bytes) some_step of_rest.within of_rest.not_before)
        ∙ ap (λ (v : ConnectionWatch). heard v (drop at bytes)) (sym before)

    module _ (w : ConnectionWatch) (from : w.replies ≡ old) where
      before_step : w ≡ watch_of w.requests old w.stage
      before_step = same_watch w.requests w.requests w.replies old w.stage w.stage refl from refl

      pub answered_step : answered (replied new w) (drop (at + n) bytes) ≡ answered w (drop at bytes)
      answered_step =
          ap (λ (r : Reading). answered (replied r w) (drop (at + n) bytes)) of_rest.after
          ∙ ap (λ (l : List ℕ). answered (replied (read_on old (take n (drop at bytes))) w) l) (sym (drop-drop n at bytes))
          ∙ sym (replied_up_to n w.requests old w.stage (drop at bytes) some_step of_rest.within of_rest.not_before)
          ∙ ap (λ (v : ConnectionWatch). answered v (drop at bytes)) (sym before_step)

      pub told_step : (so_far : Option ResponseFields)
          → option_or (option_or so_far (told_at new w)) (told (replied new w) (drop (at + n) bytes)) ≡ option_or so_far (told w (drop at bytes))
      told_step so_far =
          or-assoc so_far (told_at new w) (told (replied new w) (drop (at + n) bytes))
          ∙ ap (option_or so_far)
          (ap (λ (r : Reading). option_or (told_at r w) (told (replied r w) (drop (at + n) bytes))) of_rest.after
          ∙ ap (λ (l : List ℕ). option_or (told_at (read_on old (take n (drop at bytes))) w) (told (replied (read_on old (take n (drop at bytes))) w) l)) (sym (drop-drop n at bytes))
          ∙ sym (told_up_to n w.requests old w.stage (drop at bytes) some_step of_rest.within of_rest.not_before)
          ∙ ap (λ (v : ConnectionWatch). told v (drop at bytes)) (sym before_step))

pub still_waits : (r p : Reading) (ahead : ℕ) (bytes : List ℕ)
    → heard (watch_of r p (Waits ahead true)) bytes ≡ watch_of r p (Waits ahead true)
still_waits r p ahead [] = refl
still_waits r p ahead (b ∷ bytes) = still_waits r p ahead bytes

still_over : (r p : Reading) (bytes : List ℕ) → heard (watch_of r p Over) bytes ≡ watch_of r p Over
still_over r p [] = refl
still_over r p (b ∷ bytes) = still_over r p bytes

-- bytes that are not looked at
pub not_looked_at : (r p : Reading) (stage : Stage) (bytes : List ℕ) → 0 < length bytes → ((ahead : ℕ) → stage ≡ Before ahead → ⊥)
    → heard (watch_of r p stage) bytes ≡ watch_of r p (passed_over stage)
not_looked_at r p stage [] some other = absurd (omega arith)
not_looked_at r p (Before ahead) (b ∷ bytes) some other = absurd (other ahead refl)
not_looked_at r p (Waits ahead passed) (b ∷ bytes) some other = still_waits r p ahead bytes
not_looked_at r p Over (b ∷ bytes) some other = still_over r p bytes

never_before : (stage : Stage) → ((ahead : ℕ) → stage ≡ Before ahead → ⊥) → (ahead : ℕ) → passed_over stage ≡ Before ahead → ⊥
never_before (Before ahead) other n is = other ahead refl
never_before (Waits ahead passed) other n is = cc
never_before Over other n is = cc

pub passed_step : (w : ConnectionWatch) (bytes : List ℕ) (at : ℕ) → at < length bytes → ((ahead : ℕ) → w.stage ≡ Before ahead → ⊥)
    → heard w (drop at bytes) ≡ record { requests = w.requests; replies = w.replies; stage = passed_over w.stage }
passed_step w bytes at more other =
    not_looked_at w.requests w.replies w.stage (drop at bytes) (omega (arith, length-drop at bytes)) other

pub read_some : (r p : Reading) (stage : Stage) (before bytes : List ℕ) (at : ℕ) → at < length bytes
    → ((ahead : ℕ) → stage ≡ Before ahead → ⊥) → HasRead r (before ++ take at bytes)
    → HasReadSome (record { requests = r; replies = p; stage = passed_over stage }) before bytes
read_some r p stage before bytes at more other read = record {
  count = at;
  within = omega arith;
  read = read;
  all = λ ahead is. absurd (never_before stage other ahead is);
}
