-- A `Discover` stands where the answers so far lead, after each further one.
use Rattle.std.proofs.Common.{◌≡◌, ℕ, suc, ◌<◌, ◌==◌, Bool, true, false, List, [], ◌∷◌, ◌++◌, length, take, refl, sym, subst, ap, ◌∙◌, inl, inr, arith, append_assoc}
use Rattle.std.specs.Prelude.{Err, Result}
use Rattle.std.specs.List.{flat_map}
use Rattle.std.proofs.lemmas.Bool.{cases_lt, false≢true}
use Rattle.std.proofs.lemmas.Bool.Decides.{nat_tests}
use Rattle.std.proofs.lemmas.List.{append-nil, flat_map_more, get_or_append_left, get_or_at, length_push, take-append-le, take_at}
use Rattle.std.proofs.lemmas.List.Elements.{All-nil, All-push}
use Rattle.host_pages.specs.declared.fault.DiscoverFault.{DiscoverFault}
use Rattle.host_pages.specs.declared.fault.DiscoverFault.TheVariants.{Memory}
use Rattle.host_pages.specs.declared.progress.Progress.{Progress}
use Rattle.host_pages.specs.declared.verdict.Verdict.{Verdict}
use Rattle.host_pages.specs.declared.verdict.Verdict.TheVariants.{Ends, Fails, GoesOn, Settles}
use Rattle.host_pages.specs.Discover.{Answered, Answers, DiscoverState, IsUnderWay, Stands, IsAsking, after, after_verdict, answers_left, asks, ended, failed_once_more, settled, told}
use Rattle.host_pages.specs.Tries.{AllGoOn, EndsBy, answer_at, bytes_in, read_by}
use Rattle.host_pages.specs.Verdict.{Given, IsBegun, verdict}
use Rattle.host_pages.proofs.Holding.{fewer_left}

-- no answer lets a try go on
pub none_go_on : AllGoOn []
none_go_on n below = absurd (omega (arith, below))

-- one answer more does
pub more_go_on : (answers : List Given) (a : Given) → AllGoOn answers → verdict (read_by answers) a ≡ GoesOn → AllGoOn (answers ++ a ∷ [])
more_go_on answers a before goes n below =
    elim (cases_lt n (length answers)) [
      | inl within ↦
          ap (λ front. verdict (read_by front) (answer_at (answers ++ a ∷ []) n)) (take-append-le n answers (a ∷ []) (omega (arith, within)))
          ∙ ap (verdict (read_by (take n answers))) (get_or_append_left answers (a ∷ []) _ n within)
          ∙ before n within
      | inr past ↦
          let last : length answers ≡ n = omega (arith, past, below, length_push answers a) in
          ap (λ front. verdict (read_by front) (answer_at (answers ++ a ∷ []) n)) (take_at answers (a ∷ []) n last)
          ∙ ap (verdict (read_by answers)) (get_or_at answers a [] _ n last)
          ∙ goes
    ]

-- .. and what was read grows by it
pub read_by-more : (answers : List Given) (a : Given) → read_by (answers ++ a ∷ []) ≡ read_by answers ++ bytes_in a
read_by-more answers a = sym (flat_map_more bytes_in [] answers a)

-- ---- lists of all answers

-- the answers of these tries, one after another
abbrev all_of : List (List Given) → List Given
all_of tries = flat_map (λ answers. answers) tries

last_grows : (given last later : List Given) (failed : List (List Given)) (a : Given) → given ≡ all_of failed ++ (last ++ later) → later ≡ []
    → given ++ a ∷ [] ≡ all_of failed ++ ((last ++ a ∷ []) ++ [])
last_grows given last later failed a whole none =
    ap (λ all. all ++ a ∷ []) (whole ∙ ap (λ l. all_of failed ++ (last ++ l)) none ∙ ap (λ l. all_of failed ++ l) (append-nil last))
    ∙ append_assoc (all_of failed) last (a ∷ [])
    ∙ ap (λ l. all_of failed ++ l) (sym (append-nil (last ++ a ∷ [])))

last_failed : (given last later : List Given) (failed : List (List Given)) (a : Given) → given ≡ all_of failed ++ (last ++ later) → later ≡ []
    → given ++ a ∷ [] ≡ all_of (failed ++ (last ++ a ∷ []) ∷ []) ++ []
last_failed given last later failed a whole none =
    last_grows given last later failed a whole none
    ∙ ap (λ l. all_of failed ++ l) (append-nil (last ++ a ∷ []))
    ∙ flat_map_more (λ answers. answers) [] failed (last ++ a ∷ [])
    ∙ sym (append-nil (all_of (failed ++ (last ++ a ∷ []) ∷ [])))

later_grows : (given last later : List Given) (failed : List (List Given)) (a : Given) → given ≡ all_of failed ++ (last ++ later)
    → given ++ a ∷ [] ≡ all_of failed ++ (last ++ (later ++ a ∷ []))
later_grows given last later failed a whole =
    ap (λ all. all ++ a ∷ []) whole
    ∙ append_assoc (all_of failed) (last ++ later) (a ∷ [])
    ∙ ap (λ l. all_of failed ++ l) (append_assoc last later (a ∷ []))

-- ---- one answer more

abbrev longer : {given : List Given} (a : Given) (s : Answered given) → s.later ≡ [] → Answered (given ++ a ∷ [])
longer {given} a s none = record {
  failed = s.failed;
  last = s.last ++ a ∷ [];
  later = [];
  whole = last_grows given s.last s.later s.failed a s.whole none;
  each = s.each;
  most = s.most;
}

abbrev ends_with : {given : List Given} (v : Verdict) (a : Given) (s : Answered given) → AllGoOn s.last → verdict (read_by s.last) a ≡ v → EndsBy v (s.last ++ a ∷ [])
ends_with v a s go_on by = record { before = s.last; last = a; split = refl; go_on = go_on; by = by }

abbrev once_more : {given : List Given} (a : Given) (s : Answered given) (failed : ℕ) (read : List ℕ) → IsUnderWay s failed read → verdict (read_by s.last) a ≡ Fails
    → Answered (given ++ a ∷ [])
once_more {given} a s failed read under by =
    let fewer = under.fewer in
    record {
      failed = s.failed ++ (s.last ++ a ∷ []) ∷ [];
      last = [];
      later = [];
      whole = last_failed given s.last s.later s.failed a s.whole under.none_later;
      each = All-push (EndsBy Fails) s.failed (s.last ++ a ∷ []) s.each (ends_with Fails a s under.go_on by);
      most = omega (arith, fewer, length_push s.failed (s.last ++ a ∷ []));
    }

-- eight failed, or the next try begins
fails_by : {given : List Given} (a : Given) (s : Answered given) (failed : ℕ) (read : List ℕ) → IsUnderWay s failed read → verdict (read_by s.last) a ≡ Fails
    → Stands (given ++ a ∷ []) (failed_once_more failed)
fails_by {given} a s failed read under by =
    let tries = under.tries in
    let fewer = under.fewer in
    let count : length (s.failed ++ (s.last ++ a ∷ []) ∷ []) ≡ suc failed = omega (arith, tries, length_push s.failed (s.last ++ a ∷ [])) in
    elim (cases_lt (suc failed) 8) [
      | inl more ↦
          let is : (suc failed == 8) ≡ false = grind (arith, nat_tests, more) in
          rw is (record {
            answered = once_more a s failed read under by;
            by = record { tries = sym count; fewer = omega (arith, count, more); go_on = none_go_on; none_later = refl; reads = refl };
          })
      | inr all ↦
          let eight : suc failed ≡ 8 = omega (arith, all, tries, fewer) in
          let is : (suc failed == 8) ≡ true = grind (arith, nat_tests, eight) in
          rw is (record {
            answered = once_more a s failed read under by;
            by = record { why = inr (count ∙ eight, refl, refl) };
          })
    ]

stands_by : {given : List Given} (v : Verdict) (a : Given) (s : Answered given) (failed : ℕ) (read : List ℕ) → IsUnderWay s failed read → verdict read a ≡ v
    → Stands (given ++ a ∷ []) (after_verdict v a failed read)
stands_by GoesOn a s failed read under is =
    let by = ap (λ bytes. verdict bytes a) (sym under.reads) ∙ is in
    record {
      answered = longer a s under.none_later;
      by = record {
        tries = under.tries;
        fewer = under.fewer;
        go_on = more_go_on s.last a under.go_on by;
        none_later = refl;
        reads = ap (λ bytes. bytes ++ bytes_in a) under.reads ∙ sym (read_by-more s.last a);
      };
    }
stands_by Settles a s failed read under is =
    let by = ap (λ bytes. verdict bytes a) (sym under.reads) ∙ is in
    record {
      answered = longer a s under.none_later;
      by = record { fewer = under.fewer; ends = ends_with Settles a s under.go_on by; is = under.reads };
    }
stands_by Fails a s failed read under is = fails_by a s failed read under (ap (λ bytes. verdict bytes a) (sym under.reads) ∙ is)
stands_by (Ends fault) a s failed read under is =
    let by = ap (λ bytes. verdict bytes a) (sym under.reads) ∙ is in
    record {
      answered = longer a s under.none_later;
      by = record { why = inl (under.fewer, ends_with (Ends fault) a s under.go_on by) };
    }

-- what came after the end changes nothing
abbrev later_still : {given : List Given} (a : Given) (s : Answered given) → Answered (given ++ a ∷ [])
later_still {given} a s = record {
  failed = s.failed;
  last = s.last;
  later = s.later ++ a ∷ [];
  whole = later_grows given s.last s.later s.failed a s.whole;
  each = s.each;
  most = s.most;
}

pub stands_after : (a : Given) (d : DiscoverState) (given : List Given) → Stands given d → Stands (given ++ a ∷ []) (after a d)
stands_after a (asks failed read) given s = stands_by (verdict read a) a s.answered failed read s.by refl
stands_after a (settled page) given s = record {
  answered = later_still a s.answered;
  by = record { fewer = s.by.fewer; ends = s.by.ends; is = s.by.is };
}
stands_after a (ended fault) given s = record { answered = later_still a s.answered; by = record { why = s.by.why } }

-- no answer was given yet
pub stands_at_first : Stands [] (asks 0 [])
stands_at_first = record {
  answered = record { failed = []; last = []; later = []; whole = refl; each = All-nil (EndsBy Fails); most = omega arith };
  by = record { tries = refl; fewer = omega arith; go_on = none_go_on; none_later = refl; reads = refl };
}

-- ---- what an answer is

pub lacks_by : (a : Given) (failed : ℕ) (read : List ℕ) (d : DiscoverState) → d ≡ asks failed read → verdict read a ≡ GoesOn → Answers a d (Err Memory) d
lacks_by a failed read d is goes = inl (record { failed = failed; read = read; is = is; goes_on = goes; memory = refl; same = refl })

pub takes_by : (a : Given) (old : DiscoverState) (result : Result Progress DiscoverFault) (new : DiscoverState) → new ≡ after a old → result ≡ told new
    → (IsAsking new → answers_left new < answers_left old) → Answers a old result new
takes_by a old result new moved tells fewer = inr (record {
  moved = moved;
  tells = tells;
  fewer = fewer;
  stands = λ given s. subst (Stands (given ++ a ∷ [])) (sym moved) (stands_after a old given s);
})

pub takes_as : (v : Verdict) (a : Given) (failed : ℕ) (read : List ℕ) (old : DiscoverState) (result : Result Progress DiscoverFault) (new : DiscoverState)
    → old ≡ asks failed read → IsBegun read × (failed < 8) → verdict read a ≡ v → new ≡ after_verdict v a failed read → result ≡ told new → Answers a old result new
takes_as v a failed read old result new is holds by moved tells =
    let goes : new ≡ after a (asks failed read) = moved ∙ ap (λ w. after_verdict w a failed read) (sym by) in
    takes_by a old result new (goes ∙ ap (after a) (sym is)) tells (λ asking.
    subst (λ d. answers_left new < answers_left d) (sym is) (subst (λ d. answers_left d < answers_left (asks failed read)) (sym goes)
    (fewer_left a failed read holds.0 holds.1 (subst IsAsking goes asking))))

-- once it has ended, nothing is left
pub takes_none : (a : Given) (d : DiscoverState) (result : Result Progress DiscoverFault) → after a d ≡ d → result ≡ told d → (IsAsking d → ⊥) → Answers a d result d
takes_none a d result same tells over = takes_by a d result d (sym same) tells (λ asking. absurd (over asking))

abbrev is_asking : DiscoverState → Bool
is_asking (asks failed read) = true
is_asking _ = false

pub settled_asks_not : {page : List ℕ} → IsAsking (settled page) → ⊥
settled_asks_not asking = false≢true (ap is_asking asking.2)

pub ended_asks_not : {fault : DiscoverFault} → IsAsking (ended fault) → ⊥
ended_asks_not asking = false≢true (ap is_asking asking.2)
