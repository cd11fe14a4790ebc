-- At most 100 lines of a second are printed.
use Rattle.std.proofs.Common.{◌≡◌, ℕ, ◌+◌, ◌<◌, ◌≤◌, ◌==◌, inl, inr, List, [], ◌∷◌, refl, ◌∙◌, arith}
use Rattle.std.specs.Prelude.{if◌then◌else◌}
use Rattle.std.proofs.Math.Bool.{and-false}
use Rattle.std.proofs.lemmas.Bool.{cases_eq, cases_lt, cases_Bool, eq-eqb, le-ltb, lt-ltb, ne_eqb, ltb-true}
use Rattle.connection_log.specs.declared.pace.LinePace.{LinePace}
use Rattle.connection_log.specs.Pace.{NeverFalls, asked, begun, brought_to, counted, has_room, let_through, second_of}

later : (from time : ℕ) → from ≤ time → second_of from ≤ second_of time
later from time le = omega arith

-- how many were printed in that second
spent : ℕ → LinePace → ℕ
spent second p = if p.second == second then p.printed else 0

brought_second : (time : ℕ) (p : LinePace) → p.second ≤ second_of time → (brought_to time p).second ≡ second_of time
brought_second time p le =
    elim (cases_lt p.second (second_of time)) [
      | inl lt ↦ rw (lt-ltb p.second (second_of time) lt) refl
      | inr ge ↦ rw (le-ltb p.second (second_of time) ge) (omega arith)
    ]

brought_printed : (time : ℕ) (p : LinePace) → p.printed ≤ 100 → (brought_to time p).printed ≤ 100
brought_printed time p most =
    elim (cases_lt p.second (second_of time)) [
      | inl lt ↦ rw (lt-ltb p.second (second_of time) lt) (omega arith)
      | inr ge ↦ rw (le-ltb p.second (second_of time) ge) most
    ]

brought_spent : (time second : ℕ) (p : LinePace) → p.second ≤ second_of time → second_of time ≡ second
    → spent second p ≤ (brought_to time p).printed
unfolding spent
brought_spent time second p le is =
    elim (cases_lt p.second (second_of time)) [
      | inl lt ↦ rw (lt-ltb p.second (second_of time) lt, ne_eqb p.second second (omega arith)) (omega arith)
      | inr ge ↦ rw (le-ltb p.second (second_of time) ge, eq-eqb p.second second (omega arith)) (omega arith)
    ]

spent_before : (second : ℕ) (p : LinePace) → p.second < second → spent second p ≡ 0
unfolding spent
spent_before second p lt = rw (ne_eqb p.second second (omega arith)) refl

spent_most : (second : ℕ) (p : LinePace) → p.printed ≤ 100 → spent second p ≤ 100
unfolding spent
spent_most second p most =
    elim (cases_Bool (p.second == second)) [
      | inl is ↦ rw is most
      | inr off ↦ rw off (omega arith)
    ]

spent_in : (second : ℕ) (p : LinePace) → p.second ≡ second → spent second p ≡ p.printed
unfolding spent
spent_in second p is = rw (eq-eqb p.second second is) refl

counted_second : (p : LinePace) → (counted p).second ≡ p.second
counted_second p =
    elim (cases_Bool (has_room p)) [
      | inl room ↦ rw room refl
      | inr full ↦ rw full refl
    ]

counted_printed : (p : LinePace) → (counted p).printed ≡ p.printed + (if has_room p then 1 else 0)
counted_printed p =
    elim (cases_Bool (has_room p)) [
      | inl room ↦ rw room refl
      | inr full ↦ rw full (omega arith)
    ]

counted_most : (p : LinePace) → p.printed ≤ 100 → (counted p).printed ≤ 100
counted_most p most =
    elim (cases_Bool (has_room p)) [
      | inl room ↦ rw room (omega (arith, ltb-true p.printed 100 room))
      | inr full ↦ rw full most
    ]

-- in an earlier second none is printed any more, and in this one no more than there is room for
record IsBounded (second : ℕ) (p : LinePace) (times : List ℕ) : Type 0 where
  pub over : second < p.second → let_through second p times ≡ 0
  pub few : let_through second p times + spent second p ≤ 100

module _ (second time : ℕ) (p : LinePace) (times : List ℕ) (most : p.printed ≤ 100) (now : p.second ≤ second_of time)
    (rest : IsBounded second (asked time p) times) where
  asked_second : (asked time p).second ≡ second_of time
  asked_second = counted_second (brought_to time p) ∙ brought_second time p now

  other : (second_of time ≡ second → ⊥) → let_through second p (time ∷ times) ≡ let_through second (asked time p) times
  other off = rw (ne_eqb (second_of time) second off, and-false) (omega arith)

  this : second_of time ≡ second
      → let_through second p (time ∷ times) + (brought_to time p).printed ≡ let_through second (asked time p) times + (asked time p).printed
  this is =
      rw (eq-eqb (second_of time) second is)
      (elim (cases_Bool (has_room (brought_to time p))) [
        | inl room ↦ rw room (omega arith)
        | inr full ↦ rw full (omega arith)
      ])

  bounded_more : IsBounded second p (time ∷ times)
  bounded_more = record {
    over = λ h. other (λ is. omega arith) ∙ rest.over (omega (arith, asked_second));
    few = elim (cases_eq (second_of time) second) [
      | inl is ↦ omega (arith, this is, rest.few, spent_in second (asked time p) (asked_second ∙ is), brought_spent time second p now is)
      | inr off ↦ elim (cases_lt second (second_of time)) [
        | inl gone ↦ omega (arith, other off, rest.over (omega (arith, asked_second)), spent_most second p most)
        | inr to_come ↦ omega (arith, other off, rest.few, spent_before second p (omega arith))
      ]
    ];
  }

bounded : (second : ℕ) (p : LinePace) (from : ℕ) (times : List ℕ) → p.printed ≤ 100 → p.second ≤ second_of from
    → NeverFalls from times → IsBounded second p times
bounded second p from [] most at falls = record { over = λ h. refl; few = omega (arith, spent_most second p most) }
bounded second p from (time ∷ times) most at falls =
    let now : p.second ≤ second_of time = omega (arith, later from time falls.0) in
    bounded_more second time p times most now
    (bounded second (asked time p) time times (counted_most (brought_to time p) (brought_printed time p most))
    (omega (arith, counted_second (brought_to time p), brought_second time p now)) falls.1)

pub at_most_100 : (times : List ℕ) (second : ℕ) → NeverFalls 0 times → let_through second begun times ≤ 100
at_most_100 times second falls = omega (arith, (bounded second begun 0 times (omega arith) (omega arith) falls).few)
