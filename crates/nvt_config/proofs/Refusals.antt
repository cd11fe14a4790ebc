-- What is known of an accepted edit: each test against it is false, and its effect is what it leaves.
use Rattle.std.proofs.Common.{◌≡◌, true, false, List, [], ◌∷◌, Ok, IfOk, IsOk, refl}
use Rattle.std.proofs.lemmas.Result.{IfOk-at_ok}
use Rattle.config_lists.specs.declared.edit.Edit.{Edit}
use Rattle.nvt_config.specs.Accept.{Refusal, accept, effect, refusals, unless_refused}
use Rattle.nvt_config.specs.Configuration.{Configuration}

-- it holds where each test is false
abbrev pub Unless : List Refusal → Type 0 → Type 0
Unless [] P = P
Unless (refusal ∷ others) P = refusal.0 ≡ false → Unless others P

-- .. as what holds whatever the tests say
pub whatever : (reasons : List Refusal) (P : Type 0) → P → Unless reasons P
whatever [] P holds = holds
whatever (refusal ∷ others) P holds = λ fails. whatever others P holds

IfOk-unless : (reasons : List Refusal) (next : Configuration) (P : Configuration → Type 0) → Unless reasons (P next) → IfOk (unless_refused reasons next) P
IfOk-unless [] next P holds = holds
IfOk-unless ((true, fault) ∷ others) next P holds = tt
IfOk-unless ((false, fault) ∷ others) next P holds = IfOk-unless others next P (holds refl)

ok-unless : (reasons : List Refusal) (next : Configuration) → IsOk (unless_refused reasons next) → unless_refused reasons next ≡ Ok next
ok-unless [] next ok = refl
ok-unless ((true, fault) ∷ others) next ok = cc
ok-unless ((false, fault) ∷ others) next ok = ok-unless others next ok

-- what holds of the effect, where each test is false, holds of what an accepted edit leaves
pub IfOk-accept : (c : Configuration) (edit : Edit) (P : Configuration → Type 0) → Unless (refusals c edit) (P (effect c edit)) → IfOk (accept c edit) P
IfOk-accept c edit P = IfOk-unless (refusals c edit) (effect c edit) P

pub IfOk-effect : (c : Configuration) (edit : Edit) (P : Configuration → Type 0) → P (effect c edit) → IfOk (accept c edit) P
IfOk-effect c edit P holds = IfOk-accept c edit P (whatever (refusals c edit) (P (effect c edit)) holds)

pub accepted : (c next : Configuration) (edit : Edit) (P : Configuration → Type 0) → accept c edit ≡ Ok next → Unless (refusals c edit) (P (effect c edit)) → P next
accepted c next edit P is holds = IfOk-at_ok P is (IfOk-accept c edit P holds)

pub is_effect : (c next : Configuration) (edit : Edit) → accept c edit ≡ Ok next → next ≡ effect c edit
is_effect c next edit is = IfOk-at_ok (λ d. d ≡ effect c edit) is (IfOk-effect c edit (λ d. d ≡ effect c edit) refl)

pub accept-effect : (c : Configuration) (edit : Edit) → IsOk (accept c edit) → accept c edit ≡ Ok (effect c edit)
accept-effect c edit = ok-unless (refusals c edit) (effect c edit)

-- what follows from the tests alone
pub passed_all : (c : Configuration) (edit : Edit) (P : Type 0) → IsOk (accept c edit) → Unless (refusals c edit) P → P
passed_all c edit P ok holds = accepted c (effect c edit) edit (λ _. P) (accept-effect c edit ok) holds
