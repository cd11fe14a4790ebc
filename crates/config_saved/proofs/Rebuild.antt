-- What edits that are accepted one after another leave.
use Rattle.std.proofs.Common.{◌≡◌, ◌++◌, ◌∷◌, [], true, false, List, flat_map, Result, Ok, Err, refl, ap, sym, ◌∙◌, subst}
use Rattle.std.proofs.lemmas.List.{append-nil, append_assoc}
use Rattle.config_lists.specs.declared.edit.Edit.{Edit}
use Rattle.config_lists.specs.declared.fault.EditFault.{EditFault}
use Rattle.nvt_config.specs.Accept.{Refusal, accept, effect, refusals, unless_refused}
use Rattle.nvt_config.specs.Configuration.{Configuration}
use Rattle.config_saved.specs.Saved.{after_all, then_after}

-- no test against the edit passes
abbrev pub NoneHolds : List Refusal → Type 0
NoneHolds [] = Unit {0}
NoneHolds (refusal ∷ others) = (refusal.0 ≡ false) × NoneHolds others

ok_where_none : (reasons : List Refusal) (next : Configuration) → NoneHolds reasons → unless_refused reasons next ≡ Ok next
ok_where_none [] next none = refl
ok_where_none ((true, fault) ∷ others) next none = cc
ok_where_none ((false, fault) ∷ others) next none = ok_where_none others next none.1

-- so it is accepted
pub accept_where_none : (c : Configuration) (edit : Edit) → NoneHolds (refusals c edit) → accept c edit ≡ Ok (effect c edit)
accept_where_none c edit = ok_where_none (refusals c edit) (effect c edit)

-- an edit that is accepted, and those after it
pub after_first : (c next : Configuration) (edit : Edit) (edits : List Edit) (r : Result Configuration EditFault) → accept c edit ≡ Ok next → after_all next edits ≡ r → after_all c (edit ∷ edits) ≡ r
after_first c next edit edits r is rest = ap (then_after (λ d. after_all d edits)) is ∙ rest

pub after_one : (c next : Configuration) (edit : Edit) → accept c edit ≡ Ok next → after_all c (edit ∷ []) ≡ Ok next
after_one c next edit is = after_first c next edit [] (Ok next) is refl

then_more : (xs ys : List Edit) (d : Configuration) (r s : Result Configuration EditFault) → ((c : Configuration) → after_all c xs ≡ Ok d → after_all c (xs ++ ys) ≡ s) → then_after (λ c. after_all c xs) r ≡ Ok d → then_after (λ c. after_all c (xs ++ ys)) r ≡ s
then_more xs ys d (Ok c) s more is = more c is
then_more xs ys d (Err fault) s more is = cc

-- edits that are all accepted, and those after them
pub after_both : (c d : Configuration) (xs ys : List Edit) (r : Result Configuration EditFault) → after_all c xs ≡ Ok d → after_all d ys ≡ r → after_all c (xs ++ ys) ≡ r
after_both c d [] ys r is rest =
    let same : c ≡ d = cc in
    subst (λ e. after_all e ys ≡ r) (sym same) rest
after_both c d (x ∷ xs) ys r is rest =
    then_more xs ys d (accept c x) r (λ e here. after_both e d xs ys r here rest) is

module _ {X : Type 0} (edits_of : X → List Edit) (holding : List X → Configuration) where
  -- the edits of each item of a list add it after those before it
  abbrev pub AddEach : List X → Type 0
  AddEach xs = (before : List X) (x : X) (after : List X) → before ++ x ∷ after ≡ xs → after_all (holding before) (edits_of x) ≡ Ok (holding (before ++ x ∷ []))

  after_those_left : (xs : List X) → AddEach xs → (before after : List X) → before ++ after ≡ xs → after_all (holding before) (flat_map edits_of after) ≡ Ok (holding (before ++ after))
  after_those_left xs each before [] whole = ap (λ l. Ok (holding l)) (sym (append-nil before))
  after_those_left xs each before (x ∷ after) whole =
      after_both (holding before) (holding (before ++ x ∷ [])) (edits_of x) (flat_map edits_of after) (Ok (holding (before ++ x ∷ after)))
      (each before x after whole)
      (after_those_left xs each (before ++ x ∷ []) after (append_assoc before (x ∷ []) after ∙ whole) ∙ ap (λ l. Ok (holding l)) (append_assoc before (x ∷ []) after))

  -- so the edits of all items add the list
  pub after_each : (xs : List X) → AddEach xs → after_all (holding []) (flat_map edits_of xs) ≡ Ok (holding xs)
  after_each xs each = after_those_left xs each [] xs refl
