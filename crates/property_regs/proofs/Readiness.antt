-- What a controller's properties are by the values that were set, and what follows for its readiness.
use Rattle.std.proofs.Common.{◌≡◌, ℕ, Bool, true, false, not, ◌||◌, ◌&&◌, List, [], ◌∷◌, Option, Some, None, refl, sym, ◌∙◌, ap}
use Rattle.std.specs.Prelude.{◌%◌, ◌^◌, if◌then◌else◌, is_some, unwrap_or}
use Rattle.property_regs.specs.declared.kind.ControllerKind.{ControllerKind}
use Rattle.property_regs.specs.declared.regs.Change.{Change}
use Rattle.property_regs.specs.declared.regs.Change.TheVariants.{Reset, Enable, Shutdown, Stay}
use Rattle.property_regs.specs.declared.regs.Regs.{Regs}
use Rattle.property_regs.specs.declared.status.Enabling.{Enabling}
use Rattle.property_regs.specs.declared.status.Enabling.TheVariants.{Disabled}
use Rattle.property_regs.specs.declared.status.ShutdownStatus.TheVariants.{Complete}
use Rattle.property_regs.specs.Configuration.{asks_shutdown, enabling_by, is_enabled}
use Rattle.property_regs.specs.Laws.{ChangesTellOfReadiness, PropertySet, ReadinessIsAsSet, enabled_by, ends_readiness, is_taken, makes_ready, regs_since_connect, values_set, was_shut_down}
use Rattle.property_regs.specs.Regs.{configured, enabling_after, is_ready, is_settable, shutdown_after}
use Rattle.property_regs.specs.Status.{has_risen, is_complete}

abbrev enabling_of : ControllerKind → Option ℕ → Enabling
enabling_of kind None = Disabled
enabling_of kind (Some cc) = enabling_by kind cc

-- the properties are those of a controller to which these values were set
record AsSet (kind : ControllerKind) (values : List ℕ) (r : Regs) : Type 0 where
  pub kind_is : r.kind ≡ kind
  pub enabled : is_enabled r.cc ≡ is_some (enabled_by values)
  pub enabling : r.enabling ≡ enabling_of kind (enabled_by values)
  pub shutdown : was_shut_down values ≡ is_enabled r.cc && is_complete r.shutdown

-- ---- one more value; here b is EN before it, c is EN of the value, s whether it asks for a shutdown

enabled_step : (c : Bool) (o : Option ℕ) (cc : ℕ) → c ≡ is_some (if c then Some (unwrap_or o cc) else None)
enabled_step true o cc = refl
enabled_step false o cc = refl

enabling_step : (kind : ControllerKind) (r : Regs) (value : ℕ) (b c : Bool) (o : Option ℕ) → r.kind ≡ kind → b ≡ is_some o → r.enabling ≡ enabling_of kind o
    → enabling_after b c r value ≡ enabling_of kind (if c then Some (unwrap_or o value) else None)
enabling_step kind r value true true (Some x) k b e = e
enabling_step kind r value true true None k b e = cc
enabling_step kind r value false true (Some x) k b e = cc
enabling_step kind r value false true None k b e = ap (λ k. enabling_by k value) k
enabling_step kind r value true false o k b e = refl
enabling_step kind r value false false (Some x) k b e = cc
enabling_step kind r value false false None k b e = e

shutdown_step : (r : Regs) (b c s w : Bool) → w ≡ b && is_complete r.shutdown
    → c && (s || w) ≡ c && is_complete (if s then Complete else shutdown_after b c r)
shutdown_step r b false s w h = refl
shutdown_step r b true true w h = refl
shutdown_step r true true false w h = h
shutdown_step r false true false w h = h

as_set_step : (kind : ControllerKind) (values : List ℕ) (r : Regs) (cc : ℕ) → AsSet kind values r → AsSet kind (cc ∷ values) (configured r cc)
as_set_step kind values r cc a = record {
  kind_is = a.kind_is;
  enabled = enabled_step (is_enabled cc) (enabled_by values) cc;
  enabling = enabling_step kind r cc (is_enabled r.cc) (is_enabled cc) (enabled_by values) a.kind_is a.enabled a.enabling;
  shutdown = shutdown_step r (is_enabled r.cc) (is_enabled cc) (asks_shutdown cc) (was_shut_down values) a.shutdown;
}

-- a refused Set sets no value
as_set_if : (kind : ControllerKind) (values : List ℕ) (r : Regs) (cc : ℕ) (accepted : Bool) → AsSet kind values r
    → AsSet kind (if accepted then cc ∷ values else values) (if accepted then configured r cc else r)
as_set_if kind values r cc true a = as_set_step kind values r cc a
as_set_if kind values r cc false a = a

as_set : (kind : ControllerKind) (sets : List PropertySet) → AsSet kind (values_set sets) (regs_since_connect kind sets)
as_set kind [] = record { kind_is = refl; enabled = refl; enabling = refl; shutdown = refl }
as_set kind (s ∷ before) =
    as_set_if kind (values_set before) (regs_since_connect kind before) (s.value % 2 ^ 32) (is_settable s.offset s.attrib) (as_set kind before)

-- ---- readiness

ready_of : (kind : ControllerKind) (r : Regs) (b w : Bool) (o : Option ℕ) → b ≡ is_some o → r.enabling ≡ enabling_of kind o
    → w ≡ b && is_complete r.shutdown → is_ready r ≡ is_taken kind o && not w
ready_of kind r b w None n e h = ap (λ x. has_risen x && not (is_complete r.shutdown)) e
ready_of kind r true w (Some value) n e h = ap (λ x. has_risen x && not (is_complete r.shutdown)) e ∙ ap (λ x. has_risen (enabling_by kind value) && not x) (sym h)
ready_of kind r false w (Some value) n e h = cc

pub readiness_is_as_set : ReadinessIsAsSet
readiness_is_as_set = record {
  ready = λ kind sets.
      let a = as_set kind sets in
      ready_of kind (regs_since_connect kind sets) (is_enabled (regs_since_connect kind sets).cc) (was_shut_down (values_set sets)) (enabled_by (values_set sets)) a.enabled a.enabling a.shutdown;
}

-- ---- changes of readiness; b, c and s as above

-- where EN is 0, RDY is 0
is_not_risen : (kind : ControllerKind) (b : Bool) (o : Option ℕ) (e : Enabling) → b ≡ is_some o → e ≡ enabling_of kind o → b ≡ false → has_risen e ≡ false
is_not_risen kind b None e n h f = ap has_risen h
is_not_risen kind b (Some value) e n h f = cc

abbrev change_in : Regs → ℕ → Bool → Bool → Bool → Change
change_in r value b c s =
    if b && not c then Reset else
    if not (has_risen r.enabling) && has_risen (enabling_after b c r value) then Enable else
    if not (is_complete r.shutdown) && is_complete (if s then Complete else shutdown_after b c r) then Shutdown else Stay

abbrev is_ready_in : Regs → ℕ → Bool → Bool → Bool → Bool
is_ready_in r value b c s = has_risen (enabling_after b c r value) && not (is_complete (if s then Complete else shutdown_after b c r))

not_shut_down : {A : Type 0} (x : Bool) → x && false ≡ true → A
not_shut_down true h = cc
not_shut_down false h = cc

rises : (old new : Bool) (otherwise : Change) → old ≡ false → new && true ≡ true → makes_ready (if not old && new then Enable else otherwise) ≡ true
rises false true otherwise f h = refl
rises false false otherwise f h = cc
rises true new otherwise f h = cc

comes_in : (r : Regs) (value : ℕ) (b c s : Bool) → (b ≡ false → has_risen r.enabling ≡ false) → is_ready r ≡ false → is_ready_in r value b c s ≡ true
    → makes_ready (change_in r value b c s) ≡ true
comes_in r value true false s f old new = cc
comes_in r value true true true f old new = not_shut_down (has_risen r.enabling) new
comes_in r value true true false f old new = cc
comes_in r value false false true f old new = not_shut_down (has_risen r.enabling) new
comes_in r value false false false f old new = cc
comes_in r value false true true f old new = not_shut_down (has_risen (enabling_by r.kind value)) new
comes_in r value false true false f old new = rises (has_risen r.enabling) (has_risen (enabling_by r.kind value)) _ (f refl) new

falls : (x y : Bool) → x && not y ≡ true → ends_readiness (if not x && x then Enable else if not y && true then Shutdown else Stay) ≡ true
falls true false h = refl
falls true true h = cc
falls false y h = cc

goes_in : (r : Regs) (value : ℕ) (b c s : Bool) → (b ≡ false → has_risen r.enabling ≡ false) → is_ready r ≡ true → is_ready_in r value b c s ≡ false
    → ends_readiness (change_in r value b c s) ≡ true
goes_in r value true false s f old new = refl
goes_in r value true true true f old new = falls (has_risen r.enabling) (is_complete r.shutdown) old
goes_in r value true true false f old new = cc
goes_in r value false c s f old new = was_risen (has_risen r.enabling) (f refl) old where
  was_risen : {A : Type 0} (x : Bool) → x ≡ false → x && not (is_complete r.shutdown) ≡ true → A
  was_risen true f h = cc
  was_risen false f h = cc

pub changes_tell_of_readiness : ChangesTellOfReadiness
changes_tell_of_readiness = record {
  comes = λ kind sets value old new.
      let r = regs_since_connect kind sets in
      let a = as_set kind sets in
      comes_in r value (is_enabled r.cc) (is_enabled value) (asks_shutdown value)
      (is_not_risen kind (is_enabled r.cc) (enabled_by (values_set sets)) r.enabling a.enabled a.enabling) old new;
  goes = λ kind sets value old new.
      let r = regs_since_connect kind sets in
      let a = as_set kind sets in
      goes_in r value (is_enabled r.cc) (is_enabled value) (asks_shutdown value)
      (is_not_risen kind (is_enabled r.cc) (enabled_by (values_set sets)) r.enabling a.enabled a.enabling) old new;
}
