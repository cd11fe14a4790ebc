-- What an edit is an event for.
use Rattle.std.proofs.Common.{◌≡◌, Bool, true, false, not, ◌&&◌, ◌||◌, refl}
use Rattle.event_queue.specs.declared.kind.EventKind.TheVariants.{Namespace, Ana}
use Rattle.event_queue.specs.Laws.{OneChangeIsOneEvent}

-- n and a: the views that change; e and f: the kinds that are enabled
apart : (n e a f : Bool) → ((n && e) && (a && (f && not (n && e)))) ≡ false
apart true true true true = refl
apart true true true false = refl
apart true true false f = refl
apart true false a f = refl
apart false e a f = refl

either : (n e a f : Bool) → a ≡ true → f ≡ true → ((n && e) || (a && (f && not (n && e)))) ≡ true
either true true a f h k = refl
either true false a f h k = cc
either false e a f h k = cc

pub one_change_is_one_event : OneChangeIsOneEvent
one_change_is_one_event = record {
  never_both = λ enabled x. apart x.namespace (enabled Namespace) x.ana (enabled Ana);
  one = λ enabled x. either x.namespace (enabled Namespace) x.ana (enabled Ana);
}
