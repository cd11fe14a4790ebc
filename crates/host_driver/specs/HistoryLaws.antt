-- Laws of histories, in the words of the subject.
use Rattle.std.specs.Prelude.{◌≡◌, Some, true, length}
use Rattle.tables.specs.NumberTable.{place}
use Rattle.host_driver.specs.Decision.{is_success}
use Rattle.host_driver.specs.declared.params.HostParams.{HostParams}
use Rattle.host_driver.specs.Event.{Event, History}
use Rattle.host_driver.specs.Pending.{Pending}
use Rattle.host_driver.specs.State.{state_after}
use Rattle.host_driver.specs.Told.{Answered, answers, tells}

-- where a command is answered with success, the answer has exactly as many bytes as the command wanted
abbrev pub AnswersAreWhole : Type 0
AnswersAreWhole = (params : HostParams) (h : History) (e : Event) (a : Answered) (p : Pending)
    → tells (state_after params h) e ≡ answers a → is_success a.status ≡ true
    → place (state_after params h).commands a.cid ≡ Some p → length a.payload ≡ p.into
