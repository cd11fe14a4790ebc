-- A chain of checks, of which the first were passed.
use Rattle.std.proofs.Common.{◌≡◌, Bool, true, false, Result, Ok, refl}
use Rattle.config_lists.specs.declared.fault.EditFault.{EditFault}
use Rattle.nvt_config.specs.Configuration.{Configuration}
use Rattle.nvt_config.specs.Accept.{refuse, verdict}

abbrev pub passed : Result (Unit {0}) EditFault
passed = Ok tt

-- what comes after a check that was passed
pub past : {T : Type 0} (test : Bool) (fault : EditFault) (next : Result T EditFault) → refuse test fault passed ≡ passed → refuse test fault next ≡ next
past true fault next ok = cc
past false fault next ok = refl

-- the reason against an edit is that of its chain of checks, of which the last three are left
pub verdict_of : (s t u : Bool) (f g h : EditFault) (c : Configuration) → verdict (refuse s f (refuse t g (refuse u h (Ok c)))) ≡ refuse s f (refuse t g (refuse u h passed))
verdict_of true t u f g h c = refl
verdict_of false true u f g h c = refl
verdict_of false false true f g h c = refl
verdict_of false false false f g h c = refl
