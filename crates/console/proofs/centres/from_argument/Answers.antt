use Rattle.std.proofs.Common.{◌≡◌, Ok, Err, Result}
use Rattle.std.specs.Result.{IfOk, IsErrAnd, MatchResult}
use Rattle.console.specs.declared.centres.Centres.{Centres}
use Rattle.console.specs.declared.centres.CentresError.{CentresError}
use Rattle.console.specs.declared.Failed.{Failed}
use Rattle.console.specs.Centres.{Few}
use Rattle.console.proofs.CentresLaws.{centres-few}
use Rattle.console.proofs.centres.from_argument.Goals as goal

no_centres : (m : Result Centres Failed) (P : Failed → Type 0) → IsErrAnd m P → IfOk m Few
no_centres (Ok x) P h = absurd h
no_centres (Err e) P h = tt

-- what `map_err` leaves as it was
few-kept : (r : Result Centres CentresError) (m : Result Centres Failed) (P : CentresError → Failed → Type 0) →
    MatchResult r (λ x. m ≡ Ok x) (λ e. IsErrAnd m (P e)) → IfOk r Few → IfOk m Few
few-kept (Ok x) m P e h = rw e h
few-kept (Err e) m P h k = no_centres m (P e) h

pub returns : goal.returns
returns g c = few-kept c.read.result c.map_err.result _ c.map_err.ensures.cases (rw c.read.ensures (centres-few _))
