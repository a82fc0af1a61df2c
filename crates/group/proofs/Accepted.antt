-- A call's step and what it tells, by whether it is refused.
use Rattle.std.proofs.Common.{◌≡◌, IsErrAnd, Some, None, Ok, Err, Option, Result, ap, ◌∙◌}
use Rattle.std.proofs.lemmas.Result.{err_from_is_err_and}
use Rattle.base.specs.declared.fault.Fault.{Fault}
use Rattle.protocol.specs.Outcomes.{settled, unless_refused}

pub step_made : {A : Type 0} (o : Option Fault) (before : A) {after moved : A} → o ≡ None → after ≡ moved → after ≡ unless_refused o moved before
step_made o before e made = rw e made

pub told : {A : Type 0} (o : Option Fault) {r told : A} → o ≡ None → r ≡ told → ◌≡◌ {A = Result A Fault} (Ok r) (settled o told)
told o e same = rw e (ap Ok same)

pub step_refused : {A : Type 0} (o : Option Fault) {f : Fault} (before moved : A) → o ≡ Some f → before ≡ unless_refused o moved before
step_refused o before moved e = rw e

pub told_refused : {A : Type 0} (o : Option Fault) {f : Fault} (told : A) → o ≡ Some f → ◌≡◌ {A = Result A Fault} (Err f) (settled o told)
told_refused o told e = rw e

-- the exit of a `?` hands the fault on
pub told_on : {A : Type 0} (r : Result A Fault) (o : Option Fault) {f : Fault} (told : A) → IsErrAnd r (λ y. y ≡ f) → o ≡ Some f → r ≡ settled o told
told_on r o told by e = let p = err_from_is_err_and r by in p.1 ∙ ap Err p.2 ∙ told_refused o told e
