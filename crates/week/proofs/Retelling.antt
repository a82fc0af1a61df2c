-- One more call's line at the end of a report.
use Rattle.std.proofs.Common.{◌≡◌, ℕ, suc, ◌+◌, false, List, [], ◌∷◌, ◌++◌, length, Ok, Err, Result, sym, refl, ap, ◌∙◌, append_assoc, append-nil, arith}
use Rattle.std.proofs.lemmas.Bool.{cond-false}
use Rattle.base.specs.declared.fault.Fault.{Fault}
use Rattle.base.specs.Meaning.{Meaning}
use Rattle.terms.specs.declared.calls.Call.{Call}
use Rattle.protocol.specs.Reported.{quorums}
use Rattle.protocol.specs.State.{State, new_group}
use Rattle.protocol.specs.Histories.{step, run}
use Rattle.lines.specs.declared.step.Step.TheVariants.{Call as Asks}
use Rattle.lines.specs.Reading.{parse}
use Rattle.week.specs.declared.event.Outcome.{Outcome}
use Rattle.week.specs.declared.event.Outcome.TheVariants.{Started}
use Rattle.week.specs.declared.event.Event.TheVariants.{Told}
use Rattle.week.specs.Reports.{line_for}
use Rattle.week.specs.Runs.{ends, answered, outcome, later}
use Rattle.week.specs.Retold.{Says, ReportsTellHistory}

-- no call ends a run
never_ends : (call : Call) (r : Result Outcome Fault) → ends (answered call r) ≡ false
never_ends call (Ok o) = refl
never_ends call (Err f) = refl

module _ {S : Type 0} (m : Meaning S) where
  -- a call's line, and the lines after it
  one_call : (n : ℕ) (s : State S) (line : List ℕ) (lines : List (List ℕ)) (call : Call) → parse line ≡ Ok (Asks call)
      → later m n s (line ∷ lines) ≡ line_for n (answered call (outcome m call s)) ++ later m (n + 1) (step m call s) lines
  one_call n s line lines call e =
      rw e (ap (λ t. line_for n (answered call (outcome m call s)) ++ t) (cond-false (ends (answered call (outcome m call s))) _ _ (never_ends call (outcome m call s))))

  module _ (line : List ℕ) (call : Call) (is : parse line ≡ Ok (Asks call)) where
    one_more : (n : ℕ) (s : State S) (lines : List (List ℕ)) (calls : List Call) → Says lines calls
        → later m n s (lines ++ line ∷ []) ≡ later m n s lines ++ line_for (n + length lines) (answered call (outcome m call (run m calls s)))
    one_more n s [] [] says =
        let z : n + 0 ≡ n = omega arith in
        one_call n s line [] call is ∙ (append-nil _ ∙ ap (λ k. line_for k (answered call (outcome m call s))) (sym z))
    one_more n s [] (c ∷ cs) says = absurd says
    one_more n s (l ∷ ls) [] says = absurd says
    one_more n s (l ∷ ls) (c ∷ cs) says =
        let first = line_for n (answered c (outcome m c s)) in
        let rest = later m (n + 1) (step m c s) ls in
        let last = answered call (outcome m call (run m cs (step m c s))) in
        let count : n + 1 + length ls ≡ n + suc (length ls) = omega arith in
        one_call n s l (ls ++ line ∷ []) c says.0
        ∙ (ap (λ t. first ++ t) (one_more (n + 1) (step m c s) ls cs says.1)
        ∙ (sym (append_assoc first rest (line_for (n + 1 + length ls) last))
        ∙ (ap (λ t. t ++ line_for (n + 1 + length ls) last) (sym (one_call n s l ls c says.0))
        ∙ ap (λ k. later m n s (l ∷ ls) ++ line_for k last) count)))

  pub told_after : (limit : ℕ) → ReportsTellHistory m limit
  told_after limit k first line lines call calls opens says is =
      rw opens (ap (λ t. line_for 1 (Told (Started (quorums k.size))) ++ t) (one_more line call is 2 (new_group m limit k) lines calls says)
      ∙ sym (append_assoc (line_for 1 (Told (Started (quorums k.size)))) (later m 2 (new_group m limit k) lines) _))
