-- What each line of a report says, in the words of a group's history.
use Rattle.std.specs.Prelude.{◌≡◌, ℕ, ◌+◌, List, [], ◌∷◌, ◌++◌, length, Ok}
use Rattle.base.specs.Meaning.{Meaning}
use Rattle.protocol.specs.declared.setting.Setting.{Setting}
use Rattle.terms.specs.declared.calls.Call.{Call}
use Rattle.protocol.specs.Histories.{history}
use Rattle.lines.specs.declared.step.Step.TheVariants.{Call as Asks}
use Rattle.lines.specs.Reading.{parse}
use Rattle.week.specs.Reports.{line_for}
use Rattle.week.specs.Runs.{answered, outcome, opening, report_of}

-- the lines are those of the calls, one for one
abbrev pub Says : List (List ℕ) → List Call → Type 0
Says [] [] = Unit {0}
Says [] (call ∷ calls) = ⊥
Says (line ∷ lines) [] = ⊥
Says (line ∷ lines) (call ∷ calls) = (parse line ≡ Ok (Asks call)) × Says lines calls

-- After a setting and any calls, whether refused or not, the line of one more call adds one line to the report:
-- what that call gives in the state after the history of the calls before it.
abbrev pub ReportsTellHistory : {S : Type 0} → Meaning S → ℕ → Type 0
ReportsTellHistory m limit =
    (k : Setting) (first line : List ℕ) (lines : List (List ℕ)) (call : Call) (calls : List Call)
    → opening (parse first) ≡ Ok k → Says lines calls → parse line ≡ Ok (Asks call)
    → report_of m limit (first ∷ (lines ++ line ∷ []))
    ≡ report_of m limit (first ∷ lines) ++ line_for (2 + length lines) (answered call (outcome m call (history m limit k calls)))
