-- One turn of a run, its beginning and its ends.
use Rattle.std.proofs.Common.{◌≡◌, ℕ, ◌+◌, ◌≤◌, true, false, cond, ltb, List, [], ◌∷◌, ◌++◌, length, Ok, Err, sym, ap, ◌∙◌, append_assoc, append-nil, arith}
use Rattle.std.proofs.lemmas.Bool.{cond-false, le-ltb}
use Rattle.base.specs.declared.fault.Fault.{Fault}
use Rattle.base.specs.Meaning.{Meaning}
use Rattle.protocol.specs.declared.setting.Setting.{Setting}
use Rattle.protocol.specs.State.{State, new_group}
use Rattle.protocol.specs.declared.counts.Quorums.{Quorums}
use Rattle.protocol.specs.Reported.{quorums}
use Rattle.lines.specs.Reading.{parse}
use Rattle.week.specs.declared.event.Outcome.TheVariants.{Started}
use Rattle.week.specs.declared.event.Event.{Event}
use Rattle.week.specs.declared.event.Event.TheVariants.{Told, Ended}
use Rattle.week.specs.Reports.{line_for}
use Rattle.week.specs.Cuts.{lines_in}
use Rattle.week.specs.Runs.{longest_file, ends, opening, comes_to, state_after, later, opened, report_of, week_report}
use Rattle.week.proofs.Cutting.{Cut, first_of_lines}

module _ {S : Type 0} (m : Meaning S) where
  -- The next line comes to e, which is written; the run goes on with the rest, or stops.
  module _ (n : ℕ) (s : State S) (xs line rest r r' all : List ℕ) (e : Event) (cut : Cut xs line rest)
      (came : e ≡ comes_to m (parse line) s) (added : r' ≡ r ++ line_for n e) (inv : r ++ later m n s (lines_in xs) ≡ all) where
    turn : r' ++ cond (ends e) [] (later m (n + 1) (state_after m (parse line) s) (lines_in rest)) ≡ all
    turn =
        let next = cond (ends e) [] (later m (n + 1) (state_after m (parse line) s) (lines_in rest)) in
        let now : later m n s (lines_in xs) ≡ line_for n e ++ next = rw came (ap (later m n s) (first_of_lines xs line rest cut)) in
        rw added (append_assoc r (line_for n e) next ∙ (ap (λ t. r ++ t) (sym now) ∙ inv))

    pub goes_on : (n' : ℕ) (s' : State S) → ends e ≡ false → n' ≡ n + 1 → s' ≡ state_after m (parse line) s → r' ++ later m n' s' (lines_in rest) ≡ all
    goes_on n' s' still up next = rw (up, next) (ap (λ b. r' ++ cond b [] (later m (n + 1) (state_after m (parse line) s) (lines_in rest))) (sym still) ∙ turn)

    pub stops : ends e ≡ true → r' ≡ all
    stops end = sym (append-nil r') ∙ (ap (λ b. r' ++ cond b [] (later m (n + 1) (state_after m (parse line) s) (lines_in rest))) (sym end) ∙ turn)

  -- nothing is left
  pub no_more : (n : ℕ) (s : State S) (xs r all : List ℕ) → length xs ≡ 0 → r ++ later m n s (lines_in xs) ≡ all → r ≡ all
  no_more n s [] r all z e = sym (append-nil r) ∙ e
  no_more n s (x ∷ xs) r all z e = absurd (omega arith)

  -- the first line sets up a group, or is refused
  module _ (limit : ℕ) (file line rest : List ℕ) (cut : Cut file line rest) where
    opens : report_of m limit (lines_in file) ≡ opened m limit (opening (parse line)) (lines_in rest)
    opens = ap (report_of m limit) (first_of_lines file line rest cut)

    pub refused : (fault : Fault) → opening (parse line) ≡ Err fault → report_of m limit (lines_in file) ≡ line_for 1 (Ended fault)
    refused fault e = opens ∙ ap (λ o. opened m limit o (lines_in rest)) e

    pub begins : (k : Setting) (s : State S) (q : Quorums) (r r' : List ℕ) → opening (parse line) ≡ Ok k → s ≡ new_group m limit k → q ≡ quorums s.fixed.size
        → r' ≡ r ++ line_for 1 (Told (Started q)) → r' ++ later m 2 s (lines_in rest) ≡ r ++ report_of m limit (lines_in file)
    begins k s q r r' e new counts added =
        let first : report_of m limit (lines_in file) ≡ line_for 1 (Told (Started (quorums k.size))) ++ later m 2 (new_group m limit k) (lines_in rest) =
        opens ∙ ap (λ o. opened m limit o (lines_in rest)) e in
        rw (added, counts, new, first) (append_assoc r (line_for 1 (Told (Started (quorums k.size)))) (later m 2 (new_group m limit k) (lines_in rest)))

  -- a file that is not too long
  pub short : (limit : ℕ) (file r' r : List ℕ) → r ≡ [] → r' ≡ r ++ report_of m limit (lines_in file) → length file ≤ longest_file → r' ≡ week_report m limit file
  short limit file r' r new added h = rw (added, new) (sym (cond-false (ltb longest_file (length file)) _ _ (le-ltb _ _ h)))
