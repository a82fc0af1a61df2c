-- From the calls one by one to whole runs.
use Rattle.std.proofs.Common.{◌≡◌, ℕ, ◌<◌, ◌≤◌, Bool, true, false, ◌&&◌, eqb, leb, ◌≢◌, List, [], ◌∷◌, ◌++◌, Some, None, Option, refl, ◌∙◌, arith}
use Rattle.std.proofs.lemmas.Bool.Decides.{nat_tests}
use Rattle.base.specs.declared.«record».Record.{Record}
use Rattle.base.specs.declared.fault.Fault.{Fault}
use Rattle.terms.specs.declared.answers.Phase.TheVariants.{Fast}
use Rattle.terms.specs.declared.voters.Voters.{Voters}
use Rattle.terms.specs.Tests.{tally, mem}
use Rattle.protocol.specs.Counts.{electing}
use Rattle.terms.specs.Votes.{votes, vote_count, has_stranger}
use Rattle.protocol.specs.Outcomes.{unless_refused}
use Rattle.protocol.specs.Refusals.{propose_refusal}
use Rattle.terms.specs.declared.answers.Reply.TheVariants.{Told}
use Rattle.base.specs.Meaning.{Meaning, Laws}
use Rattle.protocol.specs.declared.setting.Setting.{Setting}
use Rattle.protocol.specs.State.{State, meets, new_group}
use Rattle.terms.specs.declared.calls.Call.{Call}
use Rattle.terms.specs.declared.calls.Call.TheVariants.{Query, Propose, Receive, Hear, Sync, Notice, Change}
use Rattle.protocol.proofs.Said.{said}
use Rattle.protocol.specs.Steps.{drops, propose, sync}
use Rattle.protocol.specs.Histories.{refusal, moved, step, run, history}
use Rattle.protocol.proofs.Invariant.{Live, Inv, inv_new, answered, told_agrees, Onward, on_boxes}
use Rattle.terms.proofs.Counting.{tally_same_bound}
use Rattle.terms.proofs.Lists.{any_append, none_below}
use Rattle.protocol.proofs.Propose.{inv_propose, on_propose}
use Rattle.protocol.proofs.Receive.{inv_drop, on_drop, inv_take, on_take}
use Rattle.protocol.proofs.Hear.{inv_hear, on_hear}
use Rattle.protocol.proofs.Sync.{inv_sync, on_sync}
use Rattle.protocol.proofs.Notice.{inv_note, on_note}
use Rattle.protocol.proofs.Change.{inv_change, on_change}

-- What is to show of a call: the invariant after it, and what it keeps.
abbrev Keeps : {S : Type 0} → Meaning S → State S → State S → Type 0
Keeps m s s' = Inv m s' × Onward m s s'

-- the voters that are named are all boxes of the group, so a count of boxes has them all
all_named : (n : ℕ) (voters : Voters) → has_stranger n voters ≡ false → vote_count voters ≡ electing n → tally n (votes voters) ≡ electing n
unfolding has_stranger vote_count
all_named n voters none many =
    let no_stranger = none_below 10 (λ d. leb n d && votes voters d) none in
    tally_same_bound 10 n (votes voters) (λ d h. let here = no_stranger d in grind (arith, nat_tests)) (λ d h. grind (arith, nat_tests)) ∙ many

backwards : (a b : Bool) → (a ≡ true → b ≡ true) → b ≡ false → a ≡ false
backwards a b f h = grind arith

mem_left : (c : ℕ) (xs ys : List ℕ) → mem c xs ≡ true → mem c (xs ++ ys) ≡ true
mem_left c xs ys h = let split = any_append (eqb c) xs ys in grind arith

meets_same : {S : Type 0} (m : Meaning S) (job job' : ℕ → Record) (c d : ℕ) → job c ≡ job' c → job d ≡ job' d →
    meets m job c d ≡ true → meets m job' c d ≡ true
meets_same m job job' c d ec ed h = cc

module _ {S : Type 0} (m : Meaning S) (laws : Laws m) where
  stays : (s : State S) → Inv m s → Keeps m s s
  stays s i = (i, on_boxes m s _ _ _ _)

  keeps_receive : (r c : ℕ) (s : State S) → Inv m s → c < s.jobs.count → s.boxes.request r c ≡ true → (b : Bool) → drops s r c ≡ b → Keeps m s (moved m (Receive r c) s)
  keeps_receive r c s i job asks true e = rw e (inv_drop m r c s i, on_drop m r c s)
  keeps_receive r c s i job asks false e = rw e (inv_take m r c s i laws job asks e, on_take m r c s i laws job asks e)

  keeps_sync : (s : State S) → Inv m s → (ws : List ℕ) → s.lead.waiting ≡ ws → Keeps m s (sync m ws s)
  keeps_sync s i [] e = stays s i
  keeps_sync s i (c ∷ cs) e = (inv_sync m laws c cs s i e, on_sync m laws c cs s i e)

  keeps_propose : (x : Record) (s : State S) → Inv m s → (misfit : Option ℕ) → propose_refusal misfit s ≡ None → Keeps m s (propose x s)
  keeps_propose x s i None ok = (inv_propose m x s i (grind (arith, nat_tests)), on_propose m x s i)
  keeps_propose x s i (Some f) ok = absurd (grind arith)

  keeps_moved : (call : Call) (s : State S) → Inv m s → refusal m call s ≡ None → Keeps m s (moved m call s)
  keeps_moved (Query c) s i ok = stays s i
  keeps_moved (Propose x) s i ok = keeps_propose x s i (m.misfit x) ok
  keeps_moved (Receive r c) s i ok = keeps_receive r c s i (grind (arith, nat_tests)) (grind arith) (drops s r c) refl
  keeps_moved (Hear r c) s i ok = (inv_hear m r c s i, on_hear m r c s i)
  keeps_moved Sync s i ok = keeps_sync s i s.lead.waiting refl
  keeps_moved (Notice r c) s i ok = (inv_note m r c s i (grind arith), on_note m r c s)
  keeps_moved (Change l voters) s i ok =
      let named = all_named s.fixed.size voters (grind (arith, nat_tests)) (grind (arith, nat_tests)) in
      (inv_change m l voters s i named, on_change m l voters s i named)

  keeps_step : (call : Call) (s : State S) → Inv m s → Keeps m s (step m call s)
  keeps_step call s i = go (refusal m call s) refl
    where
      go : (o : Option Fault) → refusal m call s ≡ o → Keeps m s (unless_refused o (moved m call s) s)
      go None ok = keeps_moved call s i ok
      go (Some fault) refused = stays s i

  pub inv_run : (calls : List Call) (s : State S) → Inv m s → Inv m (run m calls s)
  inv_run [] s i = i
  inv_run (call ∷ calls) s i = inv_run calls (step m call s) (keeps_step call s i).0

  pub inv_history : (capacity : ℕ) (k : Setting) (calls : List Call) → Inv m (history m capacity k calls)
  inv_history capacity k calls = inv_run calls (new_group m capacity k) (inv_new m capacity k)

  pub fast_run : (calls : List Call) (s : State S) → Inv m s → (c t e : ℕ) → s.jobs.phase c ≡ Fast t e → (run m calls s).jobs.phase c ≡ Fast t e
  fast_run [] s i c t e h = h
  fast_run (call ∷ calls) s i c t e h =
      let one = keeps_step call s i in
      fast_run calls (step m call s) one.0 c t e (one.1.fast_on c t e h)

  pub epoch_run : (calls : List Call) (s : State S) → Inv m s → s.lead.epoch ≤ (run m calls s).lead.epoch
  epoch_run [] s i = omega arith
  epoch_run (call ∷ calls) s i =
      let one = keeps_step call s i in
      let rest = epoch_run calls (step m call s) one.0 in
      let here = one.1.epoch_up in
      omega arith

  job_run : (calls : List Call) (s : State S) → Inv m s → (c : ℕ) → c < s.jobs.count → (run m calls s).jobs.job c ≡ s.jobs.job c
  job_run [] s i c h = refl
  job_run (call ∷ calls) s i c h =
      let one = keeps_step call s i in
      job_run calls (step m call s) one.0 c (let up = one.1.count_up in omega arith) ∙ one.1.job_on c h

  log_run : (calls : List Call) (s : State S) → Inv m s → (c : ℕ) → mem c s.lead.log ≡ true → mem c (run m calls s).lead.log ≡ true
  log_run [] s i c h = h
  log_run (call ∷ calls) s i c h =
      let one = keeps_step call s i in
      log_run calls (step m call s) one.0 c (one.1.log_on c h)

  pub live_run : (calls : List Call) (s : State S) → Inv m s → (e c : ℕ) → e ≤ s.lead.epoch → Live (run m calls s) e c → Live s e c
  live_run [] s i e c past l = l
  live_run (call ∷ calls) s i e c past l =
      let one = keeps_step call s i in
      one.1.live_back e c past (live_run calls (step m call s) one.0 e c (let up = one.1.epoch_up in omega arith) l)

  -- once told, and live at the end, a job is overtaken by none that meets it
  pub in_turn_run : (calls : List Call) (s : State S) → Inv m s → (r c e t : ℕ) → said (s.boxes.answer r c) ≡ Told e t →
      Live (run m calls s) e c → mem c (run m calls s).lead.log ≡ false →
      (d : ℕ) → d ≢ c → mem d (run m calls s).lead.log ≡ true → meets m (run m calls s).jobs.job c d ≡ true → mem d s.lead.log ≡ true
  in_turn_run [] s i r c e t told l out d other h meet = h
  in_turn_run (call ∷ calls) s i r c e t told l out d other h meet =
      let one = keeps_step call s i in
      let s' = step m call s in
      let told' = one.1.told_on r c e t told in
      let in_log = in_turn_run calls s' one.0 r c e t told' l out d other h meet in
      let live = live_run (call ∷ calls) s i e c (i.past r c e (told_agrees (s.boxes.answer r c) e t told)) l in
      let not_yet = backwards (mem c s'.lead.log) (mem c (run m calls s').lead.log) (log_run calls s' one.0 c) out in
      let c_job = answered m s' one.0 r c e (told_agrees (s'.boxes.answer r c) e t told') in
      let d_job = one.0.known d (mem_left d s'.lead.log s'.lead.waiting in_log) in
      let meet' = meets_same m (run m calls s').jobs.job s'.jobs.job c d (job_run calls s' one.0 c c_job) (job_run calls s' one.0 d d_job) meet in
      one.1.in_turn c d t (i.firm r c e t told live) not_yet in_log other meet'
