-- What the writer's answer tells of the step and of the buffer.
use Rattle.std.proofs.Common.{◌≡◌, ℕ, ◌≤◌, Bool, true, false, cond, ltb, List, ◌++◌, length, take, drop, Some, None, Ok, Err, Option, Result, sym, refl, ap, ◌∙◌, arith}
use Rattle.std.proofs.lemmas.List.{length-append, take_at}
use Rattle.std.proofs.lemmas.Bool.{cond-false}
use Rattle.base.specs.declared.fault.Fault.{Fault}
use Rattle.base.specs.declared.fault.Refusal.TheVariants.{ShortBuffer}
use Rattle.lines.specs.declared.step.Step.{Step}
use Rattle.lines.specs.Faults.{refused, bad_field}
use Rattle.lines.specs.Limits.{longest}
use Rattle.lines.specs.Reading.{parse}
use Rattle.lines.specs.Writing.{line_of, unwritable, if_writable, outcome, filled, written}
use Rattle.lines_laws.specs.Laws.{Sound}
use Rattle.lines_laws.specs.Rounds.{echoed, copied, copied_buffer}
use Rattle.lines_laws.proofs.Rebuilt.{err_ok, ok_same, writes_back}
use Rattle.lines_laws.proofs.Written.{reads_back}

-- a refusal is the same, whatever would have been told
same_fault : {A B : Type 0} (b : Bool) (f : Fault) (o : Option ℕ) (x : A) (y : B) (e : Fault)
    → Err e ≡ cond b (Err f) (if_writable o x) → Err e ≡ cond b (Err f) (if_writable o y)
same_fault true f o x y e p = let q : e ≡ f = cc in ap Err q
same_fault false f None x y e p = absurd (err_ok e x p)
same_fault false f (Some place) x y e p = let q : e ≡ bad_field place = cc in ap Err q

pub echo_refused : (s : Step) (room : ℕ) (e : Fault) → Err e ≡ outcome s room → Err e ≡ echoed s room
echo_refused s room e p = same_fault (ltb room longest) (refused ShortBuffer) (unwritable s) (length (line_of s)) s e p

pub record Accepted (s : Step) (out after : List ℕ) (n : ℕ) : Type 0 where
  pub roomy : ltb (length out) longest ≡ false
  pub no_bad_field : unwritable s ≡ None
  pub long : length (line_of s) ≡ n
  pub buffer : after ≡ line_of s ++ drop n out

accept : (b : Bool) (o : Option ℕ) (m n : ℕ) → Ok n ≡ cond b (Err (refused ShortBuffer)) (if_writable o m) → (b ≡ false) × (o ≡ None) × (m ≡ n)
accept true o m n p = absurd (err_ok _ n (sym p))
accept false None m n p = (refl, refl, ok_same m n (sym p))
accept false (Some place) m n p = absurd (err_ok _ n (sym p))

pub accepted : (s : Step) (out after : List ℕ) (n : ℕ) → Ok n ≡ outcome s (length out) → after ≡ written s out → Accepted s out after n
accepted s out after n p w =
    let a = accept (ltb (length out) longest) (unwritable s) (length (line_of s)) n p in
    record { roomy = a.0; no_bad_field = a.1; long = a.2; buffer = w ∙ ap (λ r. filled r s out) (sym p) }

pub within : (s : Step) (out after : List ℕ) (n : ℕ) → Accepted s out after n → n ≤ length after
within s out after n a = omega (arith, a.long, ap length a.buffer, length-append (line_of s) (drop n out))

pub echo_same : (s : Step) (out after : List ℕ) (n : ℕ) → Accepted s out after n → Sound s → parse (take n after) ≡ echoed s (length out)
echo_same s out after n a t =
    ap (λ l. parse (take n l)) a.buffer
    ∙ (ap parse (take_at (line_of s) (drop n out) n a.long)
    ∙ (reads_back s (record { sound = t; no_bad_field = a.no_bad_field })
    ∙ sym (cond-false (ltb (length out) longest) _ _ a.roomy ∙ ap (λ o. if_writable o s) a.no_bad_field)))

pub copy_told : (line : List ℕ) (s : Step) (room : ℕ) (r : Result ℕ Fault) → Ok s ≡ parse line → r ≡ outcome s room → r ≡ copied (parse line) line room
copy_told line s room r e t =
    let g = writes_back line s (sym e) in
    t
    ∙ (ap (λ o. cond (ltb room longest) (Err (refused ShortBuffer)) (if_writable o (length (line_of s)))) g.writable.no_bad_field
    ∙ (ap (λ l. cond (ltb room longest) (Err (refused ShortBuffer)) (Ok (length l))) g.same_line ∙ ap (λ p. copied p line room) e))

same_buffer : (r : Result ℕ Fault) (s : Step) (line out : List ℕ) → line_of s ≡ line → filled r s out ≡ copied_buffer r line out
same_buffer (Ok n) s line out e = ap (λ l. l ++ drop n out) e
same_buffer (Err f) s line out e = refl

pub copy_buffer : (line : List ℕ) (s : Step) (out after : List ℕ) (r : Result ℕ Fault) → Ok s ≡ parse line → r ≡ outcome s (length out)
    → after ≡ written s out → after ≡ copied_buffer r line out
copy_buffer line s out after r e t w =
    w ∙ (ap (λ o. filled o s out) (sym t) ∙ same_buffer r s line out (writes_back line s (sym e)).same_line)
