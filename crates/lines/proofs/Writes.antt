-- One turn of the loop that writes voters, and how many they are.
use Rattle.std.proofs.Common.{◌≡◌, ℕ, zero, suc, ◌+◌, ◌-◌, ◌<◌, ◌≤◌, true, false, cond, eqb, List, [], ◌∷◌, ◌++◌, length, decimal, sym, refl, ap, ◌∙◌, append_assoc, add-zero, add-one, zero-add, arith}
use Rattle.std.proofs.lemmas.Fmt.{length-decimal-le}
use Rattle.std.proofs.lemmas.List.{append-nil}
use Rattle.std.proofs.lemmas.Bool.{cond-true, cond-false}
use Rattle.terms.specs.declared.voters.Voters.{Voters}
use Rattle.terms.specs.Tests.{tally}
use Rattle.terms.specs.Votes.{votes, vote_count}
use Rattle.lines.specs.Limits.{largest}
use Rattle.lines.specs.Writing.{members, set_of, nobody}

-- what is written and what is left are all, before m is written and after
pub joins : (t t' m r r' all : List ℕ) → t' ≡ t ++ m → r ≡ m ++ r' → t ++ r ≡ all → t' ++ r' ≡ all
joins t t' m r r' all a b e = rw a (append_assoc t m r' ∙ (ap (λ x. t ++ x) (sym b) ∙ e))

-- nothing is left
pub joined : (t r all : List ℕ) → r ≡ [] → t ++ r ≡ all → t ≡ all
joined t r all z e = sym (append-nil t) ∙ (ap (λ x. t ++ x) (sym z) ∙ e)

-- a number that is not too large has six digits at most
pub short : (n : ℕ) → n ≤ largest → length (decimal n) ≤ 6
short n h = length-decimal-le 6 n (omega arith) (omega arith) (omega arith)

module _ (d : ℕ) (v : Voters) where
  pub members_on : d < 10 → true ≡ votes v d
      → members (10 - d) d v ≡ ((48 + d) ∷ []) ++ members (10 - (d + 1)) (d + 1) v
  members_on h e = let s : 10 - d ≡ suc (10 - (d + 1)) = omega arith in rw s (cond-true (votes v d) _ _ (sym e))

  pub members_past : d < 10 → false ≡ votes v d → members (10 - d) d v ≡ members (10 - (d + 1)) (d + 1) v
  members_past h e = let s : 10 - d ≡ suc (10 - (d + 1)) = omega arith in rw s (cond-false (votes v d) _ _ (sym e))

  pub members_end : 10 ≤ d → members (10 - d) d v ≡ []
  members_end h = let z : 10 - d ≡ 0 = omega arith in rw z refl

-- the digits of the voters are as many as are counted
digits_counted : (k d : ℕ) (v : Voters) → tally (d + k) (votes v) ≡ tally d (votes v) + length (members k d v)
digits_counted zero d v = ap (λ n. tally n (votes v)) (add-zero d) ∙ sym (add-zero (tally d (votes v)))
digits_counted (suc k) d v =
    let p = votes v in
    let m = members k (d + 1) v in
    let next : d + suc k ≡ d + 1 + k = omega arith in
    let here : tally (suc d) p + length m ≡ tally d p + length (members (suc k) d v) =
    elim (p d) as (λ b. cond b (suc (tally d p)) (tally d p) + length m ≡ tally d p + length (cond b ((48 + d) ∷ m) m)) [
      | true ↦ omega arith
      | false ↦ refl
    ] in
    ap (λ n. tally n p) next ∙ (digits_counted k (d + 1) v ∙ (ap (λ n. tally n p + length m) (add-one d) ∙ here))

pub vote_count_is : (v : Voters) → vote_count v ≡ length (set_of v)
unfolding vote_count set_of
vote_count_is v = digits_counted 10 0 v ∙ zero-add (length (members 10 0 v))

pub nobody_is : (v : Voters) (n : ℕ) → n ≡ vote_count v → nobody v ≡ eqb n 0
nobody_is v n e = ap (λ m. eqb m 0) (sym (e ∙ vote_count_is v))
