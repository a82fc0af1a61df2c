-- Different numbers below n are at most n.
use Rattle.std.proofs.Common.{◌≡◌, ℕ, ◌<◌, ◌≤◌, true, ◌&&◌, eqb, ◌⊎◌, List, [], ◌∷◌, length, inl, inr, arith}
use Rattle.std.proofs.lemmas.Bool.{cases_lt}
use Rattle.std.proofs.lemmas.Bool.Decides.{nat_tests}
use Rattle.terms.specs.Tests.{tally, mem, distinct}
use Rattle.terms.proofs.Counting.{overlap, tally_some, tally_bound, tally_hit}

counted : (n : ℕ) (xs : List ℕ) → distinct xs ≡ true → ((c : ℕ) → mem c xs ≡ true → c < n) → length xs ≤ tally n (λ c. mem c xs)
counted n [] once below = omega arith
counted n (x ∷ xs) once below =
    let rest = counted n xs (grind arith) (λ c h. below c (grind arith)) in
    let here = tally_hit n (λ c. eqb c x) x (below x (grind (arith, nat_tests))) (grind (arith, nat_tests)) in
    let both = overlap n (λ c. eqb c x) (λ c. mem c xs) (λ c. mem c (x ∷ xs)) (λ c h. grind arith) (λ c h. grind arith) in
    let none = none_twice (cases_lt 0 (tally n (λ c. eqb c x && mem c xs))) in
    omega arith
  where
    none_twice : (0 < tally n (λ c. eqb c x && mem c xs)) ⊎ (tally n (λ c. eqb c x && mem c xs) ≤ 0) → tally n (λ c. eqb c x && mem c xs) ≤ 0
    none_twice (inl some) = let found = tally_some n (λ c. eqb c x && mem c xs) some in let here = found.1 in absurd (grind (arith, nat_tests))
    none_twice (inr zero) = zero

pub few_distinct : (n : ℕ) (xs : List ℕ) → distinct xs ≡ true → ((c : ℕ) → mem c xs ≡ true → c < n) → length xs ≤ n
few_distinct n xs once below = let some = counted n xs once below in let all = tally_bound n (λ c. mem c xs) in omega arith
