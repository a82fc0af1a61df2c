-- What the counts of the protocol give: any two quorums share enough boxes.
use Rattle.std.proofs.Common.{◌≡◌, ℕ, ◌≤◌, Bool, true, ◌&&◌, refl, arith}
use Rattle.terms.specs.Tests.{tally}
use Rattle.terms.proofs.Counting.{tally_le, overlap, tally_all, tally_some}
use Rattle.protocol.specs.Counts.{electing, confirming, recovering}

-- `confirming` agreeing boxes and any `faults + 1` boxes share `recovering`
pub shared : (n : ℕ) (p v q : ℕ → Bool) → confirming n ≤ tally n p → tally n v ≡ electing n →
    ((r : ℕ) → p r ≡ true → q r ≡ true) → recovering n ≤ tally n (λ r. v r && q r)
shared n p v q hp hv sub =
    let all = tally_all n in
    let both = overlap n p v (λ _. true) (λ _ _. refl) (λ _ _. refl) in
    let more = tally_le n (λ r. p r && v r) (λ r. v r && q r) (λ r h. let at = sub r in grind arith) in
    omega arith

-- two tests that `recovering` of the same `faults + 1` boxes pass are passed by one box
pub common : (n : ℕ) (v p q : ℕ → Bool) → tally n v ≡ electing n →
    recovering n ≤ tally n (λ r. v r && p r) → recovering n ≤ tally n (λ r. v r && q r) → (r : ℕ) × (p r ≡ true) × (q r ≡ true)
common n v p q hv hp hq =
    let both = overlap n (λ r. v r && p r) (λ r. v r && q r) v (λ r h. grind arith) (λ r h. grind arith) in
    let found = tally_some n (λ r. (v r && p r) && (v r && q r)) (omega arith) in
    let here = found.1 in
    (found.0, grind arith, grind arith)
