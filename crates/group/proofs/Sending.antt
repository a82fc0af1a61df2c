-- A message that goes to box after box.
use Rattle.std.proofs.Common.{◌≡◌, ℕ, ◌+◌, ◌<◌, ◌≤◌, Bool, true, ◌&&◌, ◌||◌, eqb, ltb, ◌⊎◌, List, length, get_or, set, sym, refl, ap, ◌∙◌, subst, inl, inr, arith, length-set, get_or-set_other, get_or-set_same}
use Rattle.std.proofs.lemmas.Bool.{cases_eq, cases_lt}
use Rattle.std.proofs.lemmas.Bool.Decides.{nat_tests}
use Rattle.terms.specs.Tests.{put}
use Rattle.group.specs.declared.replica.Replica.{Replica}
use Rattle.group.specs.View.{box_at, no_box, AllBecame}
use Rattle.group.proofs.Places.{read_any, read_none}

-- the boxes below i have it, the others are as they were
pub record Sent (P : Replica → Replica → Type 0) (old new : List Replica) (i : ℕ) : Type 0 where
  pub below : (r : ℕ) → r < i → P (box_at old r) (box_at new r)
  pub above : (r : ℕ) → i ≤ r → box_at new r ≡ box_at old r
  pub many : length new ≡ length old

module _ (P : Replica → Replica → Type 0) (old : List Replica) where
  pub none_sent : Sent P old old 0
  none_sent = record { below = λ r h. absurd (omega arith); above = λ r h. refl; many = refl }

  pub one_more : (new : List Replica) (i : ℕ) (q d : Replica) → Sent P old new i → i < length new → P (get_or new i d) q → Sent P old (set new i q) (i + 1)
  one_more new i q d sent h became = record {
    below = λ r l. go r l (cases_eq r i);
    above = λ r l. get_or-set_other new i r q no_box (omega arith) ∙ sent.above r (omega arith);
    many = length-set new i q ∙ sent.many;
  }
    where
      go : (r : ℕ) → r < i + 1 → (r ≡ i) ⊎ (r ≡ i → ⊥) → P (box_at old r) (box_at (set new i q) r)
      go r l (inl same) =
          let written : box_at (set new i q) i ≡ q = get_or-set_same new i q no_box h in
          let before : get_or new i d ≡ box_at old i = read_any new i d no_box h ∙ sent.above i (omega arith) in
          rw same (subst (λ b. P (box_at old i) b) (sym written) (subst (λ b. P b q) before became))
      go r l (inr other) =
          let same : box_at (set new i q) r ≡ box_at new r = get_or-set_other new i r q no_box other in
          subst (λ b. P (box_at old r) b) (sym same) (sent.below r (omega arith))

  pub all_sent : (new : List Replica) (i : ℕ) → Sent P old new i → length old ≤ i → AllBecame P old new
  all_sent new i sent h = record { each = λ r l. sent.below r (omega arith); many = sent.many }

-- what is known of each call, said of all of them
pub all_as : {P Q : Replica → Replica → Type 0} {old new : List Replica} → ((p q : Replica) → P p q → Q p q) → AllBecame P old new → AllBecame Q old new
all_as weaker sent = record { each = λ r h. weaker _ _ (sent.each r h); many = sent.many }

-- what the boxes hold after it
module _ (old new : List Replica) (many : length new ≡ length old) (f : Replica → ℕ → Bool) where
  beyond : (r : ℕ) → length old ≤ r → (c : ℕ) → f (box_at new r) c ≡ f (box_at old r) c
  beyond r h c = ap (λ b. f b c) (read_none new r no_box (omega arith) ∙ sym (read_none old r no_box h))

  pub spread : (c₀ : ℕ) → ((r : ℕ) → r < length old → (c : ℕ) → f (box_at new r) c ≡ put (f (box_at old r)) c₀ true c) →
      (r c : ℕ) → f (box_at new r) c ≡ (eqb c c₀ && ltb r (length old)) || f (box_at old r) c
  spread c₀ each r c = go (cases_lt r (length old))
    where
      go : (r < length old) ⊎ (length old ≤ r) → f (box_at new r) c ≡ (eqb c c₀ && ltb r (length old)) || f (box_at old r) c
      go (inl h) = let here = each r h c in grind (arith, nat_tests)
      go (inr h) = let here = beyond r h c in grind (arith, nat_tests)

  pub unspread : ((r : ℕ) → r < length old → (c : ℕ) → f (box_at new r) c ≡ f (box_at old r) c) → (r c : ℕ) → f (box_at new r) c ≡ f (box_at old r) c
  unspread each r c = go (cases_lt r (length old))
    where
      go : (r < length old) ⊎ (length old ≤ r) → f (box_at new r) c ≡ f (box_at old r) c
      go (inl h) = each r h c
      go (inr h) = beyond r h c
