-- A new group: what the code makes is what the protocol starts from.
use Rattle.std.proofs.Common.{◌≡◌, ℕ, ◌<◌, ◌≤◌, Bool, false, ◌⊎◌, List, [], length, refl, ap, ◌∙◌, inl, inr, arith}
use Rattle.std.proofs.lemmas.Bool.{cases_lt}
use Rattle.base.specs.Meaning.{Meaning}
use Rattle.protocol.specs.declared.setting.Setting.{Setting}
use Rattle.protocol.specs.State.{new_group}
use Rattle.protocol.proofs.Same.{same_state, same_jobs, same_boxes}
use Rattle.group.specs.declared.replica.Replica.{Replica}
use Rattle.group.specs.Sets.{has, Has}
use Rattle.group.specs.View.{seen, no_box, box_at}
use Rattle.group.proofs.Places.{read_none}

abbrev pub EmptyBox : Replica → Type 0
EmptyBox b = Has b (λ _. false) (λ _. false) (λ _. false) (λ _. false)

module _ (boxes : List Replica) (each : (r : ℕ) → r < length boxes → EmptyBox (box_at boxes r)) where
  -- nothing is in a box, nor in one that there is not
  nothing : (f : Replica → ℕ → Bool) → ((b : Replica) → EmptyBox b → (c : ℕ) → f b c ≡ false) → ((c : ℕ) → f no_box c ≡ false) → (r c : ℕ) → f (box_at boxes r) c ≡ false
  nothing f inside outside r c = go (cases_lt r (length boxes))
    where
      go : (r < length boxes) ⊎ (length boxes ≤ r) → f (box_at boxes r) c ≡ false
      go (inl h) = inside (box_at boxes r) (each r h) c
      go (inr h) = ap (λ b. f b c) (read_none boxes r no_box h) ∙ outside c

  pub new_made : {S : Type 0} (m : Meaning S) (limit : ℕ) (k : Setting) → length boxes ≡ k.size →
      seen (record { fast = k.fast; capacity = limit; leader = k.leader; epoch = 1; waiting = []; log = []; book = m.initial; jobs = []; boxes = boxes }) ≡ new_group m limit k
  new_made m limit k many =
      same_state (ap (λ (n : ℕ). record { size = n; fast = k.fast; capacity = limit }) many) refl
      (same_jobs (record { count = refl; job = λ c. refl; phase = λ c. refl; given = λ c. refl }))
      (same_boxes (record {
        request = nothing (λ b. has b.requests) (λ b e. e.requests) (λ c. grind arith);
        notice = nothing (λ b. has b.notices) (λ b e. e.notices) (λ c. grind arith);
        taken = nothing (λ b. has b.taken) (λ b e. e.taken) (λ c. grind arith);
        pool = nothing (λ b. has b.pool) (λ b e. e.pool) (λ c. grind arith);
        answer = λ r c. refl;
      }))
