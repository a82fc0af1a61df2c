-- What a book means, apart from any code: a state and four functions on it.
use Rattle.std.specs.Prelude.{◌≡◌, ℕ, Bool, true, false, is_some, Option}
use Rattle.base.specs.declared.«record».Record.{Record}

pub record Meaning (S : Type 0) : Type 0 where
  -- the one starting state
  pub initial : S
  -- the first field that is wrong, if any
  pub misfit : Record → Option ℕ
  -- whether two records are in each other's way
  pub clashes : Record → Record → Bool
  -- a record's result in a state
  pub result : S → Record → ℕ
  -- the state after a record is applied
  pub after : S → Record → S

-- What every book owes.
pub record Laws {S : Type 0} (m : Meaning S) : Type 0 where
  pub symmetric : (a b : Record) → m.clashes a b ≡ m.clashes b a
  -- what does not clash with a leaves a's result alone, in every state
  pub apart : (s : S) (a b : Record) → m.clashes a b ≡ false → m.result (m.after s b) a ≡ m.result s a
  -- what does not fit clashes with nothing, has result 0 and moves nothing
  pub unfit_free : (a b : Record) → is_some (m.misfit a) ≡ true → m.clashes a b ≡ false
  pub unfit_zero : (s : S) (a : Record) → is_some (m.misfit a) ≡ true → m.result s a ≡ 0
  pub unfit_still : (s : S) (a : Record) → is_some (m.misfit a) ≡ true → m.after s a ≡ s
