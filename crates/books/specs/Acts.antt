-- The acts of a record by their numbers.
use Rattle.std.specs.Prelude.{◌≡◌, ℕ, ◌<◌, Result, MatchResult}
use Rattle.base.specs.declared.fault.Fault.{Fault}
use Rattle.base.specs.Faults.{misfit_at}
use Rattle.base.specs.Fields.{act_field}
use Rattle.books.specs.declared.cards.Act.{Act as CardAct}
use Rattle.books.specs.declared.cards.Act.TheVariants.{Read, Write, Clear}
use Rattle.books.specs.declared.windows.Act.{Act as WindowAct}
use Rattle.books.specs.declared.windows.Act.TheVariants.{Book, Ask, Free}
use Rattle.books.specs.Cards.{writing, clearing}
use Rattle.books.specs.Windows.{booking, freeing}

abbrev pub card_act : CardAct → ℕ
card_act Read = 0
card_act Write = writing
card_act Clear = clearing

abbrev pub window_act : WindowAct → ℕ
window_act Book = booking
window_act Ask = 1
window_act Free = freeing

-- the act with this number, or the fault of a record whose number is no act's
abbrev pub Decodes : {A : Type 0} → (A → ℕ) → ℕ → Result A Fault → Type 0
Decodes number_of n r = MatchResult r (λ act. number_of act ≡ n) (λ fault. (fault ≡ misfit_at act_field) × (2 < n))
