-- What the first line makes of a group.
use Rattle.std.specs.Prelude.{◌≡◌, ℕ, true, List, is_ok, Ok, Err, Result}
use Rattle.base.specs.declared.fault.Fault.{Fault}
use Rattle.base.specs.Meaning.{Meaning}
use Rattle.books.specs.declared.book.Book.{Ghosts as BookOf}
use Rattle.logs.specs.declared.log.Log.{Ghosts as LogOf}
use Rattle.protocol.specs.declared.setting.Setting.{Setting}
use Rattle.protocol.specs.State.{new_group}
use Rattle.lines.specs.declared.step.Step.{Step}
use Rattle.group.specs.declared.group.Group.{Group}
use Rattle.group.specs.declared.unmade.Unmade.{Unmade}
use Rattle.group.specs.declared.unmade.Unmade.TheVariants.{Refused, NoMemory}
use Rattle.group.specs.View.{view}
use Rattle.week.specs.Runs.{opening}

-- the new group of the line's setting, or the line's fault; a setting that is not refused may want memory
abbrev pub Begun : {B L S : Type 0} → Meaning S → (B → S) → (L → List ℕ) → ℕ → Result Step Fault → Result (Group B L) Unmade → Type 0
Begun m state entries limit line (Ok g) = (k : Setting) × (opening line ≡ Ok k) × (view state entries limit g ≡ new_group m limit k)
Begun m state entries limit line (Err (Refused fault)) = opening line ≡ Err fault
Begun m state entries limit line (Err NoMemory) = is_ok (opening line) ≡ true

-- the same, of the book and the log that the bounds name
abbrev pub BegunBy : {B L : Type 0} (b : BookOf B) (l : LogOf L) → Result Step Fault → Result (Group B L) Unmade → Type 0
BegunBy b l line r = Begun b.meaning b.state l.entries l.limit line r
