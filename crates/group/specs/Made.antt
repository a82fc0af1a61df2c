-- What making a group gives.
use Rattle.std.specs.Prelude.{◌≡◌, ℕ, ◌<◌, false, List, Some, None, Ok, Err, vec_items, vec_len, Result, Vec}
use Rattle.std.specs.declared.alloc.Global.{Global}
use Rattle.base.specs.Meaning.{Meaning}
use Rattle.protocol.specs.declared.setting.Setting.{Setting}
use Rattle.protocol.specs.Settings.{setting_refusal}
use Rattle.protocol.specs.State.{new_group}
use Rattle.books.specs.declared.book.Book.{Ghosts as BookOf}
use Rattle.logs.specs.declared.log.Log.{Ghosts as LogOf}
use Rattle.group.specs.declared.group.Group.{Group}
use Rattle.group.specs.declared.replica.Replica.{Replica}
use Rattle.group.specs.declared.unmade.Unmade.{Unmade}
use Rattle.group.specs.declared.unmade.Unmade.TheVariants.{Refused, NoMemory}
use Rattle.group.specs.Sets.{Has}
use Rattle.group.specs.View.{view, box_at}

-- so many boxes, each with nothing in it
pub record AllEmpty (size : ℕ) (boxes : Vec Replica Global) : Type 0 where
  pub many : vec_len boxes ≡ size
  pub each : (r : ℕ) → r < size → Has (box_at (vec_items boxes) r) (λ _. false) (λ _. false) (λ _. false) (λ _. false)

-- A setting that is refused gives its fault, and nothing else does; any other gives the new group, unless memory is wanting.
abbrev pub Made : {B L S : Type 0} → Meaning S → (B → S) → (L → List ℕ) → ℕ → Setting → Result (Group B L) Unmade → Type 0
Made m state entries limit k (Ok g) = (setting_refusal k ≡ None) × (view state entries limit g ≡ new_group m limit k)
Made m state entries limit k (Err (Refused f)) = setting_refusal k ≡ Some f
Made m state entries limit k (Err NoMemory) = setting_refusal k ≡ None

-- the same, of the book and the log that the bounds name
abbrev pub MadeBy : {B L : Type 0} (b : BookOf B) (l : LogOf L) → Setting → Result (Group B L) Unmade → Type 0
MadeBy b l k r = Made b.meaning b.state l.entries l.limit k r
