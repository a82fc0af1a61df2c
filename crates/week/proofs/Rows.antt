-- One field of a report line.
use Rattle.std.proofs.Common.{◌≡◌, ℕ, ◌+◌, ◌<◌, List, [], ◌∷◌, ◌++◌, map, length, get_or, take, sym, ap, ◌∙◌, append_assoc}
use Rattle.std.proofs.lemmas.List.{map_more, append-nil}
use Rattle.lines.specs.Writing.{tabbed}
use Rattle.week.specs.declared.text.Cell.{Cell}
use Rattle.week.specs.Texts.{written}

tabbed_push : (fs : List (List ℕ)) (f : List ℕ) → tabbed (fs ++ f ∷ []) ≡ tabbed fs ++ (9 ∷ f)
tabbed_push [] f = ap (λ t. 9 ∷ t) (append-nil f)
tabbed_push (x ∷ fs) f = ap (λ t. 9 ∷ (x ++ t)) (tabbed_push fs f) ∙ ap (λ t. 9 ∷ t) (sym (append_assoc x (tabbed fs) (9 ∷ f)))

-- the text so far is followed by a tab and the next field
pub one_field : (cells : List Cell) (i : ℕ) (d : Cell) (before t p q : List ℕ) → i < length cells
    → t ≡ before ++ tabbed (map written (take i cells)) → p ≡ t ++ 9 ∷ [] → q ≡ p ++ written (get_or cells i d)
    → q ≡ before ++ tabbed (map written (take (i + 1) cells))
one_field cells i d before t p q h so_far tab field =
    let w = written (get_or cells i d) in
    let fs = map written (take i cells) in
    let all : tabbed (map written (take (i + 1) cells)) ≡ tabbed fs ++ (9 ∷ w) = ap tabbed (map_more written cells i d h) ∙ tabbed_push fs w in
    rw (field, tab, so_far, all) (append_assoc (before ++ tabbed fs) (9 ∷ []) w ∙ append_assoc before (tabbed fs) (9 ∷ w))
