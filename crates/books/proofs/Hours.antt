-- A part of a week's hours, counted and marked.
use Rattle.std.proofs.Common.{◌≡◌, ℕ, ◌+◌, ◌-◌, ◌<◌, ◌≤◌, Bool, false, cond, ◌&&◌, ltb, leb, List, length, get_or, replicate, arith}
use Rattle.std.proofs.lemmas.Bool.Decides.{nat_tests}
use Rattle.std.proofs.lemmas.List.{places}
use borrow.Rule.Slice.PartMut.{put_mid, mid_of}

-- an hour of a part of the week
pub hour_in_part : (xs : List Bool) (a n k : ℕ) → a + n ≤ length xs → k < length (mid_of a n xs) → get_or (mid_of a n xs) k false ≡ get_or xs (a + k) false
hour_in_part xs a n k h l = grind (arith, nat_tests, places)

pub marked_part : (xs ys : List Bool) (a e : ℕ) (v : Bool) → a ≤ e → e ≤ length xs → ys ≡ replicate (e - a) v → (h : ℕ) →
    get_or (put_mid a (e - a) xs ys) h false ≡ cond (leb a h && ltb h e) v (get_or xs h false)
marked_part xs ys a e v low high same h = rw same (grind (arith, nat_tests, places))
