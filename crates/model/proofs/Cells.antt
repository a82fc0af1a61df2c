-- How the group's functions, changed at one place, are the published model's sets and functions with an exception.
use Rattle.std.proofs.Common.{◌≡◌, ℕ, zero, suc, Bool, true, false, cond, not, ◌&&◌, ◌||◌, eqb, ltb, List, [], ◌∷◌, ◌++◌, refl, append-nil, arith}
use mathlib.Core.Path.{fun_ext}
use Rattle.std.proofs.lemmas.Bool.Decides.{nat_tests}
use Rattle.terms.specs.declared.answers.Reply.{Reply}
use Rattle.terms.specs.declared.answers.Answer.{Answer}
use Rattle.terms.specs.declared.answers.Answer.TheVariants.{Empty, Transit}
use Rattle.protocol.specs.Answers.{agrees, delivered}
use Rattle.terms.specs.Tests.{tally, any_below, mem, put, put2}
use Rattle.model.specs.Sets.{Set, ◌∪◌, ◌∖◌, ｛◌｝, ◌EXCEPT![◌]=◌, IF◌THEN◌ELSE◌}
use Rattle.model.specs.Amendments.{AppendOnce}
use Rattle.model.specs.Reading.{yes_of}

pub put_here : {A : Type 0} (f : ℕ → A) (k : ℕ) (v : A) → put f k v k ≡ v
put_here f k v = grind (arith, nat_tests)

pub put_except : {A : Type 0} (f : ℕ → A) (k : ℕ) (v w : A) → v ≡ w → put f k v ≡ f EXCEPT![ k ]= w
put_except f k v w e = rw e

pub put2_except : {A : Type 0} (f : ℕ → ℕ → A) (r c : ℕ) (v w : A) → v ≡ w → put2 f r c v ≡ f EXCEPT![ r ]= (f r EXCEPT![ c ]= w)
put2_except f r c v w e = rw e (fun_ext (λ x. fun_ext (λ y. grind (arith, nat_tests))))

pub put2_taken_out : (f : ℕ → Set) (r c : ℕ) → put2 f r c false ≡ f EXCEPT![ r ]= (f r ∖ ｛ c ｝)
put2_taken_out f r c = fun_ext (λ x. fun_ext (λ y. grind (arith, nat_tests)))

pub put2_put_in : (f : ℕ → Set) (r c : ℕ) → put2 f r c true ≡ f EXCEPT![ r ]= (f r ∪ ｛ c ｝)
put2_put_in f r c = fun_ext (λ x. fun_ext (λ y. grind (arith, nat_tests)))

pub put2_if : (f : ℕ → Set) (r c : ℕ) (a b : Bool) → a ≡ b → put2 f r c (a || f r c) ≡ f EXCEPT![ r ]= (IF b THEN f r ∪ ｛ c ｝ ELSE f r)
put2_if f r c true b e = rw (← e) (fun_ext (λ x. fun_ext (λ y. grind (arith, nat_tests))))
put2_if f r c false b e = rw (← e) (fun_ext (λ x. fun_ext (λ y. grind (arith, nat_tests))))

pub to_each : (f : ℕ → Set) (n c d : ℕ) → c ≡ d →
    ◌≡◌ {A = ℕ → Set} (λ x y. (eqb y c && ltb x n) || f x y) (λ x. IF ltb x n THEN f x ∪ ｛ d ｝ ELSE f x)
to_each f n c d e = rw e (fun_ext (λ x. fun_ext (λ y. grind (arith, nat_tests))))

-- an answer that is given adds its box to those of its epoch, if it is a yes
pub responses : (answer : ℕ → ℕ → Answer) (r c e : ℕ) (x : Reply) (b : Bool) → answer r c ≡ Empty → ((d : ℕ) → agrees d x ≡ b && eqb d e) →
    (λ y d z. yes_of d (put2 answer r c (Transit x) z y)) ≡
    (λ y d z. yes_of d (answer z y)) EXCEPT![ c ]= ((λ d z. yes_of d (answer z c)) EXCEPT![ e ]=
    (IF b THEN (λ z. yes_of e (answer z c)) ∪ ｛ r ｝ ELSE (λ z. yes_of e (answer z c))))
responses answer r c e x true fresh says = fun_ext (λ y. fun_ext (λ d. fun_ext (λ z. let at = says d in grind (arith, nat_tests))))
responses answer r c e x false fresh says = fun_ext (λ y. fun_ext (λ d. fun_ext (λ z. let at = says d in grind (arith, nat_tests))))

-- an answer that is heard is the same answer
pub responses_heard : (answer : ℕ → ℕ → Answer) (r c : ℕ) →
    ◌≡◌ {A = ℕ → ℕ → Set} (λ y d z. yes_of d (put2 answer r c (delivered (answer r c)) z y)) (λ y d z. yes_of d (answer z y))
responses_heard answer r c = fun_ext (λ y. fun_ext (λ d. fun_ext (λ z. grind (arith, nat_tests))))

pub joined_once : (ws : List ℕ) (c : ℕ) (b : Bool) → b ≡ true → ws ++ cond (b && not (mem c ws)) (c ∷ []) [] ≡ AppendOnce ws c
joined_once ws c b e = rw e (go (mem c ws))
  where
    go : (there : Bool) → ws ++ cond (not there) (c ∷ []) [] ≡ IF there THEN ws ELSE (ws ++ c ∷ [])
    go true = append-nil ws
    go false = refl

pub joined_not : (ws : List ℕ) (c : ℕ) (b : Bool) → b ≡ false → ws ++ cond (b && not (mem c ws)) (c ∷ []) [] ≡ ws
joined_not ws c b e = rw e (append-nil ws)

pub any_tally : (n : ℕ) (p : ℕ → Bool) → any_below n p ≡ ltb 0 (tally n p)
any_tally zero p = grind (arith, nat_tests)
any_tally (suc n) p = let rest = any_tally n p in grind (arith, nat_tests)
