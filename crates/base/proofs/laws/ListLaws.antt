-- Parts of lists, and lists written into a list.
use Rattle.std.specs.Prelude.{ℕ, ◌-◌, suc, ◌+◌, zero, ◌≤◌, ◌≡◌, List, [], ◌∷◌, ◌++◌, length, take, drop, set, Bool, true, false}
use Rattle.std.proofs.Common.{sym, le_of_eq, length-drop, length-append, take_all, arith}
use Rattle.std.proofs.lemmas.List.Edits.{sets}
use Rattle.std.proofs.Math.Seq.{take-nil}
use Rattle.base.specs.Basics.{pick, at}

-- what `&s[place..]` is
pub rest_is : (s : List ℕ) (place : ℕ) → take (length s - place) (drop place s) ≡ drop place s
rest_is s place = take_all (length s - place) (drop place s) (le_of_eq (length-drop place s))

-- ---- what is stored in two runs
pub sets_append : {A : Type 0} (xs ys l : List A) (place : ℕ) → sets (sets l place xs) (place + length xs) ys ≡ sets l place (xs ++ ys)
sets_append [] ys l place = let e : place + 0 ≡ place = omega arith in rw e
sets_append (x ∷ xs) ys l place =
    let e : place + suc (length xs) ≡ suc place + length xs = omega arith in rw e (sets_append xs ys (set l place x) (suc place))

-- ---- three runs, one behind the other
pub three_long : (A B C : List ℕ) → length A + length B + length C ≡ length (A ++ (B ++ C))
three_long A B C = simp length-append (omega arith)

-- ---- a front of a list
pub drop_take : (i n : ℕ) (l : List ℕ) → drop i (take n l) ≡ take (n - i) (drop i l)
drop_take zero n l = let e : n - 0 ≡ n = omega arith in rw e
drop_take (suc i) zero l = let e : 0 - suc i ≡ 0 = omega arith in rw e
drop_take (suc i) (suc n) [] = sym (take-nil (suc n - suc i))
drop_take (suc i) (suc n) (x ∷ l) = let e : suc n - suc i ≡ n - i = omega arith in rw e (drop_take i n l)

-- ---- no parent is above the last step
pub set_le : (m : ℕ) (xs : List ℕ) (i v : ℕ) → v ≤ m → ((x : ℕ) → at xs x ≤ m) → (x : ℕ) → at (set xs i v) x ≤ m
set_le m [] i v l h x = h x
set_le m (y ∷ ys) zero v l h zero = l
set_le m (y ∷ ys) zero v l h (suc x) = h (suc x)
set_le m (y ∷ ys) (suc i) v l h zero = h 0
set_le m (y ∷ ys) (suc i) v l h (suc x) = set_le m ys i v l (λ x. h (suc x)) x

pub pick_le : (m : ℕ) (b : Bool) (u v : ℕ) → u ≤ m → v ≤ m → pick b u v ≤ m
pick_le m true u v l h = l
pick_le m false u v l h = h
