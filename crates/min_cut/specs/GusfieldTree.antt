-- Gusfield's tree: the invariant of its steps, and where a step sends each node.
use Rattle.std.specs.Prelude.{◌≡◌, refl, ◌≢◌, true, false, ℕ, ◌<◌}
use Rattle.std.proofs.Common.{arith}
use Rattle.min_cut.specs.Cut.{Net, Side, cut_value, MinCut}

-- the tree of the nodes below i: p x is x's parent, Z y the side below y, a minimum cut between y and p y, w y its
-- value, r a rank
pub record Tree (G : Net) (i : ℕ) (p w : ℕ → ℕ) (Z : ℕ → Side) (r : ℕ → ℕ) : Type 0 where
  pub one : 0 < i
  pub home : p 0 ≡ 0
  pub done : (x : ℕ) → p x < i
  pub rank : (x : ℕ) → 0 < x → r (p x) < r x
  pub root : (y : ℕ) → 0 < y → y < i → Z y 0 ≡ false
  pub down : (y x : ℕ) → 0 < y → y < i → 0 < x → x ≢ y → Z y x ≡ Z y (p x)
  pub minimum : (y : ℕ) → 0 < y → y < i → MinCut G y (p y) (Z y)
  pub weight : (y : ℕ) → 0 < y → y < i → w y ≡ cut_value G (Z y)

abbrev pub IsCutTree : Net → ℕ → (p w : ℕ → ℕ) → Type 0
IsCutTree G i p w = (Z : ℕ → Side) × (r : ℕ → ℕ) × Tree G i p w Z r

pub start : (G : Net) (w : ℕ → ℕ) (Z : ℕ → Side) → Tree G 1 (λ x. 0) w Z (λ x. x)
start G w Z = record {
  one = omega arith;
  home = refl;
  done = λ x. omega arith;
  rank = λ x l. l;
  root = λ y l m. absurd (omega arith);
  down = λ y x l m. absurd (omega arith);
  minimum = λ y l m. absurd (omega arith);
  weight = λ y l m. absurd (omega arith);
}

-- where x goes as s is put beside t: the neighbours of t in X go to s
pub data Goes (p p' : ℕ → ℕ) (X : Side) (s t x : ℕ) : Type 0 where
  along : p x ≡ t → X x ≡ true → p' x ≡ s → Goes p p' X s t x
  stays : p x ≡ t → X x ≡ false → p' x ≡ t → Goes p p' X s t x
  far : p x ≢ t → p' x ≡ p x → Goes p p' X s t x
