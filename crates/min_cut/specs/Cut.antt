-- Cuts and flows (docs/SCOPE.md, 3): networks, sides and what they cost, minimum cuts.
-- The paper's words: a side parts a link: it crosses it; a side's cost: cut value; a cheapest side: minimum cut.
use Rattle.std.specs.Prelude.{◌≡◌, Bool, true, false, not, ◌&&◌, ◌||◌, ℕ, ◌≤◌, ◌<◌}
use Rattle.base.specs.Sum.{sum}

-- m links, of which link k joins the nodes a k and b k and has the capacity c k
pub record Net : Type 0 where
  pub m : ℕ
  pub a : ℕ → ℕ
  pub b : ℕ → ℕ
  pub c : ℕ → ℕ

-- a side: one shore of a cut, any set of nodes
abbrev pub Side : Type 0
Side = ℕ → Bool

-- c where exactly one of the two ends is in the side: the side crosses the link
abbrev pub crossing : Bool → Bool → ℕ → ℕ
crossing true true c = 0
crossing true false c = c
crossing false true c = c
crossing false false c = 0

-- the cut value of a side: the sum of the capacities of the links that it crosses
unfoldable pub cut_value : Net → Side → ℕ
cut_value G X = sum G.m (λ k. crossing (X (G.a k)) (X (G.b k)) (G.c k))

infixl 50 ◌∩◌
infixl 50 ◌∪◌
infixl 50 ◌∖◌
abbrev pub ◌∩◌ : Side → Side → Side
(X ∩ Y) i = X i && Y i

abbrev pub ◌∪◌ : Side → Side → Side
(X ∪ Y) i = X i || Y i

abbrev pub ◌∖◌ : Side → Side → Side
(X ∖ Y) i = X i && not (Y i)

abbrev pub complement : Side → Side
complement X i = not (X i)

infixl 20 ◌⊆◌
abbrev pub ◌⊆◌ : Side → Side → Type 0
X ⊆ Y = (i : ℕ) → X i ≡ true → Y i ≡ true

-- X has exactly one of i and j
abbrev pub Separates : Side → ℕ → ℕ → Type 0
Separates X i j = X i ≡ not (X j)

-- R holds s and not t, and no such side has a smaller value
pub record MinCut (G : Net) (s t : ℕ) (R : Side) : Type 0 where
  pub inside : R s ≡ true
  pub outside : R t ≡ false
  pub least : (X : Side) → X s ≡ true → X t ≡ false → cut_value G R ≤ cut_value G X

-- the least minimum cut: it lies in every other
pub record LeastMinCut (G : Net) (s t : ℕ) (R : Side) : Type 0 where
  pub minimum : MinCut G s t R
  pub contained : (Y : Side) → MinCut G s t Y → R ⊆ Y

-- every link's ends stand below n
abbrev pub Within : Net → ℕ → Type 0
Within G n = (k : ℕ) → k < G.m → (G.a k < n) × (G.b k < n)
