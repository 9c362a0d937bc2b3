-- What a flow sends across a side is what its nodes send out together; it is no more than the side's cut value.
use Rattle.std.specs.Prelude.{◌≡◌, ◌≢◌, Bool, ◌&&◌, ◌||◌, eqb, ltb, ℤ, pos, nat_abs, ◌+ℤ◌, ◌-ℤ◌, ℕ, zero, suc, ◌+◌, ◌*◌}
use Rattle.std.specs.Prelude.{◌≤◌, ◌<◌}
use Rattle.std.proofs.Math.Path.{refl, fun_ext}
use Rattle.std.proofs.Math.Bool.{true, false}
use Rattle.std.proofs.Common.{true≢false, ltb-true, ltb-false, lt-ltb, le-ltb, eq-eqb, ne_eqb, arith}
use Rattle.std.proofs.Math.Decide.{ℕ_discrete}
use Rattle.base.proofs.laws.Bools.{bool1, bool2}
use Rattle.base.proofs.laws.SumLaws.{sum_ext, sum_zero, sum_le, sum_eq2, sum_eq3}
use Rattle.base.specs.Sum.{sum}
use Rattle.min_cut.specs.Cut.{Net, Side, crossing, cut_value, ◌∪◌, Within}
use Rattle.min_cut.specs.code.Residual.{leaving, when, residual}
use Rattle.min_cut.specs.Lawful.{at_end, outflow}
use Rattle.base.proofs.laws.IntParts.{above, under, sum_parts, difference_parts, size_parts}

-- what the links send out of the side, and what they send into it
unfoldable pub sent : Net → (ℕ → ℤ) → Side → ℕ
sent G f X = sum G.m (λ k. leaving (X (G.a k)) (X (G.b k)) (above (f k)) (under (f k)))

unfoldable pub received : Net → (ℕ → ℤ) → Side → ℕ
received G f X = sum G.m (λ k. leaving (X (G.a k)) (X (G.b k)) (under (f k)) (above (f k)))

-- the side of one node
abbrev pub only : ℕ → Side
only x i = eqb i x

end_parts : (z : ℤ) (x : Bool) → (above (at_end x z) ≡ when x (above z)) × (under (at_end x z) ≡ when x (under z))
end_parts z true = (refl, refl)
end_parts z false = (refl, refl)

leaving_turn : (u d : ℕ) (x y : Bool) → when x u + when y d + leaving x y d u ≡ when x d + when y u + leaving x y u d
leaving_turn u d = bool2 _ (omega arith)

-- one more link, with z from a to b: x and y say whether a and b are the node
outflow_more : (o z : ℤ) (x y : Bool) → above (o +ℤ at_end x z -ℤ at_end y z) + under o + leaving x y (under z) (above z)
    ≡ under (o +ℤ at_end x z -ℤ at_end y z) + above o + leaving x y (above z) (under z)
outflow_more o z x y = omega (
  arith,
  difference_parts (o +ℤ at_end x z) (at_end y z),
  sum_parts o (at_end x z),
  (end_parts z x).0,
  (end_parts z x).1,
  (end_parts z y).0,
  (end_parts z y).1,
  leaving_turn (above z) (under z) x y,
)

module _ (G : Net) (f : ℕ → ℤ) where
  outflow_below : (x k : ℕ) → above (outflow G f x k) + sum k (λ i. leaving (eqb (G.a i) x) (eqb (G.b i) x) (under (f i)) (above (f i)))
      ≡ under (outflow G f x k) + sum k (λ i. leaving (eqb (G.a i) x) (eqb (G.b i) x) (above (f i)) (under (f i)))
  unfolding outflow sum
  outflow_below x zero = omega arith
  outflow_below x (suc k) = omega (arith, outflow_below x k, outflow_more (outflow G f x k) (f k) (eqb (G.a k) x) (eqb (G.b k) x))

  -- a node's outflow is what the side of that node sends, less what it receives
  pub outflow_only : (x : ℕ) → above (outflow G f x G.m) + received G f (only x) ≡ under (outflow G f x G.m) + sent G f (only x)
  unfolding sent received
  outflow_only x = outflow_below x G.m

-- two sides with no node in common
join_link : (u d : ℕ) (x y v w : Bool) → x && v ≡ false → y && w ≡ false
    → leaving (x || v) (y || w) u d + leaving x y d u + leaving v w d u ≡ leaving (x || v) (y || w) d u + leaving x y u d + leaving v w u d
join_link u d true y true w p q = absurd (true≢false p)
join_link u d true true false true p q = absurd (true≢false q)
join_link u d false true v true p q = absurd (true≢false q)
join_link u d true true false false p q = omega arith
join_link u d true false false true p q = omega arith
join_link u d true false false false p q = omega arith
join_link u d false true true false p q = omega arith
join_link u d false true false false p q = omega arith
join_link u d false false true true p q = omega arith
join_link u d false false true false p q = omega arith
join_link u d false false false true p q = omega arith
join_link u d false false false false p q = omega arith

module _ (G : Net) (f : ℕ → ℤ) where
  sent_join : (X Y : Side) → ((i : ℕ) → X i && Y i ≡ false)
      → sent G f (X ∪ Y) + received G f X + received G f Y ≡ received G f (X ∪ Y) + sent G f X + sent G f Y
  unfolding sent received
  sent_join X Y h =
      sum_eq3 G.m _ _ _ _ _ _
      (λ k l. join_link (above (f k)) (under (f k)) (X (G.a k)) (X (G.b k)) (Y (G.a k)) (Y (G.b k)) (h (G.a k)) (h (G.b k)))

  sent_none : (sent G f (λ i. false) ≡ 0) × (received G f (λ i. false) ≡ 0)
  unfolding sent received
  sent_none = (sum_zero G.m _ (λ k l. refl), sum_zero G.m _ (λ k l. refl))

-- the nodes of X below i
abbrev up_to : Side → ℕ → Side
up_to X i x = X x && ltb x i

and-false : (b : Bool) → b && false ≡ false
and-false = bool1 _ (refl, refl)

ltb_suc : (x i : ℕ) → x ≢ i → ltb x (suc i) ≡ ltb x i
ltb_suc x i n = go (ltb x i) refl
  where
    go : (b : Bool) → ltb x i ≡ b → ltb x (suc i) ≡ b
    go true e = lt-ltb x (suc i) (omega (arith, ltb-true x i e))
    go false e = le-ltb x (suc i) (omega (arith, ltb-false x i e))

up_to_none : (X : Side) → up_to X 0 ≡ (λ x. false)
up_to_none X = fun_ext (λ x. rw (le-ltb x 0 (omega arith)) (and-false (X x)))

up_to_skip : (X : Side) (i : ℕ) → X i ≡ false → up_to X (suc i) ≡ up_to X i
up_to_skip X i e = fun_ext (λ x. go x (ℕ_discrete x i))
  where
    go : (x : ℕ) → Dec (x ≡ i) → X x && ltb x (suc i) ≡ X x && ltb x i
    go x (yes q) = rw (q, e)
    go x (no n) = rw (ltb_suc x i n)

up_to_take : (X : Side) (i : ℕ) → X i ≡ true → up_to X (suc i) ≡ up_to X i ∪ only i
up_to_take X i e = fun_ext (λ x. go x (ℕ_discrete x i))
  where
    go : (x : ℕ) → Dec (x ≡ i) → X x && ltb x (suc i) ≡ (X x && ltb x i) || eqb x i
    go x (yes q) = rw (q, e, lt-ltb i (suc i) (omega arith), eq-eqb i i refl) (bool1 (λ b. true ≡ b || true) (refl, refl) (ltb i i))
    go x (no n) = rw (ltb_suc x i n, ne_eqb x i n) (bool1 (λ b. b ≡ b || false) (refl, refl) (X x && ltb x i))

up_to_apart : (X : Side) (i x : ℕ) → up_to X i x && only i x ≡ false
up_to_apart X i x = go (ℕ_discrete x i)
  where
    go : Dec (x ≡ i) → (X x && ltb x i) && eqb x i ≡ false
    go (yes q) = rw (q, le-ltb i i (omega arith)) (bool2 (λ a b. (a && false) && b ≡ false) ((refl, refl), (refl, refl)) (X i) (eqb i i))
    go (no n) = rw (ne_eqb x i n) (and-false (X x && ltb x i))

-- what the nodes of X below i send out, and what they take in
abbrev out_of : Net → (ℕ → ℤ) → Side → ℕ → ℕ
out_of G f X i = sum i (λ x. when (X x) (above (outflow G f x G.m)))

abbrev into : Net → (ℕ → ℤ) → Side → ℕ → ℕ
into G f X i = sum i (λ x. when (X x) (under (outflow G f x G.m)))

module _ (G : Net) (f : ℕ → ℤ) (X : Side) where
  outflow_up_to : (i : ℕ) → out_of G f X i + received G f (up_to X i) ≡ into G f X i + sent G f (up_to X i)
  unfolding sum
  outflow_up_to zero = rw (up_to_none X) (omega (arith, sent_none G f))
  outflow_up_to (suc i) = go (X i) refl (outflow_up_to i)
    where
      go : (b : Bool) → X i ≡ b → out_of G f X i + received G f (up_to X i) ≡ into G f X i + sent G f (up_to X i)
          → out_of G f X (suc i) + received G f (up_to X (suc i)) ≡ into G f X (suc i) + sent G f (up_to X (suc i))
      go true e ih = rw (up_to_take X i e, e) (omega (arith, sent_join G f (up_to X i) (only i) (up_to_apart X i), outflow_only G f i))
      go false e ih = rw (up_to_skip X i e, e) (omega arith)

  up_to_all : (n : ℕ) → Within G n → (sent G f (up_to X n) ≡ sent G f X) × (received G f (up_to X n) ≡ received G f X)
  unfolding sent received
  up_to_all n w = (
    sum_ext G.m _ _ (λ k l. cc (same (G.a k) (w k l).0, same (G.b k) (w k l).1)),
    sum_ext G.m _ _ (λ k l. cc (
      same (G.a k) (w k l).0,
      same (G.b k) (w k l).1,
    )),
  )
    where
      same : (x : ℕ) → x < n → up_to X n x ≡ X x
      same x l = rw (lt-ltb x n l) (bool1 (λ b. b && true ≡ b) (refl, refl) (X x))

  -- what the nodes of a side send out together is what the side sends, less what it receives
  pub outflow_side : (n : ℕ) → Within G n → out_of G f X n + received G f X ≡ into G f X n + sent G f X
  outflow_side n w = omega (arith, outflow_up_to n, up_to_all n w)

sent_link : (c u d : ℕ) → u + d ≤ c → (x y : Bool) → leaving x y u d ≤ crossing x y c
sent_link c u d l = bool2 _ (omega arith)

-- a side sends no more than its cut value
pub sent_le : (G : Net) (f : ℕ → ℤ) → ((k : ℕ) → k < G.m → nat_abs (f k) ≤ G.c k) → (X : Side) → sent G f X ≤ cut_value G X
unfolding sent cut_value
sent_le G f h X =
    sum_le G.m _ _
    (λ k l. sent_link (G.c k) (above (f k)) (under (f k)) (omega (arith, h k l, size_parts (f k))) (X (G.a k)) (X (G.b k)))

-- a link whose residual capacities are p and q and that carries c - p
residual_link : (c p q u d : ℕ) → p + q ≡ 2 * c → u + p ≡ d + c → (x y : Bool)
    → leaving x y u d + leaving x y p q ≡ leaving x y d u + crossing x y c
residual_link c p q u d e h = bool2 _ (omega arith)

pub carries : (c p : ℕ) (z : ℤ) → z ≡ pos c -ℤ pos p → above z + p ≡ under z + c
carries c p z e = rw e (omega (arith, difference_parts (pos c) (pos p)))

-- in residual form a side sends, less what it receives, its cut value less its residual capacity
pub sent_residual : (G : Net) (p q : ℕ → ℕ) (f : ℕ → ℤ) → ((k : ℕ) → k < G.m → p k + q k ≡ 2 * G.c k)
    → ((k : ℕ) → k < G.m → f k ≡ pos (G.c k) -ℤ pos (p k))
    → (X : Side) → sent G f X + residual G p q X ≡ received G f X + cut_value G X
unfolding sent received residual cut_value
sent_residual G p q f b h X =
    sum_eq2 G.m _ _ _ _
    (λ k l. residual_link (G.c k) (p k) (q k) (above (f k)) (under (f k)) (b k l) (carries (G.c k) (p k) (f k) (h k l)) (X (G.a k))
    (X (G.b k)))
