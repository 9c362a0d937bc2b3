-- Laws of the side that a cut edge leaves: the subtree of a node, found in one pass in which the nodes before are known, or its complement.
use Rattle.std.specs.Prelude.{ℕ, suc, ◌+◌, ◌-◌, ◌^◌, ◌<◌, ◌≡◌, refl, Bool, List}
use Rattle.std.proofs.Common.{sym, ap, ◌∙◌, add-one, arith, lt-ltb}
use Rattle.std.proofs.Math.Bool.{true, false, not}
use Rattle.std.proofs.Math.Decide.{ℕ_discrete}
use Rattle.std.proofs.Math.Pow.{pow-lt}
use Rattle.base.proofs.laws.Bools.{bool1, bool2, differ_not}
use Rattle.min_cut.specs.Cut.{Side}
use Rattle.base.specs.Word.{holds, word}
use Rattle.base.proofs.laws.WordLaws.{same_bits, word_lt, word_holds, holds_out}
use Rattle.node_set.specs.Set.{added, complement_in, size}
use Rattle.node_set.proofs.theorems.Members.{added_same, added_other, added_lt, holds_complement_in, complement_in_lt}
use Rattle.node_set.proofs.laws.SizeLaws.{size_complement}
use Rattle.base.specs.Basics.{at, differ, among}
use Rattle.cut_tree.specs.Path.{max_climb, Climbs, climb, under, on_path, side_of}
use Rattle.cut_tree.specs.code.QueryParts.{Known, added_if}
use Rattle.cut_tree.proofs.laws.ClimbLaws.{rooted_lt, rooted_next, reaches_on, climb_end, climb_none, climb_on, climb_starts}
use Rattle.cut_tree.proofs.laws.ClimbLaws.{climb_enough}
use Rattle.cut_tree.proofs.laws.MemberLaws.{among_on}

-- ---- whether a climb goes through v
module _ (parent : List ℕ) (v left j : ℕ) where
  pub through_end : j ≡ 0 → among v (climb parent left j) ≡ false
  unfolding among
  through_end e = rw (climb_end parent left j e)

  pub through_none : left ≡ 0 → among v (climb parent left j) ≡ false
  unfolding among
  through_none e = rw (climb_none parent left j e)

  pub through_on : (j ≡ 0 → ⊥) → (j ≡ v → ⊥) → (left ≡ 0 → ⊥)
      → among v (climb parent left j) ≡ among v (climb parent (left - 1) (at parent j))
  through_on n d e = rw (climb_on parent left j n e) (among_on v j (climb parent (left - 1) (at parent j)) (λ q. d (sym q)))

module _ (parent : List ℕ) (v x i left j : ℕ) (h : Known parent v x i left j) where
  pub through_here : (j ≡ 0 → ⊥) → j ≡ v → among v (climb parent left j) ≡ true
  through_here n e = rw (← e) (climb_starts parent left j h.rooted n)

  pub through_known : j < i → holds x j ≡ among v (climb parent left j)
  through_known l = h.known j l ∙ ap (among v) (climb_enough parent left max_climb j h.short h.rooted)

  pub known_next : (j ≡ 0 → ⊥) → (left ≡ 0 → ⊥) → Known parent v x i (left - 1) (at parent j)
  known_next n e =
      let s = h.short in
      record {
        rooted = sym (reaches_on parent left j n e) ∙ h.rooted;
        short = omega arith;
        known = h.known;
      }

pub ruleset through = (through_end, through_known, through_none, through_on, rooted_lt, rooted_next)

-- ---- a word that grows
word_ext : (n : ℕ) (X Y : Side) → ((i : ℕ) → i < n → X i ≡ Y i) → word n X ≡ word n Y
word_ext n X Y h =
    same_bits n (word n X) (word n Y) (word_lt n X) (word_lt n Y) (λ i l. word_holds n X i l ∙ h i l ∙ sym (word_holds n Y i l))

pub word_more : (i : ℕ) (X : Side) → added_if (X i) (word i X) i ≡ word (suc i) X
word_more i X =
    same_bits (suc i) (added_if (X i) (word i X) i) (word (suc i) X) (below (X i)) (word_lt (suc i) X)
    (λ k l. go (X i) refl k l (ℕ_discrete k i) ∙ sym (word_holds (suc i) X k l))
  where
    small : word i X < 2 ^ suc i
    small = omega (arith, word_lt i X, pow-lt {i = i} {j = suc i} (omega arith))

    below : (b : Bool) → added_if b (word i X) i < 2 ^ suc i
    below true = added_lt (suc i) (word i X) i small (omega arith)
    below false = small

    go : (b : Bool) → X i ≡ b → (k : ℕ) → k < suc i → Dec (k ≡ i) → holds (added_if b (word i X) i) k ≡ X k
    go true e k l (yes q) = rw (q, e) (added_same (word i X) i)
    go true e k l (no q) = added_other (word i X) i k q ∙ word_holds i X k (omega arith)
    go false e k l (yes q) = rw (q, e) (holds_out i (word i X) i (word_lt i X) (omega arith))
    go false e k l (no q) = word_holds i X k (omega arith)

-- ---- the pass over the nodes
pub pass_start : (parent : List ℕ) (v : ℕ) → 0 ≡ word 0 (under parent v)
unfolding word
pass_start parent v = refl

module _ (parent : List ℕ) (v x i : ℕ) (e : x ≡ word i (under parent v)) where
  pub pass_known : (n : ℕ) → Climbs n parent → i < n → Known parent v x i max_climb i
  pass_known n h l = record {
    rooted = h.rooted i l;
    short = omega arith;
    known = λ k kl. rw e (word_holds i (under parent v) k kl);
  }

  pass_next : added_if (under parent v i) x i ≡ word (i + 1) (under parent v)
  pass_next = rw (add-one, e) (word_more i (under parent v))

  module _ (b : Bool) (f : b ≡ under parent v i) where
    pub pass_so : b ≡ true → (y : ℕ) → y ≡ added x i → y ≡ word (i + 1) (under parent v)
    pass_so g y h = h ∙ (rw (← f, g) at pass_next)

    pub pass_not : b ≡ false → x ≡ word (i + 1) (under parent v)
    pass_not g = rw (← f, g) at pass_next

pub ruleset passing = (pass_so, pass_not)

-- ---- the side
module _ (parent : List ℕ) (n v s x : ℕ) (l : s < n) (e : x ≡ word n (under parent v)) where
  at_s : (b : Bool) → holds x s ≡ b → under parent v s ≡ b
  at_s b h = sym (word_holds n (under parent v) s l) ∙ ap (λ w. holds w s) (sym e) ∙ h

  pub side_with : holds x s ≡ true → x ≡ side_of parent n v s
  unfolding side_of
  side_with h =
      rw (e, at_s true h)
      (word_ext n (under parent v) (λ i. not (differ (under parent v i) true))
      (λ i m. bool1 (λ b. b ≡ not (differ b true)) (refl, refl) (under parent v i)))

  pub side_without : holds x s ≡ false → complement_in n x ≡ side_of parent n v s
  unfolding side_of
  side_without h =
      same_bits n (complement_in n x) (side_of parent n v s) (complement_in_lt n x small) (word_lt n _)
      (λ i m. holds_complement_in n x i small ∙ rw (lt-ltb i n m, e, at_s false h) (each i m))
    where
      small : x < 2 ^ n
      small = rw e (word_lt n (under parent v))

      flip : (b : Bool) → not b ≡ not (differ b false)
      flip = bool1 (λ b. not b ≡ not (differ b false)) (refl, refl)

      other : Side
      other k = not (differ (under parent v k) false)

      each : (i : ℕ) → i < n → not (holds (word n (under parent v)) i) ≡ holds (word n other) i
      each i m = ap not (word_holds n (under parent v) i m) ∙ flip (under parent v i) ∙ sym (word_holds n other i m)

pub ruleset sides = (side_with, side_without, word_lt)

pub side_lt : (parent : List ℕ) (n v s : ℕ) → side_of parent n v s < 2 ^ n
unfolding side_of
side_lt parent n v s = word_lt n _

-- ---- from the other end: the other side
module _ (parent : List ℕ) (n v s t : ℕ) (e : on_path parent s t v ≡ true) where
  abbrev X : Side
  X = under parent v

  side_holds : (i j : ℕ) → i < n → holds (side_of parent n v j) i ≡ not (differ (X i) (X j))
  unfolding side_of
  side_holds i j l = word_holds n _ i l

  -- who lies as t does, does not lie as s does
  other_way : (i : ℕ) → not (differ (X i) (X t)) ≡ not (not (differ (X i) (X s)))
  other_way i =
      rw (differ_not (X s) (X t) e)
      (bool2 (λ x y. not (differ x y) ≡ not (not (differ x (not y)))) ((refl, refl), (refl, refl)) (X i) (X t))

  pub sides_turned : side_of parent n v t ≡ complement_in n (side_of parent n v s)
  sides_turned =
      same_bits n _ _ (side_lt parent n v t) (complement_in_lt n _ (side_lt parent n v s))
      (λ i l. side_holds i t l ∙ other_way i
      ∙ sym (holds_complement_in n _ i (side_lt parent n v s) ∙ rw (lt-ltb i n l, side_holds i s l)))

  pub sizes_turned : size n (side_of parent n v s) + size n (side_of parent n v t) ≡ n
  sizes_turned = rw sides_turned (size_complement n _ (side_lt parent n v s))
