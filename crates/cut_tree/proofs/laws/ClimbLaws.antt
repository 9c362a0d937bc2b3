-- Laws of climbs: one for each way through the code, and what a climb to node 0 holds.
use Rattle.std.specs.Prelude.{ℕ, zero, suc, ◌-◌, ◌≤◌, ◌<◌}
use Rattle.std.specs.Prelude.{◌≡◌, Bool, not, ◌&&◌}
use Rattle.std.proofs.Math.Path.{refl, ap}
use Rattle.std.proofs.Common.{sym, ◌∙◌}
use Rattle.std.proofs.Math.Bool.{true, false, true≢false}
use Rattle.std.specs.Prelude.{List, [], ◌∷◌}
use Rattle.std.proofs.Common.{arith}
use Rattle.std.proofs.Math.Decide.{ℕ_discrete}
use Rattle.std.proofs.Math.Dec.{eqb}
use Rattle.std.proofs.Common.{eqb-true, eq-eqb, ne_eqb}
use Rattle.std.proofs.lemmas.Bool.{eqb-false}
use Rattle.base.specs.Word.{holds}
use Rattle.base.specs.Basics.{pick, at, among}
use Rattle.network.specs.Limits.{max_nodes}
use Rattle.cut_tree.specs.Path.{reaches, Climbs, climb}
use Rattle.cut_tree.proofs.laws.MemberLaws.{among_head, among_later, among_on}
use Rattle.cut_tree.specs.code.QueryParts.{Inside, climb_to}

-- ---- staying inside
pub inside_lt : {parent : List ℕ} {i : ℕ} → Inside parent i → i < max_nodes
inside_lt h = let a = h.here in let b = h.small in omega arith

pub inside_next : {parent : List ℕ} {i : ℕ} → Inside parent i → Inside parent (at parent i)
inside_next {parent} {i} h = record { bound = h.bound; small = h.small; here = h.stays i h.here; stays = h.stays }

pub climbs_inside : {n : ℕ} {parent : List ℕ} → Climbs n parent → (i : ℕ) → i < n → Inside parent i
climbs_inside {n} h i l = record { bound = n; small = h.small; here = l; stays = h.stays }

-- a node of those that climb to node 0, and its parent
module _ {n : ℕ} {parent : List ℕ} (h : Climbs n parent) (i : ℕ) (l : i < n) where
  pub rooted_lt : i < max_nodes
  rooted_lt = let a = h.small in omega (arith, l)

  pub rooted_next : at parent i < n
  rooted_next = h.stays i l

-- ---- the ways through a climb, by what is left
module _ (parent : List ℕ) where
  pub reaches_end : (left i : ℕ) → i ≡ 0 → reaches parent left i ≡ true
  unfolding reaches
  reaches_end zero i e = eq-eqb i 0 e
  reaches_end (suc left) i e = rw (eq-eqb i 0 e)

  pub reaches_none : (left i : ℕ) → (i ≡ 0 → ⊥) → left ≡ 0 → reaches parent left i ≡ false
  unfolding reaches
  reaches_none left i n e = rw e (ne_eqb i 0 n)

  pub reaches_on : (left i : ℕ) → (i ≡ 0 → ⊥) → (left ≡ 0 → ⊥) → reaches parent left i ≡ reaches parent (left - 1) (at parent i)
  unfolding reaches
  reaches_on zero i n e = absurd (e refl)
  reaches_on (suc left) i n e = let q : suc left - 1 ≡ left = omega arith in rw (ne_eqb i 0 n, q)

  pub climb_end : (left i : ℕ) → i ≡ 0 → climb parent left i ≡ []
  unfolding climb
  climb_end zero i e = refl
  climb_end (suc left) i e = rw (eq-eqb i 0 e)

  pub climb_none : (left i : ℕ) → left ≡ 0 → climb parent left i ≡ []
  unfolding climb
  climb_none left i e = rw e

  pub climb_on : (left i : ℕ) → (i ≡ 0 → ⊥) → (left ≡ 0 → ⊥) → climb parent left i ≡ i ∷ climb parent (left - 1) (at parent i)
  unfolding climb
  climb_on zero i n e = absurd (e refl)
  climb_on (suc left) i n e = let q : suc left - 1 ≡ left = omega arith in rw (ne_eqb i 0 n, q)

  pub climb_to_end : (stop left i : ℕ) → i ≡ 0 → climb_to stop parent left i ≡ []
  unfolding climb_to
  climb_to_end stop zero i e = refl
  climb_to_end stop (suc left) i e = rw (eq-eqb i 0 e)

  pub climb_to_none : (stop left i : ℕ) → left ≡ 0 → climb_to stop parent left i ≡ []
  unfolding climb_to
  climb_to_none stop left i e = rw e

  pub climb_to_stop : (stop left i : ℕ) → (i ≡ 0 → ⊥) → holds stop i ≡ true → climb_to stop parent left i ≡ []
  unfolding climb_to
  climb_to_stop stop zero i n h = refl
  climb_to_stop stop (suc left) i n h = rw (ne_eqb i 0 n, h)

  pub climb_to_on : (stop left i : ℕ) → (i ≡ 0 → ⊥) → holds stop i ≡ false → (left ≡ 0 → ⊥)
      → climb_to stop parent left i ≡ i ∷ climb_to stop parent (left - 1) (at parent i)
  unfolding climb_to
  climb_to_on stop zero i n h e = absurd (e refl)
  climb_to_on stop (suc left) i n h e = let q : suc left - 1 ≡ left = omega arith in rw (ne_eqb i 0 n, h, q)

pub ruleset reaching = (reaches_end, reaches_none, reaches_on)

-- ---- a climb that reaches node 0
module _ (parent : List ℕ) where
  -- has no more nodes by a longer count
  pub climb_enough : (a b i : ℕ) → a ≤ b → reaches parent a i ≡ true → climb parent b i ≡ climb parent a i
  unfolding reaches climb
  climb_enough zero b i l r = climb_end parent b i (eqb-true i 0 r)
  climb_enough (suc a) zero i l r = absurd (omega arith)
  climb_enough (suc a) (suc b) i l r = go (eqb i 0) r (λ q. climb_enough a b (at parent i) (omega arith) q)
    where
      go : (z : Bool) → pick z true (reaches parent a (at parent i)) ≡ true
          → (reaches parent a (at parent i) ≡ true → climb parent b (at parent i) ≡ climb parent a (at parent i))
          → pick z [] (i ∷ climb parent b (at parent i)) ≡ pick z [] (i ∷ climb parent a (at parent i))
      go true q ih = refl
      go false q ih = ap (λ (xs : List ℕ). i ∷ xs) (ih q)

  -- holds no node 0
  pub climb_nonzero : (left i : ℕ) → among 0 (climb parent left i) ≡ false
  unfolding climb among
  climb_nonzero zero i = refl
  climb_nonzero (suc left) i = go (eqb i 0) refl (climb_nonzero left (at parent i))
    where
      go : (z : Bool) → eqb i 0 ≡ z → among 0 (climb parent left (at parent i)) ≡ false
          → among 0 (pick z [] (i ∷ climb parent left (at parent i))) ≡ false
      go true e ih = refl
      go false e ih = among_on 0 i (climb parent left (at parent i)) (λ q. eqb-false i 0 e (sym q)) ∙ ih

  -- starts at its node
  pub climb_starts : (a i : ℕ) → reaches parent a i ≡ true → (i ≡ 0 → ⊥) → among i (climb parent a i) ≡ true
  unfolding reaches climb
  climb_starts zero i r n = absurd (n (eqb-true i 0 r))
  climb_starts (suc a) i r n = rw (ne_eqb i 0 n) (among_head i (climb parent a (at parent i)))

  -- goes on with a node's parent, up to node 0
  pub climb_closed : (a i x : ℕ) → reaches parent a i ≡ true → among x (climb parent a i) ≡ true → (at parent x ≡ 0 → ⊥)
      → among (at parent x) (climb parent a i) ≡ true
  unfolding reaches climb among
  climb_closed zero i x r m n = absurd (true≢false (sym m))
  climb_closed (suc a) i x r m n = go (eqb i 0) r m (λ q e. climb_closed a (at parent i) x q e n) (ℕ_discrete x i)
    where
      up : ℕ
      up = at parent i

      go : (z : Bool) → pick z true (reaches parent a up) ≡ true → among x (pick z [] (i ∷ climb parent a up)) ≡ true
          → (reaches parent a up ≡ true → among x (climb parent a up) ≡ true → among (at parent x) (climb parent a up) ≡ true)
          → Dec (x ≡ i) → among (at parent x) (pick z [] (i ∷ climb parent a up)) ≡ true
      go true q e ih d = absurd (true≢false (sym e))
      go false q e ih (yes d) = among_later (at parent x) i (climb parent a up) (rw d (climb_starts a up q (λ z. n (ap (at parent) d ∙ z))))
      go false q e ih (no d) = among_later (at parent x) i (climb parent a up) (ih q (sym (among_on x i (climb parent a up) d) ∙ e))

-- ---- a climb among n nodes
-- goes through nodes from 1 on
pub climb_nodes : (n : ℕ) (parent : List ℕ) → ((i : ℕ) → i < n → at parent i < n) → (left i v : ℕ) → i < n
    → among v (climb parent left i) ≡ true → (0 < v) × (v < n)
unfolding climb among
climb_nodes n parent stays zero i v l e = absurd (true≢false (sym e))
climb_nodes n parent stays (suc left) i v l e =
    go (eqb i 0) (eqb v i) refl refl e (climb_nodes n parent stays left (at parent i) v (stays i l))
  where
    go : (b c : Bool) → eqb i 0 ≡ b → eqb v i ≡ c → among v (pick b [] (i ∷ climb parent left (at parent i))) ≡ true
        → (among v (climb parent left (at parent i)) ≡ true → (0 < v) × (v < n)) → (0 < v) × (v < n)
    go true c p q e f = absurd (true≢false (sym e))
    go false true p q e f = omega (arith, eqb-true v i q, eqb-false i 0 p)
    go false false p q e f = f (rw q at e)

-- ---- two climbs
module _ (parent : List ℕ) where
  -- a longer count reaches too
  reaches_more : (a i : ℕ) → reaches parent a i ≡ true → reaches parent (suc a) i ≡ true
  unfolding reaches
  reaches_more zero i e = rw e
  reaches_more (suc a) i e = go (eqb i 0) e (reaches_more a (at parent i))
    where
      go : (z : Bool) → pick z true (reaches parent a (at parent i)) ≡ true
          → (reaches parent a (at parent i) ≡ true → reaches parent (suc a) (at parent i) ≡ true)
          → pick z true (reaches parent (suc a) (at parent i)) ≡ true
      go true q ih = refl
      go false q ih = ih q

  -- and so does every node of a climb
  on_way : (a i x : ℕ) → reaches parent a i ≡ true → among x (climb parent a i) ≡ true → reaches parent a x ≡ true
  unfolding reaches climb among
  on_way zero i x r m = absurd (true≢false (sym m))
  on_way (suc a) i x r m = go (eqb i 0) refl r m (ℕ_discrete x i) (on_way a (at parent i) x)
    where
      up : ℕ
      up = at parent i

      go : (z : Bool) → eqb i 0 ≡ z → pick z true (reaches parent a up) ≡ true → among x (pick z [] (i ∷ climb parent a up)) ≡ true
          → Dec (x ≡ i) → (reaches parent a up ≡ true → among x (climb parent a up) ≡ true → reaches parent a x ≡ true)
          → reaches parent (suc a) x ≡ true
      go true e q m d ih = absurd (true≢false (sym m))
      go false e q m (yes d) ih = rw (d, e) q
      go false e q m (no d) ih = reaches_more a x (ih q (sym (among_on x i (climb parent a up) d) ∙ m))

  -- another node of a climb is further up
  reaches_way : (a i x : ℕ) → reaches parent (suc a) i ≡ true → among x (climb parent (suc a) i) ≡ true → (x ≡ i → ⊥)
      → reaches parent a x ≡ true
  unfolding reaches climb
  reaches_way a i x r m n = go (eqb i 0) r m
    where
      up : ℕ
      up = at parent i

      go : (z : Bool) → pick z true (reaches parent a up) ≡ true → among x (pick z [] (i ∷ climb parent a up)) ≡ true
          → reaches parent a x ≡ true
      go true q m = absurd (true≢false (sym m ∙ unfold among in refl))
      go false q m = on_way a up x q (sym (among_on x i (climb parent a up) n) ∙ m)

  -- two different nodes are not each above the other
  pub no_loop : (a s t : ℕ) → reaches parent a s ≡ true → reaches parent a t ≡ true → (s ≡ t → ⊥)
      → among t (climb parent a s) ≡ true → among s (climb parent a t) ≡ true → ⊥
  unfolding climb among
  no_loop zero s t rs rt d m k = true≢false (sym m)
  no_loop (suc a) s t rs rt d m k =
      let qt : reaches parent a t ≡ true = reaches_way a s t rs m (λ e. d (sym e)) in
      let qs : reaches parent a s ≡ true = reaches_way a t s rt k d in
      no_loop a s t qs qt d (sym (ap (among t) (climb_enough parent a (suc a) s (omega arith) qs)) ∙ m)
      (sym (ap (among s) (climb_enough parent a (suc a) t (omega arith) qt)) ∙ k)

-- ---- a climb that stops at a set with all nodes above its own
module _ (parent : List ℕ) (stop : ℕ)
    (closed : (x : ℕ) → holds stop x ≡ true → (at parent x ≡ 0 → ⊥) → holds stop (at parent x) ≡ true) where
  -- from a node of the set on, a climb stays there
  stays_in : (left i : ℕ) → holds stop i ≡ true → (v : ℕ) → among v (i ∷ climb parent left (at parent i)) ≡ true → holds stop v ≡ true
  unfolding climb among
  stays_in zero i h v m = go (ℕ_discrete v i)
    where
      go : Dec (v ≡ i) → holds stop v ≡ true
      go (yes d) = rw d h
      go (no d) = absurd (true≢false (sym m ∙ among_on v i [] d))
  stays_in (suc left) i h v m = go (ℕ_discrete v i) (ℕ_discrete up 0) (λ q. stays_in left up (closed i h q) v)
    where
      up : ℕ
      up = at parent i

      further : (v ≡ i → ⊥) → among v (climb parent (suc left) up) ≡ true
      further d = sym (among_on v i (climb parent (suc left) up) d) ∙ m

      go : Dec (v ≡ i) → Dec (up ≡ 0)
          → ((up ≡ 0 → ⊥) → among v (up ∷ climb parent left (at parent up)) ≡ true → holds stop v ≡ true) → holds stop v ≡ true
      go (yes d) q ih = rw d h
      go (no d) (yes q) ih = absurd (true≢false (sym (further d) ∙ ap (among v) (climb_end parent (suc left) up q)))
      go (no d) (no q) ih = ih q (sym (ap (λ b. among v (pick b [] (up ∷ climb parent left (at parent up)))) (ne_eqb up 0 q)) ∙ further d)

  none : (a b : Bool) → (a ≡ true → b ≡ true) → false ≡ (a && not b)
  none true b h = rw (h refl) refl
  none false b h = refl

  pub climb_to_among : (left i v : ℕ) → among v (climb_to stop parent left i) ≡ (among v (climb parent left i) && not (holds stop v))
  unfolding climb_to climb among
  climb_to_among zero i v = refl
  climb_to_among (suc left) i v = go (eqb i 0) (holds stop i) refl (ℕ_discrete v i) (climb_to_among left (at parent i) v)
    where
      up : ℕ
      up = at parent i

      go : (z w : Bool) → holds stop i ≡ w → Dec (v ≡ i)
          → among v (climb_to stop parent left up) ≡ (among v (climb parent left up) && not (holds stop v))
          → among v (pick z [] (pick w [] (i ∷ climb_to stop parent left up)))
          ≡ (among v (pick z [] (i ∷ climb parent left up)) && not (holds stop v))
      go true w e d ih = refl
      go false true e d ih = none (among v (i ∷ climb parent left up)) (holds stop v) (stays_in left i e v)
      go false false e (yes d) ih = rw (d, e, eq-eqb i i refl)
      go false false e (no d) ih = rw (ne_eqb v i d) ih
