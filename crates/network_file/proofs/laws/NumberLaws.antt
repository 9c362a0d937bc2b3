-- A number of the file: what is read is what was written, and each of 1 to 3 is given under its condition and no other.
use Rattle.std.specs.Prelude.{ℕ, zero, suc, ◌+◌, ◌-◌, ◌*◌, ◌/◌, ◌%◌, ◌^◌, ◌≤◌, ◌<◌, ◌≡◌, refl, ◌≢◌, Bool, true, false}
use Rattle.std.specs.Prelude.{List, [], ◌∷◌, ◌++◌, length, take, ltb, eqb}
use Rattle.std.proofs.Common.{ap, ap₂, subst, ◌∙◌, arith, pow-suc, eq-eqb, lt-ltb, le-ltb, ne_eqb, ltb-true}
use Rattle.std.proofs.Common.{ltb-false, eqb-true}
use Rattle.std.proofs.Math.Nat.{one-le-pow}
use Rattle.std.proofs.lemmas.Bool.{eqb-false}
use Rattle.base.specs.Basics.{pick, at}
use Rattle.network.specs.Limits.{max_groups}
use Rattle.network.specs.Refusals.{zero_group}
use Rattle.network_file.specs.Number.{continued, read_groups, read_number, group_bytes, Bytes}
use Rattle.network_file.specs.Faults.{Groups, last, more, Topped, EndsEarly, TooLong, ZeroLast}
use Rattle.network_file.specs.Number.{Number}
use Rattle.network_file.specs.Number.{Value, Refused}

-- ---- one group
module _ (most x : ℕ) (xs : List ℕ) where
  pub read_last : x < 128 → read_groups (suc most) (x ∷ xs) ≡ Value x 1
  unfolding read_groups
  read_last l = rw (lt-ltb x 128 l)

  pub read_more : 128 ≤ x → read_groups (suc most) (x ∷ xs) ≡ continued x (read_groups most xs)
  unfolding read_groups
  read_more l = rw (le-ltb x 128 l)

module _ (most v : ℕ) where
  pub last_group : v < 128 → group_bytes (suc most) v ≡ v ∷ []
  unfolding group_bytes
  last_group l = rw (lt-ltb v 128 l)

  pub more_groups : 128 ≤ v → group_bytes (suc most) v ≡ (128 + v % 128) ∷ group_bytes most (v / 128)
  unfolding group_bytes
  more_groups l = rw (le-ltb v 128 l)

pub continued_zero : (x v size : ℕ) → v ≡ 0 → continued x (Value v size) ≡ Refused zero_group
continued_zero x v size e = rw (eq-eqb v 0 e)

pub continued_value : (x v size : ℕ) → v ≢ 0 → continued x (Value v size) ≡ Value (x - 128 + 128 * v) (size + 1)
continued_value x v size n = rw (ne_eqb v 0 n)

-- ---- from each condition to what is read
pub groups_read : {t : List ℕ} {v size : ℕ} → Groups t v size → (most : ℕ) → size ≤ most → read_groups most t ≡ Value v size
groups_read (last l) zero h = absurd (omega arith)
groups_read (last {x} {t} l) (suc most) h = read_last most x t l
groups_read (more l n g) zero h = absurd (omega arith)
groups_read (more {x} {v} {size} {t} l n g) (suc most) h =
    read_more most x t l ∙ ap (continued x) (groups_read g most (omega arith)) ∙ continued_value x v size n

topped_head : (k x : ℕ) (xs : List ℕ) → Topped (suc k) (x ∷ xs) → 128 ≤ x
topped_head k x xs t = t.top 0 (omega arith)

topped_tail : (k x : ℕ) (xs : List ℕ) → Topped (suc k) (x ∷ xs) → Topped k xs
topped_tail k x xs t = record { there = omega (arith, t.there); top = λ i l. t.top (suc i) (omega arith) }

topped_cons : (k x : ℕ) (xs : List ℕ) → 128 ≤ x → Topped k xs → Topped (suc k) (x ∷ xs)
topped_cons k x xs h t = record { there = omega (arith, t.there); top = top }
  where
    top : (i : ℕ) → i < suc k → 128 ≤ at (x ∷ xs) i
    top zero l = h
    top (suc i) l = t.top i (omega arith)

pub read_ends_early : (most : ℕ) (t : List ℕ) → EndsEarly most t → read_groups most t ≡ Refused 1
unfolding read_groups
read_ends_early zero t e = absurd (omega (arith, e.few))
read_ends_early (suc most) [] e = refl
read_ends_early (suc most) (x ∷ xs) e =
    read_more most x xs (topped_head (length xs) x xs e.unended)
    ∙ ap (continued x) (read_ends_early most xs (record {
      few = omega (arith, e.few);
      unended = topped_tail (length xs) x xs e.unended;
    }))

pub read_too_long : (most : ℕ) (t : List ℕ) → TooLong most t → read_groups most t ≡ Refused 2
unfolding read_groups
read_too_long zero t e = refl
read_too_long (suc most) [] e = absurd (omega (arith, e.there))
read_too_long (suc most) (x ∷ xs) e =
    read_more most x xs (topped_head most x xs e) ∙ ap (continued x) (read_too_long most xs (topped_tail most x xs e))

read_zero : (most before : ℕ) (t : List ℕ) → suc before < most → Topped (suc before) t → suc before < length t → at t (suc before) ≡ 0
    → read_groups most t ≡ Refused 3
read_zero zero before t l e h z = absurd (omega arith)
read_zero (suc most) before [] l e h z = absurd (omega arith)
read_zero (suc zero) zero (x ∷ xs) l e h z = absurd (omega arith)
read_zero (suc (suc most)) zero (x ∷ []) l e h z = absurd (omega arith)
read_zero (suc (suc most)) zero (x ∷ y ∷ ys) l e h z =
    read_more (suc most) x (y ∷ ys) (topped_head 0 x (y ∷ ys) e) ∙ ap (continued x) (read_last most y ys (omega arith)) ∙ rw z
read_zero (suc most) (suc before) (x ∷ xs) l e h z =
    read_more most x xs (topped_head (suc before) x xs e)
    ∙ ap (continued x) (read_zero most before xs (omega arith) (topped_tail (suc before) x xs e) (omega arith) z)

pub read_zero_last : (most : ℕ) (t : List ℕ) → ZeroLast most t → read_groups most t ≡ Refused 3
read_zero_last most t z = go z.before z.several z.few z.topped z.there z.zero_last
  where
    go : (k : ℕ) → 0 < k → k < most → Topped k t → k < length t → at t k ≡ 0 → read_groups most t ≡ Refused 3
    go zero s f e h l = absurd (omega arith)
    go (suc k) s f e h l = read_zero most k t f e h l

-- ---- what was written is read
pub several_groups : (most v : ℕ) → 128 ≤ v → v < 128 ^ suc most → 0 < most
several_groups zero v h l = absurd (omega arith)
several_groups (suc most) v h l = omega arith

pub read_groups_lem : (most v : ℕ) (rest : List ℕ) → 0 < most → v < 128 ^ most
    → read_groups most (group_bytes most v ++ rest) ≡ Value v (length (group_bytes most v))
read_groups_lem zero v rest p l = absurd (omega arith)
read_groups_lem (suc most) v rest p l = go (ltb v 128) refl (read_groups_lem most (v / 128) rest)
  where
    go : (b : Bool) → ltb v 128 ≡ b
        → (0 < most → v / 128 < 128 ^ most
        → read_groups most (group_bytes most (v / 128) ++ rest) ≡ Value (v / 128) (length (group_bytes most (v / 128))))
        → read_groups (suc most) (group_bytes (suc most) v ++ rest) ≡ Value v (length (group_bytes (suc most) v))
    go true e ih = let h = ltb-true v 128 e in rw (last_group most v h) (read_last most v rest h)
    go false e ih =
        let h = ltb-false v 128 e in
        let back = group_bytes most (v / 128) in
        let m : 0 < most = several_groups most v h l in
        let q : v / 128 < 128 ^ most = omega (arith, pow-suc 128 most) in
        let n : 128 + v % 128 - 128 + 128 * (v / 128) ≡ v = omega arith in
        let z : length back + 1 ≡ suc (length back) = omega arith in
        rw (more_groups most v h)
        (read_more most (128 + v % 128) (back ++ rest) (omega arith) ∙ ap (continued (128 + v % 128)) (ih m q)
        ∙ continued_value (128 + v % 128) (v / 128) (length back) (omega arith) ∙ ap₂ (λ (w size : ℕ). Value w size) n z)

pub size_pos : {t : List ℕ} {v size : ℕ} → Groups t v size → 0 < size
size_pos (last l) = omega arith
size_pos (more l n g) = omega arith

pub size_within : {t : List ℕ} {v size : ℕ} → Groups t v size → size ≤ length t
size_within (last l) = omega arith
size_within (more l n g) = omega (arith, size_within g)

-- ---- from what is read to its condition
pub data Seen (most : ℕ) (t : List ℕ) : Number → Type 0 where
  sees_one : EndsEarly most t → Seen most t (Refused 1)
  sees_two : TooLong most t → Seen most t (Refused 2)
  sees_three : ZeroLast most t → Seen most t (Refused 3)
  sees_value : {v size : ℕ} → Groups t v size → size ≤ most → Seen most t (Value v size)

-- a number that is zero is a group of zero
zero_group_lem : {t : List ℕ} {v size : ℕ} → Groups t v size → v ≡ 0 → (0 < length t) × (at t 0 ≡ 0)
zero_group_lem (last l) e = (omega arith, e)
zero_group_lem (more {x} {v} l n g) e = absurd (n (omega arith))

module _ (most x : ℕ) (xs : List ℕ) (top : 128 ≤ x) where
  seen_more : {r : Number} → Seen most xs r → Seen (suc most) (x ∷ xs) (continued x r)
  seen_more (sees_one e) = sees_one (record { few = omega (arith, e.few); unended = topped_cons (length xs) x xs top e.unended })
  seen_more (sees_two e) = sees_two (topped_cons most x xs top e)
  seen_more (sees_three e) =
      sees_three (record {
        before = suc e.before;
        several = omega arith;
        few = omega (arith, e.few);
        topped = topped_cons e.before x xs top e.topped;
        there = omega (arith, e.there);
        zero_last = e.zero_last;
      })
  seen_more (sees_value {v} {size} g l) = go (eqb v 0) refl
    where
      go : (b : Bool) → eqb v 0 ≡ b → Seen (suc most) (x ∷ xs) (pick b (Refused 3) (Value (x - 128 + 128 * v) (size + 1)))
      go true e =
          let z = zero_group_lem g (eqb-true v 0 e) in
          sees_three (record {
            before = 1;
            several = omega arith;
            few = omega (arith, size_pos g);
            topped = topped_cons 0 x xs top (record { there = omega arith; top = λ i l. absurd (omega arith) });
            there = omega arith;
            zero_last = z.1;
          })
      go false e = sees_value (more top (eqb-false v 0 e) g) (omega arith)

pub seen : (most : ℕ) (t : List ℕ) → Seen most t (read_groups most t)
unfolding read_groups
seen zero t = sees_two (record { there = omega arith; top = λ i l. absurd (omega arith) })
seen (suc most) [] = sees_one (record { few = omega arith; unended = record { there = omega arith; top = λ i l. absurd (omega arith) } })
seen (suc most) (x ∷ xs) = go (ltb x 128) refl (seen most xs)
  where
    go : (b : Bool) → ltb x 128 ≡ b → Seen most xs (read_groups most xs)
        → Seen (suc most) (x ∷ xs) (pick b (Value x 1) (continued x (read_groups most xs)))
    go true e r = sees_value (last (ltb-true x 128 e)) (omega arith)
    go false e r = seen_more most x xs (ltb-false x 128 e) r

pub refused_value : {k v size : ℕ} → Refused k ≡ Value v size → ⊥
refused_value q = let z : ◌≡◌ {A = ℕ} 0 1 = cc in omega arith

-- ---- what was read is written, where it was read from bytes
pub record Again (most : ℕ) (t : List ℕ) (v size : ℕ) : Type 0 where
  pub small : v < 128 ^ most
  pub size_is : length (group_bytes most v) ≡ size
  pub same : take size t ≡ group_bytes most v

again_last : (most x : ℕ) (t : List ℕ) → x < 128 → Again (suc most) (x ∷ t) x 1
again_last most x t l =
    let p = one-le-pow most 128 (omega arith) in
    let e = last_group most x l in
    record { small = rw (pow-suc 128 most) (omega arith); size_is = rw e; same = rw e }

again_more : (most x v size : ℕ) (t : List ℕ) → 128 ≤ x → x < 256 → v ≢ 0 → Again most t v size
    → Again (suc most) (x ∷ t) (x - 128 + 128 * v) (size + 1)
again_more most x v size t low high n h =
    let w = x - 128 + 128 * v in
    let digit : 128 + w % 128 ≡ x = omega arith in
    let front : w / 128 ≡ v = omega arith in
    let z : size + 1 ≡ suc size = omega arith in
    let e : group_bytes (suc most) w ≡ x ∷ group_bytes most v =
    more_groups most w (omega arith) ∙ ap₂ (λ (d u : ℕ). d ∷ group_bytes most u) digit front in
    record {
      small = rw (pow-suc 128 most) (omega (arith, h.small));
      size_is = rw e (omega (arith, h.size_is));
      same = rw (e, z) (ap (λ (l : List ℕ). x ∷ l) h.same);
    }

pub again : {t : List ℕ} {v size : ℕ} → Groups t v size → Bytes t → (most : ℕ) → size ≤ most → Again most t v size
again (last l) b zero h = absurd (omega arith)
again (last {x} {t} l) b (suc most) h = again_last most x t l
again (more l n g) b zero h = absurd (omega arith)
again (more {x} {v} {size} {t} l n g) b (suc most) h = again_more most x v size t l (b 0) n (again g (λ i. b (suc i)) most (omega arith))

pub written_number : (s : List ℕ) (v size : ℕ) → Bytes s → read_number s ≡ Value v size → Again max_groups s v size
written_number s v size b e = go (seen max_groups s) e
  where
    go : {r : Number} → Seen max_groups s r → r ≡ Value v size → Again max_groups s v size
    go (sees_one h) q = absurd (refused_value q)
    go (sees_two h) q = absurd (refused_value q)
    go (sees_three h) q = absurd (refused_value q)
    go (sees_value {v = w} {size = z} g l) q =
        let ev : w ≡ v = cc in
        let ez : z ≡ size = cc in
        subst (λ (k : ℕ). Again max_groups s v k) ez
        (subst (λ (u : ℕ). Again max_groups s u z) ev (again g b max_groups l))
