-- Numbers 1 to 9: a file is refused with a number at a place exactly when `Faults` says so.
use Rattle.std.specs.Prelude.{ℕ, suc, ◌+◌, ◌≤◌, ◌<◌, ◌≡◌, refl, ◌≢◌, List, length, drop}
use Rattle.std.proofs.Common.{sym, ap₂, subst, ◌∙◌, arith}
use Rattle.std.proofs.Math.Decide.{ℕ_discrete, dec_lt}
use Rattle.base.specs.Checks.{accepted}
use Rattle.network.specs.Limits.{max_groups}
use Rattle.network_file.specs.Number.{read_groups}
use Rattle.network_file.specs.Reading.{read_file}
use Rattle.network_file.specs.Faults.{Stands, Field, Next, number, over, following, Wrong, four, five, six, six_later, seven, eight}
use Rattle.network_file.specs.Faults.{Due, first, then, Bad, one, two, three, by_row, nine, Fault}
use Rattle.network_file.proofs.laws.NumberLaws.{groups_read, read_ends_early, read_too_long, read_zero_last, refused_value}
use Rattle.network_file.proofs.laws.Taking.{Passes}
use Rattle.network_file.proofs.laws.Told.{Told, is_refused, is_accepted, told}
use Rattle.network_file.specs.Number.{Value, Refused}
use Rattle.network_file.specs.Reading.{Progress}

-- ---- what stands at a place is one thing
stands_read : {s : List ℕ} {place v size : ℕ} → Stands s place v size → read_groups max_groups (drop place s) ≡ Value v size
stands_read st = groups_read st.groups max_groups st.few

stands_same : {s : List ℕ} {place v size w more : ℕ} → Stands s place v size → Stands s place w more → (v ≡ w) × (size ≡ more)
stands_same {v = v} {size = size} {w = w} {more = more} st st2 =
    let a = stands_read st in
    let b = stands_read st2 in
    let ev : v ≡ w = cc in
    let es : size ≡ more = cc in
    (ev, es)

wrong_same : {x : Field} {v e d : ℕ} → Wrong x v e → Wrong x v d → e ≡ d
wrong_same (four h) (four k) = refl
wrong_same (five h) (five k) = refl
wrong_same (six h) (six k) = refl
wrong_same (six_later h) (six_later k) = refl
wrong_same (six_later h) (seven k q) = absurd (omega arith)
wrong_same (seven h q) (six_later k) = absurd (omega arith)
wrong_same (seven h q) (seven k p) = refl
wrong_same (eight h) (eight k) = refl

-- ---- a number that is refused neither passes nor is refused otherwise
data Cause (s : List ℕ) (place : ℕ) (x : Field) (e : ℕ) : Type 0 where
  unread : read_groups max_groups (drop place s) ≡ Refused e → Cause s place x e
  out : {v size : ℕ} → read_groups max_groups (drop place s) ≡ Value v size → Wrong x v e → Cause s place x e

cause : {s : List ℕ} {place e : ℕ} {x : Field} → Bad s place (number x) e → Cause s place x e
cause {s = s} {place = place} (one h) = unread (read_ends_early max_groups (drop place s) h)
cause {s = s} {place = place} (two h) = unread (read_too_long max_groups (drop place s) h)
cause {s = s} {place = place} (three h) = unread (read_zero_last max_groups (drop place s) h)
cause (by_row st w) = out (stands_read st) w

cause_same : {s : List ℕ} {place e d : ℕ} {x : Field} → Cause s place x e → Cause s place x d → e ≡ d
cause_same (unread h) (unread k) = cc
cause_same (unread h) (out k w) = absurd (refused_value (sym h ∙ k))
cause_same (out h w) (unread k) = absurd (refused_value (sym k ∙ h))
cause_same {d = d} {x = x} (out {v = v} h w) (out {v = u} k t) = let q : u ≡ v = cc in wrong_same w (subst (λ (n : ℕ). Wrong x n d) q t)

cause_stuck : {s : List ℕ} {place v size e : ℕ} {x : Field} → Cause s place x e → Stands s place v size → Passes x v → ⊥
cause_stuck (unread h) st p = refused_value (sym h ∙ stands_read st)
cause_stuck {v = v} {e = e} {x = x} (out {v = u} h w) st p =
    let k = stands_read st in
    let q : u ≡ v = cc in
    p e (subst (λ (n : ℕ). Wrong x n e) q w)

bad_same : {s : List ℕ} {place e d : ℕ} {y : Next} → Bad s place y e → Bad s place y d → e ≡ d
bad_same (nine h) (nine k) = refl
bad_same (one h) b = cause_same (cause (one h)) (cause b)
bad_same (two h) b = cause_same (cause (two h)) (cause b)
bad_same (three h) b = cause_same (cause (three h)) (cause b)
bad_same (by_row st w) b = cause_same (cause (by_row st w)) (cause b)

bad_end : {s : List ℕ} {place e : ℕ} → Bad s place over e → place < length s
bad_end (nine h) = h

-- ---- the numbers of a file come in one way: two accounts of how far it was read agree as far as both go
count : {s : List ℕ} {y : Next} {place : ℕ} → Due s y place → ℕ
count first = 0
count (then d st p) = suc (count d)

agree : {s : List ℕ} {y z : Next} {place other : ℕ} (d : Due s y place) (f : Due s z other) → count d ≡ count f → (y ≡ z) × (place ≡ other)
unfolding count
agree first first e = (refl, refl)
agree first (then f st p) e = absurd (omega arith)
agree (then d st p) first e = absurd (omega arith)
agree {s = s} (then {x = x} {place = i} {v = v} {size = size} d st p) (then {x = z} {place = j} {v = u} {size = more} f sf q) e =
    let h = agree d f (omega arith) in
    let ex : x ≡ z = cc h.0 in
    let t = stands_same (subst (λ (k : ℕ). Stands s k v size) h.1 st) sf in
    (ap₂ following ex t.0, ap₂ (λ (k l : ℕ). k + l) h.1 t.1)

-- number k was read and passed
data Passed (s : List ℕ) (k : ℕ) : Type 0 where
  at : {x : Field} {place v size : ℕ} (d : Due s (number x) place) → count d ≡ k → Stands s place v size → Passes x v → Passed s k

earlier : {s : List ℕ} {y : Next} {place : ℕ} (d : Due s y place) (k : ℕ) → k < count d → Passed s k
unfolding count
earlier first k l = absurd (omega arith)
earlier {s = s} (then d st p) k l = go (ℕ_discrete (count d) k) (λ h. earlier d k h)
  where
    go : Dec (count d ≡ k) → (k < count d → Passed s k) → Passed s k
    go (yes e) ih = at d e st p
    go (no n) ih = ih (omega arith)

number_over : {x : Field} → number x ≡ over → ⊥
number_over q = let z : ◌≡◌ {A = ℕ} 0 1 = cc in omega arith

module _ {s : List ℕ} where
  -- nothing is read behind a fault
  no_further : {y z : Next} {place other e : ℕ} (d : Due s y place) → Bad s place y e → (f : Due s z other) → count d < count f → ⊥
  no_further {place = place} {e = e} d b f l = go (earlier f (count d) l)
    where
      go : Passed s (count d) → ⊥
      go (at {x = x} {place = i} g q st p) =
          let h = agree d g (sym q) in
          cause_stuck (cause (subst (λ (k : ℕ). Bad s k (number x) e) h.1 (subst (λ (w : Next). Bad s place w e) h.0 b))) st p

  -- nor behind the end
  over_last : {z : Next} {place other : ℕ} (d : Due s over place) (f : Due s z other) → count d < count f → ⊥
  over_last d f l = go (earlier f (count d) l)
    where
      go : Passed s (count d) → ⊥
      go (at g q st p) = number_over (sym (agree d g (sym q)).0)

  fault_same : {e d place other : ℕ} → Fault s e place → Fault s d other → (e ≡ d) × (place ≡ other)
  fault_same {e} {d} {place} {other} f g = go (dec_lt (count f.due) (count g.due)) (dec_lt (count g.due) (count f.due))
    where
      go : Dec (count f.due < count g.due) → Dec (count g.due < count f.due) → (e ≡ d) × (place ≡ other)
      go (yes l) t = absurd (no_further f.due f.bad g.due l)
      go (no n) (yes l) = absurd (no_further g.due g.bad f.due l)
      go (no n) (no m) =
          let h = agree f.due g.due (omega arith) in
          (bad_same (subst (λ (k : ℕ). Bad s k g.next e) h.1 (subst (λ (w : Next). Bad s place w e) h.0 f.bad)) g.bad, h.1)

  no_fault : {e place end : ℕ} → Fault s e place → Due s over end → length s ≤ end → ⊥
  no_fault {e} {place} {end} f o l = go (dec_lt (count f.due) (count o)) (dec_lt (count o) (count f.due))
    where
      go : Dec (count f.due < count o) → Dec (count o < count f.due) → ⊥
      go (yes h) t = no_further f.due f.bad o h
      go (no n) (yes h) = over_last o f.due h
      go (no n) (no m) =
          let h = agree f.due o (omega arith) in
          omega (arith, bad_end (subst (λ (k : ℕ). Bad s k over e) h.1 (subst (λ (w : Next). Bad s place w e) h.0 f.bad)))

-- ---- the table: each number is given at its place under its condition, and no other is
module _ {s : List ℕ} where
  told_fault : {r : Progress} → Told s r → r.number ≢ 0 → Fault s r.number (accepted r.number 0 (λ e. r.place))
  told_fault (is_refused f) n = f
  told_fault (is_accepted d p w b) n = absurd (n refl)

  fault_told : {r : Progress} {e place : ℕ} → Told s r → Fault s e place
      → (r.number ≡ e) × (accepted r.number 0 (λ e. r.place) ≡ place)
  fault_told (is_refused g) f = fault_same g f
  fault_told (is_accepted d p w b) f = absurd (no_fault f d p)

pub fault_given : (s : List ℕ) → (read_file s).number ≢ 0 → Fault s (read_file s).number (read_file s).place
unfolding read_file
fault_given s n = told_fault (told s) n

pub fault_only : (s : List ℕ) (e place : ℕ) → Fault s e place → ((read_file s).number ≡ e) × ((read_file s).place ≡ place)
unfolding read_file
fault_only s e place f = fault_told (told s) f

-- they are 1 to 9
wrong_number : {x : Field} {v e : ℕ} → Wrong x v e → (1 ≤ e) × (e ≤ 9)
wrong_number (four h) = omega arith
wrong_number (five h) = omega arith
wrong_number (six h) = omega arith
wrong_number (six_later h) = omega arith
wrong_number (seven h q) = omega arith
wrong_number (eight h) = omega arith

bad_number : {s : List ℕ} {place e : ℕ} {y : Next} → Bad s place y e → (1 ≤ e) × (e ≤ 9)
bad_number (one h) = omega arith
bad_number (two h) = omega arith
bad_number (three h) = omega arith
bad_number (by_row st w) = wrong_number w
bad_number (nine h) = omega arith

pub fault_number : {s : List ℕ} {e place : ℕ} → Fault s e place → (1 ≤ e) × (e ≤ 9)
fault_number f = bad_number f.bad
