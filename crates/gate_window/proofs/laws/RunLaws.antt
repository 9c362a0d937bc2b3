-- By induction over the list: what the machine keeps, and the record that tells it.
use Rattle.std.specs.Prelude.{ℕ, zero, suc, ◌<◌, ◌≡◌, refl, ◌≢◌, Bool, true, false, not, List, [], ◌∷◌, length, T}
use Rattle.std.specs.Prelude.{ℤ, pos, negsuc, ◌≤ℤ◌, ◌<ℤ◌}
use Rattle.std.proofs.Common.{sym, ap, ap₂, ◌∙◌, inl, inr, subst, arith, ltb→lt, le→leb}
use Rattle.std.specs.Int.Signed.{lt_z, lt_z_no, lt_z_yes, le_z_yes, ≤ℤ_refl, <ℤ-≤ℤ_trans}
use Rattle.base.specs.Basics.{pick}
use Rattle.base.specs.Checks.{accepted}
use Rattle.plan.specs.Calls.{headroom_of}
use Rattle.plan.specs.declared.Plan.{Plan}
use Rattle.gate_window.specs.Reading.{max_readings, no_readings, reading_number, lowest_by, noted, read, reading_of}
use Rattle.gate_window.proofs.theorems.Numbers.{reading_is, reading_numbered, reading_refused, reading_accepted, reading_headroom}
use Rattle.gate_window.specs.Run.{Call, reset, reading, Reply, Event, calls_of, numbers_of, Promised, Run, left}
use Rattle.gate_window.specs.Run.{BeginsWithReset}
use Rattle.gate_window.specs.Machine.{next, kept, numbers}
use Rattle.gate_window.specs.Claims.{OneOf, Tells, Right, Unaltered, AtCall, Replies, Claims}
use Rattle.gate_window.specs.declared.Window.{Window}
use Rattle.gate_window.specs.declared.WindowReply.{WindowReply}
use Rattle.gate_window.specs.Reading.{Updated}

lt_le : (a b : ℤ) → a <ℤ b → a ≤ℤ b
lt_le (pos a) (pos b) h = le_z_yes (le→leb a b (omega (arith, ltb→lt a b h.lt)))
lt_le (pos a) (negsuc b) h = absurd h.lt
lt_le (negsuc a) (pos b) h = le_z_yes tt
lt_le (negsuc a) (negsuc b) h = le_z_yes (le→leb b a (omega (arith, ltb→lt b a h.lt)))

-- nothing kept
tells_none : Tells [] no_readings
tells_none = record {
  count = refl;
  most = omega arith;
  lowest_is_one = λ d. absurd (d refl);
  none_less = λ z o. absurd o;
  last = refl;
  none = λ e. (refl, refl);
}

-- ---- one more
module _ (hs : List ℤ) (w : Window) (tells : Tells hs w) (z : ℤ) where
  lower : (n : ℕ) → w.count ≡ n → (lowest_by n w.lowest z ≤ℤ z) × ((y : ℤ) → OneOf y hs → lowest_by n w.lowest z ≤ℤ y)
      × OneOf (lowest_by n w.lowest z) (z ∷ hs)
  lower zero e = (≤ℤ_refl z, first hs (sym tells.count ∙ e), inl refl)
    where
      first : (xs : List ℤ) → length xs ≡ 0 → (y : ℤ) → OneOf y xs → z ≤ℤ y
      first [] q y o = absurd o
      first (x ∷ xs) q y o = absurd (omega (arith, q))
  lower (suc n) e = go (lt_z z w.lowest) refl
    where
      some : hs ≢ []
      some q = omega (arith, e, tells.count, ap length q)

      go : (b : Bool) → lt_z z w.lowest ≡ b
          → (pick b z w.lowest ≤ℤ z) × ((y : ℤ) → OneOf y hs → pick b z w.lowest ≤ℤ y) × OneOf (pick b z w.lowest) (z ∷ hs)
      go true q =
          let l : z <ℤ w.lowest = lt_z_yes (subst T (sym q) tt) in
          (≤ℤ_refl z, λ y o. lt_le z y (<ℤ-≤ℤ_trans l (tells.none_less y o)), inl refl)
      go false q = (lt_z_no (subst (λ (t : Bool). T (not t)) (sym q) tt), tells.none_less, inr (tells.lowest_is_one some))

  tells_more : w.count < max_readings → Tells (z ∷ hs) (noted w z)
  tells_more l =
      let (own, others, one) = lower w.count refl in record {
        count = ap suc tells.count;
        most = omega arith;
        lowest_is_one = λ d. one;
        none_less = less own others;
        last = refl;
        none = λ e. absurd (omega (arith, ap length e));
      }
    where
      less : lowest_by w.count w.lowest z ≤ℤ z → ((y : ℤ) → OneOf y hs → lowest_by w.count w.lowest z ≤ℤ y)
          → (y : ℤ) → OneOf y (z ∷ hs) → lowest_by w.count w.lowest z ≤ℤ y
      less own others y (inl e) = subst (λ (x : ℤ). lowest_by w.count w.lowest z ≤ℤ x) (sym e) own
      less own others y (inr o) = others y o

-- ---- a reading, by what its function promises
module _ (hs : List ℤ) (w : Window) (tells : Tells hs w) (p : Plan) (s t demand : ℕ) (behind : Window) (r : WindowReply)
    (is : record { window = behind; reply = r } ≡ reading_of p w s t demand) where
  abbrev h : ℤ
  h = (headroom_of p s t demand).value

  number_at : r.number ≡ reading_number p (length hs) s t demand
  number_at =
      ap (λ (u : Updated). u.reply.number) is ∙ reading_is p w s t demand
      ∙ ap (λ (n : ℕ). reading_number p n s t demand) tells.count

  refused : r.number ≢ 0 → Unaltered w (reading p s t demand) behind r
  refused d =
      let (same, spaces) = reading_refused p w s t demand (λ z. d (ap (λ (u : Updated). u.reply.number) is ∙ z)) in
      (ap (λ (u : Updated). u.window) is ∙ same, ap (λ (u : Updated). u.reply.text) is ∙ spaces)

  module _ (z : r.number ≡ 0) where
    zero_is : (reading_of p w s t demand).reply.number ≡ 0
    zero_is = sym (ap (λ (u : Updated). u.reply.number) is) ∙ z

    done : record { window = behind; reply = r } ≡ read w h
    done = is ∙ reading_accepted p w s t demand zero_is

    room : w.count < max_readings
    room = ((reading_numbered p w s t demand).accepted.0 zero_is).1.1.1.1

  accepts : r.number ≡ 0 → Right (reading p s t demand) behind r
  accepts z = (
    reading_headroom p w s t demand (zero_is z),
    ap (λ (u : Updated). u.window.last) (done z),
    ap (λ (u : Updated). u.reply.text) (done z),
  )

  tells_next : Tells (next hs (reading p s t demand)) behind
  unfolding next
  tells_next = go (reading_number p (length hs) s t demand) number_at
    where
      go : (n : ℕ) → r.number ≡ n → Tells (accepted n (h ∷ hs) (λ e. hs)) behind
      go zero z =
          subst (Tells (h ∷ hs)) (sym (ap (λ (u : Updated). u.window) (done z))) (tells_more hs w tells h (room z))
      go (suc n) q = subst (Tells hs) (sym (refused (λ z. omega (arith, q, z))).0) tells

  pub at_reading : AtCall hs w (reading p s t demand) behind r
  at_reading = record { number = number_at; if_accepted = accepts; if_refused = refused; tells = tells_next }

-- ---- a reset, of every record
at_reset : (hs : List ℤ) (w behind : Window) (r : Unit {0}) → behind ≡ no_readings → AtCall hs w reset behind r
unfolding next
at_reset hs w behind r is = record {
  number = refl;
  if_accepted = λ z. is;
  if_refused = λ d. d refl;
  tells = subst (Tells []) (sym is) tells_none;
}

at_call : (hs : List ℤ) (w : Window) → Tells hs w → (c : Call) (behind : Window) (r : Reply c) → Promised w c behind r
    → AtCall hs w c behind r
at_call hs w tells reset behind r is = at_reset hs w behind r is
at_call hs w tells (reading p s t demand) behind r is = at_reading hs w tells p s t demand behind r is

-- ---- the list, from a record that tells what is kept
pub goes_on : (es : List Event) (hs : List ℤ) (w : Window) → Tells hs w → Run w es
    → Tells (kept hs (calls_of es)) (left w es) × (numbers_of es ≡ numbers hs (calls_of es)) × Replies hs w es
unfolding kept numbers left
goes_on [] hs w tells run = (tells, refl, tt)
goes_on (e ∷ es) hs w tells (is, run) =
    let a = at_call hs w tells e.call e.behind e.reply is in
    let (t, n, rs) = goes_on es (next hs e.call) e.behind a.tells run in
    (t, ap₂ (λ (x : ℕ) (xs : List ℕ). x ∷ xs) a.number n, (a, rs))

-- ---- a list that begins with a reset, from any record
pub begins : (w : Window) (es : List Event) → Run w es → BeginsWithReset es → Claims w es
unfolding kept numbers left next
begins w [] run b = absurd b
begins w (e ∷ es) (is, run) b = go e.call e.reply b is
  where
    go : (c : Call) (r : Reply c) → c ≡ reset → Promised w c e.behind r
        → Claims w (record { call = c; behind = e.behind; reply = r } ∷ es)
    go reset r q is =
        let a = at_reset [] w e.behind r is in
        let (t, n, rs) = goes_on es [] e.behind a.tells run in
        record { record_left = t; numbered = ap (λ (xs : List ℕ). 0 ∷ xs) n; replies = (a, rs) }
    go (reading p s t demand) r q is = absurd (subst Reads q tt)
      where
        Reads : Call → Type 0
        Reads reset = ⊥
        Reads (reading p s t demand) = Unit {0}
