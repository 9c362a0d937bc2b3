-- Values put into a lent list, one piece behind another, and a piece while it is put.
use Rattle.std.specs.Prelude.{ℕ, ◌+◌, ◌≡◌, refl, List, [], ◌++◌, length}
use Rattle.std.proofs.Common.{sym, ap, ap₂, subst, ◌∙◌, arith, length-append}
use Rattle.std.proofs.lemmas.List.Edits.{sets}
use Rattle.std.proofs.Math.Seq.{length-sets}
use Rattle.base.proofs.laws.ListLaws.{sets_append}
use Rattle.base.specs.code.Puts.{Puts}

pub puts_length : {A : Type 0} {l : List A} {i : ℕ} {xs : List A} {j : ℕ} {m : List A} → Puts l i xs j m → length m ≡ length l
puts_length {l} {i} {xs} h = ap length h.after_is ∙ length-sets l i xs

-- ---- one piece behind another
pub puts_none : {A : Type 0} (l : List A) (i : ℕ) → Puts l i [] i l
puts_none l i = record { next_is = omega arith; after_is = refl }

pub puts_then : {A : Type 0} {l m n : List A} {i j k : ℕ} {xs ys : List A} → Puts l i xs j m → Puts m j ys k n → Puts l i (xs ++ ys) k n
puts_then {A} {l} {m} {n} {i} {j} {k} {xs} {ys} p q =
    record {
      next_is = omega (arith, p.next_is, q.next_is, length-append xs ys);
      after_is = q.after_is ∙ ap₂ (λ (a : List A) (b : ℕ). sets a b ys) p.after_is p.next_is ∙ sets_append xs ys l i;
    }

-- the same values, said otherwise
pub puts_same : {A : Type 0} {l m : List A} {i j : ℕ} {xs ys : List A} → xs ≡ ys → Puts l i xs j m → Puts l i ys j m
puts_same {A} {l} {m} {i} {j} e h = subst (λ (zs : List A). Puts l i zs j m) e h

-- ---- a piece while it is put: of `values` at `place`, `rest` is still to be put at `next`
pub record Owing {A : Type 0} (before : List A) (place : ℕ) (values : List A) (next : ℕ) (rest present : List A) : Type 0 where
  pub ends : next + length rest ≡ place + length values
  pub fills : sets present next rest ≡ sets before place values
  pub size : length present ≡ length before

pub owing_all : {A : Type 0} (l : List A) (i : ℕ) (xs : List A) → Owing l i xs i xs l
owing_all l i xs = record { ends = refl; fills = refl; size = refl }

module _ {A : Type 0} {l : List A} {i : ℕ} {xs : List A} where
  -- what is still to be put, said otherwise
  pub owing_same : {j : ℕ} {ys zs m : List A} → ys ≡ zs → Owing l i xs j ys m → Owing l i xs j zs m
  owing_same e h = rw (sym e) h

  -- a piece is put
  pub owing_puts : {j k : ℕ} {ys zs m n : List A} → Owing l i xs j (ys ++ zs) m → Puts m j ys k n → Owing l i xs k zs n
  owing_puts {j} {k} {ys} {zs} {m} {n} h p =
      record {
        ends = omega (arith, h.ends, p.next_is, length-append ys zs);
        fills = ap₂ (λ (a : List A) (b : ℕ). sets a b zs) p.after_is p.next_is ∙ sets_append ys zs m j ∙ h.fills;
        size = puts_length p ∙ h.size;
      }

  pub owing_none : {j : ℕ} {m : List A} → Owing l i xs j [] m → Puts l i xs j m
  owing_none {j} h = record { next_is = omega (arith, h.ends); after_is = h.fills }
