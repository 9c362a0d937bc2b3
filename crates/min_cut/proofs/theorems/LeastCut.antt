-- The least minimum cut is a minimum cut among all sides, is contained in every other, and is the only word that is
-- both.
use Rattle.std.specs.Prelude.{◌≡◌, refl, ◌≢◌, true, false, eqb, ℕ, ◌^◌, ◌≤◌, ◌<◌}
use Rattle.std.proofs.Common.{sym, ap, ◌∙◌, true≢false, arith, pow_pos, eq-eqb, ne_eqb}
use Rattle.std.proofs.Math.Decide.{dec_lt}
use Rattle.base.proofs.laws.Bools.{and_both, and_not_both}
use Rattle.min_cut.specs.Cut.{Net, Side, cut_value, ◌∩◌, ◌⊆◌, MinCut, LeastMinCut, Within}
use Rattle.min_cut.proofs.laws.CutLaws.{cut_value_ext, meet_minimum}
use Rattle.min_cut.specs.FirstWord.{between, least_min_cut}
use Rattle.base.specs.Word.{holds, word}
use Rattle.min_cut.proofs.laws.FirstLaws.{First, first_is, first_lt}
use Rattle.base.proofs.laws.WordLaws.{inside_le, word_lt, word_holds, holds_out}

module _ (n : ℕ) (G : Net) (s t : ℕ) (w : Within G n) (sl : s < n) (tl : t < n) (d : s ≢ t) where
  -- the word of a side between s and t, of the same value, is one that the search meets
  word_first : (X : Side) → X s ≡ true → X t ≡ false
      → First (between s t) (λ w. cut_value G (holds w)) (word n X) (least_min_cut n G s t)
  unfolding least_min_cut
  word_first X i o =
      first_is (between s t) (λ w. cut_value G (holds w)) (2 ^ n) (word n X) (word_lt n X) (simp (
        word_holds n X s sl,
        word_holds n X t tl,
        i,
        o,
      ))

  word_value : (X : Side) → cut_value G (holds (word n X)) ≡ cut_value G X
  word_value X = cut_value_ext G n w (holds (word n X)) X (word_holds n X)

  least_min_cut_between : between s t (least_min_cut n G s t) ≡ true
  least_min_cut_between = (word_first (λ i. eqb i s) (eq-eqb s s refl) (ne_eqb t s (λ e. d (sym e)))).fine

  pub least_min_cut_minimum : MinCut G s t (holds (least_min_cut n G s t))
  least_min_cut_minimum =
      let e = and_not_both (holds (least_min_cut n G s t) s) (holds (least_min_cut n G s t) t) least_min_cut_between in
      record { inside = e.0; outside = e.1; least = λ X i o. omega (arith, (word_first X i o).least, word_value X) }

  pub least_min_cut_lt : least_min_cut n G s t < 2 ^ n
  unfolding least_min_cut
  least_min_cut_lt = first_lt (between s t) (λ w. cut_value G (holds w)) (2 ^ n) (pow_pos n)

  -- a minimum cut that lies in every other is the least one's word
  pub least_min_cut_is : (R : Side) → MinCut G s t R → ((Y : Side) → MinCut G s t Y → R ⊆ Y)
      → least_min_cut n G s t ≡ word n R
  least_min_cut_is R r h =
      let f : First (between s t) (λ w. cut_value G (holds w)) (word n R) (least_min_cut n G s t) =
      word_first R r.inside r.outside in
      let e : cut_value G R ≤ cut_value G (holds (least_min_cut n G s t)) =
      r.least (holds (least_min_cut n G s t)) least_min_cut_minimum.inside least_min_cut_minimum.outside in
      omega (
        arith,
        f.early (omega (arith, e, word_value R)),
        inside_le n (word n R) (least_min_cut n G s t) (word_lt n R)
            (λ i l q. h (holds (least_min_cut n G s t)) least_min_cut_minimum i (sym (word_holds n R i l) ∙ q)),
      )

  -- so for a word
  pub least_min_cut_word : (a : ℕ) → a < 2 ^ n → MinCut G s t (holds a)
      → ((y : ℕ) → y < 2 ^ n → MinCut G s t (holds y) → (i : ℕ) → i < n → holds a i ≡ true → holds y i ≡ true)
      → least_min_cut n G s t ≡ a
  unfolding least_min_cut
  least_min_cut_word a l r h =
      let b : ℕ = least_min_cut n G s t in
      let f : First (between s t) (λ w. cut_value G (holds w)) a b =
      first_is (between s t) (λ w. cut_value G (holds w)) (2 ^ n) a l (simp (r.inside, r.outside)) in
      let e : cut_value G (holds a) ≤ cut_value G (holds b) =
      r.least (holds b) least_min_cut_minimum.inside least_min_cut_minimum.outside in
      omega (arith, f.early e, inside_le n a b l (h b least_min_cut_lt least_min_cut_minimum))

module _ (n : ℕ) (G : Net) (s t : ℕ) (w : Within G n) (sl : s < n) (tl : t < n) (d : s ≢ t) where
  pub least_min_cut_contained : (Y : Side) → MinCut G s t Y → holds (least_min_cut n G s t) ⊆ Y
  least_min_cut_contained Y y i h = go (dec_lt i n)
    where
      X : Side
      X = holds (least_min_cut n G s t)

      c : MinCut G s t X
      c = least_min_cut_minimum n G s t w sl tl d

      m : MinCut G s t (X ∩ Y)
      m = meet_minimum G s t X Y c y

      f : First (between s t) (λ v. cut_value G (holds v)) (word n (X ∩ Y)) (least_min_cut n G s t)
      f = word_first n G s t w sl tl d (X ∩ Y) m.inside m.outside

      le : least_min_cut n G s t ≤ word n (X ∩ Y)
      le = f.early (omega (arith, word_value n G s t w sl tl d (X ∩ Y), m.least X c.inside c.outside))

      ge : word n (X ∩ Y) ≤ least_min_cut n G s t
      ge =
          inside_le n (word n (X ∩ Y)) (least_min_cut n G s t) (word_lt n (X ∩ Y))
          (λ j l e. (and_both (X j) (Y j) (sym (word_holds n (X ∩ Y) j l) ∙ e)).0)

      same : word n (X ∩ Y) ≡ least_min_cut n G s t
      same = omega (arith, le, ge)

      go : Dec (i < n) → Y i ≡ true
      go (yes l) = (and_both (X i) (Y i) (sym (word_holds n (X ∩ Y) i l) ∙ ap (λ v. holds v i) same ∙ h)).1
      go (no l) =
          absurd (true≢false
          (sym h ∙ holds_out n (least_min_cut n G s t) i (least_min_cut_lt n G s t w sl tl d) (omega arith)))

  pub least_min_cut_least : LeastMinCut G s t (holds (least_min_cut n G s t))
  least_min_cut_least = record { minimum = least_min_cut_minimum n G s t w sl tl d; contained = least_min_cut_contained }
