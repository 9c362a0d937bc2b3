-- Results, and what they are told as.
use Rattle.std.specs.Prelude.{◌≡◌, Result, Err, IsErrAnd}
use Rattle.std.proofs.lemmas.Result.{err_from_is_err_and}

-- what a `?` gives back is the error that it met
pub exit_of : {T E A : Type 0} (told : Result T E → A) (r : Result T E) (e : E) (x : A)
    → IsErrAnd r (λ f. f ≡ e) → told (Err e) ≡ x → told r ≡ x
exit_of told r e x h q = let p = err_from_is_err_and r h in rw (p.1, p.2) q
