-- Laws of a link by itself.
use Rattle.std.specs.Prelude.{◌≡◌, Bool, true, false, not}
use Rattle.std.proofs.Common.{refl}
use Rattle.std.specs.Bool.{beq}
use Rattle.base.specs.Basics.{differ}

differ_beq : (x y : Bool) → not (beq x y) ≡ differ x y
differ_beq true true = refl
differ_beq true false = refl
differ_beq false true = refl
differ_beq false false = refl

-- a side crosses a link that has one end in it and one outside
pub crosses_by : (x y x' y' : Bool) → x' ≡ x → y' ≡ y → not (beq x' y') ≡ differ x y
crosses_by x y x' y' ex ey = rw (ex, ey) (differ_beq x y)
