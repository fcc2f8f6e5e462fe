-- What holds with every label holds with the label that is given, and what holds, holds on success.
use Rattle.std.specs.Prelude.{Result, Ok, Err, IfOk, OnOk}
use Rattle.ab_formulas.specs.NewNames.{Label}

pub at_label : {A E : Type 0} (P : Label → Type 0) (r : Result A E) (l : Label) → IfOk r (λ u. (m : Label) → P m) → IfOk r (λ u. P l)
at_label P (Ok u) l f = f l
at_label P (Err e) l f = f

pub whatever : {A E Q : Type 0} (r : Result A E) → Q → OnOk r Q
whatever (Ok u) q = q
whatever (Err e) q = tt
