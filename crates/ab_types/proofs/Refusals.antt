-- Which refusal is which.
use Rattle.std.proofs.Common.{◌≡◌, Result, Ok, Err, IsErrOf, IsErrAnd}
use Rattle.std.specs.declared.alloc.AllocError.{AllocError}
use Rattle.ab_types.specs.declared.fault.TableFault.{TableFault}
use Rattle.ab_types.specs.declared.fault.TableFault.TheVariants.{UnknownKind, Clash, Memory}

module _ {X : Type 0} where
  pub memory_no_clash : (r : Result X TableFault) (a : AllocError) → IsErrAnd r (λ f. f ≡ Memory a) → IsErrOf r Clash → ⊥
  memory_no_clash (Ok x) a m e = cc
  memory_no_clash (Err f) a m e = cc

  pub memory_no_unknown : (r : Result X TableFault) (a : AllocError) → IsErrAnd r (λ f. f ≡ Memory a) → IsErrOf r UnknownKind → ⊥
  memory_no_unknown (Ok x) a m e = cc
  memory_no_unknown (Err f) a m e = cc

  pub ok_no_clash : (x : X) → IsErrOf {T = X} {E = TableFault} (Ok x) Clash → ⊥
  ok_no_clash x e = cc

  pub ok_no_unknown : (x : X) → IsErrOf {T = X} {E = TableFault} (Ok x) UnknownKind → ⊥
  ok_no_unknown x e = cc
