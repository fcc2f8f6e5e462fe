-- Every table has the constant `member`.
use Rattle.std.proofs.Common.{◌≡◌, Some, codes, Contains, refl, sym, ap, subst, arith}
use Rattle.ab_term.specs.Types.{arrow, prop, o, olist}
use Rattle.ab_term.specs.Constants.{names}
use Rattle.ab_store.specs.ab_types.specs.Entries.{Table, constants, signature}
use Rattle.ab_store.specs.ab_types.specs.Sound.{IsTable}

pub has_member : (types : Table) → IsTable types → Contains (names (constants types)) (codes "member")
has_member types ok = subst (λ t. Contains (names (constants t)) (codes "member")) (sym ok.begins.1) (2, omega arith, refl)

pub member_type : (types : Table) → IsTable types → signature types (codes "member") ≡ Some (arrow o (arrow olist prop))
member_type types ok = ap (λ t. signature t (codes "member")) ok.begins.1
