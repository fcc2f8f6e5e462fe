-- What every table has that begins with what is built in.
use Rattle.std.proofs.Common.{Contains, codes, refl, sym, subst, arith}
use Rattle.ab_term.specs.Constants.{names}
use Rattle.ab_norm.specs.ab_types.specs.Entries.{Table, constants, first_entries, IsExtendedBy}

pub has_cons : (types : Table) → IsExtendedBy first_entries types → Contains (names (constants types)) (codes "::")
has_cons types (more, is) = subst (λ t. Contains (names (constants t)) (codes "::")) (sym is) (1, omega arith, refl)

pub has_member : (types : Table) → IsExtendedBy first_entries types → Contains (names (constants types)) (codes "member")
has_member types (more, is) = subst (λ t. Contains (names (constants t)) (codes "member")) (sym is) (2, omega arith, refl)
