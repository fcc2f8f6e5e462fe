-- The types and the heads of terms that the program's certificates stand for.
use Rattle.std.specs.Prelude.{ℕ, List, codes}
use Rattle.ab_cert.specs.declared.type_tree.TypeTree.{TypeTree}
use Rattle.ab_cert.specs.declared.head.CertSign.{CertSign}
use Rattle.ab_cert.specs.declared.head.CertHead.{CertHead}
use Rattle.ab_cert.specs.Plain as plain
use Rattle.ab_cert.specs.Plain.{Ty, Sign, Head}
use Rattle.ab_cert.specs.TypeNodes.{type_in}

-- the nodes are the type's, in prefix order
abbrev pub type_of : TypeTree → Ty
type_of t = type_in t.nodes.items

abbrev pub bare_sign : List ℕ → Sign
bare_sign w = record { word = w; detail = plain.bare }

abbrev pub sign_with_type : List ℕ → TypeTree → Sign
sign_with_type w ty = record { word = w; detail = plain.with_type (type_of ty) }

abbrev pub sign_with_level : List ℕ → ℕ → Sign
sign_with_level w n = record { word = w; detail = plain.with_level n }

abbrev pub sign_of : CertSign → Sign
sign_of CertSign.True = bare_sign (codes "true")
sign_of CertSign.False = bare_sign (codes "false")
sign_of CertSign.And = bare_sign (codes "and")
sign_of CertSign.Or = bare_sign (codes "or")
sign_of CertSign.Arrow = bare_sign (codes "arrow")
sign_of (CertSign.Equal ty) = sign_with_type (codes "equal") ty
sign_of (CertSign.Forall ty) = sign_with_type (codes "forall") ty
sign_of (CertSign.Exists ty) = sign_with_type (codes "exists") ty
sign_of (CertSign.Nabla ty) = sign_with_type (codes "nabla") ty
sign_of CertSign.Judge = bare_sign (codes "judge")
sign_of CertSign.Focus = bare_sign (codes "focus")
sign_of (CertSign.Star n) = sign_with_level (codes "star") n
sign_of (CertSign.At n) = sign_with_level (codes "at") n
sign_of (CertSign.Plus n) = sign_with_level (codes "plus") n
sign_of (CertSign.Hash n) = sign_with_level (codes "hash") n
sign_of (CertSign.Pi ty) = sign_with_type (codes "pi") ty
sign_of CertSign.Imply = bare_sign (codes "imply")
sign_of CertSign.With = bare_sign (codes "with")

abbrev pub head_of : CertHead → Head
head_of (CertHead.Const c) = plain.constant c
head_of (CertHead.Logic s) = plain.logic (sign_of s)
head_of (CertHead.Nominal n ty) = plain.nominal n (type_of ty)
head_of (CertHead.Cell x) = plain.cell x
head_of (CertHead.Index i) = plain.index i
