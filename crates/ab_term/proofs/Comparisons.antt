-- The tests of types and nominal constants answer whether two are the same.
use Rattle.std.proofs.Common.{◌≡◌, Bool, true, refl, sym, ◌∙◌, ap}
use Rattle.std.specs.Prelude.{Decides, ◌==◌}
use Rattle.std.specs.Cmp.{unsigned_Decides}
use Rattle.std.proofs.lemmas.Bool.{and_parts, and_from}
use Rattle.std.proofs.lemmas.Slice.Eq.{bytes_eq-Decides}
use Rattle.ab_term.specs.Types.{Ty, kind, arrow, same_type}
use Rattle.ab_term.specs.Terms.{Nominal, Variable}
use Rattle.ab_term.specs.Names.{same_nominal}
use Rattle.ab_term.specs.Variables.{same_variable}

same_type-same : (A B : Ty) → same_type A B ≡ true → A ≡ B
same_type-same (kind k) (kind l) e = ap kind ((bytes_eq-Decides k l).0 e)
same_type-same (kind k) (arrow C D) e = absurd (cc)
same_type-same (arrow A B) (kind l) e = absurd (cc)
same_type-same (arrow A B) (arrow C D) e =
    let parts = and_parts (same_type A C) (same_type B D) e in
    ap (λ X. arrow X B) (same_type-same A C parts.0) ∙ ap (arrow C) (same_type-same B D parts.1)

same_type-itself : (A : Ty) → same_type A A ≡ true
same_type-itself (kind k) = (bytes_eq-Decides k k).1 refl
same_type-itself (arrow A B) = and_from (same_type A A) (same_type B B) (same_type-itself A) (same_type-itself B)

pub same_type-Decides : (A B : Ty) → Decides (same_type A B) (A ≡ B)
same_type-Decides A B = (same_type-same A B, λ e. ap (same_type A) (sym e) ∙ same_type-itself A)

pub same_nominal-Decides : (a b : Nominal) → Decides (same_nominal a b) (a ≡ b)
same_nominal-Decides a b = (same, λ e. ap (same_nominal a) (sym e) ∙ itself)
  where
    same : same_nominal a b ≡ true → a ≡ b
    same e =
        let parts = and_parts (a.number == b.number) (same_type a.type b.type) e in
        let numbers : a.number ≡ b.number = (unsigned_Decides a.number b.number).0 parts.0 in
        let types : a.type ≡ b.type = same_type-same a.type b.type parts.1 in
        λ i. record { number = numbers i; type = types i }

    itself : same_nominal a a ≡ true
    itself = and_from (a.number == a.number) (same_type a.type a.type) ((unsigned_Decides a.number a.number).1 refl) (same_type-itself a.type)

module _ {Var : Type 0} (same : Var → Var → Bool) where
  -- variables that pass the test have one type
  pub same_variable-type : (x y : Variable Var) → same_variable same x y ≡ true → x.type ≡ y.type
  same_variable-type x y e = same_type-same x.type y.type (and_parts (same x.name y.name) (same_type x.type y.type) e).1

  pub same_variable-itself : (x : Variable Var) → same x.name x.name ≡ true → same_variable same x x ≡ true
  same_variable-itself x itself = and_from (same x.name x.name) (same_type x.type x.type) itself (same_type-itself x.type)
