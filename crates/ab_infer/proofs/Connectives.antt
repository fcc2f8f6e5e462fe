-- The heads that signs stand for, and tables that get types.
use Rattle.std.proofs.Common.{◌≡◌, ℕ, lit<, List, ◌++◌, Option, Some, None, refl, sym, ap, ◌∙◌, subst}
use Rattle.std.specs.Prelude.{Ok, Err, Result, codes, Contains, IsSome, IsNone, OnOk, OnErr}
use Rattle.std.proofs.lemmas.List.Elements.{Contains-append_left}
use Rattle.ab_term.specs.Types.{Ty, arrow, o, olist}
use Rattle.ab_term.specs.Constants.{names}
use Rattle.ab_norm.specs.ab_types.specs.Entries.{Table, a_type, kinds, constants, signature, first_entries, FindsOrAdds, IsExtendedBy}
use Rattle.ab_norm.specs.ab_types.specs.Ids.{HoldsType, HoldsConstant, type_of, constant_of}
use Rattle.ab_norm.specs.ab_types.specs.Sound.{IsTable}
use Rattle.ab_norm.specs.ab_types.specs.declared.ids.TypeId.{TypeId}
use Rattle.ab_norm.specs.ab_types.specs.declared.ids.ConstId.{ConstId}
use Rattle.ab_norm.specs.ab_types.proofs.Entries.{kinds-append, constants-append, names-append, same_signature}
use Rattle.ab_norm.specs.ab_store.specs.declared.node.CellEntry.{CellEntry}
use Rattle.ab_norm.specs.ab_store.specs.declared.node.Head.TheVariants.{Const}
use Rattle.ab_grammar.specs.declared.Infix.TheVariants as sign
use Rattle.ab_term.specs.Terms.{constant}
use Rattle.ab_meaning.specs.ResolvedNames.{apply, known}
use Rattle.ab_meaning.specs.Scopes.{Found, made_of, made_of_both}
use Rattle.ab_inference.proofs.Tables.{same_kinds, same_constants}
use Rattle.ab_infer.proofs.Larger.{type_more}
use Rattle.ab_infer.specs.Rows.{AddsTypes}
use Rattle.ab_infer.specs.WalkMoves.{IsConnective}
use Rattle.ab_infer.proofs.Grounds.{adds_none}

-- a type that is asked for is added at most
pub adds_type : {E : Type 0} (old new : Table) (A : Ty) (r : Result TypeId E) → IsExtendedBy old new → OnOk r (FindsOrAdds old (a_type A) new) → OnErr r (new ≡ old) → AddsTypes old new
adds_type old new A (Ok id) e f g = record { kept = e; kinds = same_kinds old new A f; constants = same_constants old new A f }
adds_type old new A (Err x) e f g = subst (AddsTypes old) (sym g) (adds_none old)

pub pairing_is : (s t u : Table) (ty last id : TypeId) → IsExtendedBy s t → HoldsType s ty → type_of t last ≡ arrow (type_of s ty) (type_of s ty) → type_of u id ≡ arrow (type_of t ty) (type_of t last)
    → type_of u id ≡ arrow (type_of s ty) (arrow (type_of s ty) (type_of s ty))
pairing_is s t u ty last id e h f g = g ∙ (ap (λ A. arrow A (type_of t last)) (type_more s t e ty h) ∙ ap (arrow (type_of s ty)) f)

pub is_there : {X : Type 0} (r : Option X) → (IsNone r → ⊥) → IsSome r
is_there None n = absurd (n refl)
is_there (Some x) n = refl

module _ (t : Table) (table : IsTable t) where
  pub has_constant : (x : List ℕ) → Contains (names (constants first_entries)) x → Contains (names (constants t)) x
  has_constant x c =
      let more = table.begins.0 in
      let split : names (constants t) ≡ names (constants first_entries) ++ names (constants more) =
      ap (λ u. names (constants u)) table.begins.1 ∙ (ap names (constants-append first_entries more) ∙ names-append (constants first_entries) (constants more)) in
      subst (λ ns. Contains ns x) (sym split) (Contains-append_left (names (constants first_entries)) (names (constants more)) x c)

  pub has_cons : Contains (names (constants t)) (codes "::")
  has_cons = has_constant (codes "::") (1, lit< tt, refl)

  pub has_kind : (x : List ℕ) → Contains (kinds first_entries) x → Contains (kinds t) x
  has_kind x c =
      let more = table.begins.0 in
      subst (λ ns. Contains ns x) (sym (ap kinds table.begins.1 ∙ kinds-append first_entries more)) (Contains-append_left (kinds first_entries) (kinds more) x c)

  pub constant_type : (x : List ℕ) (A : Ty) → signature first_entries x ≡ Some A → signature t x ≡ Some A
  constant_type x A e = ap (λ u. signature u x) table.begins.1 ∙ same_signature first_entries table.begins.0 x A e

  cons_type : signature t (codes "::") ≡ Some (arrow o (arrow olist olist))
  cons_type = constant_type (codes "::") (arrow o (arrow olist olist)) refl

  pub some_same : {A B : Ty} → Some A ≡ Some B → A ≡ B
  some_same e = cc

  pub cons_connective : (cells : List CellEntry) (id : ConstId) (ty : TypeId) → HoldsConstant t id → (constant_of t id).name ≡ codes "::" → HoldsType t ty → signature t (constant_of t id).name ≡ Some (type_of t ty)
      → IsConnective t cells sign.Cons (Const id) ty
  cons_connective cells id ty held name ty_held has =
      let is : type_of t ty ≡ arrow o (arrow olist olist) = some_same (sym has ∙ (ap (signature t) name ∙ cons_type)) in
      record {
        held = ty_held;
        fits = record { held = tt; typed = held; is = λ G. has };
        joins = λ s a b. joined_cons a b is name;
      }
    where
      made_same : (e f : Found) → made_of_both (λ t u. apply (apply (known (constant (codes "::")) (arrow o (arrow olist olist))) t) u) e f
          ≡ made_of_both apply (made_of_both apply (Ok (known (constant (codes "::")) (arrow o (arrow olist olist)))) e) f
      made_same (Ok e) f = made_one f
        where
          made_one : (f : Found) → made_of (λ u. apply (apply (known (constant (codes "::")) (arrow o (arrow olist olist))) e) u) f ≡ made_of (apply (apply (known (constant (codes "::")) (arrow o (arrow olist olist))) e)) f
          made_one (Ok x) = refl
          made_one (Err x) = refl
      made_same (Err x) f = refl

      joined_cons : (a b : Found) → type_of t ty ≡ arrow o (arrow olist olist) → (constant_of t id).name ≡ codes "::"
          → made_of_both (λ t u. apply (apply (known (constant (codes "::")) (arrow o (arrow olist olist))) t) u) a b
          ≡ made_of_both apply (made_of_both apply (Ok (known (constant (constant_of t id).name) (type_of t ty))) a) b
      joined_cons a b is name = made_same a b ∙ (ap (λ x. made_of_both apply (made_of_both apply (Ok (known (constant x) (arrow o (arrow olist olist)))) a) b) (sym name)
          ∙ ap (λ A. made_of_both apply (made_of_both apply (Ok (known (constant (constant_of t id).name) A)) a) b) (sym is))
