-- What the answers of a table say of a world.
use Rattle.std.specs.Prelude.{◌≡◌, ℕ, List, [], ◌∷◌, ◌++◌, map, true, false, Option, Some, None, option_map, is_some, Result, Ok, Err, MatchOption, IfOk}
use Rattle.std.proofs.Common.{refl, sym, ◌∙◌, ap, subst, append_assoc}
use Rattle.ab_term.specs.Types.{Ty}
use Rattle.ab_norm.specs.ab_types.specs.Entries as table
use Rattle.ab_term.specs.Constants.{names, constant}
use Rattle.ab_norm.specs.ab_types.specs.Entries.{Table, kinds, constants, IsExtendedBy}
use Rattle.ab_norm.specs.ab_types.specs.Ids.{type_of}
use Rattle.ab_norm.specs.ab_types.specs.declared.ids.TypeId.{TypeId}
use Rattle.ab_norm.specs.ab_types.proofs.Entries.{kinds-append, constants-append}
use Rattle.ab_grammar.specs.Tree as tree
use Rattle.ab_grammar.specs.CommandTrees as command
use Rattle.ab_grammar.specs.CommandTrees.{Command}
use Rattle.ab_meaning.specs.Types.{IsDeclarable, written_type}
use Rattle.ab_inference.specs.WrittenTypes.{TypeAnswers}
use Rattle.ab_inference.specs.declared.fault.InferFault.{InferFault}
use Rattle.ab_inference.specs.declared.fault.InferFault.TheVariants as fault
use Rattle.ab_term.specs.Terms.{Read}
use Rattle.ab_formulas.specs.Declarations.{a_constant}
use Rattle.ab_logic.specs.Worlds.{declared, IsWorld, declarations_of}
use Rattle.ab_logic.specs.declared.world.World.{World}
use Rattle.ab_logic.proofs.Declaring.{declared-append}
use Rattle.ab_declare.specs.declared.refusal.Refusal.{Refusal}
use Rattle.ab_declare.specs.declared.refusal.Refusal.TheVariants.{Clash, TypeClash}
use Rattle.ab_declare.specs.Refusals.{here, RefusedFor}
use Rattle.ab_declare.specs.DeclarationCommands.{first_taken, Declares, Declines, new_kinds, new_constants, kind_taken, constant_taken, type_unknown, type_unfit}
use Rattle.ab_declare.specs.DeclarationAnswers.{TableDeclared, IsDeclined}
use Rattle.ab_declare.proofs.Knowing.{world_knows, declared-kinds, declared-constants, none_declared}

pub if_ok_more : {A E : Type 0} (r : Result A E) (P Q : A → Type 0) → ((a : A) → P a → Q a) → IfOk r P → IfOk r Q
if_ok_more (Ok a) P Q f h = f a h
if_ok_more (Err e) P Q f h = h

-- there is none
pub none_left : {X : Type 0} (o : Option X) (P : Type 0) (Q : X → Type 0) → ((x : X) → o ≡ Some x → ⊥) → MatchOption o P Q → P
none_left None P Q n h = h
none_left (Some x) P Q n h = absurd (n x refl)

abbrev Name : Type 0
Name = List ℕ

pub kinds_declared : (t u : Table) (xs : List Name) → first_taken (kinds t) xs ≡ None → u ≡ t ++ map table.a_kind xs → TableDeclared t u (command.kinds xs) None
kinds_declared t u xs free e = (map table.a_kind xs, e, λ D k. subst (Declares D (command.kinds xs)) (sym (declared-kinds xs)) (new_kinds (ap (λ ks. first_taken ks xs) k.kinds ∙ free)))

pub kinds_refused : (t u : Table) (xs : List Name) (x : Name) (r : Refusal) → first_taken (kinds t) xs ≡ Some x → r ≡ Clash x None → TableDeclared t u (command.kinds xs) (Some r)
kinds_refused t u xs x r e is = λ D k. subst (Declines D (command.kinds xs)) (sym is) (kind_taken (ap (λ ks. first_taken ks xs) k.kinds ∙ e))

pub constants_refused : (t u : Table) (xs : List Name) (w : tree.Ty) (x : Name) (r : Refusal) → first_taken (names (constants t)) xs ≡ Some x → r ≡ Clash x None → TableDeclared t u (command.constants xs w) (Some r)
constants_refused t u xs w x r e is = λ D k. subst (Declines D (command.constants xs w)) (sym is) (constant_taken (ap (λ ks. first_taken ks xs) k.constants ∙ e))

-- the type is read, and the names were free
module _ (t u v : Table) (xs : List Name) (w : tree.Ty) (A : Ty) (ty : TypeId) (free : first_taken (names (constants t)) xs ≡ None) (reads : written_type (kinds t) w ≡ Ok A) (fit : IsDeclarable A)
    (part : IsExtendedBy t u) (same_kinds : kinds u ≡ kinds t) (same_constants : constants u ≡ constants t) (is : type_of u ty ≡ A) where
  added : Table
  added = map (λ x. table.a_constant (constant x (type_of u ty))) xs

  empty_of : {X : Type 0} (xs ys : List X) → xs ++ ys ≡ xs → ys ≡ []
  empty_of [] ys e = e
  empty_of (x ∷ xs) ys e = empty_of xs ys (let h : x ∷ (xs ++ ys) ≡ x ∷ xs = e in cc)

  no_kinds : kinds part.0 ≡ []
  no_kinds = empty_of (kinds t) (kinds part.0) (sym (kinds-append t part.0) ∙ (sym (ap kinds part.1) ∙ same_kinds))

  no_constants : constants part.0 ≡ []
  no_constants = empty_of (constants t) (constants part.0) (sym (constants-append t part.0) ∙ (sym (ap constants part.1) ∙ same_constants))

  declares : declared (part.0 ++ map (λ x. table.a_constant (constant x (type_of u ty))) xs) ≡ map (λ x. a_constant x A) xs
  declares =
      declared-append part.0 (map (λ x. table.a_constant (constant x (type_of u ty))) xs)
      ∙ ap (λ ds. ds ++ declared (map (λ x. table.a_constant (constant x (type_of u ty))) xs)) (none_declared part.0 no_kinds no_constants)
      ∙ declared-constants (type_of u ty) xs
      ∙ ap (λ B. map (λ x. a_constant x B) xs) is

  pub constants_declared : (o : Option Refusal)
      → MatchOption o ((first_taken (names (constants u)) xs ≡ None) × (v ≡ u ++ map (λ x. table.a_constant (constant x (type_of u ty))) xs)) (λ f. (x : Name) × (first_taken (names (constants u)) xs ≡ Some x) × (f ≡ Clash x None))
      → TableDeclared t v (command.constants xs w) o
  constants_declared None h = (
    part.0 ++ map (λ x. table.a_constant (constant x (type_of u ty))) xs,
    h.1 ∙ ap (λ z. z ++ map (λ x. table.a_constant (constant x (type_of u ty))) xs) part.1 ∙ append_assoc t part.0 (map (λ x. table.a_constant (constant x (type_of u ty))) xs),
    λ D k. subst (Declares D (command.constants xs w)) (sym declares) (new_constants (ap (λ ks. first_taken ks xs) k.constants ∙ free) (ap (λ ks. written_type ks w) k.kinds ∙ reads) fit),
  )
  constants_declared (Some f) h =
      let bad : Some h.0 ≡ None = sym h.1 ∙ (ap (λ cs. first_taken (names cs) xs) same_constants ∙ free) in absurd (cc)

-- the type isn't read
pub type_refused : (t u v : Table) (xs : List Name) (w : tree.Ty) (f : InferFault) (r : Refusal) → first_taken (names (constants t)) xs ≡ None → TypeAnswers t u w (Err f) → RefusedFor f r
    → TableDeclared t v (command.constants xs w) (Some r)
type_refused t u v xs w (fault.Unknown x) r free a is = λ D k.
    subst (Declines D (command.constants xs w)) (sym is) (type_unknown (ap (λ ks. first_taken ks xs) k.constants ∙ free) (ap (λ ks. written_type ks w) k.kinds ∙ a))
type_refused t u v xs w (fault.TypeClash p) r free (A, e, n, at) is = λ D k.
    subst (Declines D (command.constants xs w)) (sym (is ∙ ap (λ q. TypeClash (here q)) at)) (type_unfit (ap (λ ks. first_taken ks xs) k.constants ∙ free) (ap (λ ks. written_type ks w) k.kinds ∙ e) n)
type_refused t u v xs w (fault.Untyped p) r free a is = absurd a
type_refused t u v xs w (fault.Memory m) r free a is = absurd is

-- the world is declined what its table is
pub world_declined : (w : World) (new u : Table) (c : Command) (r : Refusal) → IsWorld w → new ≡ w.types → TableDeclared w.types u c (Some r)
    → IsDeclined w (record { types = new; store = w.store; additions = w.additions }) c r
world_declined w new u c r is same a = record {
  declines = a (declarations_of w) (world_knows w is);
  restored = record { types = same; nodes = refl; cells = refl; bindings = refl; additions = refl };
}

pub some_read : {X : Type 0} (o : Option X) (f : X → Read) (q : Option Read) → is_some o ≡ true → option_map f o ≡ q → (F : Read) × (q ≡ Some F)
some_read None f q e h = let bad : false ≡ true = e in absurd (cc)
some_read (Some x) f q e h = (f x, sym h)

pub none_read : {X : Type 0} (o : Option X) (f : X → Read) (q : Option Read) → is_some o ≡ false → option_map f o ≡ q → q ≡ None
none_read None f q e h = sym h
none_read (Some x) f q e h = let bad : true ≡ false = e in absurd (cc)
