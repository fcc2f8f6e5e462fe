-- Names that are put behind a table one after another, and what a world that got them declares.
use Rattle.std.specs.Prelude.{◌≡◌, ℕ, ◌+◌, ◌<◌, List, [], ◌∷◌, ◌++◌, map, take, drop, length, Some, None, Contains}
use Rattle.std.proofs.Common.{sym, ◌∙◌, ap, subst, inl, inr, get_or, append_assoc, append-nil}
use Rattle.std.proofs.lemmas.List.{map-append, take-append-drop, take_more}
use Rattle.ab_term.specs.Types.{Ty}
use Rattle.ab_norm.specs.ab_types.specs.Entries as table
use Rattle.ab_term.specs.Constants.{names, constant}
use Rattle.ab_norm.specs.ab_types.specs.Entries.{Table, Entry, kinds, types, constants, IsExtendedBy, FindsOrAdds}
use Rattle.ab_norm.specs.ab_types.specs.Ids.{HoldsType, type_of}
use Rattle.ab_norm.specs.ab_types.specs.declared.ids.TypeId.{TypeId}
use Rattle.ab_norm.specs.ab_types.proofs.Entries.{kinds-append, constants-append, names-append, holds_type, same_type}
use Rattle.ab_grammar.specs.CommandTrees.{Command}
use Rattle.ab_logic.specs.WorldGrowth.{Grows}
use Rattle.ab_logic.specs.Worlds.{declared, declarations_of, IsWorld}
use Rattle.ab_logic.specs.declared.world.World.{World}
use Rattle.ab_logic.proofs.Blocks.{declared_more}
use Rattle.ab_logic.proofs.Growing.{grows_types}
use Rattle.ab_declare.specs.DeclarationCommands.{first_taken}
use Rattle.ab_declare.specs.DeclarationAnswers.{TableDeclared, IsDeclared}
use Rattle.ab_declare.proofs.Taking.{taken_at, untaken}
use Rattle.ab_declare.proofs.Knowing.{world_knows, kinds-kinds, names-constants}

-- the names are their first ones, the next and the rest
split : (xs : List (List ℕ)) (i : ℕ) (d : List ℕ) → i < length xs → xs ≡ take i xs ++ get_or xs i d ∷ drop (i + 1) xs
split xs i d l =
    sym (take-append-drop (i + 1) xs)
    ∙ ap (λ ys. ys ++ drop (i + 1) xs) (take_more xs i d l)
    ∙ append_assoc (take i xs) (get_or xs i d ∷ []) (drop (i + 1) xs)

module _ (us xs : List (List ℕ)) (i : ℕ) (d : List ℕ) (l : i < length xs) (free : first_taken us (take i xs) ≡ None) where
  pub clash : Contains (us ++ take i xs) (get_or xs i d) → first_taken us xs ≡ Some (get_or xs i d)
  clash c = ap (first_taken us) (split xs i d l) ∙ taken_at us (take i xs) (drop (i + 1) xs) (get_or xs i d) free c

  pub goes_on : (Contains (us ++ take i xs) (get_or xs i d) → ⊥) → first_taken us (take (i + 1) xs) ≡ None
  goes_on c = ap (first_taken us) (take_more xs i d l) ∙ untaken us (take i xs) (get_or xs i d) free c

-- one entry more
pub one_more : (f : List ℕ → Entry) (t : Table) (xs : List (List ℕ)) (i : ℕ) (d : List ℕ) → i < length xs → (t ++ map f (take i xs)) ++ f (get_or xs i d) ∷ [] ≡ t ++ map f (take (i + 1) xs)
one_more f t xs i d l =
    append_assoc t (map f (take i xs)) (f (get_or xs i d) ∷ [])
    ∙ ap (λ es. t ++ es) (sym (map-append f (take i xs) (get_or xs i d ∷ [])) ∙ ap (map f) (sym (take_more xs i d l)))

pub kinds_then : (t : Table) (xs : List (List ℕ)) → kinds (t ++ map table.a_kind xs) ≡ kinds t ++ xs
kinds_then t xs = kinds-append t (map table.a_kind xs) ∙ ap (λ ks. kinds t ++ ks) (kinds-kinds xs)

pub names_then : (A : Ty) (t : Table) (xs : List (List ℕ)) → names (constants (t ++ map (λ x. table.a_constant (constant x A)) xs)) ≡ names (constants t) ++ xs
names_then A t xs =
    ap names (constants-append t (map (λ x. table.a_constant (constant x A)) xs))
    ∙ names-append (constants t) (constants (map (λ x. table.a_constant (constant x A)) xs))
    ∙ ap (λ ks. names (constants t) ++ ks) (names-constants A xs)

-- so far the names of kinds were free, and stand behind the table
module _ (t u : Table) (xs : List (List ℕ)) (i : ℕ) (d x : List ℕ) (l : i < length xs) (is : x ≡ get_or xs i d) (free : first_taken (kinds t) (take i xs) ≡ None)
    (added : u ≡ t ++ map table.a_kind (take i xs)) where
  there_kind : Contains (kinds u) x → Contains (kinds t ++ take i xs) (get_or xs i d)
  there_kind c = subst (Contains (kinds t ++ take i xs)) is (subst (λ ks. Contains ks x) (ap kinds added ∙ kinds_then t (take i xs)) c)

  here_kind : Contains (kinds t ++ take i xs) (get_or xs i d) → Contains (kinds u) x
  here_kind c = subst (λ ks. Contains ks x) (sym (ap kinds added ∙ kinds_then t (take i xs))) (subst (Contains (kinds t ++ take i xs)) (sym is) c)

  pub kind_clash : Contains (kinds u) x → first_taken (kinds t) xs ≡ Some x
  kind_clash c = clash (kinds t) xs i d l free (there_kind c) ∙ ap Some (sym is)

  pub kind_free : (Contains (kinds u) x → ⊥) → first_taken (kinds t) (take (i + 1) xs) ≡ None
  kind_free n = goes_on (kinds t) xs i d l free (λ c. n (here_kind c))

  pub kind_added : (v : Table) → v ≡ u ++ table.a_kind x ∷ [] → v ≡ t ++ map table.a_kind (take (i + 1) xs)
  kind_added v e = e ∙ ap (λ w. w ++ table.a_kind x ∷ []) added ∙ ap (λ y. (t ++ map table.a_kind (take i xs)) ++ table.a_kind y ∷ []) is ∙ one_more table.a_kind t xs i d l

-- the same of constants of one type
module _ (A : Ty) (t u : Table) (xs : List (List ℕ)) (i : ℕ) (d x : List ℕ) (l : i < length xs) (is : x ≡ get_or xs i d) (free : first_taken (names (constants t)) (take i xs) ≡ None)
    (added : u ≡ t ++ map (λ y. table.a_constant (constant y A)) (take i xs)) where
  there_name : Contains (names (constants u)) x → Contains (names (constants t) ++ take i xs) (get_or xs i d)
  there_name c = subst (Contains (names (constants t) ++ take i xs)) is (subst (λ ks. Contains ks x) (ap (λ w. names (constants w)) added ∙ names_then A t (take i xs)) c)

  here_name : Contains (names (constants t) ++ take i xs) (get_or xs i d) → Contains (names (constants u)) x
  here_name c = subst (λ ks. Contains ks x) (sym (ap (λ w. names (constants w)) added ∙ names_then A t (take i xs))) (subst (Contains (names (constants t) ++ take i xs)) (sym is) c)

  pub name_clash : Contains (names (constants u)) x → first_taken (names (constants t)) xs ≡ Some x
  name_clash c = clash (names (constants t)) xs i d l free (there_name c) ∙ ap Some (sym is)

  pub name_free : (Contains (names (constants u)) x → ⊥) → first_taken (names (constants t)) (take (i + 1) xs) ≡ None
  name_free n = goes_on (names (constants t)) xs i d l free (λ c. n (here_name c))

  pub name_added : (v : Table) → v ≡ u ++ table.a_constant (constant x A) ∷ [] → v ≡ t ++ map (λ y. table.a_constant (constant y A)) (take (i + 1) xs)
  name_added v e =
      e ∙ ap (λ w. w ++ table.a_constant (constant x A) ∷ []) added
      ∙ ap (λ y. (t ++ map (λ z. table.a_constant (constant z A)) (take i xs)) ++ table.a_constant (constant y A) ∷ []) is
      ∙ one_more (λ y. table.a_constant (constant y A)) t xs i d l

-- the type is still there, and is what it was
pub still_held : (t u : Table) (id : TypeId) (more : Table) → u ≡ t ++ more → HoldsType t id → HoldsType u id
still_held t u id more e h = subst (λ w. HoldsType w id) (sym e) (holds_type t more id h)

pub still_is : (t u : Table) (id : TypeId) (more : Table) → u ≡ t ++ more → HoldsType t id → type_of u id ≡ type_of t id
still_is t u id more e h = ap (λ w. type_of w id) e ∙ same_type t more id h

-- a type that is found or added changes no kind and no constant
pub found_kinds : (old new : Table) (A : Ty) → FindsOrAdds old (table.a_type A) new → kinds new ≡ kinds old
found_kinds old new A (inl (c, e)) = ap kinds e
found_kinds old new A (inr (n, e)) = ap kinds e ∙ kinds-append old (table.a_type A ∷ []) ∙ append-nil (kinds old)

pub found_constants : (old new : Table) (A : Ty) → FindsOrAdds old (table.a_type A) new → constants new ≡ constants old
found_constants old new A (inl (c, e)) = ap constants e
found_constants old new A (inr (n, e)) = ap constants e ∙ constants-append old (table.a_type A ∷ []) ∙ append-nil (constants old)

-- what the table got is declared by the world
pub world_declared : (w : World) (new : Table) (c : Command) → IsWorld w → TableDeclared w.types new c None → IsDeclared w (record { types = new; store = w.store; additions = w.additions }) c
world_declared w new c is got =
    let v : World = record { types = new; store = w.store; additions = w.additions } in
    let grows : Grows w v = grows_types w.types new w.store w.additions is (got.0, got.1) in
    record {
      more = declared got.0;
      declares = got.2 (declarations_of w) (world_knows w is);
      declared = declared_more w v got.0 got.1 grows.ids grows.readings grows.cell_ids grows.cells 0 w.additions is.order is.additions;
      grows = grows;
    }
