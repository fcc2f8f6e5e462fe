-- What the trees that are made read as, in a store whose cells are bound.
use Rattle.std.proofs.Common.{◌≡◌, ℕ, List, [], ◌∷◌, map, refl, sym, ◌∙◌, ap}
use Rattle.std.specs.List.{All}
use Rattle.std.proofs.lemmas.List.Elements.{All-head, All-tail}
use Rattle.ab_term.specs.Types.{Ty}
use Rattle.ab_term.specs.Terms.{terms_of}
use Rattle.ab_term.specs.Typing.{HasType, TakeType, take_none, take_term}
use Rattle.ab_term.specs.Substitution.{instance_by_all}
use Rattle.ab_term.specs.Sameness.{same_number}
use Rattle.ab_term.specs.Variables.{Substitution, IsTyped, one_by_one}
use Rattle.ab_term.proofs.InOrder.{one_by_one-instance}
use Rattle.ab_term.proofs.Preservation.{instance_typed}
use Rattle.ab_store.specs.ab_types.specs.Entries.{Table, signature}
use Rattle.ab_store.specs.declared.node.TermId.{TermId}
use Rattle.ab_store.specs.Reading.{Read, Contents, Holds, tree_of, reading, pairs}
use Rattle.ab_store.specs.Growth.{IsExtendedBy}
use Rattle.ab_store.specs.Naming.{IsTypedBy, IsTerm}
use Rattle.ab_store.proofs.Putting.{pairs_typed}

-- pairs that are put in go through an instance with all arguments
through_instances : (types : Table) (ps : Substitution ℕ (List ℕ)) → IsTyped (signature types) ps → (us : List Read) {G : List Ty} {t : Read} {A B : Ty}
    → HasType (signature types) G t A → TakeType (signature types) G (terms_of us) A B
    → one_by_one same_number ps (instance_by_all t us) ≡ instance_by_all (one_by_one same_number ps t) (map (one_by_one same_number ps) us)
through_instances types ps typed [] d take_none = refl
through_instances types ps typed (u ∷ us) d (take_term e es) =
    through_instances types ps typed us (instance_typed (signature types) d e) es
    ∙ ap (λ w. instance_by_all w (map (one_by_one same_number ps) us)) (one_by_one-instance (signature types) same_number ps typed d e)

pub map_twice : {X Y Z : Type 0} (f : Y → Z) (g : X → Y) (xs : List X) → map f (map g xs) ≡ map (λ x. f (g x)) xs
map_twice f g [] = refl
map_twice f g (x ∷ xs) = ap (λ l. f (g x) ∷ l) (map_twice f g xs)

module _ (types : Table) (s t : Contents) (more : IsExtendedBy s t) where
  pub still_read : (ts : List TermId) → All (Holds s) ts → map (reading types t) ts ≡ map (reading types s) ts
  still_read [] h = refl
  still_read (x ∷ xs) h = ap (λ r. r ∷ map (reading types t) xs) (more.readings types x (All-head (Holds s) x xs h)) ∙ ap (λ l. reading types s x ∷ l) (still_read xs (All-tail (Holds s) x xs h))

  pub still_trees : (ts : List TermId) → All (Holds s) ts → map (tree_of types t) ts ≡ map (tree_of types s) ts
  still_trees [] h = refl
  still_trees (x ∷ xs) h = ap (λ r. r ∷ map (tree_of types t) xs) (more.trees types x (All-head (Holds s) x xs h)) ∙ ap (λ l. tree_of types s x ∷ l) (still_trees xs (All-tail (Holds s) x xs h))

  pub instance_read : IsTypedBy types t → (G : List Ty) (A B : Ty) (lam r : TermId) (args : List TermId) → All (Holds s) args → IsTerm types s G lam A
      → TakeType (signature types) G (terms_of (map (tree_of types s) args)) A B
      → tree_of types t r ≡ instance_by_all (tree_of types s lam) (map (tree_of types s) args)
      → reading types t r ≡ instance_by_all (reading types s lam) (map (reading types s) args)
  instance_read typed G A B lam r args held d ds e =
      let put = one_by_one same_number (pairs types t) in
      ap put e
      ∙ through_instances types (pairs types t) (pairs_typed types t typed) (map (tree_of types s) args) d.1 ds
      ∙ ap (λ w. instance_by_all (put w) (map put (map (tree_of types s) args))) (sym (more.trees types lam d.0))
      ∙ ap (λ w. instance_by_all w (map put (map (tree_of types s) args))) (more.readings types lam d.0)
      ∙ ap (λ l. instance_by_all (reading types s lam) (map put l)) (sym (still_trees args held))
      ∙ ap (instance_by_all (reading types s lam)) (map_twice put (tree_of types t) args ∙ still_read args held)
