-- Each command that declares something declares it, or there is a first condition of it that fails; and so do the items of
-- specification files.
use Rattle.std.proofs.Common.{◌≡◌, ◌⊎◌, inl, inr, ℕ, Bool, List, [], ◌∷◌, ◌++◌, Option, Some, None, Result, Ok, Err, refl}
use Rattle.ab_term.specs.Types.{Ty, prop, o}
use Rattle.ab_term.specs.Terms.{Read}
use Rattle.ab_grammar.specs.Tree as tree
use Rattle.ab_grammar.specs.Tree.{Tree}
use Rattle.ab_grammar.specs.CommandTrees as command
use Rattle.ab_grammar.specs.CommandTrees.{Defined, Clause}
use Rattle.ab_grammar.specs.FileTrees.{Item, kinds, constants, clause, accumulation}
use Rattle.ab_formulas.specs.Clauses as kept
use Rattle.ab_formulas.specs.Declarations.{Declarations, signature_in, constant_names, theorem_in}
use Rattle.ab_formulas.specs.Programs.{IsProgramHead}
use Rattle.ab_meaning.specs.Types.{IsDeclarable, written_type, type_place}
use Rattle.ab_meaning.specs.Terms.{kinds_in}
use Rattle.ab_sigmod.specs.FileOrder.{Read as File}
use Rattle.ab_declare.specs.declared.refusal.Refusal.{Refusal}
use Rattle.ab_declare.specs.declared.refusal.Refusal.TheVariants.{Unknown, Clash, TypeClash}
use Rattle.ab_declare.specs.Refusals.{here, refusal_for}
use Rattle.ab_declare.specs.DeclarationCommands.{first_taken, scope_of, States, Declares, new_kinds, new_constants, new_predicates, Declines, kind_taken, constant_taken, type_unknown, type_unfit, defines_nothing, theorem_taken, states_nothing, no_theorem}
use Rattle.ab_specification.specs.ItemDeclarations as item
use Rattle.ab_specification.specs.ItemDeclarations.{ItemDeclares, ItemDeclines, no_kinds, no_constants, clause_unread, bad_head, no_declaration, new_clause}
use Rattle.ab_specification.specs.FileDeclarations.{PlacedItem, items_of, in_file, AllDeclare, no_item, one_more, FirstDeclines, this, later, SpecDeclares, SpecDeclines}
use Rattle.ab_existence.specs.Certainty.{IsCertain}
use Rattle.ab_existence.proofs.Certain.{sure, and_so, and_also, there_or_not}
use Rattle.ab_answers.proofs.Readings.{meaning_there}
use Rattle.ab_effect_answers.proofs.Clauses.{IsRead, clause_answered, meant}
use Rattle.ab_effect_answers.proofs.Defining.{definition_answered}

module _ (D : Declarations) where
  -- a command declares something, or it is refused
  abbrev pub Answer : command.Command → Type 0
  Answer c = ((more : Declarations) × Declares D c more) ⊎ ((r : Refusal) × Declines D c r)

  pub kinds_answered : (xs : List (List ℕ)) → Answer (command.kinds xs)
  kinds_answered xs = by_taken (first_taken (kinds_in D) xs) refl
    where
      by_taken : (taken : Option (List ℕ)) → first_taken (kinds_in D) xs ≡ taken → Answer (command.kinds xs)
      by_taken None is = inl (_, new_kinds is)
      by_taken (Some x) is = inr (Clash x None, kind_taken is)

  pub constants_answered : (xs : List (List ℕ)) (w : tree.Ty) → IsCertain (Answer (command.constants xs w))
  constants_answered xs w = by_taken (first_taken (constant_names D) xs) refl
    where
      by_type : first_taken (constant_names D) xs ≡ None → (written : Result Ty (List ℕ)) → written_type (kinds_in D) w ≡ written → IsCertain (Answer (command.constants xs w))
      by_type new (Ok A) is = and_also (there_or_not (IsDeclarable A)) (λ some. elim some [ inl fits ↦ inl (_, new_constants new is fits) | inr unfit ↦ inr (TypeClash (here (type_place w)), type_unfit new is unfit) ])
      by_type new (Err x) is = sure (inr (Unknown x None, type_unknown new is))

      by_taken : (taken : Option (List ℕ)) → first_taken (constant_names D) xs ≡ taken → IsCertain (Answer (command.constants xs w))
      by_taken None is = by_type is (written_type (kinds_in D) w) refl
      by_taken (Some x) is = sure (inr (Clash x None, constant_taken is))

  pub define_answered : (inductive : Bool) (ds : List Defined) (cs : List Clause) → IsCertain (Answer (command.define inductive ds cs))
  define_answered inductive ds cs =
      and_also (definition_answered D inductive ds cs) (λ a. elim a [ inl more ↦ inl (more.0, new_predicates more.1) | inr r ↦ inr (r.0, defines_nothing r.1) ])

  -- a theorem is stated, or refused
  pub theorem_answered : (x : List ℕ) (e : Tree) → IsCertain (((F : Read) × (theorem_in D x ≡ None) × States D e F) ⊎ ((r : Refusal) × Declines D (command.theorem x e) r))
  theorem_answered x e = by_taken (theorem_in D x) refl
    where
      by_taken : (taken : Option Read) → theorem_in D x ≡ taken → IsCertain (((F : Read) × (theorem_in D x ≡ None) × States D e F) ⊎ ((r : Refusal) × Declines D (command.theorem x e) r))
      by_taken (Some F) is = sure (inr (Clash x None, theorem_taken is))
      by_taken None is = and_also (meaning_there D (scope_of D) e prop) (λ m. elim m [ inl F ↦ inl (F.0, is, F.1) | inr f ↦ inr (refusal_for f.0, states_nothing f.0 is f.1) ])

  -- and shown, or refused
  pub show_answered : (x : List ℕ) → ((F : Read) × (theorem_in D x ≡ Some F)) ⊎ ((r : Refusal) × Declines D (command.show x) r)
  show_answered x = by_there (theorem_in D x) refl
    where
      by_there : (there : Option Read) → theorem_in D x ≡ there → ((F : Read) × (theorem_in D x ≡ Some F)) ⊎ ((r : Refusal) × Declines D (command.show x) r)
      by_there (Some F) is = inl (F, is)
      by_there None is = inr (Unknown x None, no_theorem is)

  -- ITEMS

  abbrev pub ItemAnswer : ℕ → Item → Type 0
  ItemAnswer n i = ((more : Declarations) × ItemDeclares D i more) ⊎ ((r : Refusal) × ItemDeclines D n i r)

  by_head : (n : ℕ) (c : Clause) (k : kept.Clause) → IsRead (kinds_in D) (signature_in D) c o k → IsProgramHead k.head ⊎ (IsProgramHead k.head → ⊥) → ItemAnswer n (clause c)
  by_head n c k read (inl atom) = inl (_, new_clause (record { means = meant (kinds_in D) (signature_in D) c o k read; atom = atom }))
  by_head n c k read (inr other) = inr (_, bad_head (record { meant = _; means = meant (kinds_in D) (signature_in D) c o k read; no_atom = other }))

  pub item_answered : (n : ℕ) (i : Item) → IsCertain (ItemAnswer n i)
  item_answered n (kinds xs) = sure (elim (kinds_answered xs) [ inl more ↦ inl (more.0, item.new_kinds more.1) | inr r ↦ inr (r.0, no_kinds r.1) ])
  item_answered n (constants xs A) = and_also (constants_answered xs A) (λ a. elim a [ inl more ↦ inl (more.0, item.new_constants more.1) | inr r ↦ inr (r.0, no_constants r.1) ])
  item_answered n (clause c) =
      and_so (clause_answered (kinds_in D) (signature_in D) c o)
      (λ a. elim a [
        | inl k ↦ and_also (there_or_not (IsProgramHead k.0.head)) (by_head n c k.0 k.1)
        | inr r ↦ sure (inr (r.0, clause_unread r.1.0 r.1.1 r.1.2))
      ])
  item_answered n (accumulation xs) = sure (inl ([], no_declaration))

items_answered : (D : Declarations) (is : List PlacedItem) → IsCertain (((more : Declarations) × AllDeclare D is more) ⊎ ((r : Refusal) × FirstDeclines D is r))
items_answered D [] = sure (inl ([], no_item))
items_answered D (i ∷ is) =
    and_so (item_answered D i.clauses_before i.item)
    (λ a. elim a [
      | inl more ↦ and_also (items_answered (D ++ more.0) is) (λ rest. elim rest [ inl others ↦ inl (more.0 ++ others.0, one_more more.1 others.1) | inr r ↦ inr (r.0, later more.1 r.1) ])
      | inr r ↦ sure (inr (in_file i.file r.0, this r.1))
    ])

-- THE FILES of a specification declare something, or an item of them is refused
pub files_declare_or_not : (D : Declarations) (files : List File) → IsCertain (((more : Declarations) × SpecDeclares D files more) ⊎ ((r : Refusal) × SpecDeclines D files r))
files_declare_or_not D files = items_answered D (items_of files)
